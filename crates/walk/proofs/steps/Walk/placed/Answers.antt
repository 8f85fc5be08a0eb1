use Rattle.walk.proofs.Refusals.{passed_on, held, failed, no_check, no_write}
use Rattle.walk.proofs.ExpressionPlaced.{placed_of}
use Rattle.walk.proofs.steps.Walk.placed.Goals as goal

pub returns-in_err-need-clause-placed : goal.returns-in_err-need-clause-placed
returns-in_err-need-clause-placed c =
    let typed = rw c.same_type.ensures at c.in_err-need.ensures in
    rw (passed_on _ c.from_residual.ensures.1) (placed_of _ _ _ _ _ c.needed-height.ensures (failed _ _ _ _ _ typed) (no_check _ _ _) (no_write _ _))

pub returns-in_err-need-2-clause-placed : goal.returns-in_err-need-2-clause-placed
returns-in_err-need-2-clause-placed c =
    let typed = rw c.same_type.ensures at c.in_ok-need.ensures in
    rw (passed_on _ c.from_residual-in_err-need-2.ensures.1)
    (placed_of _ _ _ _ _ c.needed-height.ensures (held _ _ _ _ typed) (failed _ _ _ _ _ c.in_err-need-2.ensures) (no_write _ _))

pub returns-clause-placed : goal.returns-clause-placed
returns-clause-placed c =
    let typed = rw c.same_type.ensures at c.in_ok-need.ensures in
    placed_of _ _ _ _ _ c.needed-height.ensures (held _ _ _ _ typed) (held _ _ _ _ c.in_ok-need-2.ensures) (c.write.ensures.step, c.write.ensures.numbers)
