use Rattle.std.proofs.Common.{arith}
use Rattle.walk.proofs.Moves.{moved-skip, moved-write}
use Rattle.walk.proofs.Refusals.{passed_on, held, failed, moved, no_check, no_write, same, other, wrote}
use Rattle.walk.proofs.ReadBy.{by_missing, by_given}
use Rattle.walk.proofs.steps.Walk.by.Goals as goal

pub returns-then-is_at-clause-walks : goal.returns-then-is_at-clause-walks
returns-then-is_at-clause-walks c =
    let w = wrote c.skip.ensures.numbers c.write.ensures in
    (omega (arith, moved-skip _ _ c.skip.ensures.step, (moved-write _ _ _ w).0), by_missing (same _ _ c.is_at.ensures c.if-is_at.true) c.skip.ensures.step w)

pub returns-in_err-step-clause-walks : goal.returns-in_err-step-clause-walks
returns-in_err-step-clause-walks c =
    rw (passed_on _ c.from_residual.ensures.1, c.constant.ensures.numbers)
    (moved _ _ _ _ _, by_given (other _ _ c.is_at.ensures c.if-is_at.false) c.in_err-step.ensures.walks.1 (no_check _ _ _) (no_check _ _ _) (no_write _ _))

pub returns-in_err-need-clause-walks : goal.returns-in_err-need-clause-walks
returns-in_err-need-clause-walks c =
    let tested = rw c.same_type.ensures at c.in_err-need.ensures in
    rw (passed_on _ c.from_residual-in_err-need.ensures.1, c.constant.ensures.numbers)
    (moved _ _ _ _ _, by_given (other _ _ c.is_at.ensures c.if-is_at.false) c.in_ok-step.ensures.walks.1 (failed _ _ _ _ _ tested) (no_check _ _ _) (no_write _ _))

pub returns-in_err-need-2-clause-walks : goal.returns-in_err-need-2-clause-walks
returns-in_err-need-2-clause-walks c =
    let tested = rw c.same_type.ensures at c.in_ok-need.ensures in
    rw (passed_on _ c.from_residual-in_err-need-2.ensures.1, c.constant.ensures.numbers)
    (moved _ _ _ _ _, by_given (other _ _ c.is_at.ensures c.if-is_at.false) c.in_ok-step.ensures.walks.1 (held _ _ _ _ tested) (failed _ _ _ _ _ c.in_err-need-2.ensures) (no_write _ _))

pub returns-clause-walks : goal.returns-clause-walks
returns-clause-walks c =
    let tested = rw c.same_type.ensures at c.in_ok-need.ensures in
    let w = wrote c.constant.ensures.numbers c.write-2.ensures in
    (omega (arith, c.in_ok-step.ensures.walks.0, (moved-write _ _ _ w).0), by_given (other _ _ c.is_at.ensures c.if-is_at.false) c.in_ok-step.ensures.walks.1 (held _ _ _ _ tested) (held _ _ _ _ c.in_ok-need-2.ensures) w)
