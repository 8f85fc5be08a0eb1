use Rattle.std.proofs.Common.{refl, arith}
use Rattle.walk.proofs.Moves.{moved-write}
use Rattle.walk.proofs.Refusals.{passed_on, ended, held, failed, no_write}
use Rattle.walk.proofs.ItemPromises.{sign_done}
use Rattle.walk.proofs.steps.Walk.sign.Goals as goal

pub returns-in_err-need-clause-walks : goal.returns-in_err-need-clause-walks
returns-in_err-need-clause-walks c =
    let tested = rw (c.before-2.ensures, c.number_of.ensures, c.sign_kind.ensures) at c.in_err-need.ensures in
    rw (passed_on _ c.from_residual.ensures.1) (ended _ _ _ _ _, sign_done (failed _ _ _ _ _ tested) (no_write _ _) refl)

pub returns-clause-walks : goal.returns-clause-walks
returns-clause-walks c =
    let tested = rw (c.before-2.ensures, c.number_of.ensures, c.sign_kind.ensures) at c.in_ok-need.ensures in
    let w = c.write.ensures in
    (omega (arith, (moved-write _ _ _ (w.step, w.numbers)).0), sign_done (held _ _ _ _ tested) (w.step, rw c.sign_place.ensures at w.numbers) w.top)
