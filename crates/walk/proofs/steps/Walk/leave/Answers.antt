use Rattle.walk.proofs.Refusals.{passed_on, held, failed, wrote, no_write}
use Rattle.walk.proofs.Assignments.{leave-does}
use Rattle.walk.proofs.steps.Walk.leave.Goals as goal

pub returns-in_err-need-clause-walks : goal.returns-in_err-need-clause-walks
returns-in_err-need-clause-walks c =
    let past = c.next-word.ensures.past in
    rw (passed_on _ c.from_residual.ensures.1, past.numbers) (leave-does _ _ _ c.next-word.ensures.cell past.step (failed _ _ _ _ _ c.in_err-need.ensures) (no_write _ _))

pub returns-clause-walks : goal.returns-clause-walks
returns-clause-walks c =
    let past = c.next-word.ensures.past in
    leave-does _ _ _ c.next-word.ensures.cell past.step (held _ _ _ _ c.in_ok-need.ensures) (wrote past.numbers c.write.ensures)
