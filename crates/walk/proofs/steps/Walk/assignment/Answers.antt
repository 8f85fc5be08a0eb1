use Rattle.walk.proofs.Refusals.{passed_on, wrote, no_write}
use Rattle.walk.proofs.Assignments.{assignment-does, valued_none}
use Rattle.walk.proofs.steps.Walk.assignment.Goals as goal

pub returns-in_err-name-clause-walks : goal.returns-in_err-name-clause-walks
returns-in_err-name-clause-walks c = rw (passed_on _ c.from_residual.ensures.1, c.assigned.ensures.numbers) (assignment-does _ _ _ _ _ _ c.in_err-name.ensures.walks (no_write _ _) valued_none)

pub returns-clause-walks : goal.returns-clause-walks
returns-clause-walks c = assignment-does _ _ _ _ _ _ c.in_ok-name.ensures.walks (wrote c.assigned.ensures.numbers c.write.ensures) c.valued.ensures.walks
