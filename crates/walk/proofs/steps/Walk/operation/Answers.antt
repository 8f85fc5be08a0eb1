use Rattle.walk.proofs.Refusals.{passed_on, ended, held, failed, any_answer}
use Rattle.walk.proofs.OperandStack.{stacks_none, stacked_behind, moved-stacks}
use Rattle.walk.proofs.ItemPromises.{operation_done}
use Rattle.walk.proofs.steps.Walk.operation.Goals as goal

pub returns-in_err-need-clause-walks : goal.returns-in_err-need-clause-walks
returns-in_err-need-clause-walks c =
    let tested = rw (c.fit-fits.ensures, c.taken_kind.ensures, c.before-2.ensures, c.before-left.ensures) at c.in_err-need.ensures in
    rw (passed_on _ c.from_residual.ensures.1) (ended _ _ _ _ _, λ σ p o os s y. any_answer (operation_done (failed _ _ _ _ _ tested) (stacks_none _ _ _ _) σ p o os s y))

pub returns-clause-walks : goal.returns-clause-walks
returns-clause-walks c =
    let tested = rw (c.fit-fits.ensures, c.taken_kind.ensures, c.before-2.ensures, c.before-left.ensures) at c.in_ok-need.ensures in
    let stacked = rw (c.saturating_sub-self.ensures, c.write.ensures.top, c.given_kind.ensures, c.higher-height.ensures, c.before-3.ensures, c.before-4.ensures) at (stacked_behind _ c.write.ensures c.push.ensures) in
    (moved-stacks stacked, operation_done (held _ _ _ _ tested) stacked)
