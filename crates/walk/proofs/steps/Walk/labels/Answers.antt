use Rattle.walk.proofs.Refusals.{passed_on, moved, keeps_on}
use Rattle.walk.proofs.ReadLabels.{tested, turns_on, turns_less, turns_refused, turns_end}
use Rattle.walk.proofs.steps.Walk.labels.Goals as goal

pub loop-self-smaller : goal.loop-self-smaller
loop-self-smaller c = turns_less _ _ _ _ (tested _ _ c.ahead.ensures c.is_constant.ensures c.loop-self-test.true) c.in_ok-label.ensures.walks.0

pub loop-self-preserved : goal.loop-self-preserved
loop-self-preserved c =
    let k = c.label.ensures.keeps in
    let i = c.loop-self.invariant in
    (keeps_on i.0 k, turns_on (tested _ _ c.ahead.ensures c.is_constant.ensures c.loop-self-test.true) c.in_ok-label.ensures.walks i.1)

pub returns-in_err-label-clause-walks : goal.returns-in_err-label-clause-walks
returns-in_err-label-clause-walks c =
    rw (passed_on _ c.from_residual.ensures.1)
    (moved _ _ _ _ _, turns_refused (tested _ _ c.ahead.ensures c.is_constant.ensures c.loop-self-test.true) c.in_err-label.ensures.walks.1 c.loop-self.invariant.1)

pub returns-clause-walks : goal.returns-clause-walks
returns-clause-walks c = turns_end (tested _ _ c.ahead.ensures c.is_constant.ensures c.loop-self-test.false) (c.head.ensures.step, c.head.ensures.numbers) c.loop-self.invariant.1
