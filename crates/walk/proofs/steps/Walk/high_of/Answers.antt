use Rattle.walk.specs.LabelPromises.{lone, ranged}
use Rattle.walk.proofs.Refusals.{same, other}
use Rattle.walk.proofs.steps.Walk.high_of.Goals as goal

pub returns-then-not-is_at-clause-high : goal.returns-then-not-is_at-clause-high
returns-then-not-is_at-clause-high c = lone (other _ _ c.is_at.ensures c.if-not-is_at.true)

pub returns-clause-high : goal.returns-clause-high
returns-clause-high c =
    let h = rw (c.skip.ensures.numbers, c.skip.ensures.step) at c.constant.ensures.walks in
    ranged (same _ _ c.is_at.ensures c.if-not-is_at.false) h.0 h.1
