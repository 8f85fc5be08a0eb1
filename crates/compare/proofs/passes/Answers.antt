use mir.Facts.{to_z-of_z}
use Rattle.compare.proofs.Passing.{up, down}
use Rattle.compare.proofs.passes.Goals as goal

pub returns-then-step-ge0 : goal.returns-then-step-ge0
returns-then-step-ge0 c = rw (to_z-of_z c.ranges.last, to_z-of_z c.ranges.v) (up _ _ _ (rw (to_z-of_z c.ranges.step) at c.if-step-ge0.true))

pub returns-else-step-ge0 : goal.returns-else-step-ge0
returns-else-step-ge0 c = rw (to_z-of_z c.ranges.last, to_z-of_z c.ranges.v) (down _ _ _ (rw (to_z-of_z c.ranges.step) at c.if-step-ge0.false))
