use mir.Facts.{to_z-of_z}
use Rattle.arith.proofs.Fitting.{by_zero, divided}
use Rattle.arith.proofs.div.Goals as goal

pub returns-then-b-eq0 : goal.returns-then-b-eq0
returns-then-b-eq0 c = (by_zero _ _ c.ranges.b c.if-b-eq0.true).0

pub returns : goal.returns
returns c = divided _ _ _ c.if-b-eq0.false (rw (to_z-of_z c.ranges.a, to_z-of_z c.ranges.b) at c.checked_div.ensures) c.ok_or.ensures.value
