use Rattle.arith.proofs.Fitting.{by_zero, left_over}
use Rattle.arith.proofs.rem.Goals as goal

pub returns-then-b-eq0 : goal.returns-then-b-eq0
returns-then-b-eq0 c = (by_zero _ _ c.ranges.b c.if-b-eq0.true).1

pub returns : goal.returns
returns c = left_over _ _ c.if-b-eq0.false c.ranges.a c.ranges.b c.wide.ensures.0 c.wide-2.ensures.0
