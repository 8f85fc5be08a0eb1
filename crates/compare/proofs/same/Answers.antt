use Rattle.compare.proofs.Passing.{bits_equal}
use Rattle.compare.proofs.same.Goals as goal

pub returns : goal.returns
returns c = bits_equal _ _ c.ranges.a c.ranges.b
