use Rattle.compare.proofs.Passing.{bits_zero}
use Rattle.compare.proofs.is_zero.Goals as goal

pub returns : goal.returns
returns c = bits_zero _ c.ranges.a
