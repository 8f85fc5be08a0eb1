use Rattle.std.proofs.Common.{w32}
use Rattle.std.proofs.lemmas.Int.{of_z-to_z}
use Rattle.walk.proofs.ConstantValues.{signed}
use Rattle.walk.proofs.constants.in_order.Goals as goal

pub returns : goal.returns
returns c = let f = c.ranges.low.fits in let g = c.ranges.high.fits in rw (c.cast_signed.ensures, c.cast_signed-2.ensures, of_z-to_z w32 _ f, of_z-to_z w32 _ g, signed _ f, signed _ g)
