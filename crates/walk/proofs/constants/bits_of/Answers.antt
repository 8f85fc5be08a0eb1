use Rattle.rules.specs.Bytes.{to_u}
use Rattle.rules.specs.Walk.{con_value}
use Rattle.walk.proofs.ConstantValues.{negative-bits}
use Rattle.walk.proofs.constants.bits_of.Goals as goal

pub returns-then-below : goal.returns-then-below
unfolding con_value
returns-then-below c = let f = c.ranges.value.fits in rw c.if-below.true (negative-bits _ _ c.wrapping_neg.type_inv f c.wrapping_neg.ensures)

pub returns-else-below : goal.returns-else-below
unfolding to_u con_value
returns-else-below c = rw c.if-below.false
