use mathlib.Core.Path.{◌≡◌}
use mathlib.Core.Bool.{true, false}
use lib.Signed.{le_z}
use mir.Facts.{to_z-of_z}
use Rattle.rules.specs.Numbers.{between}
use Rattle.compare.proofs.within.Goals as goal

pub returns-then-lowest-z : goal.returns-then-lowest-z
unfolding between
returns-then-lowest-z c =
    let e : le_z c.args.lowest c.args.z ≡ true = rw (to_z-of_z c.ranges.lowest, to_z-of_z c.ranges.z) at c.if-lowest-z.true in
    rw (e, to_z-of_z c.ranges.z, to_z-of_z c.ranges.highest)

pub returns-else-lowest-z : goal.returns-else-lowest-z
unfolding between
returns-else-lowest-z c =
    let e : le_z c.args.lowest c.args.z ≡ false = rw (to_z-of_z c.ranges.lowest, to_z-of_z c.ranges.z) at c.if-lowest-z.false in
    rw (to_z-of_z c.ranges.lowest, to_z-of_z c.ranges.z, e)
