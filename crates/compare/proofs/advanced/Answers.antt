use mathlib.Core.Path.{◌∙◌}
use mathlib.Core.Bool.{true, false}
use mir.Facts.{to_z-of_z}
use Rattle.compare.proofs.Passing.{ends, stepped}
use Rattle.compare.proofs.advanced.Goals as goal

pub returns-in_err-next : goal.returns-in_err-next
returns-in_err-next c = c.from_residual.ensures ∙ ends _ _ _ c.ranges.v c.ranges.step c.ranges.last (rw (to_z-of_z c.ranges.v, to_z-of_z c.ranges.step) at c.in_err-next.ensures)

pub returns-then-passes : goal.returns-then-passes
returns-then-passes c =
    let sum = rw (to_z-of_z c.ranges.v, to_z-of_z c.ranges.step) at c.in_ok-next.ensures in
    stepped _ _ _ true c.ranges.step c.ranges.last sum.0 sum.1 c.if-passes.ensures

pub returns-else-passes : goal.returns-else-passes
returns-else-passes c =
    let sum = rw (to_z-of_z c.ranges.v, to_z-of_z c.ranges.step) at c.in_ok-next.ensures in
    stepped _ _ _ false c.ranges.step c.ranges.last sum.0 sum.1 c.if-passes.ensures
