use Rattle.rules.specs.Worst.{for_w}
use Rattle.ticks.specs.Bounds.{cut}
use Rattle.figures.specs.Parts.{lit_in}
use Rattle.figures.proofs.Integers.{known_loop}
use native.Mathlib.Omega.{arith}
use Rattle.figures.proofs.statements.loop_worst.Goals as goal

pub returns-in_default : goal.returns-in_default
unfolding lit_in for_w cut
returns-in_default c = rw (c.in_default.is-0, c.in_default.is-1)

pub returns-in_default-2 : goal.returns-in_default-2
unfolding lit_in for_w cut
returns-in_default-2 c = rw c.in_default.is-0

pub returns : goal.returns
returns c = known_loop _ _ c.in-Some-Some.is-0 c.in-Some-Some.is-1 (omega arith) (omega arith) c.signed.type_inv c.signed.ensures c.looped.ensures
