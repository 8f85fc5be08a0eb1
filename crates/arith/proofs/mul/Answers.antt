use mathlib.Core.Path.{◌∙◌}
use Rattle.rules.specs.Core.{Mul}
use Rattle.rules.specs.Meaning.{binop}
use Rattle.arith.proofs.Reach.{two}
use Rattle.arith.proofs.Fitting.{answered}
use Rattle.arith.proofs.mul.Goals as goal

pub returns : goal.returns
unfolding binop
returns c = answered _ _ c.checked_mul.ensures c.ok_or.ensures.value ∙ two (binop Mul) c.ranges.a c.ranges.b
