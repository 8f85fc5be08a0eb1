use mathlib.Core.Path.{◌∙◌}
use Rattle.rules.specs.Core.{Add}
use Rattle.rules.specs.Meaning.{binop}
use Rattle.arith.proofs.Reach.{two}
use Rattle.arith.proofs.Fitting.{answered}
use Rattle.arith.proofs.add.Goals as goal

pub returns : goal.returns
unfolding binop
returns c = answered _ _ c.checked_add.ensures c.ok_or.ensures.value ∙ two (binop Add) c.ranges.a c.ranges.b
