use mathlib.Core.Path.{◌∙◌}
use Rattle.rules.specs.Core.{Sub}
use Rattle.rules.specs.Meaning.{binop}
use Rattle.arith.proofs.Reach.{two}
use Rattle.arith.proofs.Fitting.{answered}
use Rattle.arith.proofs.sub.Goals as goal

pub returns : goal.returns
unfolding binop
returns c = answered _ _ c.checked_sub.ensures c.ok_or.ensures.value ∙ two (binop Sub) c.ranges.a c.ranges.b
