use mathlib.Core.Path.{ap, ◌∙◌}
use mir.Facts.{to_z-of_z}
use Rattle.rules.specs.Core.{Neg}
use Rattle.rules.specs.Meaning.{unop}
use Rattle.arith.proofs.Fitting.{answered}
use Rattle.arith.proofs.neg.Goals as goal

pub returns : goal.returns
unfolding unop
returns c = answered _ _ c.checked_neg.ensures c.ok_or.ensures.value ∙ ap (unop Neg) (to_z-of_z c.ranges.a)
