use mathlib.Core.Path.{◌∙◌}
use native.Mathlib.Omega.{arith}
use lib.IntN.{pos}
use lib.Seq.{ext_get_or}
use Rattle.run.proofs.put_initials.Goals as goal

pub returns : goal.returns
returns c =
    let i = c.loop-k.invariant in
    ext_get_or (pos 0) _ _ (i.0 ∙ c.requires) (λ j h. i.1 j (omega arith))
