use Rattle.std.proofs.Common.{ap, eqb, ◌∙◌}
use Rattle.rules.specs.KindNumbers.{kind_number}
use Rattle.walk.specs.Steps.{tag_at}
use Rattle.walk.proofs.steps.Walk.is_at.Goals as goal

pub returns : goal.returns
unfolding tag_at
returns c = c.is.ensures ∙ ap (λ d. eqb d.tag (kind_number c.args.kind)) c.ahead.ensures
