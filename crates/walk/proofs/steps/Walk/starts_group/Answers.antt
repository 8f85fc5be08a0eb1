use Rattle.std.proofs.Common.{sym, ap, ◌∙◌}
use Rattle.walk.specs.Steps.{tag_at}
use Rattle.walk.specs.Constants.{is_constant}
use Rattle.walk.proofs.steps.Walk.starts_group.Goals as goal

pub returns-else-is_at : goal.returns-else-is_at
unfolding tag_at
returns-else-is_at c = rw (sym c.is_at.ensures ∙ c.if-is_at.false) (c.is_constant.ensures ∙ ap (λ d. is_constant d.tag) c.ahead.ensures)
