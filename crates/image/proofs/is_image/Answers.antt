use Rattle.std.proofs.Common.{sym, ◌∙◌}
use Rattle.image.proofs.Whole.{image_if}
use Rattle.image.proofs.is_image.Goals as goal

pub returns-then-are_shaped : goal.returns-then-are_shaped
returns-then-are_shaped c =
    c.are_variables.ensures ∙ sym (image_if c.in-Some.ensures ∙ rw (sym c.are_shaped.ensures ∙ c.if-are_shaped.true))

pub returns-else-are_shaped : goal.returns-else-are_shaped
returns-else-are_shaped c =
    c.if-are_shaped.false ∙ sym (image_if c.in-Some.ensures ∙ rw (sym c.are_shaped.ensures ∙ c.if-are_shaped.false))
