use mathlib.Core.Path.{◌≡◌, refl, sym, ap, ◌∙◌}
use mathlib.Core.Bool.{true}
use mathlib.Core.List.{List}
use Prim.Native.Nat.{ℕ}
use lib.ListN.{length}
use Rattle.rules.specs.Image.{image_in}
use Rattle.variables.specs.Slots.{types_in, is_some}
use Rattle.image.specs.Parts.{variables_part}
use Rattle.run.proofs.Images.{as_many, fill_none, fill_other, fill_done}
use Rattle.run.proofs.fill.Goals as goal

pub returns-then-not-is_image : goal.returns-then-not-is_image
returns-then-not-is_image c = fill_none _ _ (sym c.is_image.ensures ∙ c.if-not-is_image.true) refl

pub returns-then-table-count : goal.returns-then-table-count
returns-then-table-count c =
    let imaged : is_some (image_in c.args.image.now) ≡ true = sym c.is_image.ensures ∙ c.if-not-is_image.false in
    let counted : c.count.result ≡ length (types_in (variables_part c.args.image.now)) = c.count.ensures ∙ ap (λ (v : List ℕ). length (types_in v)) c.variables-vars.ensures in
    fill_other _ _ imaged (λ e. c.if-table-count.true (e ∙ sym counted)) refl

pub put_initials-requires : goal.put_initials-requires
put_initials-requires c = c.if-table-count.false ∙ c.count.ensures ∙ as_many _

pub returns : goal.returns
returns c =
    let imaged : is_some (image_in c.args.image.now) ≡ true = sym c.is_image.ensures ∙ c.if-not-is_image.false in
    let counted : c.count.result ≡ length (types_in (variables_part c.args.image.now)) = c.count.ensures ∙ ap (λ (v : List ℕ). length (types_in v)) c.variables-vars.ensures in
    fill_done _ _ imaged (c.if-table-count.false ∙ counted)
    (rw (c.put_initials.ensures, c.variables-vars.ensures) refl)
