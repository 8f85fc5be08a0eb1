use mathlib.Core.Path.{◌≡◌, refl, sym, ap, ◌∙◌}
use mathlib.Core.Bool.{true}
use mathlib.Core.List.{List}
use Prim.Native.Nat.{ℕ}
use Rattle.rules.specs.Image.{image_in}
use Rattle.rules.specs.Run.{valid}
use Rattle.variables.specs.Slots.{types_in, is_some}
use Rattle.image.specs.Parts.{variables_part}
use Rattle.run.proofs.Images.{short, no_image, bad_table, all_good}
use Rattle.run.proofs.run.Goals as goal

pub returns-then-not-is_image : goal.returns-then-not-is_image
returns-then-not-is_image c = no_image _ _ _ (sym c.is_image.ensures ∙ c.if-not-is_image.true) (c.refuse.ensures _)

pub returns-then-not-is_valid : goal.returns-then-not-is_valid
returns-then-not-is_valid c =
    let imaged : is_some (image_in c.args.image.now) ≡ true = sym c.is_image.ensures ∙ c.if-not-is_image.false in
    let validated : valid (types_in (variables_part c.args.image.now)) c.args.table.now ≡ c.is_valid.result = sym (c.is_valid.ensures ∙ ap (λ (v : List ℕ). valid (types_in v) c.args.table.now) c.variables-vars.ensures) in
    bad_table _ _ _ imaged (validated ∙ c.if-not-is_valid.true) (c.refuse-then-not-is_valid.ensures _)

pub carry_out-requires : goal.carry_out-requires
carry_out-requires c =
    let imaged : is_some (image_in c.args.image.now) ≡ true = sym c.is_image.ensures ∙ c.if-not-is_image.false in
    rw c.code.ensures (short _ imaged)

pub returns : goal.returns
returns c =
    let imaged : is_some (image_in c.args.image.now) ≡ true = sym c.is_image.ensures ∙ c.if-not-is_image.false in
    let validated : valid (types_in (variables_part c.args.image.now)) c.args.table.now ≡ c.is_valid.result = sym (c.is_valid.ensures ∙ ap (λ (v : List ℕ). valid (types_in v) c.args.table.now) c.variables-vars.ensures) in
    all_good _ _ _ imaged (validated ∙ c.if-not-is_valid.false)
    (c.carry_out.ensures ∙ rw (c.variables-vars.ensures, c.code.ensures) refl)
