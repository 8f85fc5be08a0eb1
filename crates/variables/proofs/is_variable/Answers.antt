use Rattle.std.proofs.Common.{sym, ap, ◌∙◌, arith, w32}
use Rattle.std.proofs.lemmas.Int.{to_z-of_z}
use borrow.Author.Rules.{sfits_of}
use Rattle.rules.specs.Numbers.{holds, low, high}
use Rattle.rules.specs.Image.{type_in}
use Rattle.variables.proofs.Values.{dint-holds, a_variable, no_variable}
use Rattle.variables.proofs.is_variable.Goals as goal

pub returns-in-1 : goal.returns-in-1
unfolding holds low high type_in
returns-in-1 c =
    let f = sfits_of {w = w32} {z = c.value-value.result} c.value-value.type_inv in
    c.within.ensures ∙ rw (to_z-of_z _ _ f, c.value-value.ensures) (a_variable _ (ap type_in c.in-1.is))

pub returns-in-2 : goal.returns-in-2
unfolding type_in
returns-in-2 c =
    rw (c.value-value.ensures) at (sym (dint-holds _ (sfits_of {w = w32} {z = c.value-value.result} c.value-value.type_inv))) ∙ a_variable _ (ap type_in c.in-2.is)

pub returns-in_default : goal.returns-in_default
returns-in_default c = no_variable _ _ (omega arith) (omega arith)
