use Rattle.std.proofs.Common.{◌≡◌, sym, ◌∙◌, rules, ◌%◌, eqb, length, true, false}
use Rattle.std.proofs.lemmas.Iterator.{YieldsList-from_slice}
use Rattle.std.proofs.lemmas.Iterator.Search.{all_from_yields_List}
use borrow.Author.Tests.{tests}
use Rattle.variables.specs.Slots.{fives}
use Rattle.variables.proofs.Values.{good, all_good}
use Rattle.variables.proofs.are_variables.Goals as goal

pub returns-then-is_empty : goal.returns-then-is_empty
returns-then-is_empty c =
    let l = c.args.vars.now in
    let none : eqb (length l % 5) 0 ≡ true = rw (← c.as_chunks.ensures.back_len, ← c.is_empty.ensures) c.if-is_empty.true in
    all_from_yields_List good _ _ _ c.all.ensures.ran (YieldsList-from_slice (fives l) (cc)) (λ x b q k. search (rules, tests))
    ∙ sym (all_good l ∙ rw none)

pub returns-else-is_empty : goal.returns-else-is_empty
returns-else-is_empty c =
    let l = c.args.vars.now in
    let some : eqb (length l % 5) 0 ≡ false = rw (← c.as_chunks.ensures.back_len, ← c.is_empty.ensures) c.if-is_empty.false in
    c.if-is_empty.false ∙ sym (all_good l ∙ rw some)
