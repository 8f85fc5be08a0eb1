-- Spellings of two lengths differ, and those of one are compared.
use Rattle.std.proofs.Common.{◌≡◌, sym, ◌∙◌, ◌+◌, ◌*◌, get_or}
use borrow.Author.Tests.{ne_eqb}
use Rattle.names.specs.Rows.{row_at}
use Rattle.names.proofs.Letters.{unlike}
use Rattle.names.proofs.is_row.Goals as goal

pub returns-then-number-length : goal.returns-then-number-length
unfolding row_at
returns-then-number-length c =
    let long : get_or c.args.memory.now (3 * c.args.row + 2) 0 ≡ c.args.length = sym c.number.ensures ∙ c.if-number-length.true in
    rw (long, ← c.number-then-number-length.ensures) c.same.ensures

pub returns-else-number-length : goal.returns-else-number-length
unfolding row_at
returns-else-number-length c = ne_eqb _ _ c.if-number-length.false ∙ sym (unlike _ _ _ _ _ (λ e. c.if-number-length.false (c.number.ensures ∙ e)))
