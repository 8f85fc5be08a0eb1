-- A text that is not scanned, a tree, a program that is refused.
use mathlib.Core.Path.{refl}
use borrow.Author.Rules.{rules}
use Rattle.parse.proofs.Whole.{parsed_unscanned, parsed-tree, parsed_unread}
use Rattle.parse.proofs.parse.Goals as goal

pub returns-in_err-count-clause-means : goal.returns-in_err-count-clause-means
returns-in_err-count-clause-means c = parsed_unscanned _ _ c.if-memory-lt-MEMORY_NUMBERS.false _ _ c.from_residual.ensures.1 c.in_err-count.ensures.means

pub returns-in-Ok-clause-means : goal.returns-in-Ok-clause-means
returns-in-Ok-clause-means c =
    let scan = c.in_ok-count.ensures in
    parsed-tree _ _ c.if-memory-lt-MEMORY_NUMBERS.false _ scan.fits scan.means c.in-Ok.ensures.means _ refl (search rules)

pub returns-in-Err-clause-means : goal.returns-in-Err-clause-means
returns-in-Err-clause-means c =
    let scan = c.in_ok-count.ensures in
    parsed_unread _ _ c.if-memory-lt-MEMORY_NUMBERS.false _ scan.fits scan.means c.in-Err.ensures.means _ _ refl c.clear.ensures (search rules)
