use mathlib.Core.Path.{sym, ap, ◌∙◌}
use Prim.Native.Nat.{ℕ}
use lib.ListN.{get_or, get_or-eq_default}
use borrow.Author.Rules.{rules}
use Rattle.codes.specs.Table.{lengths}
use Rattle.codes.proofs.Table.{small}
use Rattle.codes.proofs.operands.Goals as goal

pub returns-in-Some : goal.returns-in-Some
returns-in-Some c =
    let n = c.from-in-Some.ensures ∙ c.in-Some.ensures.lookup.3.1 0 ∙ ap (λ (k : ℕ). get_or lengths k 0) c.from.ensures in
    (n, rw n (small c.args.code))

pub returns-in-None : goal.returns-in-None
returns-in-None c = (sym (get_or-eq_default lengths 0 (rw c.from.ensures at c.in-None.ensures.lookup.3)), search rules)
