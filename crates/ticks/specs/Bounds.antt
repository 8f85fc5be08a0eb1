-- Bounds as 32-bit numbers (01, worst case): exact up to the limit; a larger exact total stays apart from an unbounded one, since a FOR with
-- no passes takes 1 tick however long its body is.
use Rattle.std.specs.Prelude.{ℕ, ◌+◌, min, eqb}
use Rattle.rules.specs.Base.{pick}
use Rattle.rules.specs.Limits.{worst_limit, unbounded_mark}
use Rattle.rules.specs.Worst.{Bound, fin, unb}

-- what stands for every exact total over the limit
abbrev pub capped : ℕ
capped = worst_limit + 1

-- a number as a bound: the mark is unbounded
unfoldable pub bound_of : ℕ → Bound
bound_of n = pick (eqb n unbounded_mark) (λ _. unb) (λ _. fin n)

-- a bound as a number: exact up to the limit, one more than the limit beyond it, the mark if unbounded
unfoldable pub cut : Bound → ℕ
cut (fin w) = min w capped
cut unb = unbounded_mark
