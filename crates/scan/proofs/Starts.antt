-- A text that starts with two bytes has two.
use Rattle.std.proofs.Common.{◌≡◌, true, List, [], ◌∷◌, ℕ, ◌≤◌, length, arith}
use Rattle.rules.specs.Tokens.{starts}

pub two_long : (a b : ℕ) (s : List ℕ) → starts a b s ≡ true → 2 ≤ length s
unfolding starts
two_long a b [] e = cc
two_long a b (x ∷ []) e = cc
two_long a b (x ∷ y ∷ s) e = omega arith
