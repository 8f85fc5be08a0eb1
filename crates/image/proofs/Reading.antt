-- The record at the start of some bytes: where it is whole, and where it is cut off. Assumes nothing.
use Rattle.std.proofs.Common.{◌≡◌, refl, List, [], ◌∷◌, ℕ, ◌+◌, ◌≤◌, ◌<◌, leb, length, get_or, take, drop, arith}
use mathlib.Core.Option.{none, some}
use borrow.Author.Tests.{le-leb, lt-leb}
use Rattle.rules.specs.Base.{pick}
use Rattle.rules.specs.Bytes.{of2, record_in}

-- no four bytes
pub cut_head : (b : List ℕ) → length b < 4 → record_in b ≡ none
unfolding record_in
cut_head [] h = refl
cut_head (a ∷ []) h = refl
cut_head (a ∷ b ∷ []) h = refl
cut_head (a ∷ b ∷ c ∷ []) h = refl
cut_head (a ∷ b ∷ c ∷ d ∷ r) h = absurd (omega arith)

-- four bytes, and those behind them
headed : (b : List ℕ) → 4 ≤ length b → let h = take 4 b in let r = drop 4 b in let n = of2 (get_or h 0 0) (get_or h 1 0) in
    record_in b ≡ pick (leb n (length r)) (λ _. some (record { kind = of2 (get_or h 2 0) (get_or h 3 0); payload = take n r; rest = drop n r })) (λ _. none)
unfolding record_in
headed [] h = absurd (omega arith)
headed (a ∷ []) h = absurd (omega arith)
headed (a ∷ b ∷ []) h = absurd (omega arith)
headed (a ∷ b ∷ c ∷ []) h = absurd (omega arith)
headed (a ∷ b ∷ c ∷ d ∷ r) h = refl

-- they say how long the payload is
module _ (b : List ℕ) {h r : List ℕ} {n : ℕ} (head : h ≡ take 4 b) (behind : r ≡ drop 4 b) (long : length r + 4 ≡ length b) (size : n ≡ of2 (get_or h 0 0) (get_or h 1 0)) where
  pub cut_payload : length r < n → record_in b ≡ none
  cut_payload l =
      let g : 4 ≤ length b = omega arith in
      rw (headed b g, ← behind, ← head, ← size, lt-leb n (length r) l)

  pub whole : {k : ℕ} {p s : List ℕ} → k ≡ of2 (get_or h 2 0) (get_or h 3 0) → n ≤ length r → p ≡ take n r → s ≡ drop n r
      → record_in b ≡ some (record { kind = k; payload = p; rest = s })
  whole kind l payload rest =
      let g : 4 ≤ length b = omega arith in
      rw (headed b g, ← behind, ← head, ← size, le-leb n (length r) l, kind, payload, rest)
