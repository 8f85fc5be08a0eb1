-- Laws of tables: when one is valid, entry by entry. Assumes nothing.
use mathlib.Core.Path.{◌≡◌, ◌∙◌}
use mathlib.Core.Bool.{Bool, true, false, ◌&&◌}
use mathlib.Core.List.{List}
use Prim.Native.Nat.{ℕ, ◌+◌, ◌≤◌, ◌<◌}
use native.Mathlib.Numerals.{add-one}
use native.Mathlib.Omega.{arith}
use lib.IntN.{pos}
use lib.ListN.{length, get_or, drop, drop_of_length-le}
use lib.Seq.{drop-cons}
use borrow.Author.Tests.{eq-eqb, ne_eqb}
use Rattle.rules.specs.Numbers.{Ty, dint, holds}
use Rattle.rules.specs.Meaning.{Table}
use Rattle.rules.specs.Run.{all_hold, valid}

module _ (Γ : List Ty) (t : Table) where
  pub valid_off : (length t ≡ length Γ → ⊥) → false ≡ valid Γ t
  unfolding valid
  valid_off h = rw (ne_eqb (length t) (length Γ) h)

  pub valid_is : {r : Bool} → length t ≡ length Γ → r ≡ all_hold Γ t → r ≡ valid Γ t
  unfolding valid
  valid_is h e = rw (eq-eqb (length t) (length Γ) h) e

  one : (k : ℕ) → k < length Γ → k < length t
      → all_hold (drop k Γ) (drop k t) ≡ (holds (get_or Γ k dint) (get_or t k (pos 0)) && all_hold (drop (k + 1) Γ) (drop (k + 1) t))
  unfolding all_hold
  one k h i = rw (add-one k, drop-cons Γ k dint h, drop-cons t k (pos 0) i)

  -- the entries from k on, where the k-th holds, does not hold, or is not there
  pub hold_on : (k : ℕ) → length t ≡ length Γ → k < length t → holds (get_or Γ k dint) (get_or t k (pos 0)) ≡ true
      → all_hold (drop k Γ) (drop k t) ≡ all_hold (drop (k + 1) Γ) (drop (k + 1) t)
  hold_on k q h f = one k (omega arith) h ∙ rw f

  pub hold_off : (k : ℕ) → length t ≡ length Γ → k < length t → holds (get_or Γ k dint) (get_or t k (pos 0)) ≡ false → all_hold (drop k Γ) (drop k t) ≡ false
  hold_off k q h f = one k (omega arith) h ∙ rw f

  pub hold_end : (k : ℕ) → length t ≡ length Γ → length t ≤ k → all_hold (drop k Γ) (drop k t) ≡ true
  unfolding all_hold
  hold_end k q h = rw (drop_of_length-le Γ {i = k} (omega arith))
