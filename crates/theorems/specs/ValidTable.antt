-- The valid tables of the rules are those that the typing laws speak of.
use Rattle.std.specs.Prelude.{◌≡◌, refl, true, [], ◌∷◌, ℕ, zero, suc, ◌<◌, eqb, pos, length, get_or}
use mathlib.Core.List as L
use Rattle.std.proofs.Common.{arith}
use Rattle.rules.specs.Numbers.{Ty, dint, holds}
use Rattle.rules.specs.Meaning.{Table}
use Rattle.rules.specs.Run.{all_hold, valid}
use Rattle.theorems.specs.Tests.{and_l, and_r, eqb_t, eq-eqb}
use Rattle.theorems.specs.Typing.{Valid}

each_holds : (Γ : L.List Ty) (t : Table) → length t ≡ length Γ → all_hold Γ t ≡ true → (i : ℕ) → i < length Γ → holds (get_or Γ i dint) (get_or t i (pos 0)) ≡ true
unfolding all_hold
each_holds [] t l h i b = absurd (omega arith)
each_holds (τ ∷ Γ) [] l h i b = absurd (omega arith)
each_holds (τ ∷ Γ) (z ∷ t) l h zero b = and_l (holds τ z) (all_hold Γ t) h
each_holds (τ ∷ Γ) (z ∷ t) l h (suc i) b = each_holds Γ t (omega arith) (and_r (holds τ z) (all_hold Γ t) h) i (omega arith)

all_hold_lem : (Γ : L.List Ty) (t : Table) → length t ≡ length Γ → ((i : ℕ) → i < length Γ → holds (get_or Γ i dint) (get_or t i (pos 0)) ≡ true) → all_hold Γ t ≡ true
unfolding all_hold
all_hold_lem [] t l h = refl
all_hold_lem (τ ∷ Γ) [] l h = refl
all_hold_lem (τ ∷ Γ) (z ∷ t) l h = rw (h zero (omega arith), all_hold_lem Γ t (omega arith) (λ i b. h (suc i) (omega arith)))

pub valid_is : (Γ : L.List Ty) (t : Table) → valid Γ t ≡ true → Valid Γ t
unfolding valid
valid_is Γ t h =
    let l = eqb_t (length t) (length Γ) (and_l (eqb (length t) (length Γ)) (all_hold Γ t) h) in
    record { long = l; each = each_holds Γ t l (and_r (eqb (length t) (length Γ)) (all_hold Γ t) h) }

pub is-valid : (Γ : L.List Ty) (t : Table) → Valid Γ t → valid Γ t ≡ true
unfolding valid
is-valid Γ t v = rw (eq-eqb (length t) (length Γ) v.long, all_hold_lem Γ t v.long v.each)
