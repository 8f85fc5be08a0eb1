-- The variables of a payload of kind 1, five bytes each: how many there are, what stands at a slot, and what a type holds. Assumes nothing.
use Rattle.std.proofs.Common.{◌≡◌, refl, sym, ◌∙◌, Bool, true, false, not, ◌&&◌, List, [], ◌∷◌, map, ℕ, suc, ◌/◌, ◌%◌, eqb, ℤ, pos, negsuc, length, get_or, w32, arith}
use Rattle.std.proofs.Math.ListN as N
use Rattle.std.specs.List.{list_all}
use mathlib.Core.Option.{Option, none, some}
use mir.Val.{SFits}
use borrow.Author.Tests.{le-leb, ne_eqb}
use Rattle.rules.specs.Base.{pick}
use Rattle.rules.specs.Bytes.{of_u, of4}
use Rattle.rules.specs.Numbers.{Ty, bool, dint, is_dint, holds, between, low, high}
use Rattle.rules.specs.Core.{Variable}
use Rattle.rules.specs.Image.{type_in, variable_in, before, variables_in}
use Rattle.variables.specs.Slots.{is_some, type_of, types_in, values_in, fives, kind_byte, value_in}
use Rattle.variables.proofs.Options.{clash, some_if}

pub vars-length : (l : List ℕ) → (length (types_in l) ≡ length l / 5) × (length (values_in l) ≡ length l / 5)
unfolding types_in values_in
vars-length [] = (refl, refl)
vars-length (k ∷ []) = (refl, refl)
vars-length (k ∷ a ∷ []) = (refl, refl)
vars-length (k ∷ a ∷ b ∷ []) = (refl, refl)
vars-length (k ∷ a ∷ b ∷ c ∷ []) = (refl, refl)
vars-length (k ∷ a ∷ b ∷ c ∷ d ∷ r) = let h = vars-length r in (omega arith, omega arith)

-- ---- five bytes, and those behind them
five : (k a b c d : ℕ) (r : List ℕ) → fives (k ∷ a ∷ b ∷ c ∷ d ∷ r) ≡ (k ∷ a ∷ b ∷ c ∷ d ∷ []) ∷ fives r
five k a b c d r = let e : length (k ∷ a ∷ b ∷ c ∷ d ∷ r) / 5 ≡ suc (length r / 5) = omega arith in rw e

types_are : (l : List ℕ) → types_in l ≡ map (λ w. type_of (kind_byte w)) (fives l)
unfolding types_in
types_are [] = refl
types_are (k ∷ []) = refl
types_are (k ∷ a ∷ []) = refl
types_are (k ∷ a ∷ b ∷ []) = refl
types_are (k ∷ a ∷ b ∷ c ∷ []) = refl
types_are (k ∷ a ∷ b ∷ c ∷ d ∷ r) = rw (five k a b c d r, types_are r)

values_are : (l : List ℕ) → values_in l ≡ map value_in (fives l)
unfolding values_in
values_are [] = refl
values_are (k ∷ []) = refl
values_are (k ∷ a ∷ []) = refl
values_are (k ∷ a ∷ b ∷ []) = refl
values_are (k ∷ a ∷ b ∷ c ∷ []) = refl
values_are (k ∷ a ∷ b ∷ c ∷ d ∷ r) = rw (five k a b c d r, values_are r)

-- ---- what stands at a slot; where there is none, what no bytes say
pub type_at : (l : List ℕ) (k : ℕ) → get_or (types_in l) k dint ≡ type_of (kind_byte (get_or (fives l) k []))
unfolding type_of
type_at l k = rw (types_are l) (N.get_or-map (λ w. type_of (kind_byte w)) (fives l) k [])

pub value_at : (l : List ℕ) (k : ℕ) → get_or (values_in l) k (pos 0) ≡ value_in (get_or (fives l) k [])
unfolding of4 of_u
value_at l k = rw (values_are l) (N.get_or-map value_in (fives l) k [])

pub nothing_is : value_in [] ≡ pos 0
unfolding of4 of_u
nothing_is = refl

-- the type's byte says whether it is a DINT
pub dint_at : (l : List ℕ) (k : ℕ) → is_dint (get_or (types_in l) k dint) ≡ not (eqb (kind_byte (get_or (fives l) k [])) 1)
unfolding type_of is_dint
dint_at l k = rw (type_at l k) (go (eqb (kind_byte (get_or (fives l) k [])) 1))
  where
    go : (t : Bool) → is_dint (pick t (λ _. bool) (λ _. dint)) ≡ not t
    go true = refl
    go false = refl

-- ---- what a slot's type holds
-- a DINT holds every number of 32 bits
pub dint-holds : (z : ℤ) → SFits w32 z → holds dint z ≡ true
unfolding holds between low high
dint-holds (pos n) f = le-leb n 2147483647 (omega arith)
dint-holds (negsuc n) f = rw (le-leb n 2147483647 (omega arith))

pub dint_may : (τ : Ty) (z : ℤ) → SFits w32 z → is_dint τ ≡ true → true ≡ holds τ z
unfolding is_dint
dint_may bool z f e = clash (cc)
dint_may dint z f e = sym (dint-holds z f)

pub bool_may : (τ : Ty) (z : ℤ) → is_dint τ ≡ false → between (pos 0) (pos 1) z ≡ holds τ z
unfolding is_dint holds low high
bool_may bool z e = refl
bool_may dint z e = clash (cc)

-- ---- one variable
pub a_variable : {o : Option Ty} {τ : Ty} (z : ℤ) → o ≡ some τ → holds τ z ≡ is_some (variable_in o z)
unfolding variable_in
a_variable {o} {τ} z e = rw e (some_if (holds τ z) (record { type = τ; init = z }))

pub no_variable : (k : ℕ) (z : ℤ) → (k ≡ 1 → ⊥) → (k ≡ 2 → ⊥) → false ≡ is_some (variable_in (type_in k) z)
unfolding type_in variable_in is_some
no_variable k z p q = rw (ne_eqb k 1 p, ne_eqb k 2 q, is_some)

-- ---- all of them
abbrev pub good : List ℕ → Bool
good w = is_some (variable_in (type_in (kind_byte w)) (value_in w))

before_some : (v : Option Variable) (vs : Option (List Variable)) → is_some (before v vs) ≡ (is_some v && is_some vs)
unfolding before is_some
before_some none vs = refl
before_some (some v) none = refl
before_some (some v) (some vs) = refl

-- no bytes are left over, and each five are a variable
pub all_good : (l : List ℕ) → is_some (variables_in l) ≡ (eqb (length l % 5) 0 && list_all good (fives l))
unfolding variables_in is_some
all_good [] = refl
all_good (k ∷ []) = refl
all_good (k ∷ a ∷ []) = refl
all_good (k ∷ a ∷ b ∷ []) = refl
all_good (k ∷ a ∷ b ∷ c ∷ []) = refl
all_good (k ∷ a ∷ b ∷ c ∷ d ∷ r) =
    let e : length (k ∷ a ∷ b ∷ c ∷ d ∷ r) % 5 ≡ length r % 5 = omega arith in
    rw (five k a b c d r, e) (before_some _ _ ∙ rw (all_good r) (swap _ (eqb (length r % 5) 0) _))
  where
    swap : (x y z : Bool) → (x && (y && z)) ≡ (y && (x && z))
    swap true y z = refl
    swap false true z = refl
    swap false false z = refl
