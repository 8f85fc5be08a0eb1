-- The variables of a payload of kind 1: their types and initial values, and whether something was read.
use Rattle.std.specs.Prelude.{Bool, true, false, List, [], ◌∷◌, ℕ, ◌/◌, eqb, ℤ, length, get_or}
use Rattle.std.specs.Simd.{first_chunks}
use Rattle.std.proofs.Math.Option.{Option, none, some}
use Rattle.rules.specs.Base.{pick}
use Rattle.rules.specs.Numbers.{Ty, bool, dint}
use Rattle.rules.specs.Bytes.{of4}

-- something was read
unfoldable pub is_some : {A : Type 0} → Option A → Bool
is_some none = false
is_some (some a) = true

-- a type's byte: 1 BOOL; what is no image's may be any byte, and any other is DINT
unfoldable pub type_of : ℕ → Ty
type_of k = pick (eqb k 1) (λ _. bool) (λ _. dint)

-- the types and the initial values of a payload of kind 1, five bytes each
unfoldable pub types_in : List ℕ → List Ty
types_in [] = []
types_in (k ∷ []) = []
types_in (k ∷ a ∷ []) = []
types_in (k ∷ a ∷ b ∷ []) = []
types_in (k ∷ a ∷ b ∷ c ∷ []) = []
types_in (k ∷ a ∷ b ∷ c ∷ d ∷ r) = type_of k ∷ types_in r

unfoldable pub values_in : List ℕ → List ℤ
values_in [] = []
values_in (k ∷ []) = []
values_in (k ∷ a ∷ []) = []
values_in (k ∷ a ∷ b ∷ []) = []
values_in (k ∷ a ∷ b ∷ c ∷ []) = []
values_in (k ∷ a ∷ b ∷ c ∷ d ∷ r) = of4 a b c d ∷ values_in r

-- the bytes of a payload in groups of five, without those that are left over
abbrev pub fives : List ℕ → List (List ℕ)
fives l = first_chunks 5 (length l / 5) l

-- what the five bytes of one variable say: its type's byte, and its initial value
abbrev pub kind_byte : List ℕ → ℕ
kind_byte w = get_or w 0 0

abbrev pub value_in : List ℕ → ℤ
value_in w = of4 (get_or w 1 0) (get_or w 2 0) (get_or w 3 0) (get_or w 4 0)
