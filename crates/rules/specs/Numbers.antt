-- Types and their ranges. Values are whole numbers: FALSE is 0 and TRUE is 1.
use Rattle.std.specs.Prelude.{Bool, true, false, ◌&&◌, eqb, ℤ, pos, negsuc}
use Rattle.std.specs.Int.Signed.{le_z}

pub data Ty : Type 0 where
  bool dint : Ty

-- the least and the greatest value of a type
unfoldable pub low : Ty → ℤ
low bool = pos 0
low dint = negsuc 2147483647

unfoldable pub high : Ty → ℤ
high bool = pos 1
high dint = pos 2147483647

-- low ≤ value ≤ high
unfoldable pub between : ℤ → ℤ → ℤ → Bool
between lowest highest z = le_z lowest z && le_z z highest

-- the value lies in the type's range
unfoldable pub holds : Ty → ℤ → Bool
holds τ z = between (low τ) (high τ) z

unfoldable pub is_dint : Ty → Bool
is_dint bool = false
is_dint dint = true

unfoldable pub same_ty : Ty → Ty → Bool
same_ty bool bool = true
same_ty bool dint = false
same_ty dint bool = false
same_ty dint dint = true

-- FALSE 0, TRUE 1
unfoldable pub of_bool : Bool → ℤ
of_bool true = pos 1
of_bool false = pos 0

unfoldable pub is_zero : ℤ → Bool
is_zero (pos n) = eqb n 0
is_zero (negsuc n) = false

unfoldable pub eq_z : ℤ → ℤ → Bool
eq_z a b = le_z a b && le_z b a
