-- What std's methods give is what the rules say of numbers as bytes.
use Rattle.std.proofs.Common.{◌≡◌, refl, [], ◌∷◌, ℕ, ◌<◌, ◌/◌, ◌%◌, ℤ, pos, negsuc, w16, w32, arith}
use Rattle.std.proofs.lemmas.Int.{ints, to_z-of_z}
use Rattle.std.specs.Int.{cast_signed, cast_unsigned, to_le_bytes, from_le_bytes}
use mir.Val.{SFits}
use Rattle.rules.specs.Bytes.{of_u, to_u, of2, put2, put4}

-- two's complement, both ways
pub signed_is : (n : ℕ) → cast_signed w32 n ≡ of_u n
unfolding of_u
signed_is n = grind (arith, ints)

pub bits_are : (x : ℤ) → cast_unsigned w32 x ≡ to_u x
unfolding to_u
bits_are (pos n) = refl
bits_are (negsuc n) = omega arith

-- bytes read, the lowest first
pub word_is : (a b : ℕ) → from_le_bytes w16 (a ∷ b ∷ []) ≡ of2 a b
unfolding of2
word_is a b = omega arith

-- bytes written, the lowest first
pub two_bytes : (n : ℕ) → n < 65536 → to_le_bytes w16 n ≡ put2 n []
unfolding put2
two_bytes n h = let e : n / 256 % 256 ≡ n / 256 = omega arith in rw e

pub four_bytes : (n : ℕ) → n < 4294967296 → to_le_bytes w32 n ≡ put4 n []
unfolding put4
four_bytes n h = let e : n / 16777216 % 256 ≡ n / 16777216 = omega arith in rw e

-- and those of a value, as its conversions print it
bits_fit : (x : ℤ) → SFits w32 x → to_u x < 4294967296
unfolding to_u
bits_fit (pos n) f = omega arith
bits_fit (negsuc n) f = omega arith

pub value_bytes : (x : ℤ) → SFits w32 x → to_le_bytes w32 (cast_unsigned w32 (cast_signed w32 (cast_unsigned w32 x))) ≡ put4 (to_u x) []
value_bytes x f = rw (to_z-of_z w32 x f, bits_are x) (four_bytes (to_u x) (bits_fit x f))
