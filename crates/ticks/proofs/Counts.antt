-- The number of passes, from the tests of the code. Assumes nothing.
use Rattle.std.proofs.Common.{◌≡◌, refl, sym, true, false, ℕ, ◌+◌, ◌/◌, ◌<◌, ℤ, pos, negsuc, ◌-ℤ◌, arith}
use Rattle.std.proofs.lemmas.Int.{ints}
use Rattle.std.specs.Prelude.{Option, Some, None, unwrap_or}
use Rattle.std.specs.Option.{SomeIff}
use native.Mathlib.Nat.{div-zero}
use Rattle.std.specs.Int.Signed.{lt_z}
use Rattle.std.specs.Int.RustNames.{unsigned_abs}
use Rattle.rules.specs.Worst.{to_nat, pass_count}

-- what is not negative is its own size, and any other counts as 0
sized : (z : ℤ) → lt_z z (pos 0) ≡ false → unsigned_abs z ≡ to_nat z
unfolding to_nat
sized (pos n) e = refl
sized (negsuc n) e = absurd (cc)

unsized : (z : ℤ) → lt_z z (pos 0) ≡ true → 0 ≡ to_nat z
unfolding to_nat
unsized (pos n) e = absurd (omega (arith, ints, e))
unsized (negsuc n) e = refl

-- a number less one that is not above it, and less one above it
pub above : (h l : ℤ) → lt_z h l ≡ false → unsigned_abs (h -ℤ l) ≡ to_nat (h -ℤ l)
above h l e = let d : lt_z (h -ℤ l) (pos 0) ≡ false = grind (arith, ints) in sized (h -ℤ l) d

pub below : (h l : ℤ) → lt_z h l ≡ true → 0 ≡ to_nat (h -ℤ l)
below h l e = let d : lt_z (h -ℤ l) (pos 0) ≡ true = grind (arith, ints) in unsized (h -ℤ l) d

-- a first value above the last: no pass
pub no_pass : (x y : ℤ) (d : ℕ) → lt_z y x ≡ true → 0 ≡ pass_count x y (pos d)
unfolding pass_count
no_pass x y d e = rw (e, pass_count)

-- else one, and one more for each whole step that fits between
pub some_passes : (x y : ℤ) (d : ℕ) → lt_z y x ≡ false → to_nat (y -ℤ x) / d + 1 ≡ pass_count x y (pos d)
unfolding pass_count
some_passes x y d e = rw (e, pass_count)

-- a number divided by 0 is 0, also where std says that there is none
pub divided : (o : Option ℕ) (n d : ℕ) → SomeIff o (0 < d) (n / d) → unwrap_or o 0 ≡ n / d
divided None n d h = let z : d ≡ 0 = omega arith in rw z (sym (div-zero n))
divided (Some q) n d h = h.1

-- a step upward is its own size
pub upwards : (x y s : ℤ) → lt_z s (pos 0) ≡ false → pass_count x y (pos (unsigned_abs s)) ≡ pass_count x y s
upwards x y (pos n) e = refl
upwards x y (negsuc n) e = absurd (cc)

-- a step downward makes the same passes as its size, counted from the other end
pub downwards : (x y s : ℤ) → lt_z s (pos 0) ≡ true → pass_count y x (pos (unsigned_abs s)) ≡ pass_count x y s
unfolding pass_count
downwards x y (pos n) e = absurd (omega (arith, ints, e))
downwards x y (negsuc n) e = refl
