-- Integers that a text writes, as signed numbers, and a FOR between them. Assumes nothing.
use mathlib.Core.Path.{◌≡◌, ap, ◌∙◌}
use mathlib.Core.Bool.{Bool, true, false}
use Prim.Native.Nat.{ℕ, zero, suc, ◌<◌}
use native.Mathlib.Omega.{arith}
use lib.IntN.{ℤ, pos, neg_ℤ, ◌-ℤ◌, +ℤ_idl}
use mir.Syntax.{w32}
use mir.Val.{SFits, to_z, of_z}
use mir.Facts.{to_z-of_z}
use Rattle.std.specs.Prelude.{Option, Some, Result, Ok, Err}
use Rattle.std.specs.Result.{OkIff, result_ok}
use Rattle.rules.specs.Bytes.{of_u}
use Rattle.rules.specs.Worst.{lit, for_w}
use Rattle.theorems.specs.Fields.{Z32}
use Rattle.ticks.specs.Bounds.{bound_of, cut}
use Rattle.figures.specs.Parts.{signed_of, lit_in, LoopMeans}

-- a number that converts is itself
pub converted : {E : Type 0} (r : Result ℤ E) (P : Type 0) {v z : ℤ} → OkIff r P v → Some z ≡ result_ok r → z ≡ v
converted (Ok x) P k e = cc (k.1)
converted (Err d) P k e = cc

-- with a minus or without, an integer of the lower half is a number of 32 bits
fits : (minus : Bool) (n : ℕ) → n < 2147483648 → SFits w32 (signed_of minus n)
unfolding signed_of
fits true zero h = record { sfits = omega arith }
fits true (suc n) h = record { sfits = omega arith }
fits false n h = record { sfits = h }

-- it is what the machine reads back from its bits
read_back : (minus : Bool) (n : ℕ) → n < 2147483648 → to_z w32 (of_z w32 (signed_of minus n)) ≡ signed_of minus n
read_back minus n h = to_z-of_z (fits minus n h)

-- as it is, and with a minus

pub kept : {z : ℤ} (n : ℕ) → n < 2147483648 → z ≡ pos n → to_z w32 (of_z w32 z) ≡ signed_of false n
unfolding signed_of
kept n h e = rw e (read_back false n h)

pub turned : {z : ℤ} (n : ℕ) → n < 2147483648 → z ≡ pos n → to_z w32 (of_z w32 (pos 0 -ℤ to_z w32 (of_z w32 z))) ≡ signed_of true n
unfolding signed_of
turned n h e = ap (λ y. to_z w32 (of_z w32 y)) (+ℤ_idl _ ∙ ap neg_ℤ (kept n h e)) ∙ read_back true n h

-- a FOR between known integers
pub known_loop : {first last : Option ℤ} (step body : ℕ) {a b z : ℤ} {r : ℕ} → first ≡ Some a → last ≡ Some b → Z32 a → Z32 b → Z32 z → z ≡ of_u step
    → r ≡ cut (for_w (lit (to_z w32 (of_z w32 a))) (lit (to_z w32 (of_z w32 b))) (to_z w32 (of_z w32 z)) (bound_of body)) → LoopMeans first last step body r
unfolding lit_in
known_loop step body {a = a} {b = b} {z = z} p q f g h s r =
    r ∙ rw (
      to_z-of_z {w = w32} {z = a} (record { sfits = f }),
      to_z-of_z {w = w32} {z = b} (record { sfits = g }),
      to_z-of_z {w = w32} {z = z} (record { sfits = h }),
      s,
      p,
      q,
    )
