-- What std's checked methods answer is what the rules ask: the exact number where it fits 32 bits, and else a stop. Assumes nothing.
use mathlib.Core.Path.{◌≡◌, refl, sym, ap, ◌∙◌}
use mathlib.Core.Bool.{Bool, true, false, ◌&&◌}
use Prim.Native.Nat.{zero, suc, ◌≤◌, ◌<◌}
use native.Mathlib.Omega.{arith}
use lib.Dec.{leb}
use lib.IntN.{ℤ, pos, negsuc}
use lib.Signed.{mag, le_z, quot_z, rem_z, mag_rem}
use borrow.Author.Tests.{leb-true, leb-false, le-leb, lt-leb, ne_eqb}
use mir.Syntax.{w32, w64}
use mir.Val.{SFits, to_z, of_z}
use mir.Facts.{sfits_widen, to_z-of_z}
use Rattle.std.specs.Prelude.{Option, None, Some, Result, SomeIff}
use Rattle.std.specs.Int.{CanDivide}
use Rattle.std.specs.Option.{ok_or}
use Rattle.rules.specs.Core.{Div, Mod}
use Rattle.rules.specs.Numbers.{dint, holds, between, low, high, is_zero}
use Rattle.rules.specs.Meaning.{val, stop, range, divide, fit, binop}
use Rattle.arith.specs.Exact.{ev_of}
use Rattle.arith.specs.declared.Trap.{Trap}
use Rattle.arith.specs.declared.Trap.TheVariants.{Range}

-- the range
and_true : (b : Bool) → b && true ≡ b
and_true true = refl
and_true false = refl

abbrev within : ℤ → Bool
within z = le_z (negsuc 2147483647) z && le_z z (pos 2147483647)

within_mag : (z : ℤ) → within z ≡ leb (mag z) 2147483647
within_mag (pos n) = refl
within_mag (negsuc n) = and_true (leb n 2147483647)

left_out : (z : ℤ) → 2147483647 < mag z → stop range ≡ fit dint z
unfolding fit holds between low high
left_out z h = rw (within_mag z, lt-leb (mag z) 2147483647 h, fit)

held : (z : ℤ) → mag z ≤ 2147483647 → val z ≡ fit dint z
unfolding fit holds between low high
held z h = rw (within_mag z, le-leb (mag z) 2147483647 h, fit)

-- a number fits, or it is out of range
pub unfit : (z : ℤ) → (SFits w32 z → ⊥) → 2147483647 < mag z
unfit z h = by (leb (mag z) 2147483647) refl
  where
    by : (t : Bool) → leb (mag z) 2147483647 ≡ t → 2147483647 < mag z
    by true e = absurd (h (record { sfits = let l = leb-true (mag z) 2147483647 e in omega arith }))
    by false e = leb-false (mag z) 2147483647 e

-- the number, or RANGE
pub answered : (o : Option ℤ) {r : Result ℤ Trap} (z : ℤ) → SomeIff o (SFits w32 z) z → r ≡ ok_or o Range → ev_of r ≡ fit dint z
answered (Some x) z h e = rw (e, h.1) (held z (let l = h.0.sfits in omega arith))
answered None z h e = rw e (left_out z (unfit z h))

-- ---- division: a test `b == 0` speaks of the number's bits
zero_bits : {b : ℤ} → SFits w32 b → of_z w32 b ≡ 0 → b ≡ pos 0
zero_bits f e = sym (to_z-of_z f) ∙ ap (to_z w32) e

pub by_zero : (a b : ℤ) → SFits w32 b → of_z w32 b ≡ 0 → (stop divide ≡ binop Div a b) × (stop divide ≡ binop Mod a b)
unfolding binop is_zero
by_zero a b f e = rw (zero_bits f e) (refl, refl)

not_zero : (b : ℤ) → (of_z w32 b ≡ 0 → ⊥) → is_zero b ≡ false
unfolding is_zero
not_zero (pos zero) h = absurd (h refl)
not_zero (pos (suc n)) h = ne_eqb (suc n) 0 (λ e. omega arith)
not_zero (negsuc n) h = refl

pub divided : (o : Option ℤ) {r : Result ℤ Trap} (a b : ℤ) → (of_z w32 b ≡ 0 → ⊥) → SomeIff o (CanDivide w32 a b) (quot_z a b) → r ≡ ok_or o Range → ev_of r ≡ binop Div a b
unfolding binop
divided (Some x) a b n h e = rw (not_zero b n, binop) (answered (Some x) (quot_z a b) (h.0.1, h.1) e)
divided None a b n h e = rw (not_zero b n, binop) (answered None (quot_z a b) (λ f. h (omega arith, f)) e)

-- `wide` keeps a number, as the machine reads it back
wide_back : {x a : ℤ} → SFits w32 a → x ≡ to_z w32 (of_z w32 a) → to_z w64 (of_z w64 x) ≡ a
wide_back f e = rw (e, to_z-of_z f) (to_z-of_z {w = w64} (sfits_widen tt f))

pub left_over : {x y : ℤ} (a b : ℤ) → (of_z w32 b ≡ 0 → ⊥) → SFits w32 a → SFits w32 b → x ≡ to_z w32 (of_z w32 a) → y ≡ to_z w32 (of_z w32 b)
    → val (to_z w32 (of_z w32 (to_z w64 (of_z w64 (rem_z (to_z w64 (of_z w64 x)) (to_z w64 (of_z w64 y))))))) ≡ binop Mod a b
unfolding binop
left_over a b n f g e h =
    let m : SFits w32 (rem_z a b) = record { sfits = let l = f.sfits in omega (arith, mag_rem a b) } in
    rw (wide_back f e, wide_back g h, to_z-of_z {w = w64} (sfits_widen tt m), to_z-of_z m, not_zero b n, binop) (held (rem_z a b) (let l = m.sfits in omega arith))
