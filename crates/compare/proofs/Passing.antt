-- FOR's test and step, and what equals: what the tests say of numbers that are read back from their bits. Assumes nothing.
use mathlib.Core.Path.{◌≡◌, refl, ◌∙◌}
use mathlib.Core.Bool.{Bool, true, false, ◌&&◌}
use Prim.Native.Nat.{ℕ, suc, ◌+◌, ◌-◌, ◌≤◌, ◌<◌}
use native.Mathlib.Omega.{arith}
use lib.Dec.{leb, ltb, eqb}
use lib.IntN.{ℤ, pos, negsuc, sub_ℕ, ◌+ℤ◌}
use lib.Signed.{mag, lt_z, le_z}
use borrow.Author.Tests.{le-leb, lt-ltb, ne_eqb}
use mir.Syntax.{w32}
use mir.Val.{SFits, to_z, of_z}
use mir.Facts.{to_z-of_z}
use Rattle.std.specs.Prelude.{cond, None, Some}
use Rattle.std.proofs.lemmas.Bool.Decides.{nat_tests}
use Rattle.rules.specs.Numbers.{eq_z, is_zero}
use Rattle.rules.specs.Meaning.{passes}
use Rattle.arith.proofs.Reach.{mag-cond}
use Rattle.arith.proofs.Fitting.{unfit}
use Rattle.compare.specs.Advancing.{advance_of}

both_ways : (a b : ℕ) → eqb a b ≡ (leb a b && leb b a)
both_ways a b = grind (arith, nat_tests)

-- numbers are equal if their bits are
pub bits_equal : (a b : ℤ) → SFits w32 a → SFits w32 b → eqb (of_z w32 a) (of_z w32 b) ≡ eq_z a b
unfolding eq_z
bits_equal (pos a) (pos b) f g = both_ways a b
bits_equal (pos a) (negsuc b) f g = ne_eqb a (4294967296 - suc b) (λ e. let l = f.sfits in let k = g.sfits in omega arith)
bits_equal (negsuc a) (pos b) f g = ne_eqb (4294967296 - suc a) b (λ e. let l = f.sfits in let k = g.sfits in omega arith)
bits_equal (negsuc a) (negsuc b) f g =
    let e : eqb (4294967296 - suc a) (4294967296 - suc b) ≡ eqb b a = let l = f.sfits in let k = g.sfits in grind (arith, nat_tests) in
    e ∙ both_ways b a

pub bits_zero : (a : ℤ) → SFits w32 a → eqb (of_z w32 a) 0 ≡ is_zero a
unfolding is_zero
bits_zero (pos n) f = refl
bits_zero (negsuc n) f = ne_eqb (4294967296 - suc n) 0 (λ e. let l = f.sfits in omega arith)

-- a step up passes when the last value is below
pub up : (v step last : ℤ) → le_z (pos 0) step ≡ true → lt_z last v ≡ passes step v last
unfolding passes
up v (pos n) last h = refl
up v (negsuc n) last h = cc

-- any other step passes when the last value is above
pub down : (v step last : ℤ) → le_z (pos 0) step ≡ false → lt_z v last ≡ passes step v last
unfolding passes
down v (pos n) last h = let e = le-leb 0 n (omega arith) in cc
down v (negsuc n) last h = refl

-- two numbers of different signs have a sum in range
tight : (a b : ℕ) → a < 2147483648 → b < 2147483648 → mag (sub_ℕ a (suc b)) ≤ 2147483647
tight a b p q = mag-cond (ltb a (suc b)) (negsuc (suc b - suc a)) (pos (a - suc b)) 2147483647 (omega arith) (omega arith)

-- a sum past the range passes any last value
beyond : (v step last : ℤ) → SFits w32 v → SFits w32 step → SFits w32 last → 2147483647 < mag (v +ℤ step) → passes step (v +ℤ step) last ≡ true
unfolding passes
beyond (pos a) (pos b) (pos c) p q r h = lt-ltb c (a + b) (omega arith)
beyond (pos a) (pos b) (negsuc c) p q r h = refl
beyond (negsuc a) (pos b) last p q r h = let y : ⊥ = omega (arith, tight b a q.sfits p.sfits) in absurd y
beyond (pos a) (negsuc b) last p q r h = let y : ⊥ = omega (arith, tight a b p.sfits q.sfits) in absurd y
beyond (negsuc a) (negsuc b) (pos c) p q r h = refl
beyond (negsuc a) (negsuc b) (negsuc c) p q r h = lt-ltb c (suc (a + b)) (omega arith)

-- a sum that does not fit ends the loop
pub ends : (v step last : ℤ) → SFits w32 v → SFits w32 step → SFits w32 last → (SFits w32 (v +ℤ step) → ⊥) → None ≡ advance_of v step last
unfolding advance_of
ends v step last p q r h = rw (beyond v step last p q r (unfit (v +ℤ step) h))

-- any other ends it if it passes, and else is the next value
pub stepped : {next : ℤ} (v step last : ℤ) (d : Bool) → SFits w32 step → SFits w32 last → SFits w32 (v +ℤ step) → next ≡ v +ℤ step
    → d ≡ passes (to_z w32 (of_z w32 step)) (to_z w32 (of_z w32 next)) (to_z w32 (of_z w32 last)) → cond d None (Some (to_z w32 (of_z w32 next))) ≡ advance_of v step last
unfolding advance_of
stepped v step last d p q r e h = rw (h, e, to_z-of_z p, to_z-of_z q, to_z-of_z r)
