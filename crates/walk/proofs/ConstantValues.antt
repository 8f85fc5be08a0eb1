-- The values of constants as unsigned numbers, and the tags that constants start with. Assumes nothing.
use mathlib.Core.Path.{◌≡◌, refl, ap}
use mathlib.Core.Bool.{Bool, true, false}
use Prim.Native.Nat.{ℕ, zero, suc, ◌+◌, ◌-◌, ◌%◌, ◌<◌}
use native.Mathlib.Omega.{arith}
use lib.Dec.{eqb, ltb}
use lib.IntN.{ℤ, pos, negsuc, neg_ℤ}
use lib.Signed.{mag}
use Rattle.std.proofs.Common.{w32, to_z}
use Rattle.std.proofs.lemmas.Int.{to_z_pos}
use borrow.Author.Tests.{ne_eqb, leb-true, ltb-true}
use Rattle.rules.specs.Base.{ok, need}
use Rattle.rules.specs.Numbers.{Ty, dint, same_ty, is_zero, of_bool}
use Rattle.rules.specs.Bytes.{to_u, of_u}
use Rattle.rules.specs.Kinds.{DINT, TRUE, FALSE, PLUS, MINUS}
use Rattle.rules.specs.Syntax.{Con, con_bool, con_int}
use Rattle.rules.specs.Walk.{largest, con_value, exact}
use Rattle.rules.specs.Cells.{type_kind}
use Rattle.theorems.specs.Decoding.{of_u-to_u}
use Rattle.walk.specs.Constants.{is_constant}
use Rattle.walk.proofs.KindTables.{same_kind}

-- the number of an integer behind `-`
pub negative-bits : (b v : ℕ) → b < 4294967296 → v < 4294967296 → (b + v) % 4294967296 ≡ 0 → b ≡ to_u (neg_ℤ (pos v))
unfolding to_u
negative-bits b zero h k e = omega arith
negative-bits b (suc n) h k e = omega arith

-- no other tag starts a constant
pub none-starts : (k : ℕ) → (k ≡ TRUE → ⊥) → (k ≡ FALSE → ⊥) → (k ≡ PLUS → ⊥) → (k ≡ MINUS → ⊥) → is_constant k ≡ false
unfolding is_constant
none-starts k t f p m = rw (ne_eqb k TRUE t, ne_eqb k FALSE f, ne_eqb k PLUS p, ne_eqb k MINUS m)

-- types as kinds
pub dint-kind : (t : Ty) → eqb (type_kind t) DINT ≡ same_ty t dint
unfolding type_kind
dint-kind t = same_kind t dint

-- a test that is passed holds
passes : (b : Bool) (n p : ℕ) → need b n p ≡ ok tt → b ≡ true
unfolding need
passes true n p e = refl
passes false n p e = let z : ◌≡◌ {A = ℕ} 0 1 = cc in absurd (omega arith)

-- a constant that is allowed fits 32 bits
exact_fits : (c : Con) → exact c ≡ ok tt → mag (con_value c) < 2147483648
unfolding exact con_value largest of_bool
exact_fits (con_bool p true) e = omega arith
exact_fits (con_bool p false) e = omega arith
exact_fits (con_int p false q v) e = let h = leb-true v 2147483647 (passes _ 4 q e) in omega arith
exact_fits (con_int p true q zero) e = omega arith
exact_fits (con_int p true q (suc n)) e = let h = leb-true (suc n) 2147483648 (passes _ 4 q e) in omega arith

-- its number gives it back
pub exact-value : (c : Con) → exact c ≡ ok tt → of_u (to_u (con_value c)) ≡ con_value c
exact-value c e = of_u-to_u (con_value c) (exact_fits c e)

-- its number is zero only where it is
pub exact-zero : (c : Con) → exact c ≡ ok tt → eqb (to_u (con_value c)) 0 ≡ is_zero (con_value c)
unfolding to_u is_zero
exact-zero c e = go (con_value c) (exact_fits c e)
  where
    go : (z : ℤ) → mag z < 2147483648 → eqb (to_u z) 0 ≡ is_zero z
    go (pos n) h = refl
    go (negsuc n) h = ne_eqb (4294967295 - n) 0 (λ e. omega arith)

-- an unsigned number read with its sign
pub signed : (n : ℕ) → n < 4294967296 → to_z w32 n ≡ of_u n
unfolding of_u
signed n f = go (ltb n 2147483648) refl
  where
    go : (b : Bool) → ltb n 2147483648 ≡ b → to_z w32 n ≡ elim b [ true ↦ pos n | false ↦ negsuc (4294967295 - n) ]
    go true e = to_z_pos w32 n (ltb-true _ _ e)
    go false e = rw e (ap negsuc (omega arith))
