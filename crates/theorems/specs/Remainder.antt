-- MOD is what the rules say: the remainder is the dividend less the truncated exact quotient times the divisor.
use Rattle.std.specs.Prelude.{◌≡◌, refl, Bool, true, false, cond, ℕ, zero, suc, ◌-◌, ◌*◌, ◌/◌, ◌≤◌, ltb, ℤ, pos, negsuc, neg_ℤ, ◌+ℤ◌, ◌-ℤ◌, ◌*ℤ◌}
use Rattle.std.proofs.Common.{sym, ap, ◌∙◌, div-add-mod', zero-mul, arith}
use Rattle.std.proofs.Math.Nat.{mod-eq-sub-div-mul}
use Rattle.std.proofs.Math.IntN.{neg_ℤ-neg_ℤ}
use Rattle.std.specs.Int.Signed.{quot_z, rem_z}
use Rattle.rules.specs.Core.{Mod}
use Rattle.rules.specs.Numbers.{dint, is_zero}
use Rattle.rules.specs.Meaning.{fit, binop}
use Rattle.theorems.specs.Tests.{ltb-t, ltb-f, ltb_no}

pos_less : (n k : ℕ) → k ≤ n → pos n +ℤ neg_ℤ (pos k) ≡ pos (n - k)
pos_less n zero h = ap pos (omega arith)
pos_less n (suc k) h = rw (ltb_no n (suc k) h)

neg-times : (q m : ℕ) → neg_ℤ (pos q) *ℤ negsuc m ≡ pos (q * suc m)
neg-times zero m = rw (zero-mul (suc m))
neg-times (suc q) m = refl

neg-times-pos : (q m : ℕ) → neg_ℤ (pos q) *ℤ pos m ≡ neg_ℤ (pos (q * m))
neg-times-pos zero m = rw (zero-mul m)
neg-times-pos (suc q) m = refl

neg_more : (a k : ℕ) → k ≤ suc a → negsuc a +ℤ pos k ≡ neg_ℤ (pos (suc a - k))
neg_more a k h = go (ltb k (suc a)) refl
  where
    go : (t : Bool) → ltb k (suc a) ≡ t → cond t (negsuc (suc a - suc k)) (pos (k - suc a)) ≡ neg_ℤ (pos (suc a - k))
    go true e =
        let d : suc a - k ≡ suc (suc a - suc k) = omega (arith, ltb-t k (suc a) e) in
        rw d
    go false e =
        let d : suc a - k ≡ 0 = omega (arith, ltb-f k (suc a) e) in
        let z : k - suc a ≡ 0 = omega (arith, ltb-f k (suc a) e) in
        rw (d, z)

less : (n m : ℕ) → n / m * m ≤ n
less n m = omega (arith, div-add-mod' n m)

rem_law : (a b : ℤ) → a -ℤ quot_z a b *ℤ b ≡ rem_z a b
rem_law (pos n) (pos m) = pos_less n (n / m * m) (less n m) ∙ ap pos (sym (mod-eq-sub-div-mul n m))
rem_law (pos n) (negsuc m) = rw (neg-times (n / suc m) m) (pos_less n (n / suc m * suc m) (less n (suc m)) ∙ ap pos (sym (mod-eq-sub-div-mul n (suc m))))
rem_law (negsuc a) (pos m) =
    rw (neg-times-pos (suc a / m) m, neg_ℤ-neg_ℤ (pos (suc a / m * m))) (neg_more a (suc a / m * m) (less (suc a) m) ∙ ap (λ (k : ℕ). neg_ℤ (pos k)) (sym (mod-eq-sub-div-mul (suc a) m)))
rem_law (negsuc a) (negsuc m) =
    rw (neg_ℤ-neg_ℤ (pos (suc a / suc m * suc m))) (neg_more a (suc a / suc m * suc m) (less (suc a) (suc m)) ∙ ap (λ (k : ℕ). neg_ℤ (pos k)) (sym (mod-eq-sub-div-mul (suc a) (suc m))))

pub remainder : (a b : ℤ) → is_zero b ≡ false → binop Mod a b ≡ fit dint (a -ℤ quot_z a b *ℤ b)
unfolding binop
remainder a b h = rw (h, binop) (ap (fit dint) (sym (rem_law a b)))
