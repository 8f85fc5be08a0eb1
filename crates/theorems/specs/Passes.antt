-- The number of passes that the worst case takes for a FOR is exact: it follows the rule, pass by pass.
use Rattle.std.specs.Prelude.{◌≢◌, ◌≡◌, refl, Bool, true, false, ℕ, zero, suc, ◌+◌, ◌-◌, ◌/◌, ◌≤◌, ◌<◌, ltb, ℤ, pos, negsuc, ◌+ℤ◌, ◌-ℤ◌}
use Rattle.std.proofs.Common.{sym, ap, ◌∙◌, arith}
use Rattle.std.proofs.Math.Nat.{add-div_right, div-eq_of_lt}
use Rattle.std.proofs.Math.IntN.{sub_ℕ, +ℤ_assoc, +ℤ_comm, +ℤ-neg_ℤ_cancel, -ℤ-+ℤ_cancel}
use Rattle.std.specs.Int.Signed.{lt_z}
use Rattle.rules.specs.Meaning.{passes}
use Rattle.rules.specs.Worst.{to_nat, pass_count}
use Rattle.theorems.specs.Tests.{ltb-t, ltb-f, lt-ltb, ltb_no}

-- Differences

subℕ_ge : (a b : ℕ) → b ≤ a → sub_ℕ a b ≡ pos (a - b)
subℕ_ge a b h = rw (ltb_no a b h)

subℕ_lt : (a b : ℕ) → a < b → sub_ℕ a b ≡ negsuc (b - suc a)
subℕ_lt a b h = rw (lt-ltb a b h)

pub le-diff : (a b : ℤ) → lt_z b a ≡ false → (m : ℕ) × (b ≡ a +ℤ pos m)
le-diff (pos a) (pos b) e = let h = ltb-f b a e in (b - a, ap pos (omega arith))
le-diff (pos a) (negsuc b) e = let z : ◌≡◌ {A = ℕ} 0 1 = cc in absurd (omega arith)
le-diff (negsuc a) (pos b) e = (b + suc a, sym (subℕ_ge (b + suc a) (suc a) (omega arith) ∙ ap pos (omega arith)))
le-diff (negsuc a) (negsuc b) e = let h = ltb-f a b e in (a - b, sym (subℕ_lt (a - b) (suc a) (omega arith) ∙ ap negsuc (omega arith)))

pub not_lt : (x : ℤ) (m : ℕ) → lt_z (x +ℤ pos m) x ≡ false
not_lt (pos a) m = ltb_no (a + m) a (omega arith)
not_lt (negsuc a) m = by (ltb m (suc a)) refl
  where
    by : (d : Bool) → ltb m (suc a) ≡ d → lt_z (sub_ℕ m (suc a)) (negsuc a) ≡ false
    by true e = let h = ltb-t m (suc a) e in rw (subℕ_lt m (suc a) h) (ltb_no a (suc a - suc m) (omega arith))
    by false e = let h = ltb-f m (suc a) e in rw (subℕ_ge m (suc a) h)

diff : (x : ℤ) (m : ℕ) → (x +ℤ pos m) -ℤ x ≡ pos m
diff x m = rw (+ℤ_comm x (pos m)) (+ℤ-neg_ℤ_cancel (pos m) x)

-- The count, from the difference of the bounds

count_up : (x : ℤ) (n m : ℕ) → pass_count x (x +ℤ pos m) (pos n) ≡ m / n + 1
unfolding pass_count to_nat
count_up x n m = rw (not_lt x m, pass_count) (rw (diff x m))

count_down : (y : ℤ) (r m : ℕ) → pass_count (y +ℤ pos m) y (negsuc r) ≡ m / suc r + 1
unfolding pass_count to_nat
count_down y r m = rw (not_lt y m, pass_count) (rw (diff y m))

pub count_one : (d y x : ℤ) → passes d x y ≡ false → 1 ≤ pass_count x y d
unfolding passes
count_one (pos n) y x e = let q = le-diff x y e in rw (q.1, count_up x n q.0) (omega arith)
count_one (negsuc r) y x e = let q = le-diff y x e in rw (q.1, count_down y r q.0) (omega arith)

more_up : (y x : ℤ) (n m : ℕ) → y ≡ (x +ℤ pos (suc n)) +ℤ pos m → pass_count x y (pos (suc n)) ≡ suc (pass_count (x +ℤ pos (suc n)) y (pos (suc n)))
more_up y x n m q =
    let two : y ≡ x +ℤ pos (m + suc n) = q ∙ +ℤ_assoc x (pos (suc n)) (pos m) ∙ ap (λ j. x +ℤ pos j) (omega arith) in
    let a : pass_count (x +ℤ pos (suc n)) y (pos (suc n)) ≡ m / suc n + 1 = ap (λ j. pass_count (x +ℤ pos (suc n)) j (pos (suc n))) q ∙ count_up (x +ℤ pos (suc n)) (suc n) m in
    let b : pass_count x y (pos (suc n)) ≡ (m + suc n) / suc n + 1 = ap (λ j. pass_count x j (pos (suc n))) two ∙ count_up x (suc n) (m + suc n) in
    omega (arith, a, b, add-div_right m {k = suc n} (omega arith))

more_down : (y x : ℤ) (r m : ℕ) → x +ℤ negsuc r ≡ y +ℤ pos m → pass_count x y (negsuc r) ≡ suc (pass_count (x +ℤ negsuc r) y (negsuc r))
more_down y x r m q =
    let two : x ≡ y +ℤ pos (m + suc r) = sym (-ℤ-+ℤ_cancel x (pos (suc r))) ∙ ap (λ j. j +ℤ pos (suc r)) q ∙ +ℤ_assoc y (pos m) (pos (suc r)) in
    let a : pass_count (x +ℤ negsuc r) y (negsuc r) ≡ m / suc r + 1 = ap (λ j. pass_count j y (negsuc r)) q ∙ count_down y r m in
    let b : pass_count x y (negsuc r) ≡ (m + suc r) / suc r + 1 = ap (λ j. pass_count j y (negsuc r)) two ∙ count_down y r (m + suc r) in
    omega (arith, a, b, add-div_right m {k = suc r} (omega arith))

-- a step that passes is longer than the difference
below_up : (x : ℤ) (m n : ℕ) → lt_z (x +ℤ pos m) (x +ℤ pos n) ≡ true → m < n
below_up x m n e = by (ltb m n) refl
  where
    by : (d : Bool) → ltb m n ≡ d → m < n
    by true h = ltb-t m n h
    by false h =
        let f = ltb-f m n h in
        let q : x +ℤ pos m ≡ (x +ℤ pos n) +ℤ pos (m - n) = ap (λ j. x +ℤ pos j) (omega arith) ∙ sym (+ℤ_assoc x (pos n) (pos (m - n))) in
        let w : lt_z (x +ℤ pos m) (x +ℤ pos n) ≡ false = rw q (not_lt (x +ℤ pos n) (m - n)) in
        let z : ◌≡◌ {A = ℕ} 0 1 = cc in absurd (omega arith)

below_down : (y : ℤ) (m r : ℕ) → lt_z ((y +ℤ pos m) +ℤ negsuc r) y ≡ true → m < suc r
below_down y m r e = by (ltb m (suc r)) refl
  where
    by : (d : Bool) → ltb m (suc r) ≡ d → m < suc r
    by true h = ltb-t m (suc r) h
    by false h =
        let f = ltb-f m (suc r) h in
        let q : (y +ℤ pos m) +ℤ negsuc r ≡ y +ℤ pos (m - suc r) = +ℤ_assoc y (pos m) (negsuc r) ∙ ap (λ j. y +ℤ j) (subℕ_ge m (suc r) f) in
        let w : lt_z ((y +ℤ pos m) +ℤ negsuc r) y ≡ false = rw q (not_lt y (m - suc r)) in
        let z : ◌≡◌ {A = ℕ} 0 1 = cc in absurd (omega arith)

-- The rule, pass by pass: these three say what the count is for any bounds and step

-- no body runs if the initial value already passes the final one
pub count_none : (d y x : ℤ) → passes d x y ≡ true → pass_count x y d ≡ 0
unfolding passes pass_count
count_none (pos n) y x e = rw (e, pass_count)
count_none (negsuc n) y x e = rw (e, pass_count)

-- one body runs if the next value passes it
pub count_last : (d y x : ℤ) → passes d x y ≡ false → passes d (x +ℤ d) y ≡ true → pass_count x y d ≡ 1
unfolding passes
count_last (pos n) y x e f =
    let q = le-diff x y e in
    let h = below_up x q.0 n (rw q.1 at f) in
    rw (q.1, count_up x n q.0) (rw (div-eq_of_lt h))
count_last (negsuc r) y x e f =
    let q = le-diff y x e in
    let h = below_down y q.0 r (rw q.1 at f) in
    rw (q.1, count_down y r q.0) (rw (div-eq_of_lt h))

-- else one more than from the next value
pub count_more : (d y x : ℤ) → d ≢ pos 0 → passes d (x +ℤ d) y ≡ false → pass_count x y d ≡ suc (pass_count (x +ℤ d) y d)
unfolding passes
count_more (pos zero) y x n e = absurd (n refl)
count_more (pos (suc n)) y x nz e = let q = le-diff (x +ℤ pos (suc n)) y e in more_up y x n q.0 q.1
count_more (negsuc r) y x nz e = let q = le-diff y (x +ℤ negsuc r) e in more_down y x r q.0 q.1
