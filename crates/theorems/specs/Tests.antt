-- What a test that holds, or does not, says of the numbers tested.
use Rattle.std.specs.Prelude.{◌≡◌, refl, Bool, true, false, not, ◌&&◌, ℕ, ◌≤◌, ◌<◌, T, ltb, leb, eqb}
use Rattle.std.proofs.Common.{arith, ltb→lt, nltb→le, lt→ltb, leb→le, le→leb, eqb→eq}
use Rattle.std.proofs.Math.Dec.{eqb_refl}

pub T_true : (b : Bool) → T b → b ≡ true
T_true true h = refl
T_true false h = elim h [ ]

pub ltb-t : (m n : ℕ) → ltb m n ≡ true → m < n
ltb-t m n e = ltb→lt m n (rw e tt)

pub ltb-f : (m n : ℕ) → ltb m n ≡ false → n ≤ m
ltb-f m n e = nltb→le m n (rw e tt)

pub lt-ltb : (m n : ℕ) → m < n → ltb m n ≡ true
lt-ltb m n h = T_true (ltb m n) (lt→ltb m n h)

pub ltb_no : (m n : ℕ) → n ≤ m → ltb m n ≡ false
ltb_no m n h = by (ltb m n) refl
  where
    by : (d : Bool) → ltb m n ≡ d → d ≡ false
    by true e = let q = ltb-t m n e in absurd (omega arith)
    by false e = refl

pub leb-t : (m n : ℕ) → leb m n ≡ true → m ≤ n
leb-t m n e = leb→le m n (rw e tt)

pub le-leb : (m n : ℕ) → m ≤ n → leb m n ≡ true
le-leb m n h = T_true (leb m n) (le→leb m n h)

pub eqb_t : (m n : ℕ) → eqb m n ≡ true → m ≡ n
eqb_t m n e = eqb→eq m n (rw e tt)

pub eq-eqb : (m n : ℕ) → m ≡ n → eqb m n ≡ true
eq-eqb m n e = rw e (T_true (eqb n n) (eqb_refl n))

pub not-true : (b : Bool) → not b ≡ true → b ≡ false
not-true true e = cc
not-true false e = refl

pub and_l : (a b : Bool) → a && b ≡ true → a ≡ true
and_l true b e = refl
and_l false b e = cc

pub and_r : (a b : Bool) → a && b ≡ true → b ≡ true
and_r true b e = e
and_r false b e = cc
