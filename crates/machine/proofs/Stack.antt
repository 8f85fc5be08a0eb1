-- The stack as a list, top first: what a push, a pop and a read at the top make of it. Assumes nothing.
use mathlib.Core.Path.{◌≡◌, refl, ap, ◌∙◌}
use mathlib.Core.List.{List, [], ◌∷◌}
use Prim.Native.Nat.{ℕ, zero, suc, ◌+◌, ◌-◌, ◌≤◌, ◌<◌}
use native.Mathlib.Numerals.{add-one}
use native.Mathlib.Omega.{arith}
use lib.IntN.{ℤ, pos}
use lib.ListN.{length, get_or, set}
use lib.Seq.{get_or-set_same, get_or-set_other}
use lib.Signed.{mag}
use mir.Syntax.{w32}
use mir.Val.{to_z, of_z}
use mir.Facts.{to_z-of_z}
use borrow.Author.Rules.{sfits_of}
use Rattle.rules.specs.Numbers.{between}
use Rattle.rules.specs.Core.{Bin}
use Rattle.rules.specs.Meaning.{Ev, binop}
use Rattle.rules.specs.Machine.{push_e}
use Rattle.std.specs.Prelude.{Result, Ok, Err, IsErrAnd}
use Rattle.rules.specs.Meaning.{Table}
use Rattle.machine.specs.Stepping.{View, down, holding, pushed, top_of, below, only, going, after}
use Rattle.machine.specs.declared.Stop.{Stop}

pub down_set : (xs : List ℤ) (n k : ℕ) (v : ℤ) → n ≤ k → down (set xs k v) n ≡ down xs n
down_set xs zero k v h = refl
down_set xs (suc n) k v h =
    let ne : (n ≡ k → ⊥) = λ e. omega arith in
    let le : n ≤ k = omega arith in
    rw (down_set xs n k v le, get_or-set_other xs k n v (pos 0) ne)

pub down_push : (xs : List ℤ) (k : ℕ) (v : ℤ) → k < length xs → down (set xs k v) (k + 1) ≡ v ∷ down xs k
down_push xs k v h = rw (add-one k, get_or-set_same xs k v (pos 0) h, down_set xs k k v (omega arith))

less : (n : ℕ) → suc n - 1 ≡ n
less n = omega arith

pub down_at : (xs : List ℤ) (h d : ℕ) → d < h → get_or xs (h - 1 - d) (pos 0) ≡ get_or (down xs h) d (pos 0)
down_at xs zero d p = absurd (omega arith)
down_at xs (suc n) zero p = ap (λ (i : ℕ). get_or xs i (pos 0)) (let e : suc n - 1 - 0 ≡ n = omega arith in e)
down_at xs (suc n) (suc d) p = ap (λ (i : ℕ). get_or xs i (pos 0)) (let e : suc n - 1 - suc d ≡ n - 1 - d = omega arith in e) ∙ down_at xs n d (omega arith)

-- the second value is the top of what is below the first
pub second : (s : List ℤ) → get_or s 1 (pos 0) ≡ top_of (below s)
second [] = refl
second (z ∷ s) = refl

pub down_length : (xs : List ℤ) (h : ℕ) → length (down xs h) ≡ h
down_length xs zero = refl
down_length xs (suc n) = ap suc (down_length xs n)

-- a number of 32 bits is read back from its bits
pub back : {z : ℤ} → mag z < 2147483648 → to_z w32 (of_z w32 z) ≡ z
back h = to_z-of_z {w = w32} (sfits_of h)

-- what a part makes of equal values is equal
pub pushed_same : {u v : ℤ} {s t : View} → u ≡ v → s ≡ t → pushed u s ≡ pushed v t
pushed_same p q = rw (p, q)

-- how high the stack is, as the list
pub deep : (xs : List ℤ) (h n : ℕ) → n < h → suc n ≤ length (down xs h)
deep xs h n p = rw (down_length xs h) (omega arith)

pub shallow : (xs : List ℤ) (h n : ℕ) → h ≤ n → length (down xs h) < suc n
shallow xs h n p = rw (down_length xs h) (omega arith)

-- a call's error is the run's
pub ended : {A : Type 0} (r : Result A Stop) {e : Stop} (k : Stop) → IsErrAnd r (λ s. s ≡ e) → e ≡ k → r ≡ Err k
ended (Ok u) k h p = absurd h
ended (Err s) k h p = ap Err (h ∙ p)

-- what goes on from the same goes on to the same
pub moved : (t : Table) {u w : View} → u ≡ w → only t (going u) ≡ only t (going w)
moved t e = ap (λ (w : View). only t (going w)) e

-- a machine that is another but for its stack may go on
pub still : {u v : View} (n : ℕ) → u ≡ v → v.at + n < 18446744073709551616 → u.at + n < 18446744073709551616
still n e h = rw (ap (λ (v : View). v.at) e) h

-- the same of equal parts
pub answer_same : (b : ℕ) (t : List ℤ) (s : View) {e f : Ev} {l k : List ℤ} → e ≡ f → l ≡ k → after b s t (push_e e (s.at + 1) l s.held t) ≡ after b s t (push_e f (s.at + 1) k s.held t)
answer_same b t s p q = rw (p, q)

pub binop_same : (o : Bin) {u v x y : ℤ} → u ≡ v → x ≡ y → binop o u x ≡ binop o v y
binop_same o p q = rw (p, q)

pub holding_same : (k : ℕ) {u v : ℤ} {s t : View} → u ≡ v → s ≡ t → holding k u s ≡ holding k v t
holding_same k p q = rw (p, q)

pub spans_same : {a b c d e f : ℤ} → a ≡ b → c ≡ d → e ≡ f → between a e c ≡ between b f d
spans_same p q r = rw (p, q, r)
