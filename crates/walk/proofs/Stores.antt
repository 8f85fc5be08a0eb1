-- Stores and what lies before and behind them. Assumes nothing.
use mathlib.Core.Path.{◌≡◌, refl, sym, ap, ◌∙◌}
use mathlib.Core.List.{List, [], ◌∷◌, ◌++◌}
use Prim.Native.Nat.{ℕ, zero, suc, ◌+◌, ◌≤◌}
use native.Mathlib.Nat.{add-zero, add-suc, suc-add}
use native.Mathlib.Omega.{arith}
use lib.ListN.{length, drop, take, set}
use lib.Seq.{sets, drop-drop}

-- what is stored behind some stores is stored with them
pub sets_append : (l : List ℕ) (i : ℕ) (xs ys : List ℕ) → sets (sets l i xs) (i + length xs) ys ≡ sets l i (xs ++ ys)
sets_append l i [] ys = rw add-zero
sets_append l i (x ∷ xs) ys = rw (add-suc, ← suc-add) (sets_append (set l i x) (suc i) xs ys)

-- a store behind a part leaves the part
take-set : (l : List ℕ) (i k x : ℕ) → k ≤ i → take k (set l i x) ≡ take k l
take-set l i zero x h = refl
take-set [] i (suc k) x h = refl
take-set (y ∷ l) zero (suc k) x h = absurd (omega arith)
take-set (y ∷ l) (suc i) (suc k) x h = ap (λ w. y ∷ w) (take-set l i k x (omega arith))

pub take-sets : (l : List ℕ) (i : ℕ) (xs : List ℕ) (k : ℕ) → k ≤ i → take k (sets l i xs) ≡ take k l
take-sets l i [] k h = refl
take-sets l i (x ∷ xs) k h = take-sets (set l i x) (suc i) xs k (omega arith) ∙ take-set l i k x h

-- a store before a part leaves the part
drop-set : (l : List ℕ) (i k x : ℕ) → suc i ≤ k → drop k (set l i x) ≡ drop k l
drop-set l i zero x h = absurd (omega arith)
drop-set [] i (suc k) x h = refl
drop-set (y ∷ l) zero (suc k) x h = refl
drop-set (y ∷ l) (suc i) (suc k) x h = drop-set l i k x (omega arith)

pub drop-sets : (l : List ℕ) (i : ℕ) (xs : List ℕ) (k : ℕ) → i + length xs ≤ k → drop k (sets l i xs) ≡ drop k l
drop-sets l i [] k h = refl
drop-sets l i (x ∷ xs) k h = drop-sets (set l i x) (suc i) xs k (omega arith) ∙ drop-set l i k x (omega arith)

-- stores within a beginning are stores in it
take_of_set : (l : List ℕ) (i k x : ℕ) → take k (set l i x) ≡ set (take k l) i x
take_of_set l i zero x = refl
take_of_set [] i (suc k) x = refl
take_of_set (y ∷ l) zero (suc k) x = refl
take_of_set (y ∷ l) (suc i) (suc k) x = ap (λ w. y ∷ w) (take_of_set l i k x)

pub take_of_sets : (l : List ℕ) (i : ℕ) (xs : List ℕ) (k : ℕ) → take k (sets l i xs) ≡ sets (take k l) i xs
take_of_sets l i [] k = refl
take_of_sets l i (x ∷ xs) k = take_of_sets (set l i x) (suc i) xs k ∙ ap (λ w. sets w (suc i) xs) (take_of_set l i k x)

-- the part behind some of what lies ahead
drop_front : (xs ys : List ℕ) → drop (length xs) (xs ++ ys) ≡ ys
drop_front [] ys = refl
drop_front (x ∷ xs) ys = drop_front xs ys

pub behind_part : (l : List ℕ) (i : ℕ) (xs ys : List ℕ) → drop i l ≡ xs ++ ys → drop (i + length xs) l ≡ ys
behind_part l i xs ys e = sym (drop-drop (length xs) i l) ∙ ap (drop (length xs)) e ∙ drop_front xs ys

-- as many numbers lie there
take-take : (j k : ℕ) (l : List ℕ) → j ≤ k → take j (take k l) ≡ take j l
take-take zero k l h = refl
take-take (suc j) zero l h = absurd (omega arith)
take-take (suc j) (suc k) [] h = refl
take-take (suc j) (suc k) (x ∷ l) h = ap (λ w. x ∷ w) (take-take j k l (omega arith))

pub start_of_take : (j k : ℕ) (l : List ℕ) → j ≤ k → take j (take k l) ≡ take j l
start_of_take = take-take
