-- Cells of tokens, and cells behind cells. Assumes nothing.
use mathlib.Core.Path.{◌≡◌, refl, sym, ap, ◌∙◌}
use mathlib.Core.List.{List, [], ◌∷◌, ◌++◌}
use Prim.Native.Nat.{ℕ, zero, suc, ◌+◌, ◌*◌, ◌≤◌}
use native.Mathlib.Nat.{add-zero, add-suc, suc-add}
use native.Mathlib.Omega.{arith}
use lib.ListN.{length, drop, take, set, get_or, length-take, drop_of_length-le}
use lib.Seq.{sets, get_or-drop, drop-drop}
use Rattle.rules.specs.Tokens.{Token, plain}
use Rattle.rules.specs.Syntax.{next, rest}
use Rattle.rules.specs.Cells.{cells, token_cell, cell, datum}
use Rattle.parse.specs.Steps.{token_at, At}
use Rattle.parse.specs.Reading.{Ahead}

-- what is stored behind some stores is stored with them
pub sets_append : (l : List ℕ) (i : ℕ) (xs ys : List ℕ) → sets (sets l i xs) (i + length xs) ys ≡ sets l i (xs ++ ys)
sets_append l i [] ys = rw add-zero
sets_append l i (x ∷ xs) ys = rw (add-suc, ← suc-add) (sets_append (set l i x) (suc i) xs ys)

-- a store behind a part leaves the part
take-set : (l : List ℕ) (i k x : ℕ) → k ≤ i → take k (set l i x) ≡ take k l
take-set l i zero x h = refl
take-set [] i (suc k) x h = refl
take-set (y ∷ l) zero (suc k) x h = absurd (omega arith)
take-set (y ∷ l) (suc i) (suc k) x h = ap (λ w. y ∷ w) (take-set l i k x (omega arith))

pub take-sets : (l : List ℕ) (i : ℕ) (xs : List ℕ) (k : ℕ) → k ≤ i → take k (sets l i xs) ≡ take k l
take-sets l i [] k h = refl
take-sets l i (x ∷ xs) k h = take-sets (set l i x) (suc i) xs k (omega arith) ∙ take-set l i k x h

-- the next token's numbers are the first three ahead
first : (us : List Token) → (get_or (cells us) 0 0 ≡ (next us).kind) × (get_or (cells us) 1 0 ≡ (next us).place) × (get_or (cells us) 2 0 ≡ datum (next us))
unfolding cells token_cell cell next datum plain
first [] = (refl, refl, refl)
first (t ∷ us) = (refl, refl, refl)

pub ahead_next : (n : ℕ) (m : List ℕ) (j a : ℕ) (us : List Token) → Ahead n m j us
    → token_at m (At n j a) ≡ record { tag = (next us).kind; place = (next us).place; datum = datum (next us) }
unfolding token_at
ahead_next n m j a us h =
    let f = first us in
    let k : get_or (take (3 * n) m) (3 * j) 0 ≡ (next us).kind = rw (← (add-zero (3 * j)), ← (get_or-drop (3 * j) (take (3 * n) m) 0 0), h.lie) f.0 in
    let p : get_or (take (3 * n) m) (3 * j + 1) 0 ≡ (next us).place = rw (← (get_or-drop (3 * j) (take (3 * n) m) 1 0), h.lie) f.1 in
    let d : get_or (take (3 * n) m) (3 * j + 2) 0 ≡ datum (next us) = rw (← (get_or-drop (3 * j) (take (3 * n) m) 2 0), h.lie) f.2 in
    rw (k, p, d)

-- past it are the tokens that are left
drop-cell : (us : List Token) → drop 3 (cells us) ≡ cells (rest us)
unfolding cells token_cell cell rest
drop-cell [] = refl
drop-cell (t ∷ us) = refl

pub ahead_rest : (n : ℕ) (m : List ℕ) (j : ℕ) (us : List Token) → Ahead n m j us → Ahead n m (j + 1) (rest us)
ahead_rest n m j us h =
    let q : 3 * (j + 1) ≡ 3 * j + 3 = omega arith in
    record { lie = rw (q, ← (drop-drop 3 (3 * j) (take (3 * n) m)), h.lie) (drop-cell us) }

-- where there is no next token, none are left
no_cells : (us : List Token) → [] ≡ cells us → cells (rest us) ≡ []
unfolding cells token_cell cell rest
no_cells [] e = refl
no_cells (t ∷ us) e = let z : ◌≡◌ {A = ℕ} 0 1 = cc in absurd (omega arith)

pub ahead_end : (n : ℕ) (m : List ℕ) (j : ℕ) (us : List Token) → n ≤ j → Ahead n m j us → Ahead n m j (rest us)
ahead_end n m j us le h =
    let short : length (take (3 * n) m) ≤ 3 * j = rw (length-take (3 * n) m) (omega arith) in
    let q : drop (3 * j) (take (3 * n) m) ≡ [] = drop_of_length-le (take (3 * n) m) short in
    record { lie = q ∙ sym (no_cells us (sym q ∙ h.lie)) }

-- the tokens are where they were, before what is written
pub kept : {n : ℕ} {m₀ m : List ℕ} (at : ℕ) (v : List ℕ) {j : ℕ} {us : List Token} → 3 * n ≤ at → m ≡ sets m₀ at v → Ahead n m₀ j us → Ahead n m j us
kept {n} {m₀} at v b e h = record { lie = rw (e, take-sets m₀ at v (3 * n) b) h.lie }

pub back : {n : ℕ} {m₀ m : List ℕ} (at : ℕ) (v : List ℕ) {j : ℕ} {us : List Token} → 3 * n ≤ at → m ≡ sets m₀ at v → Ahead n m j us → Ahead n m₀ j us
back {n} {m₀} at v b e h = record { lie = rw (e, take-sets m₀ at v (3 * n) b) at h.lie }
