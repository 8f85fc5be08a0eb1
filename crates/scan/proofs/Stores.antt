-- What is stored into a list behind other stores.
use Rattle.std.proofs.Common.{◌≡◌, List, [], ◌∷◌, ◌++◌, ℕ, suc, ◌+◌, length, set}
use Rattle.std.proofs.lemmas.List.Edits.{sets}
use native.Mathlib.Nat.{add-zero, add-suc, suc-add}
use Rattle.rules.specs.Cells.{cell}

-- what is stored behind some stores is stored with them
sets_append : (l : List ℕ) (i : ℕ) (xs ys : List ℕ) → sets (sets l i xs) (i + length xs) ys ≡ sets l i (xs ++ ys)
sets_append l i [] ys = rw add-zero
sets_append l i (x ∷ xs) ys = rw (add-suc, ← suc-add) (sets_append (set l i x) (suc i) xs ys)

-- what is stored behind a cell is stored with it, three numbers on
pub sets-cell : (l : List ℕ) (i tag place datum : ℕ) (ys : List ℕ)
    → sets (sets l i (cell tag place datum)) (i + 3) ys ≡ sets l i (cell tag place datum ++ ys)
unfolding cell
sets-cell l i tag place datum ys = sets_append l i (tag ∷ place ∷ datum ∷ []) ys
