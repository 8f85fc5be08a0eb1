-- Places that the code reads at only move on, and what a test says of the tag that lies there. Assumes nothing.
use mathlib.Core.Path.{◌≡◌, sym, ap, ◌∙◌}
use mathlib.Core.Bool.{Bool, true, false}
use mathlib.Core.List.{List}
use Prim.Native.Nat.{ℕ, ◌-◌, ◌≤◌}
use lib.Dec.{eqb}
use lib.ListN.{length}
use Rattle.std.proofs.lemmas.Bool.{eqb-true, eqb-false}
use Rattle.cells.specs.Reading.{cell_in, behind, Moves}
use Rattle.cells.specs.Laws.{behind_moves, tag_moves}

-- past a cell
pub past : (m : List ℕ) (i : ℕ) {j : ℕ} → j ≡ behind m i → Moves m i j
past m i e = rw e (behind_moves m i)

-- where a tag is read, a cell lies
pub room : (m : List ℕ) (i : ℕ) {t : ℕ} → (cell_in m i).tag ≡ t → (t ≡ 0 → ⊥) → 3 ≤ length m - i
room m i e h = tag_moves m i (λ z. h (sym e ∙ z))

-- the tag that is tested, in the same numbers

module _ (i : ℕ) {m n : List ℕ} {k : ℕ} {b : Bool} (same : n ≡ m) (test : b ≡ eqb (cell_in n i).tag k) where
  pub is_tag : b ≡ true → (cell_in m i).tag ≡ k
  is_tag e = ap (λ x. (cell_in x i).tag) (sym same) ∙ eqb-true _ _ (sym test ∙ e)

  pub is_other : b ≡ false → (cell_in m i).tag ≡ k → ⊥
  is_other e k = eqb-false _ _ (sym test ∙ e) (ap (λ x. (cell_in x i).tag) same ∙ k)
