-- The cell that lies first, and what lies behind it. Assumes nothing.
use mathlib.Core.Path.{◌≡◌, refl}
use mathlib.Core.List.{List, ◌∷◌}
use Prim.Native.Nat.{ℕ, ◌+◌}
use Rattle.rules.specs.Cells.{cell}
use Rattle.cells.specs.Reading.{cell_in, behind, Lies}
use Rattle.cells.specs.Laws.{cell_lies, behind_cell}

module _ {m : List ℕ} {i t p d : ℕ} {w : List ℕ} where
  pub head : Lies m i (t ∷ p ∷ d ∷ w) → cell_in m i ≡ record { tag = t; place = p; datum = d }
  unfolding cell
  head y = cell_lies t p d w y

  pub tail : {j : ℕ} → j ≡ behind m i → Lies m i (t ∷ p ∷ d ∷ w) → (j ≡ i + 3) × Lies m j w
  unfolding cell
  tail e y = let b = behind_cell t p d w y in rw (e, b.0) (refl, b.1)
