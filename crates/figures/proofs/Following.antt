-- What lies behind an expression or a list that is read. Assumes nothing.
use mathlib.Core.Path.{◌≡◌, ap}
use mathlib.Core.List as L
use mathlib.Core.List.{◌++◌}
use Prim.Native.Nat.{ℕ, ◌+◌, ◌≤◌, max}
use native.Mathlib.Omega.{arith}
use lib.ListN.{length, length-append}
use Rattle.rules.specs.Core.{Expr, List}
use Rattle.rules.specs.Cells.{cell}
use Rattle.rules.specs.CoreCells.{held_cells, body_cells}
use Rattle.rules.specs.Depth.{height, depth_l}
use Rattle.rules.specs.Worst.{worst_l}
use Rattle.theorems.specs.Fields.{FitL}
use Rattle.theorems.specs.Levels.{nest_l}
use Rattle.ticks.specs.Bounds.{cut}
use Rattle.cells.specs.Reading.{behind, Lies}
use Rattle.cells.specs.Laws.{lies_first, lies_rest}
use Rattle.figures.specs.Parts.{Part, Ending, shown, HeldMeans, ListMeans}
use Rattle.figures.proofs.Heads.{tail}

-- behind an expression lies what followed it
pub past_held : {m : L.List ℕ} {at : ℕ} {s : Ending} (more : ℕ) (e : Expr) (w : L.List ℕ) → HeldMeans m at s → Lies m at (held_cells more e ++ w)
    → (s.at ≡ at + length (held_cells more e)) × (s.depth ≡ height e + more) × Lies m s.at w
past_held more e w held y =
    let h = held more e (lies_first (held_cells more e) w y) in
    (h.0, h.1, rw h.0 (lies_rest (held_cells more e) w y))

-- and so behind a list
pub past_list : {m : L.List ℕ} {at levels : ℕ} {g : Part} (l : List) (w : L.List ℕ) → ListMeans m at levels g → Lies m at (body_cells l ++ w) → nest_l l ≤ levels → FitL l
    → (g ≡ shown (at + length (body_cells l)) (depth_l l) (worst_l l)) × Lies m g.at w
past_list l w means y n i =
    let r = means l (lies_first (body_cells l) w y) n i in
    (r, rw r (lies_rest (body_cells l) w y))

-- a cell, a condition, its list
pub conditional_list : {m : L.List ℕ} {at j levels : ℕ} {s : Ending} {g : Part} (t : ℕ) (c : Expr) (l : List) → j ≡ behind m at → HeldMeans m j s → ListMeans m s.at levels g
    → Lies m at ((cell t 0 0 ++ held_cells 0 c) ++ body_cells l) → nest_l l ≤ levels → FitL l
    → (g.at ≡ at + length ((cell t 0 0 ++ held_cells 0 c) ++ body_cells l)) × (max s.depth g.depth ≡ max (height c) (depth_l l)) × (g.worst ≡ cut (worst_l l))
unfolding cell
conditional_list t c l e held means y n i =
    let b = tail e y in
    let h = past_held 0 c (body_cells l) held b.1 in
    let r = means l h.2 n i in
    let k = length-append (held_cells 0 c) (body_cells l) in
    let p = ap (λ x. x.at) r in
    let d = ap (λ x. x.depth) r in
    (omega arith, omega arith, ap (λ x. x.worst) r)
