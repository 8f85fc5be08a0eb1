-- The first cell tells of what kind a part is. Assumes nothing.
use mathlib.Core.Path.{◌≡◌, refl, sym, ◌∙◌}
use mathlib.Core.Bool.{true, false}
use mathlib.Core.List as L
use Prim.Native.Nat.{ℕ, ◌<◌}
use native.Mathlib.Omega.{arith}
use lib.IntN.{ℤ}
use Rattle.rules.specs.Core.{Expr, Labels, lnil, lab, Stmt, List, Brs, Grps, assign, if, case, for, while, repeat, exit, nil, cons}
use Rattle.rules.specs.Kinds.{FINISH, ASSIGN, IF, CASE, FOR, WHILE, REPEAT, EXIT}
use Rattle.rules.specs.Cells.{cell, end_cell, WHOLE}
use Rattle.rules.specs.CoreCells.{span_cells, stmt_cells, body_cells}
use Rattle.cells.specs.Reading.{cell_in, is_label, Lies}
use Rattle.cells.specs.Laws.{lies_first}
use Rattle.figures.proofs.Heads.{head}

-- Statements

-- a statement, and the tag of its first cell
pub data Tagged : Stmt → ℕ → Type 0 where
  assigned : {i : ℕ} {e : Expr} → Tagged (assign i e) ASSIGN
  branched : {b : Brs} → Tagged (if b) IF
  chosen : {e : Expr} {g : Grps} → Tagged (case e g) CASE
  counted : {v : ℕ} {a e : Expr} {s : ℤ} {l : List} → Tagged (for v a e s l) FOR
  tested : {c : Expr} {l : List} → Tagged (while c l) WHILE
  repeated : {l : List} {c : Expr} → Tagged (repeat l c) REPEAT
  left : Tagged exit EXIT

-- that is the tag which lies there
pub tagged : {m : L.List ℕ} {i : ℕ} (x : Stmt) → Lies m i (stmt_cells x) → Tagged x (cell_in m i).tag
unfolding stmt_cells cell
tagged (assign v e) y = rw (head y) assigned
tagged (if b) y = rw (head y) branched
tagged (case e g) y = rw (head y) chosen
tagged (for v a e s l) y = rw (head y) counted
tagged (while c l) y = rw (head y) tested
tagged (repeat l c) y = rw (head y) repeated
tagged exit y = rw (head y) left

-- by the tag that is read
pub tagged_as : {m : L.List ℕ} {i t k : ℕ} → t ≡ (cell_in m i).tag → t ≡ k → (x : Stmt) → Lies m i (stmt_cells x) → Tagged x k
tagged_as q e x y = rw (sym q ∙ e) at (tagged x y)

-- a statement is neither the end of a list nor a label

pub no_end : {x : Stmt} {t : ℕ} → Tagged x t → t ≡ FINISH → ⊥
no_end assigned e = omega arith
no_end branched e = omega arith
no_end chosen e = omega arith
no_end counted e = omega arith
no_end tested e = omega arith
no_end repeated e = omega arith
no_end left e = omega arith

-- nor is its tag above those of kinds
pub no_unknown : {x : Stmt} {t : ℕ} → Tagged x t → WHOLE < t → ⊥
no_unknown assigned h = omega arith
no_unknown branched h = omega arith
no_unknown chosen h = omega arith
no_unknown counted h = omega arith
no_unknown tested h = omega arith
no_unknown repeated h = omega arith
no_unknown left h = omega arith

no_label : {x : Stmt} {t : ℕ} → Tagged x t → is_label t ≡ false
unfolding is_label
no_label assigned = refl
no_label branched = refl
no_label chosen = refl
no_label counted = refl
no_label tested = refl
no_label repeated = refl
no_label left = refl

-- Labels stand before each group of a CASE, and the last list has none

pub list_no_label : {m : L.List ℕ} {i : ℕ} (l : List) → Lies m i (body_cells l) → is_label (cell_in m i).tag ≡ false
unfolding body_cells end_cell cell is_label
list_no_label nil y = rw (head y)
list_no_label (cons s l) y = no_label (tagged s (lies_first (stmt_cells s) (body_cells l) y))

pub spans_label : {m : L.List ℕ} {i : ℕ} (ls : Labels) → Lies m i (span_cells ls) → is_label (cell_in m i).tag ≡ true
unfolding span_cells cell is_label
spans_label lnil y = rw (head y)
spans_label (lab low high ls) y = rw (head y)

-- where a label is read, a cell lies
pub label-has-tag : (t : ℕ) → is_label t ≡ true → t ≡ 0 → ⊥
unfolding is_label
label-has-tag t i e = let z : ◌≡◌ {A = ℕ} 0 1 = cc (rw e at i) in omega arith
