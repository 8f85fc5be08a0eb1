-- What the functions that read sizes promise of the cells that lie before them. Sizes are not counted beyond 100000, where 8192 is the most.
use Rattle.std.specs.Prelude.{◌≡◌, ◌||◌, ℕ, suc, ◌+◌, ◌≤◌, min, eqb, length}
use mathlib.Core.List as L
use Rattle.rules.specs.Base.{pick}
use Rattle.rules.specs.Kinds.{NAME, INT, TRUE, FALSE, END_IF}
use Rattle.rules.specs.Core.{Expr, Labels, Stmt, List, Brs, Grps}
use Rattle.rules.specs.Translation.{size_e, size_lb, size_s, size_l, size_b, size_g}
use Rattle.rules.specs.Cells.{UNARY, BINARY}
use Rattle.rules.specs.CoreCells.{held_cells, span_cells, stmt_cells, body_cells, brs_cells, grps_cells}
use Rattle.theorems.specs.Levels.{nest_s, nest_l, nest_b, nest_g}
use Rattle.cells.specs.Reading.{Lies, Moves}
use Rattle.cells.specs.declared.reader.Reader.{Reader}
use Rattle.emit.specs.declared.sizes.Size.{Size}

-- where a part ends, and the size of its code
pub record Sized : Type 0 where
  pub at : ℕ
  pub size : ℕ

abbrev pub sized_at : ℕ → ℕ → Sized
sized_at at size = record { at = at; size = size }

-- a part is passed, and the size of its code read; what lies there stays as it is
abbrev pub Reads : (L.List ℕ → ℕ → Sized → Type 0) → Reader → Reader → Size → Type 0
Reads P old new size = record { same : new.memory.now ≡ old.memory.now; fine : Moves old.memory.now old.at new.at; means : P old.memory.now old.at (sized_at new.at size.0) }

-- a part lies ahead of a reader: where it ends, and the size of its code
pub record Ahead (P : L.List ℕ → ℕ → Sized → Type 0) (from : Reader) (size : Size) : Type 0 where
  pub at : ℕ
  pub fine : Moves from.memory.now from.at at
  pub means : P from.memory.now from.at (sized_at at size.0)

unfoldable pub capped : ℕ → ℕ
capped n = min n 100000

-- the size of the code of one cell of an expression
unfoldable pub item_size : ℕ → ℕ → ℕ
item_size tag datum =
    pick (eqb tag INT || eqb tag TRUE || eqb tag FALSE) (λ _. 5) (λ _.
    pick (eqb tag NAME) (λ _. 2) (λ _.
    pick (eqb tag BINARY) (λ _. 1) (λ _.
    pick (eqb tag UNARY) (λ _. pick (eqb datum 0) (λ _. 0) (λ _. 1)) (λ _. 0))))

-- a JUMP behind a list that another branch or ELSE follows
unfoldable pub jump_size : ℕ → ℕ
jump_size tag = pick (eqb tag END_IF) (λ _. 0) (λ _. 3)

-- a part that ends there, with code of this size
abbrev pub sized : ℕ → ℕ → Sized
sized at size = record { at = at; size = capped size }

abbrev pub HeldSize : L.List ℕ → ℕ → Sized → Type 0
HeldSize m at r = (more : ℕ) (e : Expr) → Lies m at (held_cells more e) → r ≡ sized (at + length (held_cells more e)) (size_e e)

abbrev pub LabelsSize : L.List ℕ → ℕ → Sized → Type 0
LabelsSize m at r = (ls : Labels) → Lies m at (span_cells ls) → r ≡ sized (at + length (span_cells ls)) (size_lb ls)

abbrev pub StatementSize : L.List ℕ → ℕ → ℕ → Sized → Type 0
StatementSize m at levels r = (x : Stmt) → Lies m at (stmt_cells x) → nest_s x ≤ levels → r ≡ sized (at + length (stmt_cells x)) (size_s x)

-- a statement with lists: one level is taken off already
abbrev pub CompoundSize : L.List ℕ → ℕ → ℕ → Sized → Type 0
CompoundSize m at levels r = (x : Stmt) → 1 ≤ nest_s x → Lies m at (stmt_cells x) → nest_s x ≤ suc levels → r ≡ sized (at + length (stmt_cells x)) (size_s x)

abbrev pub ListSize : L.List ℕ → ℕ → ℕ → Sized → Type 0
ListSize m at levels r = (x : List) → Lies m at (body_cells x) → nest_l x ≤ levels → r ≡ sized (at + length (body_cells x)) (size_l x)

abbrev pub BranchesSize : L.List ℕ → ℕ → ℕ → Sized → Type 0
BranchesSize m at levels r = (x : Brs) → Lies m at (brs_cells x) → nest_b x ≤ levels → r ≡ sized (at + length (brs_cells x)) (size_b x)

abbrev pub GroupsSize : L.List ℕ → ℕ → ℕ → Sized → Type 0
GroupsSize m at levels r = (x : Grps) → Lies m at (grps_cells x) → nest_g x ≤ levels → r ≡ sized (at + length (grps_cells x)) (size_g x)
