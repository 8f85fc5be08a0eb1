-- What the functions that read the core program's figures promise of the cells that lie before them.
use Rattle.std.specs.Prelude.{◌≡◌, Bool, true, false, ℕ, suc, ◌+◌, ◌≤◌, ℤ, pos, neg_ℤ, length, Option, Some, None}
use mathlib.Core.List as L
use Rattle.rules.specs.Base.{Res, ok, refuse}
use Rattle.rules.specs.Bytes.{of_u}
use Rattle.rules.specs.Limits.{tree_numbers}
use Rattle.rules.specs.Core.{Expr, Stmt, List, Brs, Grps, Program, for}
use Rattle.rules.specs.Depth.{height, depth_s, depth_l, depth_b, depth_g}
use Rattle.rules.specs.Worst.{Bound, Lit, lit, nolit, lit_of, for_w, worst_s, worst_l, worst_b, worst_g}
use Rattle.rules.specs.CoreCells.{held_cells, stmt_cells, body_cells, brs_cells, grps_cells, program_cells}
use Rattle.theorems.specs.Fields.{FitE, FitS, FitL, FitB, FitG}
use Rattle.theorems.specs.Levels.{nest_s, nest_l, nest_b, nest_g}
use Rattle.ticks.specs.Bounds.{bound_of, cut}
use Rattle.cells.specs.Reading.{cell_in, behind, Lies}
use Rattle.figures.specs.declared.sums.Figures.{Figures}

-- Expressions

-- where an expression ends, and the stack that it needs
pub record Ending : Type 0 where
  pub at : ℕ
  pub depth : ℕ

abbrev pub HeldMeans : L.List ℕ → ℕ → Ending → Type 0
HeldMeans m at r = (more : ℕ) (e : Expr) → Lies m at (held_cells more e) → (r.at ≡ at + length (held_cells more e)) × (r.depth ≡ height e + more)

unfoldable pub signed_of : Bool → ℕ → ℤ
signed_of true n = neg_ℤ (pos n)
signed_of false n = pos n

-- a value before the run, or none
unfoldable pub lit_in : Option ℤ → Lit
lit_in (Some z) = lit z
lit_in None = nolit

abbrev pub LiteralMeans : L.List ℕ → ℕ → Option ℤ → Type 0
LiteralMeans m at r = (more : ℕ) (e : Expr) → Lies m at (held_cells more e) → FitE e → lit_in r ≡ lit_of e

-- Statements

abbrev pub LoopMeans : Option ℤ → Option ℤ → ℕ → ℕ → ℕ → Type 0
LoopMeans first last step body r = r ≡ cut (for_w (lit_in first) (lit_in last) (of_u step) (bound_of body))

-- where a part ends, its depth, and its worst case as `ticks` holds it
pub record Part : Type 0 where
  pub at : ℕ
  pub depth : ℕ
  pub worst : ℕ

-- a part that ends there, with these figures
abbrev pub part : ℕ → Figures → Part
part at f = record { at = at; depth = f.depth; worst = f.worst }

-- with this depth and this worst case
abbrev pub shown : ℕ → ℕ → Bound → Part
shown at depth worst = record { at = at; depth = depth; worst = cut worst }

abbrev pub StatementMeans : L.List ℕ → ℕ → ℕ → Part → Type 0
StatementMeans m at levels r = (x : Stmt) → Lies m at (stmt_cells x) → nest_s x ≤ levels → FitS x → r ≡ shown (at + length (stmt_cells x)) (depth_s x) (worst_s x)

-- a statement with lists, whose first cell, with this tag, lies at `at` and is read: one level is taken off already
abbrev pub CompoundMeans : L.List ℕ → ℕ → ℕ → ℕ → Part → Type 0
CompoundMeans m next tag levels r =
    (at : ℕ) (x : Stmt) → next ≡ behind m at → tag ≡ (cell_in m at).tag → 1 ≤ nest_s x → Lies m at (stmt_cells x) → nest_s x ≤ suc levels → FitS x
    → r ≡ shown (at + length (stmt_cells x)) (depth_s x) (worst_s x)

-- and so a FOR
abbrev pub ForMeans : L.List ℕ → ℕ → ℕ → Part → Type 0
ForMeans m next levels r =
    (at v : ℕ) (a e : Expr) (s : ℤ) (l : List) → next ≡ behind m at → Lies m at (stmt_cells (for v a e s l)) → nest_l l ≤ levels → FitS (for v a e s l)
    → r ≡ shown (at + length (stmt_cells (for v a e s l))) (depth_s (for v a e s l)) (worst_s (for v a e s l))

abbrev pub ListMeans : L.List ℕ → ℕ → ℕ → Part → Type 0
ListMeans m at levels r = (x : List) → Lies m at (body_cells x) → nest_l x ≤ levels → FitL x → r ≡ shown (at + length (body_cells x)) (depth_l x) (worst_l x)

abbrev pub BranchesMean : L.List ℕ → ℕ → ℕ → Part → Type 0
BranchesMean m at levels r = (x : Brs) → Lies m at (brs_cells x) → nest_b x ≤ levels → FitB x → r ≡ shown (at + length (brs_cells x)) (depth_b x) (worst_b x)

abbrev pub GroupsMean : L.List ℕ → ℕ → ℕ → Part → Type 0
GroupsMean m at levels r = (x : Grps) → Lies m at (grps_cells x) → nest_g x ≤ levels → FitG x → r ≡ shown (at + length (grps_cells x)) (depth_g x) (worst_g x)

-- The core program lies in the numbers that are published for the tree

abbrev pub ProgramFits : Res Program → Type 0
ProgramFits (ok p) = length (program_cells p) ≤ tree_numbers
ProgramFits (refuse number place) = Unit {0}
