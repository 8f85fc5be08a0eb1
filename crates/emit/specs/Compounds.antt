-- What the functions that write IF, CASE and loops promise: the code behind the statement's TICK, past the cells behind the statement's first.
use Rattle.std.specs.Prelude.{◌≡◌, [], ℕ, suc, ◌+◌, ◌≤◌, ℤ, drop}
use mathlib.Core.List as L
use Rattle.rules.specs.Kinds.{CASE, EXIT, FOR, IF, REPEAT, WHILE, ASSIGN}
use Rattle.rules.specs.Core.{Expr, Stmt, List, assign, if, case, for, while, repeat, exit}
use Rattle.rules.specs.Codes.{enc_all}
use Rattle.rules.specs.Translation.{code_s}
use Rattle.rules.specs.CoreCells.{stmt_cells}
use Rattle.theorems.specs.Fields.{FitS}
use Rattle.theorems.specs.Levels.{fors_s, nest_s}
use Rattle.cells.specs.declared.cell.Cell.{Cell}
use Rattle.emit.specs.Places.{Wrote, Allows}
use Rattle.emit.specs.Places.{Place}
use Rattle.emit.specs.declared.statements.Around.{Around}

-- a statement's first cell
unfoldable pub head_of : Stmt → Cell
head_of (assign i e) = record { tag = ASSIGN; place = 0; datum = i }
head_of (if b) = record { tag = IF; place = 0; datum = 0 }
head_of (case e g) = record { tag = CASE; place = 0; datum = 0 }
head_of (for v a e s l) = record { tag = FOR; place = 0; datum = v }
head_of (while c l) = record { tag = WHILE; place = 0; datum = 0 }
head_of (repeat l c) = record { tag = REPEAT; place = 0; datum = 0 }
head_of exit = record { tag = EXIT; place = 0; datum = 0 }

-- around a statement with lists is what is around its lists, with one level of nesting more
abbrev pub outer : Around → Around
outer around = record { exit = around.exit; fors = around.fors; levels = suc around.levels }

-- behind a statement's first cell and its TICK, which stands at `start`
abbrev pub RestCode : Stmt → ℕ → Around → L.List ℕ → L.List ℕ → L.List ℕ → Place → Place → Type 0
RestCode x start around m code code' p r =
    FitS x → Allows (outer around) (fors_s x) (nest_s x) → p.code ≡ start + 1
    → Wrote m (drop 3 (stmt_cells x)) (drop 1 (enc_all (code_s x start around.exit around.fors []))) code code' p r

abbrev pub ForCode : ℕ → Around → L.List ℕ → L.List ℕ → L.List ℕ → Place → Place → Type 0
ForCode slot around m code code' p r = (start : ℕ) (a e : Expr) (s : ℤ) (l : List) → RestCode (for slot a e s l) start around m code code' p r

abbrev pub WhileCode : ℕ → Around → L.List ℕ → L.List ℕ → L.List ℕ → Place → Place → Type 0
WhileCode start around m code code' p r = (c : Expr) (l : List) → RestCode (while c l) start around m code code' p r

abbrev pub RepeatCode : ℕ → Around → L.List ℕ → L.List ℕ → L.List ℕ → Place → Place → Type 0
RepeatCode start around m code code' p r = (l : List) (c : Expr) → RestCode (repeat l c) start around m code code' p r

-- the statement with this first cell
abbrev pub CompoundCode : Cell → ℕ → Around → L.List ℕ → L.List ℕ → L.List ℕ → Place → Place → Type 0
CompoundCode head start around m code code' p r = (x : Stmt) → head ≡ head_of x → 1 ≤ nest_s x → RestCode x start around m code code' p r
