-- How the core program lies in lent numbers: in cells, as the tree does, from number `token_numbers` on. What a cell has no use for is zero. Values and steps are
-- written as unsigned numbers.
use mathlib.Core.List as L
use Rattle.std.specs.Prelude.{[], ◌∷◌, ◌++◌, ℕ, ◌+◌, leb, length, replicate}
use Rattle.std.proofs.lemmas.List.Edits.{sets}
use Rattle.rules.specs.Limits.{text_limit, memory_numbers, token_numbers}
use Rattle.rules.specs.Base.{Res, ok, refuse, ◌>>=◌, need}
use Rattle.rules.specs.Numbers.{of_bool}
use Rattle.rules.specs.Bytes.{to_u}
use Rattle.rules.specs.Kinds.{NAME, INT, BY, CASE, ELSE, END_IF, EXIT, FOR, IF, REPEAT, THEN, WHILE, ASSIGN, COLON, COMMA, OPEN}
use Rattle.rules.specs.Core.{Expr, num, flag, var, un, bin, pls, par, Labels, lnil, lab, Stmt, List, Brs, Grps, assign, if, case, for, while, repeat, exit, nil, cons, none, els, elsif, other, grp, Variable, Program}
use Rattle.rules.specs.Depth.{height}
use Rattle.rules.specs.Codes.{un_code, bin_code}
use Rattle.rules.specs.Compile.{front}
use Rattle.rules.specs.Cells.{cell, end_cell, truth_kind, type_kind, UNARY, BINARY, WHOLE, Lent, refused_lent}

-- Expressions in postfix: an operand's datum is its value or its slot, an operator's its code (unary plus has none)
unfoldable pub expr_cells : Expr → L.List ℕ
expr_cells (num z) = cell INT 0 (to_u z)
expr_cells (flag b) = cell (truth_kind b) 0 (to_u (of_bool b))
expr_cells (var i) = cell NAME 0 i
expr_cells (un ι o a) = expr_cells a ++ cell UNARY ι (un_code o)
expr_cells (bin ι o a b) = (expr_cells a ++ expr_cells b) ++ cell BINARY ι (bin_code o)
expr_cells (pls a) = expr_cells a ++ cell UNARY 0 0
expr_cells (par a) = expr_cells a ++ cell OPEN 0 0

-- an expression that a statement holds, closed by a cell with the stack that it needs: its height, and so many more
unfoldable pub held_cells : ℕ → Expr → L.List ℕ
held_cells more e = expr_cells e ++ cell WHOLE 0 (height e + more)

-- a group's labels, closed by a cell
unfoldable pub span_cells : Labels → L.List ℕ
span_cells lnil = cell COLON 0 0
span_cells (lab low high ls) = cell COMMA (to_u low) (to_u high) ++ span_cells ls

-- Statements in prefix, each list closed by a cell. A CASE's last list needs no cell before it: no list starts with a label
unfoldable mutual
  pub stmt_cells : Stmt → L.List ℕ
  stmt_cells (assign i e) = cell ASSIGN 0 i ++ held_cells 0 e
  stmt_cells (if b) = cell IF 0 0 ++ brs_cells b
  stmt_cells (case e g) = (cell CASE 0 0 ++ held_cells 0 e) ++ grps_cells g
  stmt_cells (for v a e s l) = (((cell FOR 0 v ++ held_cells 0 a) ++ held_cells 1 e) ++ cell BY 0 (to_u s)) ++ body_cells l
  stmt_cells (while c l) = (cell WHILE 0 0 ++ held_cells 0 c) ++ body_cells l
  stmt_cells (repeat l c) = (cell REPEAT 0 0 ++ body_cells l) ++ held_cells 0 c
  stmt_cells exit = cell EXIT 0 0

  pub body_cells : List → L.List ℕ
  body_cells nil = end_cell
  body_cells (cons s l) = stmt_cells s ++ body_cells l

  pub brs_cells : Brs → L.List ℕ
  brs_cells none = cell END_IF 0 0
  brs_cells (els l) = cell ELSE 0 0 ++ body_cells l
  brs_cells (elsif c l b) = ((cell THEN 0 0 ++ held_cells 0 c) ++ body_cells l) ++ brs_cells b

  pub grps_cells : Grps → L.List ℕ
  grps_cells (other l) = body_cells l
  grps_cells (grp ls l g) = (span_cells ls ++ body_cells l) ++ grps_cells g

-- a variable: its type and its initial value
unfoldable pub variable_cell : Variable → L.List ℕ
variable_cell v = cell (type_kind v.type) 0 (to_u v.init)

unfoldable pub variable_cells : L.List Variable → L.List ℕ
variable_cells [] = end_cell
variable_cells (v ∷ vs) = variable_cell v ++ variable_cells vs

unfoldable pub program_cells : Program → L.List ℕ
program_cells p = variable_cells p.vars ++ body_cells p.body

-- What the walk answers, and what is lent afterwards: the core program and nothing else

-- 17; 1; tokens; syntax and nesting; the walk
unfoldable pub program_for : ℕ → L.List ℕ → Res Program
program_for lent text = do
  _ ← need (leb memory_numbers lent) 17 0
  _ ← need (leb (length text) text_limit) 1 text_limit
  front text

unfoldable pub program_left : Res Program → L.List ℕ → Lent
program_left (ok p) lent = record { answer = ok (length (program_cells p)); memory = sets (replicate (length lent) 0) token_numbers (program_cells p) }
program_left (refuse n p) lent = refused_lent n p lent

unfoldable pub walked : L.List ℕ → L.List ℕ → Lent
walked text lent = program_left (program_for (length lent) text) lent
