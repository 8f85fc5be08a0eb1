-- The parts of the rules' readers that have a function of their own, and what each leaves.
use mathlib.Core.List as L
use Rattle.std.specs.Prelude.{[], ◌++◌, Bool, ◌||◌, ℕ, suc, eqb}
use Rattle.std.proofs.Math.Option.{Option, none, some}
use Rattle.rules.specs.Limits.{nesting_limit, for_limit}
use Rattle.rules.specs.Base.{pick}
use Rattle.rules.specs.Numbers.{Ty, bool, dint}
use Rattle.rules.specs.Kinds.{INT, BOOL, CASE, FOR, IF, WHILE, DINT, ELSE, ELSIF, THEN, NOT, SEMI, COLON, PLUS, MINUS}
use Rattle.rules.specs.Tokens.{Token}
use Rattle.rules.specs.Syntax.{Exp, Label, Stm, Stms, Branches, no_else, else_b, branch, minus, plus, inverse, Reader, ◌>>=◌, ◌>>◌, give, next, skip, take, when, operators, operator_of, parens, expr, labels, starts_statement, nested, if_then, case_of, for_do, while_do, repeat_until, statement, list, branches, groups}
use Rattle.rules.specs.Codes.{bin_code}
use Rattle.rules.specs.Cells.{cell, BINARY, sign_code, exp_cells, whole_cells, labels_cells, stm_cells, list_cells, type_kind}

-- an integer in a constant with this sign that starts at this place
unfoldable pub integer_cells : ℕ → ℕ → Token → L.List ℕ
integer_cells sign place t = cell sign place 0 ++ cell INT t.place t.value

-- the code of an operator before an operand, 1 where the kind is none
unfoldable pub prefix_code : ℕ → ℕ
prefix_code k =
    pick (eqb k MINUS) (λ _. sign_code minus) (λ _.
    pick (eqb k PLUS) (λ _. sign_code plus) (λ _.
    pick (eqb k NOT) (λ _. sign_code inverse) (λ _. 1)))

-- what `parens` reads, with the place of its `(`
unfoldable pub in_parens : ℕ → Reader Exp → Reader Exp
in_parens n exp ts = parens n (next ts).place exp ts

-- an operator and its right operand
pub record Right : Type 0 where
  pub operator : Token
  pub operand : Exp

unfoldable pub right : ℕ → ℕ → Reader Right
right f n ts = (do
  t ← skip
  b ← expr f n (suc (operator_of (next ts).kind operators).level)
  give (record { operator = t; operand = b })) ts

unfoldable pub right_cells : Right → L.List ℕ
right_cells x = exp_cells x.operand ++ cell BINARY x.operator.place (bin_code (operator_of x.operator.kind operators).op)

-- IF, CASE and loops: what `statement` reads but for assignments and EXIT
unfoldable pub compound : ℕ → ℕ → ℕ → Reader Stm
compound f n m ts =
    let p = (next ts).place in
    nested n nesting_limit p
    (when IF (if_then (branches f (suc n) m))
    (when CASE (case_of (expr f 0 1) (groups f (suc n) m))
    (when FOR (nested m for_limit p (for_do (expr f 0 1) (list f (suc n) (suc m))))
    (when WHILE (while_do (expr f 0 1) (list f (suc n) m))
    (repeat_until (expr f 0 1) (list f (suc n) m)))))) ts

-- a lone `;`, or a statement and its `;`
unfoldable pub element : ℕ → ℕ → ℕ → Reader (Option Stm)
element f n m = when SEMI (do skip; give none) (do s ← statement f n m; take SEMI; give (some s))

unfoldable pub element_cells : Option Stm → L.List ℕ
element_cells none = []
element_cells (some s) = stm_cells s

unfoldable pub starts_element : ℕ → Bool
starts_element k = eqb k SEMI || starts_statement k

-- a condition, THEN, a list
pub record Branch : Type 0 where
  pub condition : Exp
  pub body : Stms

unfoldable pub one_condition : ℕ → ℕ → ℕ → Reader Branch
one_condition f n m = do
  c ← expr f 0 1
  take THEN
  l ← list f n m
  give (record { condition = c; body = l })

unfoldable pub condition_cells : Branch → L.List ℕ
condition_cells b = (cell THEN 0 0 ++ whole_cells b.condition) ++ list_cells b.body

-- labels, `:`, a list
pub record Group : Type 0 where
  pub labels : L.List Label
  pub body : Stms

unfoldable pub one_labelled : ℕ → ℕ → ℕ → Reader Group
one_labelled f n m = do
  ls ← labels f
  take COLON
  l ← list f n m
  give (record { labels = ls; body = l })

unfoldable pub labelled_cells : Group → L.List ℕ
labelled_cells g = labels_cells g.labels ++ list_cells g.body

-- ELSE and a list, or nothing; a tag stands for nothing
unfoldable pub otherwise : ℕ → ℕ → ℕ → Reader (Option Stms)
otherwise f n m = when ELSE (do skip; l ← list f n m; give (some l)) (give none)

unfoldable pub otherwise_cells : ℕ → Option Stms → L.List ℕ
otherwise_cells tag none = cell tag 0 0
otherwise_cells tag (some l) = cell ELSE 0 0 ++ list_cells l

-- IF's branches behind the word IF or ELSIF
unfoldable pub conditions : Reader Exp → Reader Stms → Reader Branches → Reader Branches
conditions exp list others = do
  c ← exp
  take THEN
  l ← list
  b ← when ELSIF others (when ELSE (do skip; e ← list; give (else_b e)) (give no_else))
  give (branch c l b)

-- the type of a declaration, which is the tag of its name's cell
unfoldable pub declared_type : Reader Ty
declared_type = when BOOL (do skip; give bool) (do take DINT; give dint)

unfoldable pub type_cell : ℕ → ℕ → Ty → L.List ℕ
type_cell place datum t = cell (type_kind t) place datum
