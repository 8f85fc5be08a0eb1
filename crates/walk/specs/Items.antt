-- The cells of an expression, one by one, and what each does to the stack of operands.
use Rattle.std.specs.Prelude.{Bool, false, ◌||◌, ◌&&◌, List, [], ◌∷◌, ◌++◌, ℕ, suc, max, eqb, leb}
use Rattle.rules.specs.Base.{pick, Res, ok, refuse, ◌>>=◌, need}
use Rattle.rules.specs.Numbers.{Ty, bool, dint, same_ty, of_bool}
use Rattle.rules.specs.Bytes.{to_u}
use Rattle.rules.specs.Kinds.{NAME, INT, BOOL, DINT, OPEN}
use Rattle.rules.specs.Core.{Bin, result}
use Rattle.rules.specs.Codes.{bin_code}
use Rattle.rules.specs.Syntax.{Name, Sign, minus, plus, inverse, Exp, named, whole, truth, paren, unary, binary}
use Rattle.rules.specs.Walk.{Var, known, largest, takes, sign_ty}
use Rattle.rules.specs.Cells.{cell, UNARY, BINARY, name_cell, truth_kind, sign_code}

-- one cell of an expression in postfix
pub data Item : Type 0 where
  name_i : Name → Item
  whole_i : ℕ → ℕ → Item
  truth_i : ℕ → Bool → Item
  paren_i : ℕ → Item
  sign_i : ℕ → Sign → Item
  binary_i : ℕ → Bin → Item

unfoldable pub items : Exp → List Item
items (named v) = name_i v ∷ []
items (whole p v) = whole_i p v ∷ []
items (truth p b) = truth_i p b ∷ []
items (paren p e) = items e ++ (paren_i p ∷ [])
items (unary p s e) = items e ++ (sign_i p s ∷ [])
items (binary p o a b) = (items a ++ items b) ++ (binary_i p o ∷ [])

unfoldable pub item_cell : Item → List ℕ
item_cell (name_i v) = name_cell NAME v
item_cell (whole_i p v) = cell INT p v
item_cell (truth_i p b) = cell (truth_kind b) p 0
item_cell (paren_i p) = cell OPEN p 0
item_cell (sign_i p s) = cell UNARY p (sign_code s)
item_cell (binary_i p o) = cell BINARY p (bin_code o)

unfoldable pub item_cells : List Item → List ℕ
item_cells [] = []
item_cells (i ∷ is) = item_cell i ++ item_cells is

-- an operand: its type and its height
pub record Operand : Type 0 where
  pub type : Ty
  pub height : ℕ

unfoldable pub operand : Ty → ℕ → Operand
operand t h = record { type = t; height = h }

-- the operands, the last first, and the cell that was written
pub record Stacked : Type 0 where
  pub operands : List Operand
  pub cell : List ℕ

unfoldable pub stacked : List Operand → List ℕ → Stacked
stacked os c = record { operands = os; cell = c }

unfoldable pub sign_cell : ℕ → Sign → List ℕ
sign_cell p minus = cell UNARY p 5
sign_cell p plus = cell UNARY 0 0
sign_cell p inverse = cell UNARY p 6

module _ (vs : List Var) where
  -- what one cell does; an operator always finds its operands
  unfoldable pub item_does : Item → List Operand → Res Stacked
  item_does (name_i v) os = do
    s ← known vs v
    ok (stacked (operand s.type 1 ∷ os) (cell NAME 0 s.slot))
  item_does (whole_i p v) os = do
    _ ← need (leb v (largest false)) 4 p
    ok (stacked (operand dint 1 ∷ os) (cell INT 0 v))
  item_does (truth_i p b) os = ok (stacked (operand bool 1 ∷ os) (cell (truth_kind b) 0 (to_u (of_bool b))))
  item_does (paren_i p) os = ok (stacked os (cell OPEN 0 0))
  item_does (sign_i p s) [] = refuse 0 0
  item_does (sign_i p s) (x ∷ os) = do
    _ ← need (same_ty x.type (sign_ty s)) 8 p
    ok (stacked (operand (sign_ty s) x.height ∷ os) (sign_cell p s))
  item_does (binary_i p o) [] = refuse 0 0
  item_does (binary_i p o) (y ∷ []) = refuse 0 0
  item_does (binary_i p o) (y ∷ x ∷ os) = do
    let t = takes o x.type
    _ ← need (same_ty x.type t && same_ty y.type t) 8 p
    ok (stacked (operand (result o) (max x.height (suc y.height)) ∷ os) (cell BINARY p (bin_code o)))

  -- what cells do, one after the other, behind what is written
  unfoldable pub items_do : List Item → List Operand → List ℕ → Res Stacked
  items_do [] os v = ok (stacked os v)
  items_do (i ∷ is) os v = do
    x ← item_does i os
    items_do is x.operands (v ++ x.cell)

-- types as kinds: what an operator of a code takes, if its left operand has this type, and what it gives; what a sign takes and gives
unfoldable pub taken_kind : ℕ → ℕ → ℕ
taken_kind code left = pick (eqb code 16 || eqb code 17) (λ _. left) (λ _. pick (eqb code 18 || eqb code 19 || eqb code 20) (λ _. BOOL) (λ _. DINT))

unfoldable pub given_kind : ℕ → ℕ
given_kind code = pick (leb 7 code && leb code 11) (λ _. DINT) (λ _. BOOL)

unfoldable pub sign_kind : ℕ → ℕ
sign_kind code = pick (eqb code 6) (λ _. BOOL) (λ _. DINT)
