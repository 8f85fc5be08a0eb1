-- The core program: slots for names, and the place of each operator, which no meaning and no code looks at.
use Rattle.std.specs.Prelude.{Bool, [], ◌∷◌, ℕ, ℤ}
use mathlib.Core.List as L
use Rattle.rules.specs.Numbers.{Ty, bool, dint}

-- `-` and NOT before an operand
pub data Un : Type 0 where
  Neg Not : Un

-- the operators between operands, in the order of their codes
pub data Bin : Type 0 where
  Mul Div Mod Add Sub Lt Gt Le Ge Eq Ne And Xor Or : Bin

-- what an operator gives: arithmetic DINT, order, equality and logic BOOL
unfoldable pub result : Bin → Ty
result Mul = dint
result Div = dint
result Mod = dint
result Add = dint
result Sub = dint
result Lt = bool
result Gt = bool
result Le = bool
result Ge = bool
result Eq = bool
result Ne = bool
result And = bool
result Xor = bool
result Or = bool

-- integer, TRUE or FALSE, variable, unary and binary operator with its place, unary plus, parentheses
pub data Expr : Type 0 where
  num : ℤ → Expr
  flag : Bool → Expr
  var : ℕ → Expr
  un : ℕ → Un → Expr → Expr
  bin : ℕ → Bin → Expr → Expr → Expr
  pls : Expr → Expr
  par : Expr → Expr

-- a group's labels, each from low to high
pub data Labels : Type 0 where
  lnil : Labels
  lab : ℤ → ℤ → Labels → Labels

mutual
  -- for: variable, initial, final, step, body
  pub data Stmt : Type 0 where
    assign : ℕ → Expr → Stmt
    if : Brs → Stmt
    case : Expr → Grps → Stmt
    for : ℕ → Expr → Expr → ℤ → List → Stmt
    while : Expr → List → Stmt
    repeat : List → Expr → Stmt
    exit : Stmt

  pub data List : Type 0 where
    nil : List
    cons : Stmt → List → List

  -- an IF's branches: a condition with its list, then the others; at the end an ELSE list or none
  pub data Brs : Type 0 where
    none : Brs
    els : List → Brs
    elsif : Expr → List → Brs → Brs

  -- a CASE's groups, then its ELSE list (empty where it is missing: the code is the same)
  pub data Grps : Type 0 where
    other : List → Grps
    grp : Labels → List → Grps → Grps

-- a variable: its type and its initial value
pub record Variable : Type 0 where
  pub type : Ty
  pub init : ℤ

unfoldable pub types : L.List Variable → L.List Ty
types [] = []
types (v ∷ vs) = v.type ∷ types vs

unfoldable pub initials : L.List Variable → L.List ℤ
initials [] = []
initials (v ∷ vs) = v.init ∷ initials vs

pub record Program : Type 0 where
  pub vars : L.List Variable
  pub body : List
