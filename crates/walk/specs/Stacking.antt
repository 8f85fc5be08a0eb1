-- The stack of an expression's operands in memory, and what the code for one cell of an expression promises.
use Rattle.std.specs.Prelude.{◌≡◌, Bool, List, [], ◌∷◌, ℕ, suc, ◌+◌, ◌≤◌, eqb, leb, length, get_or}
use Rattle.rules.specs.Limits.{memory_numbers, stack_limit}
use Rattle.rules.specs.Base.{pick, refuse}
use Rattle.rules.specs.Core.{Bin}
use Rattle.rules.specs.Syntax.{Name, Sign}
use Rattle.rules.specs.Walk.{Var}
use Rattle.rules.specs.Cells.{type_kind}
use Rattle.theorems.specs.Spelling.{Spelled}
use Rattle.walk.specs.Steps.{stack_start, cell_at, skipped, checked, extended, written}
use Rattle.walk.specs.Operands.{capped, pushed, pushed_to, needed}
use Rattle.walk.specs.Items.{Item, name_i, whole_i, truth_i, paren_i, sign_i, binary_i, item_cell, Operand, Stacked, item_does}
use Rattle.walk.specs.Walking.{Scope, Did}
use Rattle.walk.specs.Promises.{scope}
use Rattle.walk.specs.Places.{Step, Inside, Value}
use Rattle.cells.specs.declared.cell.Cell.{Cell}

-- the operands lie under the top, the last one highest: two numbers for each, its type and its height
pub data Stack (m : List ℕ) : ℕ → List Operand → Type 0 where
  bottom : Stack m stack_start []
  above : {top : ℕ} {os : List Operand} (o : Operand) → get_or m top 0 ≡ type_kind o.type → get_or m (top + 1) 0 ≡ capped o.height → Stack m top os → Stack m (top + 2) (o ∷ os)

-- a cell is written, and an operand is put where the stack ends
pub record Stacks (m m' : List ℕ) (s : Step) (end : ℕ) (cell two : List ℕ) (r : Inside) : Type 0 where
  pub step : r.step ≡ extended m s
  pub top : r.top ≡ pushed_to (length m) end
  pub numbers : m' ≡ pushed (written m s cell) end two

-- a name has its letters in the text
pub data ItemIn (text : List ℕ) : Item → Type 0 where
  name_in : {v : Name} → Spelled text v → ItemIn text (name_i v)
  whole_in : {p v : ℕ} → ItemIn text (whole_i p v)
  truth_in : {p : ℕ} {b : Bool} → ItemIn text (truth_i p b)
  paren_in : {p : ℕ} → ItemIn text (paren_i p)
  sign_in : {p : ℕ} {s : Sign} → ItemIn text (sign_i p s)
  binary_in : {p : ℕ} {o : Bin} → ItemIn text (binary_i p o)

-- before a cell: the operands, room for one more, a name's letters, and as many operands as an operator takes
pub record Before (σ : Scope) (m : List ℕ) (top : ℕ) (os : List Operand) (i : Item) : Type 0 where
  pub stack : Stack m top os
  pub room : top + 2 ≤ memory_numbers
  pub spelled : ItemIn σ.text i
  pub enough : item_does σ.vars i os ≡ refuse 0 0 → ⊥

-- behind it: the operands, at most one more
pub record Behind (m : List ℕ) (top : ℕ) (os : List Operand) (x : Stacked) : Type 0 where
  pub stack : Stack m top x.operands
  pub more : length x.operands ≤ suc (length os)

-- from s on the code did what the rules say of the cell
abbrev pub ItemDone : Scope → Item → List Operand → List ℕ → List ℕ → Step → ℕ → Inside → Type 0
ItemDone σ i os m m' s top r = Did σ (Before σ m top os i) (Behind m' r.top os) (λ x. x.cell) 0 (item_cell i) m m' s r.step (item_does σ.vars i os)

abbrev pub PartMeans : List ℕ → ℕ → List ℕ → List ℕ → Step → ℕ → Inside → Type 0
PartMeans text count m m' s top r = (vs : List Var) (i : Item) (os : List Operand) → ItemDone (scope text count vs) i os m m' s top r

-- a cell that was read, and the step behind it
pub record Read (m : List ℕ) (c : Cell) (behind s : Step) : Type 0 where
  pub cell : c ≡ cell_at m s
  pub step : behind ≡ skipped m s

abbrev pub VariableMeans : List ℕ → ℕ → Cell → Step → List ℕ → List ℕ → ℕ → Inside → Type 0
VariableMeans text count cell behind m m' top r =
    (vs : List Var) (v : Name) (os : List Operand) (s : Step) → Read m cell behind s → ItemDone (scope text count vs) (name_i v) os m m' s top r

abbrev pub SignMeans : Cell → Step → List ℕ → List ℕ → ℕ → Inside → Type 0
SignMeans cell behind m m' top r = (σ : Scope) (p : ℕ) (g : Sign) (os : List Operand) (s : Step) → Read m cell behind s → ItemDone σ (sign_i p g) os m m' s top r

abbrev pub OperationMeans : Cell → Step → List ℕ → List ℕ → ℕ → Inside → Type 0
OperationMeans cell behind m m' top r = (σ : Scope) (p : ℕ) (o : Bin) (os : List Operand) (s : Step) → Read m cell behind s → ItemDone σ (binary_i p o) os m m' s top r

-- unary plus needs no place
unfoldable pub sign_place : ℕ → ℕ → ℕ
sign_place code place = pick (eqb code 0) (λ _. 0) (λ _. place)

-- an expression was tested against the type that is wanted and the stack that there is
unfoldable pub placed_at : Value → ℕ → ℕ → ℕ → Step
placed_at v wanted place more = checked (leb (needed v.height more) stack_limit) 10 v.first (checked (eqb v.kind wanted) 8 place v.step)
