-- Where the walk stands, or how it ended: the words of the laws for what the code answers and leaves.
use Rattle.std.specs.Prelude.{ℕ, Result, Ok as Done, Err}
use Rattle.rules.specs.Answers.{fault_number}
use Rattle.rules.specs.Kinds.{BOOL, DINT}
use Rattle.rules.specs.declared.compiling.Refusal.{Refusal}
use Rattle.rules.specs.declared.kinds.Type as Kinds
use Rattle.rules.specs.declared.kinds.Type.TheVariants.{Bool as Boolean, Dint}
use Rattle.walk.specs.declared.steps.Walk.{Walk}
use Rattle.walk.specs.declared.constants.Literal.{Literal as Coded}
use Rattle.walk.specs.declared.expressions.Value.{Value as CodedValue}
use Rattle.walk.specs.declared.statements.Target.{Target as CodedTarget}

-- the next number of the tree, and the first free number of the core program; or the number of the list, and the place
pub data Step : Type 0 where
  Ok : ℕ → ℕ → Step
  Bad : ℕ → ℕ → Step

-- where the code stands
abbrev pub at : Walk → Step
at w = Ok w.at w.free

-- a refusal
abbrev pub refused : Refusal → Step
refused e = Bad (fault_number e.fault) e.place

-- where it stands behind a function, which may have refused
abbrev pub after : {A : Type 0} → Result A Refusal → Walk → Step
after (Done a) w = at w
after (Err e) w = refused e

-- What is answered, and the step behind it

-- a constant: its first byte, its type's kind, and its value
pub record Literal : Type 0 where
  pub step : Step
  pub first : ℕ
  pub kind : ℕ
  pub bits : ℕ

-- an expression: its first byte, its type's kind, and its height
pub record Value : Type 0 where
  pub step : Step
  pub first : ℕ
  pub kind : ℕ
  pub height : ℕ

-- within an expression: where the stack of operands ends
pub record Inside : Type 0 where
  pub step : Step
  pub top : ℕ

-- a variable that is assigned or taken by a FOR: its slot, its type's kind, and the place of its name
pub record Target : Type 0 where
  pub step : Step
  pub slot : ℕ
  pub kind : ℕ
  pub place : ℕ

-- behind a declaration: how many names are entered
pub record Declared : Type 0 where
  pub step : Step
  pub count : ℕ

-- Views of what the code answers: the words of the laws for it

-- the number that stands for a type in memory
abbrev pub type_number : Kinds.Type → ℕ
type_number Boolean = BOOL
type_number Dint = DINT

-- a constant
abbrev pub literal : Result Coded Refusal → Walk → Literal
literal (Done l) w = record { step = at w; first = l.first; kind = type_number l.kind; bits = l.bits }
literal (Err e) w = record { step = refused e; first = 0; kind = 0; bits = 0 }

-- an expression
abbrev pub value : Result CodedValue Refusal → Walk → Value
value (Done v) w = record { step = at w; first = v.first; kind = type_number v.kind; height = v.height }
value (Err e) w = record { step = refused e; first = 0; kind = 0; height = 0 }

-- within an expression
abbrev pub inside : {A : Type 0} → Result A Refusal → Walk → Inside
inside r w = record { step = after r w; top = w.top }

abbrev pub standing : Walk → Inside
standing w = record { step = at w; top = w.top }

-- a variable that is assigned, or taken by a FOR
abbrev pub target : Result CodedTarget Refusal → Walk → Target
target (Done x) w = record { step = at w; slot = x.slot; kind = type_number x.kind; place = x.place }
target (Err e) w = record { step = refused e; slot = 0; kind = 0; place = 0 }

-- behind the declarations
abbrev pub declared : Result ℕ Refusal → Walk → Declared
declared (Done n) w = record { step = at w; count = n }
declared (Err e) w = record { step = refused e; count = 0 }
