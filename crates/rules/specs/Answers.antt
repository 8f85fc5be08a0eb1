-- What the answers of the code stand for: the numbers and values of the rules for each case.
use Rattle.std.specs.Prelude.{⊤, List, ℕ, ◌*◌, ◌≤◌, length, Result, Ok, Err, IfOk}
use Rattle.rules.specs.Limits.{text_limit, variable_limit, stack_limit, for_limit, code_limit, image_limit, memory_numbers, memory_bytes, token_numbers, tree_numbers, unbounded_mark}
use Rattle.rules.specs.Base.{Res, ok, refuse}
use Rattle.rules.specs.Numbers.{Ty, bool, dint}
use Rattle.rules.specs.Core.{Program}
use Rattle.rules.specs.Depth.{depth_l}
use Rattle.rules.specs.Meaning.{Table}
use Rattle.rules.specs.Worst.{worst_l, figure}
use Rattle.rules.specs.Run.{Report as Reported, Filling}
use Rattle.rules.specs.Compile.{Answer, accepted, refused}
use Rattle.rules.specs.Evaluate.{Told}
use Rattle.rules.specs.Cells.{Lent}
use Rattle.rules.specs.declared.compiling.Fault.{Fault}
use Rattle.rules.specs.declared.compiling.Fault.TheVariants.{LongText, NoToken, BadName, BadInteger, Unexpected, Redeclared, Unknown, WrongType, ManyVariables, TooDeep, LoopVariable, ExitOutside, LongCode, ShortBuffer, StepZero, LabelOrder, ShortMemory}
use Rattle.rules.specs.declared.compiling.Refusal.{Refusal}
use Rattle.rules.specs.declared.compiling.Stated.{Stated}
use Rattle.rules.specs.declared.compiling.Compiled.{Compiled}
use Rattle.rules.specs.declared.running.Outcome.{Outcome}
use Rattle.rules.specs.declared.running.Outcome.TheVariants.{Done, Spent, Range, Divide, BadImage, BadTable, BadCode}
use Rattle.rules.specs.declared.running.Report.{Report}
use Rattle.rules.specs.declared.running.Evaluated.{Evaluated}
use Rattle.rules.specs.declared.filling.FillError.{FillError}
use Rattle.rules.specs.declared.filling.FillError.TheVariants.{BadImage as FillBadImage, BadTable as FillBadTable}
use Rattle.rules.specs.declared.kinds.Type as Code
use Rattle.rules.specs.declared.kinds.Type.TheVariants.{Bool as Boolean, Dint}
use Rattle.rules.specs.declared.limits.Limits.{Limits}

-- why a text is refused: the numbers of the list
abbrev pub fault_number : Fault → ℕ
fault_number LongText = 1
fault_number NoToken = 2
fault_number BadName = 3
fault_number BadInteger = 4
fault_number Unexpected = 5
fault_number Redeclared = 6
fault_number Unknown = 7
fault_number WrongType = 8
fault_number ManyVariables = 9
fault_number TooDeep = 10
fault_number LoopVariable = 11
fault_number ExitOutside = 12
fault_number LongCode = 13
fault_number ShortBuffer = 14
fault_number StepZero = 15
fault_number LabelOrder = 16
fault_number ShortMemory = 17

-- an answer, or the refusal by its number and place
abbrev pub answer_of : {A : Type 0} → Result A Refusal → Res A
answer_of (Ok a) = ok a
answer_of (Err r) = refuse (fault_number r.fault) r.place

-- compiling: the answer but for the image's bytes, which come into the buffer
abbrev pub compiled_as : Answer → Res Compiled
compiled_as (accepted image code depth worst) = ok (record { image = length image; code = code; depth = depth; worst = worst })
compiled_as (refused number place) = refuse number place

-- depth and worst case, or the refusal
abbrev pub figured : Res Program → Res Stated
figured (ok p) = ok (record { depth = depth_l p.body; worst = figure (worst_l p.body) })
figured (refuse number place) = refuse number place

-- a stage of compiling, which answers how much it left: the answer, with working memory as it is afterwards
abbrev pub left : Result ℕ Refusal → List ℕ → Lent
left r memory = record { answer = answer_of r; memory = memory }

-- the tokens, and the tree, lie in the numbers that are published for them
abbrev pub TokensFit : Result ℕ Refusal → Type 0
TokensFit r = IfOk r (λ count. 3 * count ≤ token_numbers)

abbrev pub TreeFits : Result ℕ Refusal → Type 0
TreeFits r = IfOk r (λ count. count ≤ tree_numbers)

-- running: DONE, SPENT, RANGE, DIVIDE, and 23 to 25
abbrev pub outcome_number : Outcome → ℕ
outcome_number Done = 0
outcome_number Spent = 20
outcome_number Range = 21
outcome_number Divide = 22
outcome_number BadImage = 23
outcome_number BadTable = 24
outcome_number BadCode = 25

-- a run's report, with the table as it is afterwards
abbrev pub reported : Report → Table → Reported
reported r t = record { outcome = outcome_number r.outcome; ticks = r.ticks; instructions = r.instructions; offset = r.offset; table = t }

-- compiling and running: what evaluating tells, with the table as it is afterwards
abbrev pub evaluated_as : Result Evaluated Refusal → Table → Res Told
evaluated_as (Ok e) t = ok (record { outcome = outcome_number e.outcome; ticks = e.ticks; table = t })
evaluated_as (Err r) t = refuse (fault_number r.fault) r.place

-- filling: done, 23, or 24
abbrev pub fill_error_number : FillError → ℕ
fill_error_number FillBadImage = 23
fill_error_number FillBadTable = 24

abbrev pub fill_number : Result ⊤ FillError → ℕ
fill_number (Ok u) = 0
fill_number (Err e) = fill_error_number e

abbrev pub filled : Result ⊤ FillError → Table → Filling
filled a t = record { answer = fill_number a; table = t }

-- the types of the code
abbrev pub type_as : Code.Type → Ty
type_as Boolean = bool
type_as Dint = dint

-- the published limits
abbrev pub published : Limits
published = record {
  text = text_limit;
  variables = variable_limit;
  stack = stack_limit;
  held_finals = for_limit;
  code = code_limit;
  image = image_limit;
  memory_numbers = memory_numbers;
  memory_bytes = memory_bytes;
  token_numbers = token_numbers;
  tree_numbers = tree_numbers;
  unbounded = unbounded_mark;
}
