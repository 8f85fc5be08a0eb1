-- Running an image on a table, with 23 and 24, and filling a table with initial values.
use Rattle.std.specs.Prelude.{Bool, true, false, ◌&&◌, [], ◌∷◌, ℕ, ◌-◌, eqb, length}
use mathlib.Core.List as L
use Rattle.std.proofs.Math.Option.{Option, none, some}
use Rattle.rules.specs.Limits.{stack_limit}
use Rattle.rules.specs.Base.{pick}
use Rattle.rules.specs.Numbers.{Ty, holds}
use Rattle.rules.specs.Meaning.{Table, Stop, done, spent, range, divide, ill}
use Rattle.rules.specs.Machine.{Ran, run, code_in, start}
use Rattle.rules.specs.Core.{types, initials}
use Rattle.rules.specs.Image.{Loaded, image_in}

-- the number that is given back: DONE, SPENT, RANGE, DIVIDE, bad code
unfoldable pub number : Stop → ℕ
number done = 0
number spent = 20
number range = 21
number divide = 22
number ill = 25

-- what a run reports
pub record Report : Type 0 where
  pub outcome : ℕ
  pub ticks : ℕ
  pub instructions : ℕ
  pub offset : ℕ
  pub table : Table

-- the ticks are those of the budget that are not left
unfoldable pub report_of : ℕ → Ran → Report
report_of budget r = record { outcome = number r.out; ticks = budget - r.left; instructions = r.count; offset = r.offset; table = r.tab }

-- 23 and 24 report no ticks, no instructions, offset 0, and leave the table alone
unfoldable pub refused_run : ℕ → Table → Report
refused_run n t = record { outcome = n; ticks = 0; instructions = 0; offset = 0; table = t }

-- each entry lies in its type's range
unfoldable pub all_hold : L.List Ty → Table → Bool
all_hold [] t = true
all_hold (τ ∷ Γ) [] = true
all_hold (τ ∷ Γ) (z ∷ t) = holds τ z && all_hold Γ t

-- a valid table: one entry per variable, each in its type's range (so a BOOL's is 0 or 1); else 24
unfoldable pub valid : L.List Ty → Table → Bool
valid Γ t = eqb (length t) (length Γ) && all_hold Γ t

-- the table is valid for the image
unfoldable pub valid_for : Option Loaded → Table → Bool
valid_for none t = false
valid_for (some i) t = valid (types i.vars) t

-- 23, 24, then steps; with a stack of at most n values
unfoldable pub run_loaded : ℕ → Option Loaded → ℕ → Table → Report
run_loaded n none budget t = refused_run 23 t
run_loaded n (some i) budget t =
    pick (valid (types i.vars) t) (λ _. report_of budget (run (code_in (types i.vars) i.code n) budget (start t))) (λ _. refused_run 24 t)

-- an image is run on a table with a budget
unfoldable pub run_image : L.List ℕ → ℕ → Table → Report
run_image bytes budget t = run_loaded stack_limit (image_in bytes) budget t

-- what filling gives back: the number, 0 if it is done, and the table afterwards
pub record Filling : Type 0 where
  pub answer : ℕ
  pub table : Table

-- 23, or 24 for the length only, and then no entry is changed
unfoldable pub fill_loaded : Option Loaded → Table → Filling
fill_loaded none t = record { answer = 23; table = t }
fill_loaded (some i) t =
    pick (eqb (length t) (length i.vars)) (λ _. record { answer = 0; table = initials i.vars }) (λ _. record { answer = 24; table = t })

-- a table is filled with an image's initial values
unfoldable pub fill_image : L.List ℕ → Table → Filling
fill_image bytes t = fill_loaded (image_in bytes) t
