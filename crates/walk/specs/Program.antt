-- What walking a whole tree promises.
use Rattle.std.specs.Prelude.{false, ℕ, Result, Ok as Done, Err, replicate}
use mathlib.Core.List as L
use Rattle.rules.specs.Limits.{token_numbers}
use Rattle.rules.specs.declared.compiling.Refusal.{Refusal}
use Rattle.walk.specs.Places.{Step, Ok, Declared, refused}
use Rattle.walk.specs.Promises.{ListMeans}
use Rattle.walk.specs.Declaring.{DeclarationsMean}

-- where the walk ends that left its program up to a free number
abbrev pub ended : ℕ → Result ℕ Refusal → Step
ended at (Done free) = Ok at free
ended at (Err e) = refused e

-- behind the tokens the declarations were walked, and then the statements
pub record ProgramMeans (text m m' : L.List ℕ) (r : Result ℕ Refusal) : Type 0 where
  pub between : L.List ℕ
  pub names : Declared
  pub at : ℕ
  pub declares : DeclarationsMean text m between (Ok token_numbers token_numbers) names
  pub lists : ListMeans text names.count (replicate 64 false) false between m' names.step (ended at r)
