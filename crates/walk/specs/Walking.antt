-- What a part of the walk promises: what it wrote and how far it came is what the rules say of the cells ahead, or the refusals are one.
use Rattle.std.specs.Prelude.{◌≡◌, List, [], ◌++◌, ℕ, ◌+◌, ◌≤◌, length, drop}
use Rattle.std.proofs.lemmas.List.Edits.{sets}
use Rattle.rules.specs.Limits.{memory_numbers, token_numbers, variable_limit}
use Rattle.rules.specs.Base.{Res, ok, refuse}
use Rattle.rules.specs.Walk.{Var}
use Rattle.names.specs.Rows.{rows_from}
use Rattle.names.specs.Laws.{plainly}
use Rattle.walk.specs.Steps.{kept}
use Rattle.walk.specs.Places.{Step, Ok, Bad}

-- the text, how many names are entered, and the variables that they are
pub record Scope : Type 0 where
  pub text : List ℕ
  pub count : ℕ
  pub vars : List Var

-- the walk stands where it may go on, before these cells
pub record Ready (σ : Scope) (m : List ℕ) (at free : ℕ) (cells : List ℕ) : Type 0 where
  pub rest : List ℕ
  pub ahead : drop at (kept m) ≡ cells ++ rest
  pub within : at ≤ length (kept m)
  -- memory has its published length
  pub long : memory_numbers ≤ length m
  -- what is written lies behind the tokens, and before what is ahead
  pub low : token_numbers ≤ free
  pub room : free ≤ at
  -- the names that are entered are the variables'
  pub few : σ.count ≤ variable_limit
  pub table : rows_from σ.text m 0 σ.count ≡ plainly σ.vars

-- the rules say x: its cells are written, at least so many numbers fewer than were read; or the refusals are one. Q says what else is known of x
pub data Walked {A : Type 0} (Q : A → Type 0) (encode : A → List ℕ) (gain used : ℕ) (m m' : List ℕ) (at free : ℕ) : Step → Res A → Type 0 where
  went : (x : A) → Q x → length m' ≡ length m → kept m' ≡ sets (kept m) free (encode x) → length (encode x) + gain ≤ used → Walked Q encode gain used m m' at free (Ok (at + used) (free + length (encode x))) (ok x)
  fell : {n p : ℕ} → Walked Q encode gain used m m' at free (Bad n p) (refuse n p)

-- from s on, past these cells, if what is given holds; after a refusal nothing is done
pub data Did (σ : Scope) (Given : Type 0) {A : Type 0} (Q : A → Type 0) (encode : A → List ℕ) (gain : ℕ) (cells m m' : List ℕ) : Step → Step → Res A → Type 0 where
  walks : {at free : ℕ} {r : Step} {R : Res A} → (Given → Ready σ m at free cells → Walked Q encode gain (length cells) m m' at free r R) → Did σ Given Q encode gain cells m m' (Ok at free) r R
  stays : {n p : ℕ} {R : Res A} → Did σ Given Q encode gain cells m m' (Bad n p) (Bad n p) R

-- nothing is asked, or known
abbrev pub Nothing : Type 0
Nothing = Unit {0}

abbrev pub Any : {A : Type 0} → A → Type 0
Any a = Unit {0}

-- what writes no numbers
abbrev pub nothing : {A : Type 0} → A → List ℕ
nothing a = []

-- something holds if there was no refusal
abbrev pub When : Step → Type 0 → Type 0
When s P = (at free : ℕ) → s ≡ Ok at free → P
