-- What the functions of the declarations promise: the variables that were declared so far are entered and written, and the other declarations are ahead.
use Rattle.std.specs.Prelude.{◌≡◌, [], ◌∷◌, ◌++◌, ℕ, ℤ, length}
use mathlib.Core.List as L
use Rattle.std.proofs.Math.Seq.{slice}
use Rattle.rules.specs.Limits.{token_numbers}
use Rattle.rules.specs.Base.{Res, ok, refuse}
use Rattle.rules.specs.Kinds.{FINISH}
use Rattle.rules.specs.Syntax.{Decl}
use Rattle.rules.specs.Walk.{Var, nameless, initial, declare_all}
use Rattle.rules.specs.Cells.{type_kind, maybe_cells, decls_cells}
use Rattle.rules.specs.CoreCells.{variable_cell, variable_cells}
use Rattle.theorems.specs.TokenPlaces.{Each}
use Rattle.theorems.specs.TreePlaces.{DeclIn}
use Rattle.theorems.specs.Spelling.{Spelled}
use Rattle.walk.specs.Steps.{kept, tag_at}
use Rattle.walk.specs.Walking.{Scope, Ready, Did, Any}
use Rattle.walk.specs.Promises.{scope}
use Rattle.walk.specs.Places.{Step, Ok, Bad, Declared}
use Rattle.cells.specs.declared.cell.Cell.{Cell}

-- the variable that a declaration with this initial value gives
unfoldable pub declared : Decl → ℤ → Var
declared d z = record { letters = d.name.letters; type = d.type; init = z }

-- the cells of variables, without the one that closes them
unfoldable pub var_cell : Var → L.List ℕ
var_cell v = variable_cell (record { type = v.type; init = v.init })

unfoldable pub var_cells : L.List Var → L.List ℕ
var_cells [] = []
var_cells (v ∷ vs) = var_cell v ++ var_cells vs

-- this is the cell of a declaration's name
abbrev pub Names : Cell → Decl → Type 0
Names name d = (name.tag ≡ type_kind d.type) × (name.place ≡ d.name.place)

-- a declaration behind its name
abbrev pub InitialMeans : Cell → L.List ℕ → L.List ℕ → Step → Step → Type 0
InitialMeans name m m' s r = (σ : Scope) (d : Decl) → Did σ (Names name d) Any (λ z. var_cell (declared d z)) 0 (maybe_cells d.init) m m' s r (initial d d.init)

-- the names of declarations stand in the text
abbrev pub Stand : L.List ℕ → L.List Decl → Type 0
Stand text ds = Each (DeclIn (length text) (Spelled text)) ds

-- in the midst of the declarations: vs are entered and written, ds are ahead and then the tail, and R is what the rules say of them all; or R is this refusal
pub data Amid (text tail : L.List ℕ) (R : Res (L.List Var)) (m : L.List ℕ) (count : ℕ) : Step → Type 0 where
  midway : {at free : ℕ} (vs : L.List Var) (ds : L.List Decl) → R ≡ declare_all vs ds → count ≡ length vs → Stand text ds
      → Ready (scope text count vs) m at free (decls_cells ds ++ tail) → slice token_numbers free (kept m) ≡ var_cells vs → Amid text tail R m count (Ok at free)
  stopped : {n p : ℕ} → R ≡ refuse n p → Amid text tail R m count (Bad n p)

-- behind them: these variables are entered and written, and the tail is ahead; or R is this refusal
pub data Behind (text tail : L.List ℕ) (R : Res (L.List Var)) (m : L.List ℕ) (count : ℕ) : Step → Type 0 where
  passed : {at free : ℕ} (vs : L.List Var) → R ≡ ok vs → Ready (scope text count vs) m at free tail → slice token_numbers free (kept m) ≡ variable_cells (nameless vs)
      → Behind text tail R m count (Ok at free)
  refused : {n p : ℕ} → R ≡ refuse n p → Behind text tail R m count (Bad n p)

-- where a declaration is ahead, it is one more
abbrev pub DeclarationMeans : L.List ℕ → ℕ → L.List ℕ → L.List ℕ → Step → Declared → Type 0
DeclarationMeans text count m m' s r =
    (tail : L.List ℕ) (R : Res (L.List Var)) → (tag_at m s ≡ FINISH → ⊥) → Amid text tail R m count s → Amid text tail R m' r.count r.step

abbrev pub DeclarationsMean : L.List ℕ → L.List ℕ → L.List ℕ → Step → Declared → Type 0
DeclarationsMean text m m' s r = (tail : L.List ℕ) (R : Res (L.List Var)) → Amid text tail R m 0 s → Behind text tail R m' r.count r.step
