-- What the functions that write the records promise of the core program that lies in working memory.
use Rattle.std.specs.Prelude.{Result, ◌≡◌, ◌++◌, ℕ, ◌+◌, ◌*◌, ◌≤◌, eqb, leb, length}
use mathlib.Core.List as L
use Rattle.std.proofs.lemmas.List.Edits.{sets}
use Rattle.rules.specs.Limits.{code_limit, token_numbers, nesting_limit, for_limit}
use Rattle.rules.specs.Kinds.{DINT}
use Rattle.rules.specs.Numbers.{Ty, bool, dint}
use Rattle.rules.specs.Base.{pick, Res, ok, ◌>>=◌, need}
use Rattle.rules.specs.Bytes.{record_of}
use Rattle.rules.specs.Core.{List, Variable, Program}
use Rattle.rules.specs.Translation.{code_of, size_l}
use Rattle.rules.specs.Depth.{depth_l}
use Rattle.rules.specs.Worst.{worst_l, figure}
use Rattle.rules.specs.Image.{var_bytes, figure_bytes, image}
use Rattle.rules.specs.Compile.{answer, buffer_after}
use Rattle.rules.specs.CoreCells.{variable_cells, body_cells, program_cells}
use Rattle.rules.specs.Answers.{answer_of, compiled_as}
use Rattle.rules.specs.declared.compiling.Compiled.{Compiled}
use Rattle.rules.specs.declared.compiling.Refusal.{Refusal}
use Rattle.theorems.specs.Fields.{FitL}
use Rattle.theorems.specs.Levels.{fors_l, nest_l}
use Rattle.theorems.specs.Declarations.{Declared}
use Rattle.theorems.specs.Promise.{Fronted}
use Rattle.cells.specs.Reading.{Lies}

-- the variables of the core program: where the statements begin behind them, and how many they are
pub record Variables : Type 0 where
  pub at : ℕ
  pub count : ℕ

-- the type that a variable's tag tells
unfoldable pub type_told : ℕ → Ty
type_told tag = pick (eqb tag DINT) (λ _. dint) (λ _. bool)

abbrev pub VariablesMean : L.List ℕ → Variables → Type 0
VariablesMean m r = (vs : L.List Variable) → length vs ≤ 64 → Lies m token_numbers (variable_cells vs) → (r.at ≡ token_numbers + length (variable_cells vs)) × (r.count ≡ length vs)

abbrev pub VariablesWritten : ℕ → L.List ℕ → L.List ℕ → L.List ℕ → Type 0
VariablesWritten count m image image' =
    (vs : L.List Variable) → count ≡ length vs → Declared vs → Lies m token_numbers (variable_cells vs) → 4 + 5 * length vs ≤ length image → image' ≡ sets image 4 (var_bytes vs)

-- statements whose code can be written: what the walk guarantees of them
pub record Writable (l : List) : Type 0 where
  pub fits : FitL l
  pub fors : fors_l l ≤ for_limit
  pub nests : nest_l l ≤ nesting_limit
  pub short : size_l l ≤ 8191

abbrev pub CodeWritten : L.List ℕ → L.List ℕ → L.List ℕ → ℕ → ℕ → Type 0
CodeWritten m code code' at size = (l : List) → Writable l → Lies m at (body_cells l) → size ≡ size_l l → size + 1 ≤ length code → code' ≡ sets code 0 (code_of l)

-- the three records, with these figures
unfoldable pub records : L.List Variable → List → ℕ → ℕ → L.List ℕ
records vs l depth worst = record_of 1 (var_bytes vs) ++ (record_of 2 (code_of l) ++ record_of 3 (figure_bytes depth worst))

abbrev pub ImageWritten : Variables → ℕ → ℕ → ℕ → L.List ℕ → L.List ℕ → L.List ℕ → Type 0
ImageWritten v size depth worst m image image' =
    (vs : L.List Variable) (l : List) → Declared vs → Writable l → Lies m token_numbers (variable_cells vs) → Lies m v.at (body_cells l)
    → v.count ≡ length vs → size ≡ size_l l → image' ≡ sets image 0 (records vs l depth worst)

-- 13, then 14: what compiling asks last
unfoldable pub finished : ℕ → ℕ → Program → Res Program
finished capacity end p = do
  _ ← need (leb (length (code_of p.body)) code_limit) 13 end
  _ ← need (leb (length (image p)) capacity) 14 end
  ok p

abbrev pub Finished : L.List ℕ → ℕ → ℕ → ℕ → L.List ℕ → L.List ℕ → Result Compiled Refusal → Type 0
Finished m end depth worst buffer buffer' r =
    (p : Program) → Fronted p → Lies m token_numbers (program_cells p) → depth ≡ depth_l p.body → worst ≡ figure (worst_l p.body)
    → (answer_of r ≡ compiled_as (answer (finished (length buffer) end p))) × (buffer' ≡ buffer_after (answer (finished (length buffer) end p)) buffer)
