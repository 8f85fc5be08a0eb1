-- What the functions that write code promise: past these cells of the core program, these bytes are put behind the code that was written, where there is room.
use Rattle.std.specs.Prelude.{◌≡◌, Bool, ◌&&◌, [], ℕ, ◌+◌, ◌≤◌, min, leb, length}
use mathlib.Core.List as L
use Rattle.std.proofs.lemmas.List.Edits.{sets}
use Rattle.rules.specs.Base.{pick}
use Rattle.rules.specs.Core.{Expr, Labels, Stmt, List, Brs, Grps}
use Rattle.rules.specs.Codes.{enc_all}
use Rattle.rules.specs.Translation.{code_e, code_lb, code_s, code_l, code_b, code_g, size_b, size_g}
use Rattle.rules.specs.CoreCells.{held_cells, span_cells, stmt_cells, body_cells, brs_cells, grps_cells}
use Rattle.theorems.specs.Fields.{FitE, FitLb, FitS, FitL, FitB, FitG}
use Rattle.theorems.specs.Levels.{fors_s, fors_l, fors_b, fors_g, nest_s, nest_l, nest_b, nest_g}
use Rattle.cells.specs.Reading.{Lies, Moves}
use Rattle.writing.specs.Puts.{fits}
use Rattle.cells.specs.declared.reader.Reader.{Reader}
use Rattle.emit.specs.declared.codes.Code.{Code}
use Rattle.emit.specs.declared.statements.Around.{Around}

-- where a part of the core program starts or ends, and where its code does
pub record Place : Type 0 where
  pub at : ℕ
  pub code : ℕ

abbrev pub place_of : Reader → Code → Place
place_of from code = record { at = from.at; code = code.at }

-- the core program stays as it is, a part of it is passed, and its code is put
pub record Emits (P : L.List ℕ → L.List ℕ → L.List ℕ → Place → Place → Type 0) (from : Reader) (code : Code) (from' : Reader) (code' : Code) : Type 0 where
  pub core : from'.memory.now ≡ from.memory.now
  pub fine : Moves from.memory.now from.at from'.at
  pub means : P from.memory.now code.bytes.now code'.bytes.now (place_of from code) (place_of from' code')

-- an instruction is at most 16 bytes, and code starts at offsets up to 16384
unfoldable pub may_put : L.List ℕ → ℕ → L.List ℕ → Bool
may_put code at bytes = leb at 16384 && leb (length bytes) 16 && fits code at bytes

unfoldable pub code_put : L.List ℕ → ℕ → L.List ℕ → L.List ℕ
code_put code at bytes = pick (may_put code at bytes) (λ _. sets code at bytes) (λ _. code)

unfoldable pub behind_put : L.List ℕ → ℕ → L.List ℕ → ℕ
behind_put code at bytes = pick (may_put code at bytes) (λ _. at + length bytes) (λ _. at)

-- what putting these bytes leaves, and where the code ends then
abbrev pub Writes : L.List ℕ → L.List ℕ → ℕ → L.List ℕ → ℕ → Type 0
Writes code code' at bytes r = (r ≡ behind_put code at bytes) × (code' ≡ code_put code at bytes)

-- a target so far ahead: exact as far as offsets go
abbrev pub ahead : ℕ → ℕ → ℕ
ahead at size = min (at + size) 4294967295

-- bytes are put at an offset, within the most that code has
pub record Put (bytes code code' : L.List ℕ) (at r : ℕ) : Type 0 where
  pub puts : at + length bytes ≤ 8192 → at + length bytes ≤ length code → (r ≡ at + length bytes) × (code' ≡ sets code at bytes)

-- past these cells, these bytes are put
pub record Wrote (m cells bytes code code' : L.List ℕ) (p r : Place) : Type 0 where
  pub wrote : Lies m p.at cells → p.code + length bytes ≤ 8192 → p.code + length bytes ≤ length code
      → (r.at ≡ p.at + length cells) × (r.code ≡ p.code + length bytes) × (code' ≡ sets code p.code bytes)

abbrev pub HeldCode : L.List ℕ → L.List ℕ → L.List ℕ → Place → Place → Type 0
HeldCode m code code' p r = (more : ℕ) (e : Expr) → FitE e → Wrote m (held_cells more e) (enc_all (code_e e [])) code code' p r

abbrev pub LabelsCode : ℕ → L.List ℕ → L.List ℕ → L.List ℕ → Place → Place → Type 0
LabelsCode body m code code' p r = (ls : Labels) → FitLb ls → body ≤ 8192 → Wrote m (span_cells ls) (enc_all (code_lb ls body [])) code code' p r

-- what is around allows for this many FORs and this much nesting
pub record Allows (around : Around) (loops levels : ℕ) : Type 0 where
  pub exit : around.exit ≤ 8192
  pub fors : around.fors + loops ≤ 8
  pub nest : levels ≤ around.levels

abbrev pub StatementCode : Around → L.List ℕ → L.List ℕ → L.List ℕ → Place → Place → Type 0
StatementCode around m code code' p r =
    (x : Stmt) → FitS x → Allows around (fors_s x) (nest_s x) → Wrote m (stmt_cells x) (enc_all (code_s x p.code around.exit around.fors [])) code code' p r

abbrev pub ListCode : Around → L.List ℕ → L.List ℕ → L.List ℕ → Place → Place → Type 0
ListCode around m code code' p r =
    (x : List) → FitL x → Allows around (fors_l x) (nest_l x) → Wrote m (body_cells x) (enc_all (code_l x p.code around.exit around.fors [])) code code' p r

abbrev pub BranchesCode : ℕ → Around → L.List ℕ → L.List ℕ → L.List ℕ → Place → Place → Type 0
BranchesCode end around m code code' p r =
    (x : Brs) → FitB x → Allows around (fors_b x) (nest_b x) → end ≡ p.code + size_b x
    → Wrote m (brs_cells x) (enc_all (code_b x p.code around.exit around.fors [])) code code' p r

abbrev pub GroupsCode : ℕ → Around → L.List ℕ → L.List ℕ → L.List ℕ → Place → Place → Type 0
GroupsCode end around m code code' p r =
    (x : Grps) → FitG x → Allows around (fors_g x) (nest_g x) → end ≡ p.code + size_g x
    → Wrote m (grps_cells x) (enc_all (code_g x p.code end around.exit around.fors [])) code code' p r
