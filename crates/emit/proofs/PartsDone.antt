-- What the functions that write code promise, whole: they move on, and they write what they should. Assumes nothing.
use mathlib.Core.Path.{◌≡◌}
use mathlib.Core.List as L
use Prim.Native.Nat.{ℕ}
use Rattle.cells.specs.Reading.{Moves}
use Rattle.emit.specs.Places.{Place, place_of, Emits, HeldCode, LabelsCode, StatementCode, ListCode, BranchesCode, GroupsCode}
use Rattle.emit.specs.Compounds.{CompoundCode}
use Rattle.cells.specs.declared.cell.Cell.{Cell}
use Rattle.cells.specs.declared.reader.Reader.{Reader}
use Rattle.emit.specs.declared.codes.Code.{Code}
use Rattle.emit.specs.declared.statements.Around.{Around}

abbrev pub HeldDone : L.List ℕ → L.List ℕ → L.List ℕ → Place → Place → Type 0
HeldDone m code code' p r = record { fine : Moves m p.at r.at; means : HeldCode m code code' p r }

abbrev pub LabelsDone : ℕ → L.List ℕ → L.List ℕ → L.List ℕ → Place → Place → Type 0
LabelsDone body m code code' p r = record { fine : Moves m p.at r.at; means : LabelsCode body m code code' p r }

abbrev pub StatementDone : Around → L.List ℕ → L.List ℕ → L.List ℕ → Place → Place → Type 0
StatementDone around m code code' p r = record { fine : Moves m p.at r.at; means : StatementCode around m code code' p r }

abbrev pub ListDone : Around → L.List ℕ → L.List ℕ → L.List ℕ → Place → Place → Type 0
ListDone around m code code' p r = record { fine : Moves m p.at r.at; means : ListCode around m code code' p r }

abbrev pub BranchesDone : ℕ → Around → L.List ℕ → L.List ℕ → L.List ℕ → Place → Place → Type 0
BranchesDone end around m code code' p r = record { fine : Moves m p.at r.at; means : BranchesCode end around m code code' p r }

abbrev pub GroupsDone : ℕ → Around → L.List ℕ → L.List ℕ → L.List ℕ → Place → Place → Type 0
GroupsDone end around m code code' p r = record { fine : Moves m p.at r.at; means : GroupsCode end around m code code' p r }

abbrev pub CompoundDone : Cell → ℕ → Around → L.List ℕ → L.List ℕ → L.List ℕ → Place → Place → Type 0
CompoundDone head start around m code code' p r = record { fine : Moves m p.at r.at; means : CompoundCode head start around m code code' p r }

-- the same of what a function did, said of the core program as it was at first
module _ {m : L.List ℕ} {from from' : Reader} {code code' : Code} where
  pub held_did : Emits HeldCode from code from' code' → from.memory.now ≡ m → HeldDone m code.bytes.now code'.bytes.now (place_of from code) (place_of from' code')
  held_did d q = rw (← q) (record { fine = d.fine; means = d.means })

  pub labels_did : {body : ℕ} → Emits (LabelsCode body) from code from' code' → from.memory.now ≡ m → LabelsDone body m code.bytes.now code'.bytes.now (place_of from code) (place_of from' code')
  labels_did d q = rw (← q) (record { fine = d.fine; means = d.means })

  pub statement_did : {around : Around} → Emits (StatementCode around) from code from' code' → from.memory.now ≡ m → StatementDone around m code.bytes.now code'.bytes.now (place_of from code) (place_of from' code')
  statement_did d q = rw (← q) (record { fine = d.fine; means = d.means })

  pub list_did : {around : Around} → Emits (ListCode around) from code from' code' → from.memory.now ≡ m → ListDone around m code.bytes.now code'.bytes.now (place_of from code) (place_of from' code')
  list_did d q = rw (← q) (record { fine = d.fine; means = d.means })

  pub branches_did : {end : ℕ} {around : Around} → Emits (BranchesCode end around) from code from' code' → from.memory.now ≡ m → BranchesDone end around m code.bytes.now code'.bytes.now (place_of from code) (place_of from' code')
  branches_did d q = rw (← q) (record { fine = d.fine; means = d.means })

  pub groups_did : {end : ℕ} {around : Around} → Emits (GroupsCode end around) from code from' code' → from.memory.now ≡ m → GroupsDone end around m code.bytes.now code'.bytes.now (place_of from code) (place_of from' code')
  groups_did d q = rw (← q) (record { fine = d.fine; means = d.means })

  pub compound_did : {head : Cell} (start : ℕ) {around : Around} → Emits (CompoundCode head start around) from code from' code' → from.memory.now ≡ m
      → CompoundDone head start around m code.bytes.now code'.bytes.now (place_of from code) (place_of from' code')
  compound_did start d q = rw (← q) (record { fine = d.fine; means = d.means })
