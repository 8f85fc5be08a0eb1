-- What looking for a name promises.
use Rattle.std.specs.Prelude.{◌≡◌, List, ℕ, Result, Option, Some, None, MatchResult}
use Rattle.rules.specs.Walk.{find}
use Rattle.rules.specs.declared.compiling.Fault.TheVariants.{Unknown}
use Rattle.rules.specs.declared.compiling.Refusal.{Refusal}
use Rattle.names.specs.Rows.{spelling, rows_from, slot_of}
use Rattle.cells.specs.declared.cell.Cell.{Cell}

-- what is found among the names in memory by the letters of a cell
abbrev pub found : List ℕ → List ℕ → ℕ → Cell → Option ℕ
found text m count name = slot_of (find (spelling text name.place name.datum) 0 (rows_from text m 0 count))

-- it is the answer, or there is none
abbrev pub NameFound : List ℕ → List ℕ → ℕ → Cell → Result ℕ Refusal → Type 0
NameFound text m count name r =
    MatchResult r (λ slot. found text m count name ≡ Some slot) (λ e. (found text m count name ≡ None) × (e ≡ record { fault = Unknown; place = name.place }))
