-- The declared names in lent numbers: a row of three numbers for each, from the first number on: its type, its place in the text, its length.
use Rattle.std.specs.Prelude.{List, [], ◌∷◌, ℕ, zero, suc, ◌+◌, ◌*◌, eqb, pos, get_or}
use Rattle.std.proofs.Math.Option.{Option, none, some}
use Rattle.std.specs.Prelude as Std
use Rattle.rules.specs.Base.{pick}
use Rattle.rules.specs.Numbers.{Ty, bool, dint}
use Rattle.rules.specs.Kinds.{BOOL}
use Rattle.rules.specs.Tokens.{upper}
use Rattle.rules.specs.Walk.{Var, Slot}

-- so many letters of a text from a place on, in capitals; 0 behind the text
unfoldable pub spelling : List ℕ → ℕ → ℕ → List ℕ
spelling text place zero = []
spelling text place (suc n) = upper (get_or text place 0) ∷ spelling text (suc place) n

-- the type that a kind names
unfoldable pub type_of : ℕ → Ty
type_of kind = pick (eqb kind BOOL) (λ _. bool) (λ _. dint)

-- a row as a variable; finding looks at no initial value
unfoldable pub row_at : List ℕ → List ℕ → ℕ → Var
row_at text m i = record { letters = spelling text (get_or m (3 * i + 1) 0) (get_or m (3 * i + 2) 0); type = type_of (get_or m (3 * i) 0); init = pos 0 }

-- n rows from row i on
unfoldable pub rows_from : List ℕ → List ℕ → ℕ → ℕ → List Var
rows_from text m i zero = []
rows_from text m i (suc n) = row_at text m i ∷ rows_from text m (suc i) n

-- the slot that was found, as the code says it
abbrev pub slot_of : Option Slot → Std.Option ℕ
slot_of none = Std.None
slot_of (some s) = Std.Some s.slot
