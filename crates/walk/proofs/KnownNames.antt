-- A name that is looked for among the names in memory is found as it is among the variables. Assumes nothing.
use mathlib.Core.Path.{◌≡◌, refl, sym, ap, ◌∙◌}
use mathlib.Core.Bool.{true, not}
use mathlib.Core.List.{List}
use mathlib.Core.Option.{Option, none, some}
use Prim.Native.Nat.{ℕ}
use native.Mathlib.Omega.{arith}
use lib.Dec.{ltb}
use lib.ListN.{length}
use borrow.Author.Tests.{lt-ltb, le-ltb}
use Rattle.rules.specs.Base.{Res, ◌>>=◌, need}
use Rattle.rules.specs.Numbers.{bool}
use Rattle.rules.specs.Syntax.{Name}
use Rattle.rules.specs.Walk.{Var, Slot, find, is_none, known_at}
use Rattle.names.specs.Rows.{spelling, rows_from}
use Rattle.walk.proofs.Slots.{slot_or}
use Rattle.names.specs.Laws.{length_rows, plainly, length_plainly, stands_spelled, find_plainly, found_slot}
use Rattle.theorems.specs.Spelling.{letters_at, Spelled}

-- the slot that was found; any, where there is none
unfoldable pub slot_in : Option Slot → Slot
slot_in none = record { slot = 0; type = bool }
slot_in (some s) = s

-- the rule for names is a test
pub known-need : {A : Type 0} (p : ℕ) (o : Option Slot) (k : Slot → Res A) → ◌>>=◌ (known_at p o) k ≡ ◌>>=◌ (need (not (is_none o)) 7 p) (λ _. k (slot_in o))
unfolding ◌>>=◌ known_at need is_none slot_in
known-need p none k = refl
known-need p (some s) k = refl

pub is_found : (count : ℕ) (o : Option Slot) → not (is_none o) ≡ true → (slot_or count o ≡ (slot_in o).slot) × (o ≡ some (slot_in o))
unfolding is_none slot_in slot_or
is_found count none e = let z : ◌≡◌ {A = ℕ} 0 1 = cc in absurd (omega arith)
is_found count (some s) e = (refl, refl)

-- the names in memory are the variables'
module _ (text : List ℕ) (count : ℕ) (m : List ℕ) (vs : List Var) (table : rows_from text m 0 count ≡ plainly vs) where
  as_many : length vs ≡ count
  as_many = sym (length_plainly vs) ∙ ap (λ (l : List Var). length l) (sym table) ∙ length_rows text m 0 count

  -- so a name that stands in the text is found there
  pub found_same : (v : Name) → Spelled text v → find (spelling text v.place (length v.letters)) 0 (rows_from text m 0 count) ≡ find v.letters 0 vs
  unfolding letters_at
  found_same v h = rw (← (stands_spelled text v.place v.letters h), table) (find_plainly v.letters 0 vs)

  -- and its slot says whether
  pub found_below : (l : List ℕ) (o : Option Slot) → find l 0 vs ≡ o → ltb (slot_or count o) count ≡ not (is_none o)
  unfolding is_none slot_or
  found_below l none e = le-ltb count count (omega arith)
  found_below l (some s) e = lt-ltb s.slot count (omega (arith, found_slot l vs s e, as_many))
