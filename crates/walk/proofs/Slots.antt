-- The slot that the code finds: how many names there are stands for none. Assumes nothing.
use mathlib.Core.Path.{◌≡◌, refl, sym}
use mathlib.Core.Bool.{Bool, true, false, not}
use mathlib.Core.List.{List}
use mathlib.Core.Option.{Option, none, some}
use Prim.Native.Nat.{ℕ}
use native.Mathlib.Omega.{arith}
use lib.Dec.{eqb, ltb}
use borrow.Author.Tests.{lt-ltb, le-ltb, eq-eqb, ne_eqb}
use Rattle.std.specs.Prelude as Std
use Rattle.rules.specs.Walk.{Slot, find, is_none}
use Rattle.rules.specs.Cells.{type_kind}
use Rattle.rules.specs.Answers.{type_as}
use Rattle.rules.specs.declared.compiling.Fault.TheVariants.{Unknown}
use Rattle.rules.specs.declared.compiling.Refusal.{Refusal}
use Rattle.rules.specs.declared.kinds.Type as Kinds
use Rattle.rules.specs.declared.kinds.Type.TheVariants.{Bool as Boolean, Dint}
use Rattle.names.specs.Rows.{spelling, rows_from, slot_of}
use Rattle.names.specs.Laws.{found_row}
use Rattle.cells.specs.declared.cell.Cell.{Cell}
use Rattle.walk.specs.Places.{Step, Ok, Bad, refused, type_number}
use Rattle.walk.specs.Steps.{refused_at, checked}
use Rattle.walk.specs.Naming.{found}

-- the kind of a type
pub kind_is : (t : Kinds.Type) → type_number t ≡ type_kind (type_as t)
unfolding type_kind
kind_is Boolean = refl
kind_is Dint = refl

unfoldable pub slot_or : ℕ → Option Slot → ℕ
slot_or count none = count
slot_or count (some s) = s.slot

module _ (text m : List ℕ) (count : ℕ) (name : Cell) where
  -- what is found among the rows
  abbrev looked : Option Slot
  looked = find (spelling text name.place name.datum) 0 (rows_from text m 0 count)

  -- none is: 7
  pub not_found : (at free : ℕ) {e : Refusal} → (found text m count name ≡ Std.None) × (e ≡ record { fault = Unknown; place = name.place })
      → refused e ≡ checked (ltb (slot_or count looked) count) 7 name.place (Ok at free)
  unfolding slot_or checked refused_at
  not_found at free h = rw h.1 (go looked h.0)
    where
      go : (o : Option Slot) → slot_of o ≡ Std.None → Bad 7 name.place ≡ checked (ltb (slot_or count o) count) 7 name.place (Ok at free)
      go none e = rw (le-ltb count count (omega arith), checked, refused_at)
      go (some s) e = absurd cc

  -- one is, which is below how many there are
  pub was_found : (s : Step) {slot : ℕ} → found text m count name ≡ Std.Some slot → (slot ≡ slot_or count looked) × (s ≡ checked (ltb slot count) 7 name.place s)
  unfolding slot_or checked
  was_found s {slot} h = go looked refl h
    where
      go : (o : Option Slot) → looked ≡ o → slot_of o ≡ Std.Some slot → (slot ≡ slot_or count o) × (s ≡ checked (ltb slot count) 7 name.place s)
      go none q e = absurd cc
      go (some x) q e =
          let same : x.slot ≡ slot = cc in
          let low = (found_row (spelling text name.place name.datum) text m 0 count x q).1 in
          (sym same, rw (lt-ltb slot count (omega arith), checked) refl)

  -- a name that none has is found in no slot
  pub new_is : is_none looked ≡ eqb (slot_or count looked) count
  unfolding slot_or is_none
  new_is = go looked refl
    where
      go : (o : Option Slot) → looked ≡ o → is_none o ≡ eqb (slot_or count o) count
      go none q = sym (eq-eqb count count refl)
      go (some x) q =
          let low = (found_row (spelling text name.place name.datum) text m 0 count x q).1 in
          sym (ne_eqb x.slot count (λ e. omega arith))

-- how the code tells that there is none
pub none_told : (o : Option Slot) (b : Bool) → Std.is_some (slot_of o) ≡ not b → b ≡ is_none o
unfolding is_none
none_told none true e = refl
none_told none false e = absurd cc
none_told (some s) true e = absurd cc
none_told (some s) false e = refl
