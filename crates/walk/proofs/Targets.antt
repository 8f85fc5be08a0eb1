-- A name that is assigned or taken by a FOR: what is found in the rows of names is what the rules find among the variables. Assumes nothing.
use mathlib.Core.Path.{◌≡◌, refl, sym, ap, ◌∙◌}
use mathlib.Core.Bool.{Bool, true, false, not}
use mathlib.Core.List.{List, [], append-nil}
use mathlib.Core.Option.{Option, none, some}
use Prim.Native.Nat.{ℕ, ◌*◌, ◌≤◌, ◌<◌}
use native.Mathlib.Nat.{le_refl}
use native.Mathlib.Omega.{arith}
use lib.Dec.{ltb}
use lib.ListN.{length, get_or}
use borrow.Author.Tests.{lt-ltb, le-ltb}
use Rattle.rules.specs.Base.{Res, ◌>>=◌, need, member}
use Rattle.rules.specs.Numbers.{bool}
use Rattle.rules.specs.Limits.{variable_limit}
use Rattle.rules.specs.Syntax.{Name}
use Rattle.rules.specs.Walk.{Var, Slot, find, is_none, known_at, known, assigned}
use Rattle.rules.specs.Cells.{type_kind, name_cell}
use Rattle.names.specs.Rows.{spelling, type_of, rows_from}
use Rattle.walk.proofs.Slots.{slot_or}
use Rattle.names.specs.Laws.{length_rows, stands_spelled, plainly, length_plainly, find_plainly, found_slot, found_type}
use Rattle.theorems.specs.TreePlaces.{NameIn}
use Rattle.theorems.specs.Spelling.{Spelled, letters_at}
use Rattle.walk.specs.Steps.{cell_at, skipped, checked, Moves}
use Rattle.walk.specs.Walking.{Ready, When}
use Rattle.walk.specs.Promises.{scope, Marks, TargetIs, AssignedMeans}
use Rattle.walk.specs.Places.{Step}
use Rattle.cells.specs.declared.cell.Cell.{Cell}
use Rattle.walk.proofs.Moves.{moved-skip, moved-check}
use Rattle.walk.proofs.Follow.{begin, gives, checks, looks, skips, still_checked, still_skipped}
use Rattle.walk.proofs.Along.{check_held, said, laid, stands}

-- the slot that was found, or any
unfoldable slot_in : Option Slot → Slot
slot_in none = record { slot = 0; type = bool }
slot_in (some s) = s

-- a name is known if it is found
known-test : {B : Type 0} (p : ℕ) (o : Option Slot) (K : Slot → Res B) → ◌>>=◌ (known_at p o) K ≡ ◌>>=◌ (need (not (is_none o)) 7 p) (λ _. K (slot_in o))
unfolding known_at is_none ◌>>=◌ need slot_in
known-test p none K = refl
known-test p (some s) K = refl

-- what the number of a row says of what the rules find: whether it is found, and if so its slot and its type
record Finds (count : ℕ) (m : List ℕ) (slot : ℕ) (o : Option Slot) : Type 0 where
  tests : ltb slot count ≡ not (is_none o)
  same : not (is_none o) ≡ true → slot ≡ (slot_in o).slot
  few : not (is_none o) ≡ true → (slot_in o).slot < variable_limit
  type : not (is_none o) ≡ true → type_of (get_or m (3 * slot) 0) ≡ (slot_in o).type

-- they are the variables'
finds : (text : List ℕ) (count : ℕ) (vs : List Var) (m l : List ℕ) {slot : ℕ} → count ≤ variable_limit → rows_from text m 0 count ≡ plainly vs → slot ≡ slot_or count (find l 0 vs)
    → Finds count m slot (find l 0 vs)
unfolding slot_or is_none slot_in
finds text count vs m l {slot} few table e = go (find l 0 vs) refl e
  where
    many : count ≡ length vs
    many = sym (length_rows text m 0 count) ∙ ap (λ (ws : List Var). length ws) table ∙ length_plainly vs

    go : (o : Option Slot) → find l 0 vs ≡ o → slot ≡ slot_or count o → Finds count m slot o
    go none q z = record {
      tests = le-ltb slot count (omega arith);
      same = λ h. let y : ◌≡◌ {A = ℕ} 0 1 = cc in absurd (omega arith);
      few = λ h. let y : ◌≡◌ {A = ℕ} 0 1 = cc in absurd (omega arith);
      type = λ h. let y : ◌≡◌ {A = ℕ} 0 1 = cc in absurd (omega arith);
    }
    go (some s) q z =
        let k = found_slot l vs s q in
        let n = many in
        let f : s.slot < variable_limit = omega arith in
        record {
          tests = lt-ltb slot count (omega arith);
          same = λ h. z;
          few = λ h. f;
          type = λ h. rw z (found_type l text m count vs s table q);
        }

-- the letters of the cell ahead are those of the name
slot_of_name : (text : List ℕ) (count : ℕ) (vs : List Var) (m : List ℕ) (v : Name) {tag slot : ℕ} {name : Cell} → NameIn (length text) (Spelled text) v → rows_from text m 0 count ≡ plainly vs
    → name ≡ record { tag = tag; place = v.place; datum = length v.letters } → slot ≡ slot_or count (find (spelling text name.place name.datum) 0 (rows_from text m 0 count))
    → slot ≡ slot_or count (find v.letters 0 vs)
unfolding letters_at
slot_of_name text count vs m v {name} h table sees e =
    e ∙ ap (λ c. slot_or count (find (spelling text c.place c.datum) 0 (rows_from text m 0 count))) sees
    ∙ ap (λ l. slot_or count (find l 0 (rows_from text m 0 count))) (sym (stands_spelled text v.place v.letters h.has))
    ∙ ap (λ ws. slot_or count (find v.letters 0 ws)) table ∙ ap (slot_or count) (find_plainly v.letters 0 vs)

-- what is known where the walk stands before the name, unless there was a refusal
record Known (count : ℕ) (m : List ℕ) (taken : List Bool) (slots : List ℕ) (v : Name) (place slot : ℕ) (o : Option Slot) : Type 0 where
  found : Finds count m slot o
  near : place ≡ v.place
  marks : Marks taken slots

module _ (text : List ℕ) (count : ℕ) (taken : List Bool) (m : List ℕ) (s : Step) {behind sure free : Step} {name : Cell} {slot kind : ℕ} {mark : Bool} (sees : name ≡ cell_at m s)
    (past : behind ≡ skipped m s) (finding : slot ≡ slot_or count (find (spelling text name.place name.datum) 0 (rows_from text m 0 count)))
    (first : sure ≡ checked (ltb slot count) 7 name.place behind) (marking : mark ≡ get_or taken slot false) (second : free ≡ checked (not mark) 11 name.place sure)
    (typing : kind ≡ type_kind (type_of (get_or m (3 * slot) 0))) where
  -- how far it comes
  assigned-moves : Moves 3 m m s free
  assigned-moves =
      let a = moved-skip m s past in
      let b = moved-check m (ltb slot count) 7 name.place behind first in
      let c = moved-check m (not mark) 11 name.place sure second in
      omega arith

  module _ (vs : List Var) (slots : List ℕ) (v : Name) where
    -- what the rules find
    abbrev o : Option Slot
    o = find v.letters 0 vs

    abbrev Sure : Type 0
    Sure = Known count m taken slots v name.place slot o

    -- it is known where the walk stands before the name's cell
    sure_of : {tag at free : ℕ} {w : List ℕ} → NameIn (length text) (Spelled text) v × Marks taken slots → Ready (scope text count vs) m at free w
        → cell_at m s ≡ record { tag = tag; place = v.place; datum = length v.letters } → Sure
    sure_of h y e =
        let z = sees ∙ e in
        record {
          found = finds text count vs m v.letters y.few y.table (slot_of_name text count vs m v h.0 y.table z finding);
          near = ap (λ c. c.place) z;
          marks = h.1;
        }

    -- behind the first test it is found
    is_found : When sure Sure → When sure (not (is_none o) ≡ true)
    is_found k at free e = sym (k at free e).found.tests ∙ check_held (ltb slot count) 7 name.place behind first at free e

    -- then its mark says whether an enclosing FOR has it
    same_mark : Sure → not (is_none o) ≡ true → mark ≡ member (slot_in o).slot slots
    same_mark k h = marking ∙ ap (λ i. get_or taken i false) (k.found.same h) ∙ k.marks.marks (slot_in o).slot (k.found.few h)

    -- and the answer is what the rules say
    target : Sure → not (is_none o) ≡ true → TargetIs v (record { step = free; slot = slot; kind = kind; place = name.place }) (slot_in o)
    target k h = record { slot = k.found.same h; few = k.found.few h; kind = typing ∙ ap type_kind (k.found.type h); place = k.near }

  -- what it does
  assigned-means : AssignedMeans text count taken m s (record { step = free; slot = slot; kind = kind; place = name.place })
  unfolding name_cell assigned known
  assigned-means vs slots tag v =
      begin (λ given. laid (sym (append-nil (name_cell tag v))) (stands (λ here. looks tag v.place (length v.letters) [] (λ sight.
      let k₀ : When s (Sure vs slots v) = λ at free e. sure_of vs slots v (given at free e) (here at free e) (sight at free e) in
      let k₁ = still_skipped m past k₀ in
      let k₂ = still_checked (ltb slot count) 7 name.place first k₁ in
      let h₂ = is_found vs slots v k₂ in
      let k₃ = still_checked (not mark) 11 name.place second k₂ in
      let h₃ = still_checked (not mark) 11 name.place second h₂ in
      said (known-test v.place (find v.letters 0 vs) _)
      (skips tag v.place (length v.letters) past
      (checks (ltb slot count) _ 7 name.place v.place first (λ at free e. ((k₁ at free e).found.tests, (k₁ at free e).near))
      (checks (not mark) _ 11 name.place v.place second (λ at free e. (ap not (same_mark vs slots v (k₂ at free e) (h₂ at free e)), (k₂ at free e).near))
      (gives (slot_in (find v.letters 0 vs)) (λ at free e. target vs slots v (k₃ at free e) (h₃ at free e)) refl (le_refl _)))))))))

  pub assigned-does : Moves 3 m m s free × AssignedMeans text count taken m s (record { step = free; slot = slot; kind = kind; place = name.place })
  assigned-does = (assigned-moves, assigned-means)
