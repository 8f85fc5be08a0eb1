-- A declared name is looked for, tested, and entered. Assumes nothing.
use mathlib.Core.Path.{◌≡◌, refl, sym, ap, ◌∙◌}
use mathlib.Core.Bool.{Bool, true, false}
use mathlib.Core.List.{List, [], ◌∷◌, ◌++◌}
use mathlib.Core.Option.{Option, none, some}
use Prim.Native.Nat.{ℕ, ◌+◌, ◌*◌, ◌≤◌, ◌<◌}
use native.Mathlib.Numerals.{add-one}
use native.Mathlib.Omega.{arith}
use lib.Dec.{eqb, ltb}
use lib.IntN.{ℤ}
use lib.ListN.{length, drop, take}
use lib.Seq.{sets, length-sets, slice}
use borrow.Author.Tests.{eq-eqb, ne_eqb, ltb-true}
use Rattle.rules.specs.Limits.{token_numbers, variable_limit}
use Rattle.rules.specs.Base.{Res, ok, refuse, ◌>>=◌, need}
use Rattle.rules.specs.Numbers.{Ty, bool, dint}
use Rattle.rules.specs.Syntax.{Name, Decl}
use Rattle.rules.specs.Walk.{Var, Slot, find, is_none, initial, declare, declare_all}
use Rattle.rules.specs.Cells.{cell, name_cell, type_kind}
use Rattle.names.specs.Rows.{spelling, type_of, rows_from}
use Rattle.walk.proofs.Slots.{slot_or}
use Rattle.names.specs.Laws.{plainly, plainly_append, find_plainly, found_slot, stands_spelled, one_row_more}
use Rattle.theorems.specs.Spelling.{letters_at, Spelled}
use Rattle.walk.specs.Steps.{stack_start, kept, refused_at, checked}
use Rattle.walk.specs.Walking.{Ready}
use Rattle.walk.specs.Promises.{scope}
use Rattle.walk.specs.Declaring.{declared}
use Rattle.walk.specs.Places.{Step, Ok, Bad}
use Rattle.walk.proofs.Stores.{take_of_sets, drop-sets}
use Rattle.walk.proofs.Onward.{moved_on}

-- the type that a type's kind names
pub type-kind : (t : Ty) → type_of (type_kind t) ≡ t
unfolding type_of type_kind
type-kind bool = refl
type-kind dint = refl

-- a name in the text is spelled there
spelled : (text : List ℕ) (v : Name) → Spelled text v → v.letters ≡ spelling text v.place (length v.letters)
unfolding letters_at
spelled text v h = stands_spelled text v.place v.letters h

-- A name is new if no row has it

-- what is found among variables has a slot before their number
new_slot : (l : List ℕ) (vs : List Var) (o : Option Slot) → find l 0 vs ≡ o → eqb (slot_or (length vs) o) (length vs) ≡ is_none o
unfolding slot_or is_none
new_slot l vs none e = eq-eqb (length vs) (length vs) refl
new_slot l vs (some s) e = ne_eqb s.slot (length vs) (λ q. absurd (omega (arith, found_slot l vs s e)))

-- what the code finds among the rows says so
pub is_new : (text m : List ℕ) (count : ℕ) (vs : List Var) (v : Name) {slot : ℕ} → Spelled text v → count ≡ length vs → rows_from text m 0 count ≡ plainly vs
    → slot ≡ slot_or count (find (spelling text v.place (length v.letters)) 0 (rows_from text m 0 count)) → eqb slot count ≡ is_none (find v.letters 0 vs)
is_new text m count vs v h many table e =
    let found = ap (λ l. find l 0 (plainly vs)) (sym (spelled text v h)) ∙ find_plainly v.letters 0 vs in
    rw (e, table, found, many) (new_slot v.letters vs (find v.letters 0 vs) refl)

-- The tests: 6, 9

-- the step behind them, and what is still to be done; or the refusals are one
pub data Tested (vs : List Var) (d : Decl) (ds : List Decl) (R : Res (List Var)) (at free : ℕ) : Step → Type 0 where
  passed : length vs < variable_limit → R ≡ (◌>>=◌ (initial d d.init) (λ z. declare_all (vs ++ (declared d z ∷ [])) ds)) → Tested vs d ds R at free (Ok at free)
  failed : {n p : ℕ} → R ≡ refuse n p → Tested vs d ds R at free (Bad n p)

-- what the code tests
pub tested : (vs : List Var) (d : Decl) (ds : List Decl) (R : Res (List Var)) (at free : ℕ) {s₁ s₂ : Step} {b₁ b₂ : Bool} {p₁ p₂ : ℕ} → R ≡ declare_all vs (d ∷ ds)
    → (b₁ ≡ is_none (find d.name.letters 0 vs)) × (p₁ ≡ d.name.place) → (b₂ ≡ ltb (length vs) variable_limit) × (p₂ ≡ d.name.place)
    → s₁ ≡ checked b₁ 6 p₁ (Ok at free) → s₂ ≡ checked b₂ 9 p₂ s₁ → Tested vs d ds R at free s₂
unfolding declare_all declare declared need ◌>>=◌ checked refused_at
tested vs d ds R at free {s₁} {s₂} e f g q k = rw (k, q, f.0, f.1, g.0, g.1) (go (is_none (find d.name.letters 0 vs)) (ltb (length vs) variable_limit) refl e)
  where
    p : ℕ
    p = d.name.place

    behind : (r : Res ℤ) → ◌>>=◌ (◌>>=◌ r (λ z. ok (vs ++ (declared d z ∷ [])))) (λ ws. declare_all ws ds) ≡ ◌>>=◌ r (λ z. declare_all (vs ++ (declared d z ∷ [])) ds)
    behind (ok z) = refl
    behind (refuse n p) = refl

    go : (b c : Bool) → ltb (length vs) variable_limit ≡ c
        → R ≡ ◌>>=◌ (◌>>=◌ (need b 6 p) (λ _. ◌>>=◌ (need c 9 p) (λ _. ◌>>=◌ (initial d d.init) (λ z. ok (vs ++ (declared d z ∷ [])))))) (λ ws. declare_all ws ds)
        → Tested vs d ds R at free (checked c 9 p (checked b 6 p (Ok at free)))
    go false true h e = failed e
    go false false h e = failed e
    go true false h e = failed e
    go true true h e = passed (ltb-true _ _ h) (e ∙ behind (initial d d.init))

-- The row of a declared name

module _ {text m : List ℕ} {at free count : ℕ} {vs : List Var} (d : Decl) (z : ℤ) (w : List ℕ) (h : Spelled text d.name) (few : count < variable_limit)
    (y : Ready (scope text count vs) m at free (name_cell (type_kind d.type) d.name ++ w)) where
  -- the row, and the numbers with it
  abbrev row : List ℕ
  row = type_kind d.type ∷ d.name.place ∷ length d.name.letters ∷ []

  abbrev entered : List ℕ
  entered = sets m (3 * count) row

  -- the rows are one more
  entered-rows : rows_from text entered 0 (count + 1) ≡ plainly (vs ++ (declared d z ∷ []))
  unfolding declared plainly
  entered-rows =
      ap (rows_from text entered 0) (add-one count)
      ∙ one_row_more text m count _ _ _ (let l = y.long in omega arith)
      ∙ rw (y.table, ← (spelled text d.name h), type-kind d.type) (sym (plainly_append vs (declared d z ∷ [])))

  -- what lies behind the names is as it was
  entered_behind : (k : ℕ) → token_numbers ≤ k → drop k (kept entered) ≡ drop k (kept m)
  unfolding kept
  entered_behind k l = ap (drop k) (take_of_sets m (3 * count) row stack_start) ∙ drop-sets (kept m) (3 * count) row k (omega arith)

  -- also what is written
  pub entered-part : slice token_numbers free (kept entered) ≡ slice token_numbers free (kept m)
  unfolding kept
  entered-part =
      ap (slice token_numbers free) (take_of_sets m (3 * count) row stack_start)
      ∙ ap (drop token_numbers) (take_of_sets (kept m) (3 * count) row free)
      ∙ drop-sets (take free (kept m)) (3 * count) row token_numbers (omega arith)

  -- and the walk may go on with one variable more
  pub entered-ready : Ready (scope text (count + 1) (vs ++ (declared d z ∷ []))) entered (at + 3) free w
  unfolding name_cell cell
  entered-ready =
      moved_on free (name_cell (type_kind d.type) d.name) w y (length-sets m (3 * count) row)
      (entered_behind (at + 3) (let l = y.low in let r = y.room in omega arith))
      (y.low, let r = y.room in omega arith)
      (omega arith)
      entered-rows
