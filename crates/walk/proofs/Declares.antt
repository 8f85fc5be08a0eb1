-- One declaration more: what the code does is what the rules say. Assumes nothing.
use mathlib.Core.Path.{◌≡◌, refl, sym, ap, ◌∙◌}
use mathlib.Core.Bool.{Bool, true, false}
use mathlib.Core.List.{List, [], ◌∷◌, ◌++◌, append_assoc, append-nil}
use mathlib.Core.Option.{none}
use Prim.Native.Nat.{ℕ, ◌+◌, ◌*◌, ◌<◌}
use native.Mathlib.Omega.{arith}
use lib.Dec.{eqb, ltb}
use lib.IntN.{ℤ, pos}
use lib.ListN.{length, length-append}
use lib.Seq.{sets, slice}
use Rattle.rules.specs.Limits.{token_numbers, variable_limit}
use Rattle.rules.specs.Base.{Res, ok, refuse, ◌>>=◌}
use Rattle.rules.specs.Numbers.{bool}
use Rattle.rules.specs.Kinds.{FINISH}
use Rattle.rules.specs.Syntax.{Decl}
use Rattle.rules.specs.Walk.{Var, find, initial, declare_all}
use Rattle.rules.specs.Cells.{end_cell, name_cell, maybe_cells, type_kind, decl_cells, decls_cells}
use Rattle.names.specs.Rows.{spelling, type_of, rows_from}
use Rattle.walk.proofs.Slots.{slot_or}
use Rattle.theorems.specs.TokenPlaces.{e_cons}
use Rattle.theorems.specs.TreePlaces.{DeclIn}
use Rattle.theorems.specs.Spelling.{Spelled}
use Rattle.walk.specs.Steps.{kept, cell_at, tag_at, skipped, refused_at, checked, left, Moves}
use Rattle.walk.specs.Walking.{Ready, Any}
use Rattle.walk.specs.Promises.{scope}
use Rattle.walk.specs.Declaring.{declared, var_cell, var_cells, InitialMeans, Stand, Amid, midway, stopped, DeclarationMeans}
use Rattle.walk.specs.Places.{Step, Ok, Bad}
use Rattle.cells.specs.declared.cell.Cell.{Cell}
use Rattle.walk.proofs.Moves.{left_same, kept_sets, moved-skip, moved-check}
use Rattle.walk.proofs.Follow.{cell-ahead}
use Rattle.walk.proofs.Onward.{tag-ahead, skip-ahead, After, came, lost, after, refusal-stays}
use Rattle.walk.proofs.Enters.{type-kind, is_new, Tested, passed, failed, tested, entered-part, entered-ready}

-- the cells of one variable more
var_cells_more : (vs ws : List Var) → var_cells (vs ++ ws) ≡ var_cells vs ++ var_cells ws
unfolding var_cells
var_cells_more [] ws = refl
var_cells_more (v ∷ vs) ws = ap (λ l. var_cell v ++ l) (var_cells_more vs ws) ∙ sym (append_assoc (var_cell v) (var_cells vs) (var_cells ws))

-- the cells of a declaration and those behind it
pub first_cells : (d : Decl) (ds : List Decl) (tail : List ℕ) → decls_cells (d ∷ ds) ++ tail ≡ name_cell (type_kind d.type) d.name ++ (maybe_cells d.init ++ (decls_cells ds ++ tail))
unfolding decls_cells decl_cells
first_cells d ds tail =
    let n = name_cell (type_kind d.type) d.name in
    append_assoc (n ++ maybe_cells d.init) (decls_cells ds) tail ∙ append_assoc n (maybe_cells d.init) (decls_cells ds ++ tail)

-- behind the tests: a new name, of which there is room for one more; or the refusals are one
data Looked (text tail : List ℕ) (R : Res (List Var)) (m : List ℕ) (count : ℕ) (name : Cell) : Step → Type 0 where
  fresh : {at free : ℕ} (vs : List Var) (d : Decl) (ds : List Decl) → count ≡ length vs → count < variable_limit
      → R ≡ (◌>>=◌ (initial d d.init) (λ z. declare_all (vs ++ (declared d z ∷ [])) ds)) → Stand text ds → Spelled text d.name
      → Ready (scope text count vs) m at free (name_cell (type_kind d.type) d.name ++ (maybe_cells d.init ++ (decls_cells ds ++ tail)))
      → slice token_numbers free (kept m) ≡ var_cells vs → name ≡ record { tag = type_kind d.type; place = d.name.place; datum = length d.name.letters }
      → Looked text tail R m count name (Ok (at + 3) free)
  over : {n p : ℕ} → R ≡ refuse n p → Looked text tail R m count name (Bad n p)

-- a refusal stays
bad_stays : (m : List ℕ) {s₁ s₂ s₃ : Step} (b₁ b₂ : Bool) (n₁ p₁ n₂ p₂ n p : ℕ) → s₁ ≡ skipped m (Bad n p) → s₂ ≡ checked b₁ n₁ p₁ s₁ → s₃ ≡ checked b₂ n₂ p₂ s₂ → s₃ ≡ Bad n p
unfolding skipped checked refused_at
bad_stays m b₁ b₂ n₁ p₁ n₂ p₂ n p skip e f = f ∙ ap (checked b₂ n₂ p₂) (e ∙ ap (checked b₁ n₁ p₁) skip ∙ one b₁ n₁ p₁) ∙ one b₂ n₂ p₂
  where
    one : (b : Bool) (o q : ℕ) → checked b o q (Bad n p) ≡ Bad n p
    one true o q = refl
    one false o q = refl

-- what the code does with the name ahead: it is looked at, skipped, looked for, and tested
pub record Tries (text m : List ℕ) (count : ℕ) (s : Step) (slot : ℕ) (name : Cell) (behind new few : Step) : Type 0 where
  pub sees : name ≡ cell_at m s
  pub skip : behind ≡ skipped m s
  pub found : slot ≡ slot_or count (find (spelling text name.place name.datum) 0 (rows_from text m 0 count))
  pub other : new ≡ checked (eqb slot count) 6 name.place behind
  pub room : few ≡ checked (ltb count variable_limit) 9 name.place new

-- where a declaration is ahead
name-looked : {text m : List ℕ} {at free count slot : ℕ} {name : Cell} {behind new few : Step} (tail : List ℕ) (R : Res (List Var)) (vs : List Var) (d : Decl) (ds : List Decl)
    → R ≡ declare_all vs (d ∷ ds) → count ≡ length vs → DeclIn (length text) (Spelled text) d → Stand text ds
    → Ready (scope text count vs) m at free (name_cell (type_kind d.type) d.name ++ (maybe_cells d.init ++ (decls_cells ds ++ tail)))
    → slice token_numbers free (kept m) ≡ var_cells vs → Tries text m count (Ok at free) slot name behind new few → Looked text tail R m count name few
unfolding name_cell
name-looked {text} {m} {at} {free} {count} {slot} {name} {behind} {new} tail R vs d ds e many h each y part c =
    follow (tested vs d ds R (at + 3) free e (is_new text m count vs d.name h.name.has many y.table (rw is at c.found), place) (ap (λ n. ltb n variable_limit) many, place) first c.room)
  where
    is : name ≡ record { tag = type_kind d.type; place = d.name.place; datum = length d.name.letters }
    is = c.sees ∙ cell-ahead _ _ _ _ y

    place : name.place ≡ d.name.place
    place = ap (λ c. c.place) is

    first : new ≡ checked (eqb slot count) 6 name.place (Ok (at + 3) free)
    first = c.other ∙ ap (checked (eqb slot count) 6 name.place) (c.skip ∙ skip-ahead _ _ _ _ y)

    follow : {t : Step} → Tested vs d ds R (at + 3) free t → Looked text tail R m count name t
    follow (passed few q) = fresh vs d ds many (rw many few) q each h.name.has y part is
    follow (failed q) = over q

-- where one must be
looked : {text m : List ℕ} {count slot : ℕ} {name : Cell} {s behind new few : Step} (tail : List ℕ) (R : Res (List Var)) → Tries text m count s slot name behind new few
    → (tag_at m s ≡ FINISH → ⊥) → Amid text tail R m count s → Looked text tail R m count name few
unfolding decls_cells end_cell
looked {m} tail R c more (stopped {n} {p} e) = rw (bad_stays m _ _ _ _ _ _ n p c.skip c.other c.room) (over e)
looked tail R c more (midway vs [] e many each y part) = absurd (more (tag-ahead FINISH 0 0 tail refl y))
looked tail R c more (midway vs (d ∷ ds) e many (e_cons h each) y part) = name-looked tail R vs d ds e many h each (rw (first_cells d ds tail) at y) part c

-- The two ways that a declaration ends

-- a declaration, where none matters
any : Decl
any = record { name = record { place = 0; letters = [] }; type = bool; init = none }

-- the initial value, where there is one
unfoldable value : Res ℤ → ℤ
value (ok z) = z
value (refuse n p) = pos 0

-- behind the initial value the other declarations are ahead, or it was refused
goes_on : {text m m' tail : List ℕ} {R : Res (List Var)} {count free : ℕ} {r : Step} (vs : List Var) (d : Decl) (ds : List Decl) (o : Res ℤ)
    → R ≡ (◌>>=◌ o (λ z. declare_all (vs ++ (declared d z ∷ [])) ds)) → count ≡ length vs → Stand text ds → slice token_numbers free (kept m) ≡ var_cells vs
    → After (scope text (count + 1) (vs ++ (declared d (value o) ∷ []))) Any (λ z. var_cell (declared d z)) m m' (decls_cells ds ++ tail) free r o → Amid text tail R m' (count + 1) r
unfolding ◌>>=◌ value var_cells
goes_on vs d ds (refuse n p) e many each part lost = stopped e
goes_on vs d ds (ok z) e many each part (came _ _ y more) =
    midway (vs ++ (declared d z ∷ [])) ds e (rw (length-append vs (declared d z ∷ [])) (omega arith)) each y
    (more ∙ ap (λ l. l ++ var_cell (declared d z)) part ∙ rw (var_cells_more vs (declared d z ∷ []), append-nil (var_cell (declared d z))))

-- the type of a name as the code reads it from its cell
abbrev pub typed_as : Cell → Cell
typed_as name = record { tag = type_kind (type_of name.tag); place = name.place; datum = 0 }

-- the initial value of a new name that was entered
valued : {text m m₁ m' : List ℕ} {count : ℕ} {name : Cell} {few r : Step} (tail : List ℕ) (R : Res (List Var)) → m₁ ≡ sets m (3 * count) (type_kind (type_of name.tag) ∷ name.place ∷ name.datum ∷ [])
    → InitialMeans (typed_as name) m₁ m' few r → Looked text tail R m count name few → Amid text tail R m' (count + 1) r
valued tail R stored means (over e) = rw (refusal-stays (means (scope [] 0 []) any)) (stopped e)
valued {text} {m} {m₁} {m'} {count} {name} tail R stored means (fresh {at} {free} vs d ds many few e each h y part is) =
    goes_on vs d ds (initial d d.init) e many each before
    (after (maybe_cells d.init) (decls_cells ds ++ tail) (means _ d) (kind_is, ap (λ c. c.place) is) ready)
  where
    z : ℤ
    z = value (initial d d.init)

    kind_is : type_kind (type_of name.tag) ≡ type_kind d.type
    kind_is = ap (λ c. type_kind (type_of c.tag)) is ∙ ap type_kind (type-kind d.type)

    rows : m₁ ≡ sets m (3 * count) (type_kind d.type ∷ d.name.place ∷ length d.name.letters ∷ [])
    rows = stored ∙ ap (λ c. sets m (3 * count) (type_kind (type_of c.tag) ∷ c.place ∷ c.datum ∷ [])) is ∙ ap (λ t. sets m (3 * count) (type_kind t ∷ d.name.place ∷ length d.name.letters ∷ [])) (type-kind d.type)

    ready : Ready (scope text (count + 1) (vs ++ (declared d z ∷ []))) m₁ (at + 3) free (maybe_cells d.init ++ (decls_cells ds ++ tail))
    ready = rw rows (entered-ready d z (maybe_cells d.init ++ (decls_cells ds ++ tail)) h few y)

    before : slice token_numbers free (kept m₁) ≡ var_cells vs
    before = ap (λ l. slice token_numbers free (kept l)) rows ∙ entered-part d z (maybe_cells d.init ++ (decls_cells ds ++ tail)) h few y ∙ part

-- a test failed
over_none : {text m tail : List ℕ} {R : Res (List Var)} {count k n p : ℕ} {name : Cell} → Looked text tail R m count name (Bad n p) → Amid text tail R m k (Bad n p)
over_none (over e) = stopped e

pub declaration_refused : {text m : List ℕ} {count k n p slot : ℕ} {s : Step} {name : Cell} {behind new : Step} → Tries text m count s slot name behind new (Bad n p) → DeclarationMeans text count m m s (record { step = Bad n p; count = k })
declaration_refused c tail R more a = over_none (looked tail R c more a)

module _ {text m : List ℕ} {count slot : ℕ} {s : Step} {name : Cell} {behind new few : Step} (c : Tries text m count s slot name behind new few) where
  -- the tests go past the name
  tests-move : Moves 3 m m s few
  tests-move = omega (arith, moved-skip m s c.skip, moved-check m _ _ _ behind c.other, moved-check m _ _ _ new c.room)

  -- it is entered, and its variable is written
  pub declaration_more : {m₁ m' : List ℕ} {r : Step} → m₁ ≡ sets m (3 * count) (type_kind (type_of name.tag) ∷ name.place ∷ name.datum ∷ []) → Moves 3 m₁ m' few r × InitialMeans (typed_as name) m₁ m' few r
      → Moves 3 m m' s r × DeclarationMeans text count m m' s (record { step = r; count = count + 1 })
  declaration_more {m₁} stored d =
      let same : left m₁ few ≡ left m few = left_same few m m₁ (ap (λ l. length (kept l)) stored ∙ kept_sets m (3 * count) (type_kind (type_of name.tag) ∷ name.place ∷ name.datum ∷ [])) in
      (omega (arith, tests-move, d.0), λ tail R more a. valued tail R stored d.1 (looked tail R c more a))
