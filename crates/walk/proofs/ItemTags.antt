-- A cell's tag says which item it is. So the code, which chooses by the tag, does what the rules say of the item. Assumes nothing.
use mathlib.Core.Path.{◌≡◌, refl, ap, ◌∙◌}
use mathlib.Core.Bool.{Bool, true, false}
use mathlib.Core.List.{List, [], ◌∷◌}
use Prim.Native.Nat.{ℕ}
use native.Mathlib.Omega.{arith}
use lib.Dec.{leb}
use lib.ListN.{length}
use Rattle.rules.specs.Base.{Res}
use Rattle.rules.specs.Numbers.{of_bool}
use Rattle.rules.specs.Bytes.{to_u}
use Rattle.rules.specs.Kinds.{NAME, INT, BOOL, DINT, TRUE, FALSE, OPEN}
use Rattle.rules.specs.Core.{Bin, Mul}
use Rattle.rules.specs.Syntax.{Name, Sign, plus}
use Rattle.rules.specs.Cells.{cell, name_cell, truth_kind, UNARY, BINARY}
use Rattle.walk.specs.Steps.{cell_at, checked, extended, written}
use Rattle.walk.specs.Items.{Item, name_i, whole_i, truth_i, paren_i, sign_i, binary_i, item_cell, Operand, item_does}
use Rattle.walk.specs.Walking.{Scope, Ready, Walked, Did, walks, stays}
use Rattle.walk.specs.Promises.{scope}
use Rattle.walk.specs.Stacking.{Stacks, Before, Behind, ItemDone, PartMeans, Read, VariableMeans, SignMeans, OperationMeans}
use Rattle.walk.specs.Places.{Step, Ok, Bad, Inside, at}
use Rattle.walk.specs.Moving.{Skips}
use Rattle.walk.specs.declared.steps.Walk.{Walk}
use Rattle.cells.specs.declared.cell.Cell.{Cell}
use Rattle.walk.proofs.Follow.{cell-ahead}
use Rattle.walk.proofs.ItemPromises.{truth_done, whole_done, paren_done}

-- the tags of the items
pub data Tagged : ℕ → Item → Type 0 where
  name_t : {v : Name} → Tagged NAME (name_i v)
  whole_t : {p v : ℕ} → Tagged INT (whole_i p v)
  true_t : {p : ℕ} → Tagged TRUE (truth_i p true)
  false_t : {p : ℕ} → Tagged FALSE (truth_i p false)
  paren_t : {p : ℕ} → Tagged OPEN (paren_i p)
  sign_t : {p : ℕ} {g : Sign} → Tagged UNARY (sign_i p g)
  binary_t : {p : ℕ} {o : Bin} → Tagged BINARY (binary_i p o)

-- an item's cell
pub record Cut (i : Item) : Type 0 where
  pub tag : ℕ
  pub place : ℕ
  pub datum : ℕ
  pub is : item_cell i ≡ cell tag place datum
  pub tagged : Tagged tag i

pub cut : (i : Item) → Cut i
unfolding item_cell name_cell truth_kind
cut (name_i v) = record { tag = NAME; place = v.place; datum = length v.letters; is = refl; tagged = name_t }
cut (whole_i p v) = record { tag = INT; place = p; datum = v; is = refl; tagged = whole_t }
cut (truth_i p true) = record { tag = TRUE; place = p; datum = 0; is = refl; tagged = true_t }
cut (truth_i p false) = record { tag = FALSE; place = p; datum = 0; is = refl; tagged = false_t }
cut (paren_i p) = record { tag = OPEN; place = p; datum = 0; is = refl; tagged = paren_t }
cut (sign_i p g) = record { tag = UNARY; place = p; datum = _; is = refl; tagged = sign_t }
cut (binary_i p o) = record { tag = BINARY; place = p; datum = _; is = refl; tagged = binary_t }

-- a refusal stays
abbrev Falls : Step → Step → Type 0
Falls s r = (n p : ℕ) → s ≡ Bad n p → r ≡ Bad n p

did-falls : {σ : Scope} {Given : Type 0} {A : Type 0} {Q : A → Type 0} {encode : A → List ℕ} {gain : ℕ} {cells m m' : List ℕ} {s r : Step} {R : Res A} → Did σ Given Q encode gain cells m m' s r R → Falls s r
did-falls (walks d) n p e = let z : ◌≡◌ {A = ℕ} 0 1 = cc in absurd (omega arith)
did-falls stays n p e = e

-- what is done for the tag ahead is done for the item
module _ {σ : Scope} {os : List Operand} {m m' : List ℕ} {top : ℕ} {r : Inside} {c : Cell} where
  by_tag : (i : Item) (s : Step) → c ≡ cell_at m s → Falls s r.step → (Tagged c.tag i → ItemDone σ i os m m' s top r) → ItemDone σ i os m m' s top r
  unfolding cell
  by_tag i (Bad n p) e h k = rw (h n p refl) stays
  by_tag i (Ok at free) e h k = walks (λ g y. follow (k (rw (tag y) (cut i).tagged)) g y)
    where
      x : Cut i
      x = cut i

      tag : Ready σ m at free (item_cell i) → c.tag ≡ x.tag
      tag y = ap (λ d. d.tag) (e ∙ cell-ahead x.tag x.place x.datum [] (rw x.is at y))

      follow : ItemDone σ i os m m' (Ok at free) top r → Before σ m top os i → Ready σ m at free (item_cell i) → Walked (Behind m' r.top os) (λ x. x.cell) 0 (length (item_cell i)) m m' at free r.step (item_does σ.vars i os)
      follow (walks f) g y = f g y

-- One arm of the code for each tag, and one for the rest

module _ {text m m' : List ℕ} {count top : ℕ} {s behind : Step} {r : Inside} {c : Cell} (y : Read m c behind s) where
  pub name-arm : c.tag ≡ NAME → VariableMeans text count c behind m m' top r → PartMeans text count m m' s top r
  name-arm e h vs i os = by_tag i s y.cell (did-falls (h vs (record { place = 0; letters = [] }) os s y)) (λ t. go (rw e at t))
    where
      go : {i : Item} → Tagged NAME i → ItemDone (scope text count vs) i os m m' s top r
      go name_t = h vs _ os s y

  pub whole_arm : {small : Step} → c.tag ≡ INT → small ≡ checked (leb c.datum 2147483647) 4 c.place behind → Stacks m m' small top (cell INT 0 c.datum) (DINT ∷ 1 ∷ []) r
      → PartMeans text count m m' s top r
  whole_arm e t w vs i os = by_tag i s y.cell (did-falls (go (whole_t {p = 0} {v = 0}))) (λ t. go (rw e at t))
    where
      go : {i : Item} → Tagged INT i → ItemDone (scope text count vs) i os m m' s top r
      go (whole_t {p} {v}) = whole_done p v y t w

  pub truth-arm : (b : Bool) → c.tag ≡ truth_kind b → Stacks m m' behind top (cell (truth_kind b) 0 (to_u (of_bool b))) (BOOL ∷ 1 ∷ []) r → PartMeans text count m m' s top r
  unfolding truth_kind
  truth-arm b e w vs i os = by_tag i s y.cell (did-falls (truth_done {σ = scope text count vs} {os = os} 0 b y w)) (λ t. go b w (rw e at t))
    where
      go : (b : Bool) {i : Item} → Stacks m m' behind top (cell (truth_kind b) 0 (to_u (of_bool b))) (BOOL ∷ 1 ∷ []) r → Tagged (truth_kind b) i → ItemDone (scope text count vs) i os m m' s top r
      go true w (true_t {p}) = truth_done p true y w
      go false w (false_t {p}) = truth_done p false y w

  pub paren-arm : c.tag ≡ OPEN → (r.step ≡ extended m behind) × (m' ≡ written m behind (cell OPEN 0 0)) → r.top ≡ top → PartMeans text count m m' s top r
  paren-arm e w t vs i os = by_tag i s y.cell (did-falls (go (paren_t {p = 0}))) (λ t. go (rw e at t))
    where
      go : {i : Item} → Tagged OPEN i → ItemDone (scope text count vs) i os m m' s top r
      go (paren_t {p}) = paren_done p y w t

  pub sign_arm : c.tag ≡ UNARY → SignMeans c behind m m' top r → PartMeans text count m m' s top r
  sign_arm e h vs i os = by_tag i s y.cell (did-falls (h (scope text count vs) 0 plus os s y)) (λ t. go (rw e at t))
    where
      go : {i : Item} → Tagged UNARY i → ItemDone (scope text count vs) i os m m' s top r
      go sign_t = h _ _ _ os s y

  pub operation-arm : (c.tag ≡ NAME → ⊥) → (c.tag ≡ INT → ⊥) → (c.tag ≡ TRUE → ⊥) → (c.tag ≡ FALSE → ⊥) → (c.tag ≡ OPEN → ⊥) → (c.tag ≡ UNARY → ⊥)
      → OperationMeans c behind m m' top r → PartMeans text count m m' s top r
  operation-arm n w t f p g h vs i os = by_tag i s y.cell (did-falls (h (scope text count vs) 0 Mul os s y)) (λ t. go t refl)
    where
      go : {k : ℕ} {i : Item} → Tagged k i → c.tag ≡ k → ItemDone (scope text count vs) i os m m' s top r
      go name_t e = absurd (n e)
      go whole_t e = absurd (w e)
      go true_t e = absurd (t e)
      go false_t e = absurd (f e)
      go paren_t e = absurd (p e)
      go sign_t e = absurd (g e)
      go binary_t e = h _ _ _ os s y

-- the cell that the code read, and where it stands behind it
pub was_read : {c : Cell} {old new : Walk} → c ≡ cell_at old.memory.now (at old) → Skips old new → Read old.memory.now c (at new) (at old)
was_read sees past = record { cell = sees; step = past.step }
