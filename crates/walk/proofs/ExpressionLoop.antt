-- The loop over the cells of an expression: it does with one cell after the other what the rules say of the expression. Assumes nothing.
use mathlib.Core.Path.{◌≡◌, refl, sym, ap, ◌∙◌}
use mathlib.Core.Bool.{Bool, true, false}
use mathlib.Core.List.{List, [], ◌∷◌, ◌++◌, append_assoc}
use Prim.Native.Nat.{ℕ, ◌+◌, ◌*◌, ◌-◌, ◌≤◌}
use native.Mathlib.Omega.{arith}
use lib.ListN.{length, length-append, get_or}
use Rattle.rules.specs.Limits.{memory_numbers}
use Rattle.rules.specs.Base.{Res, ok, refuse, ◌>>=◌}
use Rattle.rules.specs.Depth.{height}
use Rattle.rules.specs.Syntax.{Exp}
use Rattle.rules.specs.Walk.{Var, first, expression}
use Rattle.rules.specs.Cells.{cell, WHOLE, type_kind, whole_cells}
use Rattle.names.specs.Rows.{type_of}
use Rattle.rules.specs.CoreCells.{expr_cells}
use Rattle.theorems.specs.TokenPlaces.{Each, e_cons}
use Rattle.walk.specs.Steps.{stack_start, cell_at, tag_at, skipped, left}
use Rattle.walk.specs.Items.{Item, items, item_cell, item_cells, Operand, operand, Stacked, stacked, item_does, items_do}
use Rattle.cells.specs.Reading.{is_item}
use Rattle.cells.specs.declared.cell.Cell.{Cell}
use Rattle.walk.specs.Walking.{Scope, Did, When}
use Rattle.walk.specs.Promises.{scope, Spells, ExpressionMeans}
use Rattle.walk.specs.Stacking.{Stack, bottom, ItemIn, Before, Behind, PartMeans}
use Rattle.walk.specs.Places.{Step, Ok, Bad, Inside, Value}
use Rattle.walk.proofs.Moves.{some-ahead}
use Rattle.walk.proofs.Follow.{place_of, free_of, Ends, begin, gives, bind, looks, skips, still_skipped, still_done}
use Rattle.walk.proofs.Knowing.{skipped-stays, barred}
use Rattle.walk.proofs.ExpressionItems.{exp_cells_lem, cells-length, expression-does, enough, items-spelled}
use Rattle.walk.proofs.OperandStack.{stack_top, last_of}
use Rattle.walk.proofs.ItemSteps.{given, also, answers, Known, knows}
use Rattle.walk.proofs.Enters.{type-kind}
use Rattle.walk.proofs.Refusals.{any_answer, no_skip}
use Rattle.walk.proofs.ItemTags.{Tagged, name_t, whole_t, true_t, false_t, paren_t, sign_t, binary_t, cut}

-- these items are still ahead, the operands lie in memory, and v was written
pub record Going (σ : Scope) (m : List ℕ) (top : ℕ) (is : List Item) (os : List Operand) (v : List ℕ) : Type 0 where
  pub stack : Stack m top os
  pub room : stack_start + 2 * (length os + length is) ≤ memory_numbers
  pub spelled : Each (ItemIn σ.text) is
  pub enough : items_do σ.vars is os v ≡ refuse 0 0 → ⊥

-- the end: the operands in memory, and the first byte
pub record Closed (m : List ℕ) (top place : ℕ) (e : Exp) (x : Stacked) : Type 0 where
  pub stack : Stack m top x.operands
  pub place_is : place ≡ first e

-- the cell that closes an expression
abbrev closing : Exp → List ℕ
closing e = cell WHOLE (first e) 0

-- The loop began with the numbers m₀ at the step s, and has come to the numbers m, a step and a top of the stack: whatever ends what is ahead there ends the whole expression.
abbrev Rest : List ℕ → ℕ → List ℕ → Step → List Var → Exp → List ℕ → ℕ → ℕ → Step → List ℕ → List ℕ → List ℕ → Step → Res Stacked → Type 0
Rest text count m₀ s vs e mₑ top place r v w m step R =
    Ends (scope text count vs) m₀ (place_of s) (free_of s) (Closed mₑ top place e) (λ x. x.cell) 3 (length (item_cells (items e) ++ closing e)) mₑ r 0 v w m step R

abbrev pub Turns : List ℕ → ℕ → List ℕ → Step → List ℕ → Step → ℕ → Type 0
Turns text count m₀ s m step top =
    (vs : List Var) (e : Exp) (mₑ : List ℕ) (topₑ place : ℕ) (r : Step) → When s (Spells text e)
    → ((is : List Item) (os : List Operand) (v : List ℕ) → When step (Going (scope text count vs) m top is os v) → Rest text count m₀ s vs e mₑ topₑ place r v (item_cells is ++ closing e) m step (items_do vs is os v))
    → Rest text count m₀ s vs e mₑ topₑ place r [] (item_cells (items e) ++ closing e) m₀ s (items_do vs (items e) [] [])

-- the beginning
pub turns_start : (text : List ℕ) (count : ℕ) (m : List ℕ) (s : Step) → Turns text count m s m s stack_start
unfolding cell
turns_start text count m s vs e mₑ top place r g k =
    knows (λ n. k (items e) [] [] (λ a f q. record { stack = bottom; room = room (n a f q); spelled = items-spelled (g a f q); enough = enough vs (g a f q) }))
  where
    room : Known (scope text count vs) m (item_cells (items e) ++ closing e) → stack_start + 2 * (0 + length (items e)) ≤ memory_numbers
    room n =
        let a = n.short in
        let b = length-append (item_cells (items e)) (closing e) in
        let c = cells-length (items e) in
        omega arith

-- a test does not hold and fail
true-false : ◌≡◌ {A = Bool} true false → ⊥
true-false e = let z : ◌≡◌ {A = ℕ} 0 1 = cc in absurd (omega arith)

-- the tag of an item
tag-item : {t : ℕ} {i : Item} → Tagged t i → is_item t ≡ true
unfolding is_item
tag-item name_t = refl
tag-item whole_t = refl
tag-item true_t = refl
tag-item false_t = refl
tag-item paren_t = refl
tag-item sign_t = refl
tag-item binary_t = refl

-- the code tests it by the cell ahead
pub tested : (m : List ℕ) (s : Step) {b v : Bool} {t : Cell} → t ≡ cell_at m s → b ≡ is_item t.tag → b ≡ v → is_item (tag_at m s) ≡ v
unfolding tag_at
tested m s sees is e = ap (λ c. is_item c.tag) (sym sees) ∙ sym is ∙ e

-- where it is ahead, a cell is
pub item-ahead : (m : List ℕ) (s : Step) → is_item (tag_at m s) ≡ true → 3 ≤ left m s
unfolding is_item
item-ahead m s t = some-ahead m s (λ e. true-false (sym t ∙ ap is_item e))

-- where an item's tag is ahead, the expression is not closed
open_here : (m : List ℕ) (p : ℕ) (s : Step) → is_item (tag_at m s) ≡ true → When s (cell_at m s ≡ record { tag = WHOLE; place = p; datum = 0 }) → ⊥
unfolding is_item tag_at cell_at
open_here m p (Bad n q) t l = let z : ◌≡◌ {A = ℕ} 0 1 = cc in absurd (omega arith)
open_here m p (Ok at free) t l = true-false (sym t ∙ ap (λ c. is_item c.tag) (l at free refl))

-- no cell is ahead of a refusal
no_item : (m : List ℕ) (n p : ℕ) → is_item (tag_at m (Bad n p)) ≡ false
unfolding is_item tag_at cell_at
no_item m n p = refl

-- what holds of each holds of the first and of the others
each_parts : {A : Type 0} {P : A → Type 0} {a : A} {s : List A} → Each P (a ∷ s) → P a × Each P s
each_parts (e_cons h k) = (h, k)

-- one cell
module _ {text : List ℕ} {count : ℕ} {m₀ m m' : List ℕ} {s step : Step} {top : ℕ} {i₁ : Inside} where
  pub turns_on : is_item (tag_at m step) ≡ true → PartMeans text count m m' step top i₁ → Turns text count m₀ s m step top → Turns text count m₀ s m' i₁.step i₁.top
  unfolding item_cells items_do cell ◌>>=◌
  turns_on t h old vs e mₑ topₑ place r g k = old vs e mₑ topₑ place r g go
    where
      -- what the cell needs is there
      before : (i : Item) (is : List Item) (os : List Operand) (v : List ℕ) → Going (scope text count vs) m top (i ∷ is) os v → Before (scope text count vs) m top os i
      before i is os v y =
          let a = stack_top y.stack in
          let b = y.room in
          record { stack = y.stack; room = omega arith; spelled = (each_parts y.spelled).0; enough = λ z. y.enough (rw z) }

      -- and what the next one needs is there behind it
      behind : (i : Item) (is : List Item) (os : List Operand) (v : List ℕ) (x : Stacked) → Going (scope text count vs) m top (i ∷ is) os v → Behind m' i₁.top os x × (item_does vs i os ≡ ok x)
          → Going (scope text count vs) m' i₁.top is x.operands (v ++ x.cell)
      behind i is os v x y z =
          let a = z.0.more in
          let b = y.room in
          record { stack = z.0.stack; room = omega arith; spelled = (each_parts y.spelled).1; enough = λ q. y.enough (rw z.1 q) }

      go : (is : List Item) (os : List Operand) (v : List ℕ) → When step (Going (scope text count vs) m top is os v) → Rest text count m₀ s vs e mₑ topₑ place r v (item_cells is ++ closing e) m step (items_do vs is os v)
      go [] os v f = looks WHOLE (first e) 0 [] (λ l. absurd (open_here m (first e) step t l))
      go (i ∷ is) os v f =
          rw (append_assoc (item_cell i) (item_cells is) (closing e))
          (bind (stacked [] []) (given (h vs i os)) (λ a b q. before i is os v (f a b q))
          (λ x z. k is x.operands (v ++ x.cell) (λ a b q. behind i is os v x (still_done (h vs i os) f a b q) (z a b q))))

-- the end: the tag ahead is not that of an item
module _ {text : List ℕ} {count : ℕ} {m₀ m : List ℕ} {s step : Step} {top : ℕ} where
  pub turns_end : {r : Step} → is_item (tag_at m step) ≡ false → r ≡ skipped m step → Turns text count m₀ s m step top → (vs : List Var) (e : Exp)
      → Did (scope text count vs) (Spells text e) (Closed m top (cell_at m step).place e) (λ x. x.cell) 3 (whole_cells e) m₀ m s r (items_do vs (items e) [] [])
  unfolding item_cells items_do cell whole_cells tag_at stacked
  turns_end {r} t z old vs e = rw (exp_cells_lem e) (begin (λ g. old vs e m top (cell_at m step).place r g go))
    where
      -- an item is not ahead
      closed : (i : Item) → When step (cell_at m step ≡ record { tag = (cut i).tag; place = (cut i).place; datum = (cut i).datum }) → When step ⊥
      closed i l a f q = true-false (sym (tag-item (cut i).tagged) ∙ sym (ap (λ c. is_item c.tag) (l a f q)) ∙ t)

      go : (is : List Item) (os : List Operand) (v : List ℕ) → When step (Going (scope text count vs) m top is os v)
          → Rest text count m₀ s vs e m top (cell_at m step).place r v (item_cells is ++ closing e) m step (items_do vs is os v)
      go [] os v f =
          looks WHOLE (first e) 0 [] (λ l.
          skips WHOLE (first e) 0 z
          (gives (stacked os v) (still_skipped m z (λ a b q. record { stack = (f a b q).stack; place_is = ap (λ c. c.place) (l a b q) })) refl (omega arith)))
      go (i ∷ is) os v f =
          rw (append_assoc (item_cell i) (item_cells is) (closing e), (cut i).is)
          (looks (cut i).tag (cut i).place (cut i).datum (item_cells is ++ closing e) (λ l. barred (λ n p q. skipped-stays m z q) (closed i l)))

  -- so its value is what the rules say
  pub expression-means : {v : Value} → is_item (tag_at m step) ≡ false → v.step ≡ skipped m step → v.first ≡ (cell_at m step).place → v.kind ≡ type_kind (type_of (get_or m (top - 2) 0)) → v.height ≡ get_or m (top - 1) 0
      → Turns text count m₀ s m step top → ExpressionMeans text count m₀ m s v
  unfolding stacked operand
  expression-means t z f k h old vs e =
      also (λ x y. record { first = f ∙ y.place_is; kind = k ∙ ap (λ n. type_kind (type_of n)) (last_of y.stack).kind ∙ ap type_kind (type-kind _); height = h ∙ (last_of y.stack).height })
      (answers (λ x. stacked (operand x.type (height x.core) ∷ []) (expr_cells x.core)) (expression vs e) (rw (expression-does vs e) at (turns_end t z old vs e)))

  -- a part was refused
  pub expression-refused : {n p : ℕ} {v : Value} → step ≡ Bad n p → v.step ≡ Bad n p → Turns text count m₀ s m step top → ExpressionMeans text count m₀ m s v
  expression-refused {n} {p} e z old vs x =
      rw z (any_answer (expression-means {v = record { step = Bad n p; first = (cell_at m step).place; kind = type_kind (type_of (get_or m (top - 2) 0)); height = get_or m (top - 1) 0 }} (rw e (no_item m n p)) (rw e (no_skip m)) refl refl refl old vs x))
