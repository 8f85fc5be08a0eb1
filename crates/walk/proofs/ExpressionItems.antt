-- An expression cell by cell: its items have its cells, and what they do one after the other is what the rules say of it. Assumes nothing.
use mathlib.Core.Path.{◌≡◌, refl, sym, ap, ◌∙◌}
use mathlib.Core.Bool.{false, ◌&&◌}
use mathlib.Core.List.{List, [], ◌∷◌, ◌++◌, append_assoc, append-nil}
use mathlib.Core.Option.{Option, none, some}
use Prim.Native.Nat.{ℕ, ◌*◌, ◌≤◌}
use native.Mathlib.Omega.{arith}
use lib.Dec.{leb}
use lib.ListN.{length}
use Rattle.rules.specs.Base.{Res, ok, refuse, ◌>>=◌, need}
use Rattle.rules.specs.Numbers.{same_ty}
use Rattle.rules.specs.Bytes.{to_u}
use Rattle.rules.specs.Kinds.{OPEN}
use Rattle.rules.specs.Core.{Expr}
use Rattle.rules.specs.Codes.{un_code}
use Rattle.rules.specs.Depth.{height}
use Rattle.rules.specs.Syntax.{Name, Sign, minus, plus, inverse, Exp, named, whole, truth, paren, unary, binary}
use Rattle.rules.specs.Walk.{Var, Slot, find, known_at, known, largest, takes, sign_ty, sign_core, Typed, typed, expression}
use Rattle.rules.specs.Cells.{cell, name_cell, exp_cells}
use Rattle.rules.specs.CoreCells.{expr_cells}
use Rattle.theorems.specs.Refusals.{Fine, f_ok, f_refuse, Any, after, needs}
use Rattle.theorems.specs.TokenPlaces.{Each, e_nil, e_cons}
use Rattle.theorems.specs.Spelling.{Spelled}
use Rattle.theorems.specs.TreePlaces.{ExpIn, i_named, i_whole, i_truth, i_paren, i_unary, i_binary}
use Rattle.walk.specs.Items.{Item, name_i, whole_i, truth_i, paren_i, sign_i, binary_i, items, item_cell, item_cells, Operand, operand, Stacked, stacked, sign_cell, item_does, items_do}
use Rattle.walk.specs.Stacking.{ItemIn, name_in, whole_in, truth_in, paren_in, sign_in, binary_in}

-- Cells

-- items one behind the other
cells_append : (a b : List Item) → item_cells (a ++ b) ≡ item_cells a ++ item_cells b
unfolding item_cells
cells_append [] b = refl
cells_append (i ∷ a) b = ap (λ l. item_cell i ++ l) (cells_append a b) ∙ sym (append_assoc (item_cell i) (item_cells a) (item_cells b))

-- one more item
cells_last : (a : List Item) (i : Item) → item_cells (a ++ (i ∷ [])) ≡ item_cells a ++ item_cell i
unfolding item_cells item_cell cell name_cell
cells_last a i = cells_append a (i ∷ []) ∙ ap (λ l. item_cells a ++ l) (one i)
  where
    one : (i : Item) → item_cell i ++ [] ≡ item_cell i
    one (name_i v) = refl
    one (whole_i p v) = refl
    one (truth_i p b) = refl
    one (paren_i p) = refl
    one (sign_i p s) = refl
    one (binary_i p o) = refl

-- an expression's cells are its items'
pub exp_cells_lem : (e : Exp) → exp_cells e ≡ item_cells (items e)
unfolding exp_cells items item_cells item_cell cell name_cell
exp_cells_lem (named v) = refl
exp_cells_lem (whole p v) = refl
exp_cells_lem (truth p b) = refl
exp_cells_lem (paren p e) = ap (λ l. l ++ item_cell (paren_i p)) (exp_cells_lem e) ∙ sym (cells_last (items e) (paren_i p))
exp_cells_lem (unary p s e) = ap (λ l. l ++ item_cell (sign_i p s)) (exp_cells_lem e) ∙ sym (cells_last (items e) (sign_i p s))
exp_cells_lem (binary p o a b) =
    rw (exp_cells_lem a, exp_cells_lem b, ← (cells_append (items a) (items b))) (sym (cells_last (items a ++ items b) (binary_i p o)))

-- each has three numbers
pub cells-length : (is : List Item) → length (item_cells is) ≡ 3 * length is
unfolding item_cells item_cell cell name_cell
cells-length [] = refl
cells-length (name_i v ∷ is) = let h = cells-length is in omega arith
cells-length (whole_i p v ∷ is) = let h = cells-length is in omega arith
cells-length (truth_i p b ∷ is) = let h = cells-length is in omega arith
cells-length (paren_i p ∷ is) = let h = cells-length is in omega arith
cells-length (sign_i p s ∷ is) = let h = cells-length is in omega arith
cells-length (binary_i p o ∷ is) = let h = cells-length is in omega arith

-- What they do

-- a first step, and then what is said of its answer: in one go, or with an answer in between
through : {A B C : Type 0} (r : Res A) (f : A → Res B) (k : B → Res C) (l : A → Res C) → ((a : A) → l a ≡ ◌>>=◌ (f a) k) → ◌>>=◌ r l ≡ ◌>>=◌ (◌>>=◌ r f) k
unfolding ◌>>=◌
through (ok a) f k l h = h a
through (refuse n p) f k l h = refl

-- with two answers in between, of which the same is said
both : {A B C D : Type 0} (r : Res A) (f : A → B) (k : B → Res D) (g : A → C) (l : C → Res D) → ((a : A) → k (f a) ≡ l (g a)) → ◌>>=◌ (◌>>=◌ r (λ a. ok (f a))) k ≡ ◌>>=◌ (◌>>=◌ r (λ a. ok (g a))) l
unfolding ◌>>=◌
both (ok a) f k g l h = h a
both (refuse n p) f k g l h = refl

-- a sign's cell is what is written for it
sign-cells : (p : ℕ) (s : Sign) (x : Expr) → expr_cells (sign_core p s x) ≡ expr_cells x ++ sign_cell p s
unfolding sign_core expr_cells sign_cell un_code
sign-cells p minus x = refl
sign-cells p plus x = refl
sign-cells p inverse x = refl

sign-height : (p : ℕ) (s : Sign) (x : Expr) → height (sign_core p s x) ≡ height x
unfolding sign_core height
sign-height p minus x = refl
sign-height p plus x = refl
sign-height p inverse x = refl

module _ (vs : List Var) where
  -- an expression is one operand more, and its code is written
  abbrev Leaves : List Item → List Operand → List ℕ → Typed → Res Stacked
  Leaves is os v x = items_do vs is (operand x.type (height x.core) ∷ os) (v ++ expr_cells x.core)

  pub items_do_lem : (e : Exp) (is : List Item) (os : List Operand) (v : List ℕ) → items_do vs (items e ++ is) os v ≡ ◌>>=◌ (expression vs e) (Leaves is os v)
  unfolding items items_do item_does expression height expr_cells stacked operand typed to_u ◌>>=◌
  items_do_lem (named n) is os v = both (known vs n) _ _ _ (Leaves is os v) (λ s. refl)
  items_do_lem (whole p n) is os v = both (need (leb n (largest false)) 4 p) _ _ _ (Leaves is os v) (λ _. refl)
  items_do_lem (truth p b) is os v = refl
  items_do_lem (paren p e) is os v =
      ap (λ l. items_do vs l os v) (append_assoc (items e) (paren_i p ∷ []) is)
      ∙ items_do_lem e (paren_i p ∷ is) os v
      ∙ through (expression vs e) _ (Leaves is os v) _ (λ x. ap (items_do vs is (operand x.type (height x.core) ∷ os)) (append_assoc v (expr_cells x.core) (cell OPEN 0 0)))
  items_do_lem (unary p s e) is os v =
      ap (λ l. items_do vs l os v) (append_assoc (items e) (sign_i p s ∷ []) is)
      ∙ items_do_lem e (sign_i p s ∷ is) os v
      ∙ through (expression vs e) _ (Leaves is os v) _ (λ x. both (need (same_ty x.type (sign_ty s)) 8 p) _ _ _ (Leaves is os v) (λ _. rw (sign-height p s x.core, sign-cells p s x.core) (simp append_assoc)))
  items_do_lem (binary p o a b) is os v =
      ap (λ l. items_do vs l os v) (append_assoc (items a ++ items b) (binary_i p o ∷ []) is ∙ append_assoc (items a) (items b) (binary_i p o ∷ is))
      ∙ items_do_lem a (items b ++ (binary_i p o ∷ is)) os v
      ∙ through (expression vs a) _ (Leaves is os v) _ (λ x.
      items_do_lem b (binary_i p o ∷ is) (operand x.type (height x.core) ∷ os) (v ++ expr_cells x.core)
      ∙ through (expression vs b) _ (Leaves is os v) _ (λ y. both (need (same_ty x.type (takes o x.type) && same_ty y.type (takes o x.type)) 8 p) _ _ _ (Leaves is os v) (λ _. simp append_assoc)))

  -- an expression by itself
  pub expression-does : (e : Exp) → items_do vs (items e) [] [] ≡ ◌>>=◌ (expression vs e) (λ x. ok (stacked (operand x.type (height x.core) ∷ []) (expr_cells x.core)))
  unfolding items_do
  expression-does e = ap (λ l. items_do vs l [] []) (sym (append-nil (items e))) ∙ items_do_lem e [] [] []

  -- the rules for expressions refuse only as the list allows
  known_fine : {N : ℕ} (p : ℕ) (s : Option Slot) → p ≤ N → Fine N Any (known_at p s)
  unfolding known_at
  known_fine p none h = f_refuse 7 p (omega arith)
  known_fine p (some s) h = f_ok tt

  expression_fine : {N : ℕ} {P : Name → Type 0} {e : Exp} → ExpIn N P e → Fine N Any (expression vs e)
  unfolding expression known
  expression_fine (i_named {v} h) = after (known_fine v.place (find v.letters 0 vs) h.near) (λ _. f_ok tt)
  expression_fine (i_whole h) = after (needs _ _ _ (omega arith)) (λ _. f_ok tt)
  expression_fine (i_truth h) = f_ok tt
  expression_fine (i_paren h k) = after (expression_fine k) (λ _. f_ok tt)
  expression_fine (i_unary h k) = after (expression_fine k) (λ _. after (needs _ _ _ (omega arith)) (λ _. f_ok tt))
  expression_fine (i_binary h k j) = after (expression_fine k) (λ _. after (expression_fine j) (λ _. after (needs _ _ _ (omega arith)) (λ _. f_ok tt)))

  -- so an operator finds its operands
  pub enough : {N : ℕ} {P : Name → Type 0} {e : Exp} → ExpIn N P e → items_do vs (items e) [] [] ≡ refuse 0 0 → ⊥
  unfolding ◌>>=◌
  enough {N} {e} h q = go (expression vs e) (expression_fine h) (sym (expression-does e) ∙ q)
    where
      go : (r : Res Typed) → Fine N Any r → ◌>>=◌ r (λ x. ok (stacked (operand x.type (height x.core) ∷ []) (expr_cells x.core))) ≡ refuse 0 0 → ⊥
      go r (f_ok h) q = let z : ◌≡◌ {A = ℕ} 0 1 = cc in absurd (omega arith)
      go r (f_refuse n p h) q = let z : n ≡ 0 = cc in absurd (omega arith)

-- Names

each_append : {A : Type 0} {P : A → Type 0} {a b : List A} → Each P a → Each P b → Each P (a ++ b)
each_append e_nil k = k
each_append (e_cons h j) k = e_cons h (each_append j k)

-- an expression whose names stand in the text has such items
pub items-spelled : {N : ℕ} {text : List ℕ} {e : Exp} → ExpIn N (Spelled text) e → Each (ItemIn text) (items e)
unfolding items
items-spelled (i_named h) = e_cons (name_in h.has) e_nil
items-spelled (i_whole h) = e_cons whole_in e_nil
items-spelled (i_truth h) = e_cons truth_in e_nil
items-spelled (i_paren h k) = each_append (items-spelled k) (e_cons paren_in e_nil)
items-spelled (i_unary h k) = each_append (items-spelled k) (e_cons sign_in e_nil)
items-spelled (i_binary h k j) = each_append (each_append (items-spelled k) (items-spelled j)) (e_cons binary_in e_nil)
