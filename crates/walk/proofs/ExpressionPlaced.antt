-- An expression where a statement holds it: its type and its height are tested, and it is closed. Assumes nothing.
use mathlib.Core.Path.{◌≡◌, refl, sym, ap, ◌∙◌}
use mathlib.Core.Bool.{Bool, true, false}
use mathlib.Core.List.{List}
use Prim.Native.Nat.{ℕ, ◌+◌, ◌≤◌}
use native.Mathlib.Omega.{arith}
use lib.Dec.{eqb, leb}
use borrow.Author.Tests.{leb-true, leb-false, le-leb, lt-leb}
use Rattle.rules.specs.Limits.{stack_limit}
use Rattle.rules.specs.Numbers.{Ty, bool, same_ty}
use Rattle.rules.specs.Core.{var}
use Rattle.rules.specs.Depth.{height}
use Rattle.rules.specs.Syntax.{Exp}
use Rattle.rules.specs.Walk.{Var, Typed, typed, first, placed}
use Rattle.rules.specs.Cells.{cell, type_kind, WHOLE, whole_cells}
use Rattle.rules.specs.CoreCells.{held_cells}
use Rattle.walk.specs.Steps.{checked, extended, written, left}
use Rattle.walk.specs.Operands.{capped, needed}
use Rattle.walk.specs.Walking.{Did, Any}
use Rattle.walk.specs.Promises.{scope, Spells, ValueIs, ExpressionMeans, ValuedMeans, HeldMeans}
use Rattle.walk.specs.Stacking.{placed_at}
use Rattle.walk.specs.Places.{Step, Bad, Value}
use Rattle.walk.proofs.Refusals.{no_check, no_write}
use Rattle.walk.proofs.Moves.{moved-check, moved-write}
use Rattle.walk.proofs.Follow.{begin, gives, bind, checks, writes, still_checked, still_done}
use Rattle.walk.proofs.Knowing.{passed}
use Rattle.walk.proofs.KindTables.{same_kind}
use Rattle.walk.proofs.ItemSteps.{alone}

-- a height that is not counted beyond 64 is within the limit as the height is, and then it is the height
needed_within : (h more : ℕ) → leb (needed (capped h) more) stack_limit ≡ leb (h + more) stack_limit
unfolding needed capped
needed_within h more = go (leb (needed (capped h) more) stack_limit) refl
  where
    go : (b : Bool) → leb (needed (capped h) more) stack_limit ≡ b → b ≡ leb (h + more) stack_limit
    go true e = let l = leb-true (needed (capped h) more) stack_limit e in sym (le-leb (h + more) stack_limit (omega arith))
    go false e = let l = leb-false (needed (capped h) more) stack_limit e in sym (lt-leb (h + more) stack_limit (omega arith))

needed_is : (h more : ℕ) → leb (needed (capped h) more) stack_limit ≡ true → needed (capped h) more ≡ h + more
unfolding needed capped
needed_is h more e = let l = leb-true (needed (capped h) more) stack_limit e in omega arith

-- two tests, and the cell that closes it
pub placed_of : (v : Value) (wanted place more : ℕ) (m : List ℕ) {m' : List ℕ} {n : ℕ} {s₁ s₂ r : Step} → n ≡ needed v.height more → s₁ ≡ checked (eqb v.kind wanted) 8 place v.step
    → s₂ ≡ checked (leb n stack_limit) 10 v.first s₁ → (r ≡ extended m s₂) × (m' ≡ written m s₂ (cell WHOLE 0 n))
    → (r ≡ extended m (placed_at v wanted place more)) × (m' ≡ written m (placed_at v wanted place more) (cell WHOLE 0 (needed v.height more)))
unfolding placed_at
placed_of v wanted place more m e f g w = rw (g, f, e) at w

-- behind a refusal nothing is tested or written
pub placed_none : (v : Value) (wanted place more : ℕ) (m : List ℕ) {n p : ℕ} → v.step ≡ Bad n p
    → (Bad n p ≡ extended m (placed_at v wanted place more)) × (m ≡ written m (placed_at v wanted place more) (cell WHOLE 0 (needed v.height more)))
placed_none v wanted place more m e = placed_of v wanted place more m refl (rw e (no_check _ _ _)) (no_check _ _ _) (no_write m _)

-- they go no further back
pub moved-placed : (v : Value) (wanted place more : ℕ) (m : List ℕ) {m' : List ℕ} {r : Step}
    → (r ≡ extended m (placed_at v wanted place more)) × (m' ≡ written m (placed_at v wanted place more) (cell WHOLE 0 (needed v.height more))) → left m' r ≤ left m v.step
unfolding placed_at
moved-placed v wanted place more m w =
    let a = moved-check m (eqb v.kind wanted) 8 place v.step refl in
    let b = moved-check m (leb (needed v.height more) stack_limit) 10 v.first (checked (eqb v.kind wanted) 8 place v.step) refl in
    omega (arith, (moved-write m (placed_at v wanted place more) _ w).0)

module _ (more : ℕ) {text : List ℕ} {count wanted place : ℕ} {m m₁ m' : List ℕ} {s r : Step} {v : Value} (h : ExpressionMeans text count m m₁ s v)
    (w : (r ≡ extended m₁ (placed_at v wanted place more)) × (m' ≡ written m₁ (placed_at v wanted place more) (cell WHOLE 0 (needed v.height more)))) where
  -- as the rules place it, where what is given says the type and the place
  places : (Given : Type 0) (vs : List Var) (t : Ty) (p : ℕ) (e : Exp) → (Given → Spells text e) → ((x : Typed) → Given → ValueIs e v x → (wanted ≡ type_kind t) × (place ≡ p))
      → Did (scope text count vs) Given Any (held_cells more) 0 (whole_cells e) m m' s r (placed vs t p more e)
  unfolding placed placed_at held_cells
  places Given vs t p e spells knows =
      begin (λ g.
      alone (whole_cells e) (bind (typed (var 0) bool) (h vs e) (λ a f q. spells (g a f q)) (λ x y.
      let z = still_done (h vs e) g in
      checks {slack = 3} (eqb v.kind wanted) (same_ty x.type t) 8 place p refl (λ a f q. let k = knows x (z a f q) (y a f q) in (kind x (y a f q) k.0, k.1))
      (checks {slack = 3} (leb (needed v.height more) stack_limit) (leb (height x.core + more) stack_limit) 10 v.first (first e) refl
      (still_checked _ 8 place refl (λ a f q. (ap (λ n. leb (needed n more) stack_limit) (y a f q).height ∙ needed_within (height x.core) more, (y a f q).first)))
      (writes {slack = 0} WHOLE 0 (height x.core + more) w
      (λ a f q. ap (cell WHOLE 0) (high x (still_checked _ 10 _ refl (still_checked _ 8 place refl y) a f q) (passed _ 10 _ _ refl a f q)))
      (gives x.core (λ _ _ _. tt) refl (omega arith)))))))
    where
      kind : (x : Typed) → ValueIs e v x → wanted ≡ type_kind t → eqb v.kind wanted ≡ same_ty x.type t
      kind x y k = rw (y.kind, k) (same_kind x.type t)

      high : (x : Typed) → ValueIs e v x → leb (needed v.height more) stack_limit ≡ true → needed v.height more ≡ height x.core + more
      high x y k = rw y.height (needed_is (height x.core) more (rw y.height at k))

-- its type is faulted at a given place
pub valued-means : {text : List ℕ} {count wanted place : ℕ} {m m₁ m' : List ℕ} {s r : Step} {v : Value} → ExpressionMeans text count m m₁ s v
    → (r ≡ extended m₁ (placed_at v wanted place 0)) × (m' ≡ written m₁ (placed_at v wanted place 0) (cell WHOLE 0 (needed v.height 0))) → ValuedMeans text count wanted place m m' s r
valued-means h w vs t p e = places 0 h w _ vs t p e (λ g. g.0) (λ x g y. g.1)

-- or at its first byte
pub held_means : (more : ℕ) {text : List ℕ} {count wanted : ℕ} {m m₁ m' : List ℕ} {s r : Step} {v : Value} → ExpressionMeans text count m m₁ s v
    → (r ≡ extended m₁ (placed_at v wanted v.first more)) × (m' ≡ written m₁ (placed_at v wanted v.first more) (cell WHOLE 0 (needed v.height more)))
    → HeldMeans text count wanted more m m' s r
held_means more h w vs t e = places more h w _ vs t (first e) e (λ g. g.0) (λ x g y. (g.1, y.first))
