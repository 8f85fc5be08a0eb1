-- The calls of the functions that walk statements stand further on in the tree, and so do the loops' turns. Assumes nothing.
use mathlib.Core.Path.{◌≡◌, sym, ap, ◌∙◌}
use mathlib.Core.Bool.{Bool, true, false}
use mathlib.Core.List.{List}
use Prim.Native.Nat.{ℕ, ◌+◌, ◌-◌, ◌≤◌, ◌<◌}
use native.Mathlib.Omega.{arith}
use lib.Dec.{eqb}
use borrow.Author.Tests.{eqb-false}
use Rattle.rules.specs.Kinds.{FINISH}
use Rattle.walk.specs.Steps.{tag_at, left}
use Rattle.walk.specs.Constants.{is_constant}
use Rattle.walk.specs.Places.{Step}
use Rattle.walk.proofs.Moves.{some-ahead}
use Rattle.walk.proofs.FirstCells.{opens}

-- at least as far on as something that moved
pub moved_on : {a b c : ℕ} → b ≤ a → c ≤ b - 3 → c ≤ a - 3
moved_on h k = omega arith

-- and then at least as far
pub still_on : {a b c : ℕ} → b ≤ a → c ≤ b - 3 → c ≤ a
still_on h k = omega arith

-- two moves are one
pub moved_twice : (m : List ℕ) (s : Step) {b c : ℕ} → b ≤ left m s - 3 → c ≤ b - 3 → c ≤ left m s - 3
moved_twice m s h k = omega arith

-- a tag that is known is not the end's
pub no_finish : {k t : ℕ} → k ≡ t → eqb t FINISH ≡ false → k ≡ FINISH → ⊥
no_finish {k} {t} is other e = eqb-false t FINISH other (sym is ∙ e)

-- nor is one with which a group starts
pub no_finish_opens : {k : ℕ} {opened : Bool} → opened ≡ opens k → opened ≡ true → k ≡ FINISH → ⊥
unfolding is_constant
no_finish_opens sees is e = let z : false ≡ true = ap opens (sym e) ∙ sym sees ∙ is in let y : ◌≡◌ {A = ℕ} 0 1 = cc in omega arith

-- a tag that is not the end's is ahead at s, and what is left is less by a cell
module _ (m : List ℕ) (s : Step) {k l : ℕ} (tells : k ≡ tag_at m s) (more : k ≡ FINISH → ⊥) (moves : l ≤ left m s - 3) where
  -- a cell is left
  some : 3 ≤ left m s
  some = some-ahead m s (λ e. more (tells ∙ e))

  -- a turn of a loop
  pub fewer : l < left m s
  fewer = let h = some in omega arith

  -- a call, where the measure of the caller is what is left at s
  pub sooner : {t : ℕ} → left m s ≡ t → l + 1 < t
  sooner e = let h = some in omega arith

  -- a call in a loop, where the measure of the caller is one more than what was left at its start
  pub sooner_within : {t a : ℕ} → left m s ≤ a → a + 1 ≡ t → l + 1 < t
  sooner_within k e = let h = some in omega arith

-- a call at the same place, where the measure of the caller is one more
pub sooner-inside : {t a b : ℕ} → b ≤ a → a + 1 ≡ t → b < t
sooner-inside k e = omega arith
