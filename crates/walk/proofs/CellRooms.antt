-- Whether a cell has room before the stack, to the code and to the rules. Assumes nothing.
use mathlib.Core.Path.{◌≡◌, refl, sym}
use mathlib.Core.Bool.{Bool, true, false}
use mathlib.Core.List.{List}
use Prim.Native.Nat.{ℕ, ◌+◌, ◌-◌, ◌≤◌, ◌<◌, min}
use native.Mathlib.Omega.{arith}
use lib.Dec.{leb}
use lib.ListN.{length, length-take, get_or}
use lib.Seq.{get_or-take}
use borrow.Author.Tests.{leb-true, leb-false, le-leb, lt-leb}
use Rattle.walk.specs.Steps.{stack_start, kept}

-- the numbers before the stack: all, or those up to it
pub kept_length : (m : List ℕ) → length (kept m) ≡ min stack_start (length m)
unfolding kept
kept_length m = length-take stack_start m

module _ (m : List ℕ) (i : ℕ) where
  -- what lies before the stack is what the numbers have there
  pub kept_at : i < stack_start → get_or (kept m) i 0 ≡ get_or m i 0
  unfolding kept
  kept_at h = get_or-take stack_start m i 0 h

  -- a test that takes off the end what the other adds to the start
  pub room_told : (end : ℕ) → end ≡ min (length m) stack_start → 3 ≤ end → leb i (end - 3) ≡ leb (i + 3) (length (kept m))
  room_told end e h = let k = kept_length m in go (leb i (end - 3)) refl
    where
      go : (b : Bool) → leb i (end - 3) ≡ b → b ≡ leb (i + 3) (length (kept m))
      go true q = let k = kept_length m in let l = leb-true i (end - 3) q in sym (le-leb (i + 3) _ (omega arith))
      go false q = let k = kept_length m in sym (lt-leb (i + 3) _ (omega (arith, leb-false i (end - 3) q)))

  -- a cell that has room lies within the numbers and before the stack
  pub cell_room : leb (i + 3) (length (kept m)) ≡ true → (i + 3 ≤ length m) × (i + 3 ≤ stack_start)
  cell_room e = let l = leb-true (i + 3) (length (kept m)) e in let k = kept_length m in omega arith
