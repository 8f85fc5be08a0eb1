-- How far each kind of step moves in the tree. Assumes nothing.
use mathlib.Core.Path.{◌≡◌, refl, sym, ◌∙◌}
use mathlib.Core.Bool.{Bool, true, false}
use mathlib.Core.List.{List}
use Prim.Native.Nat.{ℕ, ◌+◌, ◌-◌, ◌≤◌}
use native.Mathlib.Nat.{le_refl}
use native.Mathlib.Omega.{arith}
use lib.Dec.{leb}
use lib.ListN.{length, length-take}
use lib.Seq.{sets, length-sets}
use borrow.Author.Tests.{leb-true}
use Rattle.rules.specs.Base.{pick}
use Rattle.walk.specs.Steps.{stack_start, kept, cell_at, tag_at, skipped, refused_at, checked, extended, written, left}
use Rattle.walk.specs.Places.{Step, Ok, Bad}

-- only the length of what lies before the stack matters
pub left_same : (s : Step) (m m' : List ℕ) → length (kept m') ≡ length (kept m) → left m' s ≡ left m s
unfolding left
left_same (Ok at free) m m' e = rw e
left_same (Bad n p) m m' e = refl

pub kept_short : (m : List ℕ) → length (kept m) ≤ stack_start
unfolding kept
kept_short m = let e = length-take stack_start m in omega arith

-- stores keep it
pub kept_sets : (m : List ℕ) (i : ℕ) (xs : List ℕ) → length (kept (sets m i xs)) ≡ length (kept m)
unfolding kept
kept_sets m i xs = length-take stack_start (sets m i xs) ∙ rw (length-sets m i xs) (sym (length-take stack_start m))

-- a cell is skipped
pub moved-skip : (m : List ℕ) (s : Step) {r : Step} → r ≡ skipped m s → left m r ≤ left m s - 3
unfolding skipped left
moved-skip m s e = rw e (go s)
  where
    inner : (at free : ℕ) (b : Bool) → left m (pick b (λ _. Ok (at + 3) free) (λ _. Ok stack_start free)) ≤ length (kept m) - at - 3
    inner at free true = omega arith
    inner at free false = let k = kept_short m in omega arith

    go : (s : Step) → left m (skipped m s) ≤ left m s - 3
    go (Ok at free) = inner at free (leb (at + 3) (length (kept m)))
    go (Bad n p) = omega arith

-- a test
pub moved-check : (m : List ℕ) (b : Bool) (n p : ℕ) (s : Step) {r : Step} → r ≡ checked b n p s → left m r ≤ left m s
unfolding checked refused_at left
moved-check m b n p s e = rw e (go b s)
  where
    go : (b : Bool) (s : Step) → left m (checked b n p s) ≤ left m s
    go true s = le_refl _
    go false (Ok at free) = omega arith
    go false (Bad o q) = omega arith

-- a cell is written
pub moved-write : (m : List ℕ) (s : Step) (c : List ℕ) {m' : List ℕ} {r : Step} → (r ≡ extended m s) × (m' ≡ written m s c) → (left m' r ≤ left m s) × (length (kept m') ≡ length (kept m))
unfolding extended written left
moved-write m s c {m'} {r} e = rw (e.0, e.1) (go s)
  where
    inner : (at free : ℕ) (b : Bool)
        → (left (pick b (λ _. sets m free c) (λ _. m)) (pick b (λ _. Ok at (free + 3)) (λ _. Ok at free)) ≤ length (kept m) - at) × (length (kept (pick b (λ _. sets m free c) (λ _. m))) ≡ length (kept m))
    inner at free true = let k = kept_sets m free c in (omega arith, k)
    inner at free false = (omega arith, refl)

    go : (s : Step) → (left (written m s c) (extended m s) ≤ left m s) × (length (kept (written m s c)) ≡ length (kept m))
    go (Ok at free) = inner at free (leb (free + 3) (length (kept m)))
    go (Bad n p) = (omega arith, refl)

-- where the tag ahead is not that of the end, a cell is ahead
pub some-ahead : (m : List ℕ) (s : Step) → (tag_at m s ≡ 0 → ⊥) → 3 ≤ left m s
unfolding tag_at cell_at left
some-ahead m (Bad n p) h = absurd (h refl)
some-ahead m (Ok at free) h = inner (leb (at + 3) (length (kept m))) refl
  where
    inner : (b : Bool) → leb (at + 3) (length (kept m)) ≡ b → 3 ≤ length (kept m) - at
    inner true e = let k = leb-true (at + 3) (length (kept m)) e in omega arith
    inner false e = absurd (h (rw (e, tag_at, cell_at)))
