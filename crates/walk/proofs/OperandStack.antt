-- The stack of operands in memory: what is read from it, and what stays when a cell is written or an operand put on it. Assumes nothing.
use mathlib.Core.Path.{◌≡◌, refl, sym, ap, ◌∙◌}
use mathlib.Core.Bool.{Bool, true, false}
use mathlib.Core.List.{List, [], ◌∷◌}
use Prim.Native.Nat.{ℕ, suc, ◌+◌, ◌*◌, ◌-◌, ◌≤◌, ◌<◌}
use native.Mathlib.Numerals.{add-one}
use native.Mathlib.Omega.{arith}
use lib.Dec.{leb}
use lib.ListN.{length, get_or, set, length-set, length-take}
use lib.Seq.{sets, length-sets, get_or-set_same, get_or-set_other}
use borrow.Author.Tests.{leb-true, le-leb}
use Rattle.rules.specs.Base.{pick}
use Rattle.rules.specs.Cells.{cell, type_kind}
use Rattle.walk.specs.Steps.{stack_start, kept, extended, written, Moves}
use Rattle.walk.specs.Operands.{capped, pushed, pushed_to}
use Rattle.walk.specs.Items.{Operand}
use Rattle.walk.specs.Stacking.{Stack, bottom, above, Stacks}
use Rattle.walk.specs.Places.{Step, Ok, Bad, Inside, standing}
use Rattle.walk.specs.Moving.{Writes, Pushes}
use Rattle.walk.specs.declared.steps.Walk.{Walk}
use Rattle.walk.proofs.Stores.{take-sets}
use Rattle.walk.proofs.Moves.{kept_short, left_same, moved-write}

-- where it ends
pub stack_top : {m : List ℕ} {top : ℕ} {os : List Operand} → Stack m top os → top ≡ stack_start + 2 * length os
stack_top bottom = refl
stack_top (above o k h below) = let e = stack_top below in omega arith

-- it stays where its numbers do
stack-stays : {m m' : List ℕ} {top : ℕ} {os : List Operand} → ((j : ℕ) → stack_start ≤ j → j < top → get_or m' j 0 ≡ get_or m j 0) → Stack m top os → Stack m' top os
stack-stays same bottom = bottom
stack-stays same (above {top} o k h below) =
    let e = stack_top below in
    above o (same top (omega arith) (omega arith) ∙ k) (same (top + 1) (omega arith) (omega arith) ∙ h) (stack-stays (λ j l b. same j l (omega arith)) below)

-- Reading

-- the last operand
pub record Last (m : List ℕ) (top : ℕ) (o : Operand) (os : List Operand) : Type 0 where
  pub kind : get_or m (top - 2) 0 ≡ type_kind o.type
  pub height : get_or m (top - 1) 0 ≡ capped o.height
  pub below : Stack m (top - 2) os
  pub high : stack_start + 2 ≤ top

pub last_of : {m : List ℕ} {top : ℕ} {o : Operand} {os : List Operand} → Stack m top (o ∷ os) → Last m top o os
last_of {m} (above {top} o k h below) =
    let e : top + 2 - 2 ≡ top = omega arith in
    let f : top + 2 - 1 ≡ top + 1 = omega arith in
    let t = stack_top below in
    record { kind = rw e k; height = rw f h; below = rw e below; high = omega arith }

-- the operand under the last one
pub under_last : {m : List ℕ} {top : ℕ} {y x : Operand} {os : List Operand} → Stack m top (y ∷ x ∷ os)
    → (get_or m (top - 4) 0 ≡ type_kind x.type) × (get_or m (top - 3) 0 ≡ capped x.height) × Stack m (top - 4) os × (stack_start + 4 ≤ top)
under_last {m} {top} k =
    let y = last_of k in
    let x = last_of y.below in
    let h = x.high in
    let e : top - 2 - 2 ≡ top - 4 = omega arith in
    let f : top - 2 - 1 ≡ top - 3 = omega arith in
    (rw e at x.kind, rw f at x.height, rw e at x.below, omega arith)

-- Writing

-- a store elsewhere
sets_other : (l : List ℕ) (i : ℕ) (xs : List ℕ) (j : ℕ) → i + length xs ≤ j → get_or (sets l i xs) j 0 ≡ get_or l j 0
sets_other l i [] j h = refl
sets_other l i (x ∷ xs) j h = sets_other (set l i x) (suc i) xs j (omega arith) ∙ get_or-set_other l i j x 0 (omega arith)

-- a cell is written before the stack
pub stack-written : {m : List ℕ} {top : ℕ} {os : List Operand} (s : Step) (t p d : ℕ) → Stack m top os → Stack (written m s (cell t p d)) top os
unfolding written cell
stack-written (Bad n q) t p d k = k
stack-written {m} {top} {os} (Ok at free) t p d k = go (leb (free + 3) (length (kept m))) refl
  where
    go : (b : Bool) → leb (free + 3) (length (kept m)) ≡ b → Stack (pick b (λ _. sets m free (cell t p d)) (λ _. m)) top os
    go true e = let l = leb-true (free + 3) (length (kept m)) e in let u = kept_short m in stack-stays (λ j a b. sets_other m free (cell t p d) j (omega arith)) k
    go false e = k

pub length-written : (m : List ℕ) (s : Step) (c : List ℕ) → length (written m s c) ≡ length m
unfolding written
length-written m (Bad n q) c = refl
length-written m (Ok at free) c = go (leb (free + 3) (length (kept m)))
  where
    go : (b : Bool) → length (pick b (λ _. sets m free c) (λ _. m)) ≡ length m
    go true = length-sets m free c
    go false = refl

-- an operand is put where the stack ends, and there is room
module _ (m : List ℕ) (end : ℕ) (o : Operand) (room : end + 2 ≤ length m) where
  abbrev two : List ℕ
  two = type_kind o.type ∷ capped o.height ∷ []

  pub stack-pushed : {os : List Operand} → Stack m end os → Stack (pushed m end two) (pushed_to (length m) end) (o ∷ os)
  unfolding pushed pushed_to
  stack-pushed k = rw (le-leb (end + 2) (length m) room) (above o first second (stack-stays others k))
    where
      one : List ℕ
      one = set m end (type_kind o.type)

      first : get_or (sets m end two) end 0 ≡ type_kind o.type
      first = get_or-set_other one (suc end) end (capped o.height) 0 (omega arith) ∙ get_or-set_same m end (type_kind o.type) 0 (omega arith)

      second : get_or (sets m end two) (end + 1) 0 ≡ capped o.height
      second = let l = length-set m end (type_kind o.type) in rw add-one (get_or-set_same one (suc end) (capped o.height) 0 (omega arith))

      others : (j : ℕ) → stack_start ≤ j → j < end → get_or (sets m end two) j 0 ≡ get_or m j 0
      others j a b = get_or-set_other one (suc end) j (capped o.height) 0 (omega arith) ∙ get_or-set_other m end j (type_kind o.type) 0 (omega arith)

-- what lies before it, and how long memory is, stays
pub kept_pushed : (m : List ℕ) (end : ℕ) (xs : List ℕ) → stack_start ≤ end → kept (pushed m end xs) ≡ kept m
unfolding pushed kept
kept_pushed m end xs h = go (leb (end + 2) (length m))
  where
    go : (b : Bool) → kept (pick b (λ _. sets m end xs) (λ _. m)) ≡ kept m
    go true = take-sets m end xs stack_start h
    go false = refl

pub length-pushed : (m : List ℕ) (end : ℕ) (xs : List ℕ) → length (pushed m end xs) ≡ length m
unfolding pushed
length-pushed m end xs = go (leb (end + 2) (length m))
  where
    go : (b : Bool) → length (pick b (λ _. sets m end xs) (λ _. m)) ≡ length m
    go true = length-sets m end xs
    go false = refl

-- a cell that is written and an operand that is put go no further back
pub moved-stacks : {m m' : List ℕ} {s : Step} {end : ℕ} {c two : List ℕ} {i : Inside} → Stacks m m' s end c two i → Moves 0 m m' s i.step
unfolding kept
moved-stacks {m} {s} {end} {c} {two} {i} w =
    let k = moved-write m s c (refl, refl) in
    let e = left_same (extended m s) (written m s c) (pushed (written m s c) end two) (pushed_kept (written m s c) end two) in
    rw (w.step, w.numbers, e) (omega (arith, k.0))
  where
    pushed_kept : (m : List ℕ) (end : ℕ) (xs : List ℕ) → length (kept (pushed m end xs)) ≡ length (kept m)
    pushed_kept m end xs = length-take stack_start (pushed m end xs) ∙ rw (length-pushed m end xs) (sym (length-take stack_start m))

-- behind a refusal it would be put as well, but the walk has ended
pub stacks_none : {n p : ℕ} (m : List ℕ) (end : ℕ) (c xs : List ℕ) → Stacks m (pushed m end xs) (Bad n p) end c xs (record { step = Bad n p; top = pushed_to (length m) end })
unfolding extended written
stacks_none m end c xs = record { step = refl; top = refl; numbers = refl }

-- a cell was written, and then an operand put where the stack was cut
pub stacked_behind : {old mid new : Walk} {s : Step} {c xs : List ℕ} (end : ℕ) → Writes old s c mid → Pushes (record { memory = mid.memory; at = mid.at; free = mid.free; top = end }) xs new
    → Stacks old.memory.now new.memory.now s end c xs (standing new)
stacked_behind {old} {mid} {new} {s} {c} {xs} end w p = record {
  step = p.step ∙ w.step;
  top = p.top ∙ ap (λ n. pushed_to n end) w.long;
  numbers = p.numbers ∙ ap (λ l. pushed l end xs) w.numbers;
}
