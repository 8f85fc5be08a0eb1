-- More laws on how the steps of the code follow the rules of the walk: what is carried over a call, what is known where the walk stands, and which cells cannot be ahead. Assumes nothing.
use mathlib.Core.Path.{◌≡◌, refl, ap, ◌∙◌}
use mathlib.Core.Bool.{Bool, true, false}
use mathlib.Core.List.{List, [], ◌++◌, append_assoc, append-nil}
use Prim.Native.Nat.{ℕ, ◌-◌, ◌≤◌}
use native.Mathlib.Omega.{arith}
use Rattle.rules.specs.Base.{Res, ok, refuse, ◌>>=◌}
use Rattle.rules.specs.Cells.{cell}
use Rattle.walk.specs.Steps.{cell_at, tag_at, skipped, refused_at, checked, extended, written, left, Moves}
use Rattle.walk.specs.Walking.{Scope, Ready, Walked, Did, walks, stays, When}
use Rattle.walk.specs.Places.{Step, Ok, Bad, at}
use Rattle.walk.specs.Moving.{Skips, Writes}
use Rattle.walk.specs.declared.steps.Walk.{Walk}
use Rattle.cells.specs.declared.cell.Cell.{Cell}
use Rattle.walk.proofs.Moves.{moved-skip, moved-write}
use Rattle.walk.proofs.Follow.{Here, Ends, on, off, cell-ahead, skips, writes, still_skipped, still_written}

-- Answers one after the other

-- however they are taken together
pub joins : {A B C : Type 0} (o : Res A) (f : A → Res B) (g : B → Res C) → ◌>>=◌ (◌>>=◌ o f) g ≡ ◌>>=◌ o (λ a. ◌>>=◌ (f a) g)
unfolding ◌>>=◌
joins (ok a) f g = refl
joins (refuse n p) f g = refl

-- what is said goes on as it is
pub same : {A : Type 0} (o : Res A) → o ≡ ◌>>=◌ o (λ x. ok x)
unfolding ◌>>=◌
same (ok a) = refl
same (refuse n p) = refl

-- what follows may be said in another way
pub follows : {A B : Type 0} (o : Res A) {f g : A → Res B} → ((a : A) → f a ≡ g a) → ◌>>=◌ o f ≡ ◌>>=◌ o g
unfolding ◌>>=◌
follows (ok a) e = e a
follows (refuse n p) e = refl

-- Facts that hold unless there was a refusal

-- behind a test it held
pub check_held : (b : Bool) (n p : ℕ) (s : Step) {s₁ : Step} → s₁ ≡ checked b n p s → When s₁ (b ≡ true)
unfolding checked refused_at
check_held true n p s e at free q = refl
check_held false n p (Ok a f) e at free q = let z : ◌≡◌ {A = ℕ} 0 1 = cc in absurd (omega arith)
check_held false n p (Bad o k) e at free q = let z : ◌≡◌ {A = ℕ} 0 1 = cc in absurd (omega arith)

-- more may be given than is asked
pub given_more : {σ : Scope} {Given More : Type 0} {A : Type 0} {Q : A → Type 0} {encode : A → List ℕ} {gain : ℕ} {cells m m₁ : List ℕ} {s s₁ : Step} {R : Res A}
    → (More → Given) → Did σ Given Q encode gain cells m m₁ s s₁ R → Did σ More Q encode gain cells m m₁ s s₁ R
given_more f (walks d) = walks (λ g y. d (f g) y)
given_more f stays = stays

-- Where the walk stands

module _ {σ : Scope} {m₀ : List ℕ} {at₀ free₀ : ℕ} {B : Type 0} {Q : B → Type 0} {encode : B → List ℕ} {gain used : ℕ} {mₑ : List ℕ} {r : Step} where
  -- the rules in other words
  pub said : {slack : ℕ} {v w m : List ℕ} {s : Step} {R S : Res B} → R ≡ S → Ends σ m₀ at₀ free₀ Q encode gain used mₑ r slack v w m s S → Ends σ m₀ at₀ free₀ Q encode gain used mₑ r slack v w m s R
  said e k = rw e k

  -- the cells ahead in other words
  pub laid : {slack : ℕ} {v w w' m : List ℕ} {s : Step} {R : Res B} → w ≡ w' → Ends σ m₀ at₀ free₀ Q encode gain used mₑ r slack v w' m s R → Ends σ m₀ at₀ free₀ Q encode gain used mₑ r slack v w m s R
  laid e k = rw e k

  -- what is known there may be used
  pub stands : {slack : ℕ} {v w m : List ℕ} {s : Step} {R : Res B} → (((at free : ℕ) → s ≡ Ok at free → Ready σ m at free w) → Ends σ m₀ at₀ free₀ Q encode gain used mₑ r slack v w m s R)
      → Ends σ m₀ at₀ free₀ Q encode gain used mₑ r slack v w m s R
  stands {slack} {v} {w} {m} {s} {R} k = go s k
    where
      use_it : {at free : ℕ} → Ends σ m₀ at₀ free₀ Q encode gain used mₑ r slack v w m (Ok at free) R → Here σ m₀ at₀ free₀ Q encode gain used mₑ r slack v w m at free
          → Walked Q encode gain used m₀ mₑ at₀ free₀ r R
      use_it (on f) y = f y

      go : (s : Step) → (((at free : ℕ) → s ≡ Ok at free → Ready σ m at free w) → Ends σ m₀ at₀ free₀ Q encode gain used mₑ r slack v w m s R) → Ends σ m₀ at₀ free₀ Q encode gain used mₑ r slack v w m s R
      go (Bad n p) k = k (λ at free e. let z : ◌≡◌ {A = ℕ} 0 1 = cc in absurd (omega arith))
      go (Ok at free) k = on (λ y. use_it (k (λ a f e. let p : at ≡ a = cc in let q : free ≡ f = cc in rw (← p, ← q) y.ready)) y)

  -- where the walk cannot stand nothing is to be shown, but that a refusal stays
  pub nowhere : {slack : ℕ} {v w m : List ℕ} (s : Step) {R : Res B} → ((at free : ℕ) → s ≡ Ok at free → Ready σ m at free w → ⊥) → ((n p : ℕ) → s ≡ Bad n p → r ≡ Bad n p)
      → Ends σ m₀ at₀ free₀ Q encode gain used mₑ r slack v w m s R
  nowhere (Ok at free) h k = on (λ y. absurd (h at free refl y.ready))
  nowhere (Bad n p) h k = off (k n p refl)

-- a call that did something there did nothing after a refusal
pub refusal-stays : {σ : Scope} {Given : Type 0} {A : Type 0} {Q : A → Type 0} {encode : A → List ℕ} {gain : ℕ} {cells m m₁ : List ℕ} {s s₁ : Step} {R : Res A}
    → Did σ Given Q encode gain cells m m₁ s s₁ R → (n p : ℕ) → s ≡ Bad n p → s₁ ≡ Bad n p
refusal-stays (walks d) n p e = let z : ◌≡◌ {A = ℕ} 0 1 = cc in absurd (omega arith)
refusal-stays stays n p e = e

-- The cell ahead is skipped, and one with a tag alone is written

abbrev pub Heads : ℕ → List ℕ → List ℕ → Step → Step → Type 0
Heads tag m m₁ s s₁ = (s₁ ≡ extended m (skipped m s)) × (m₁ ≡ written m (skipped m s) (cell tag 0 0))

pub headed : (tag : ℕ) {old new : Walk} → Writes old (skipped old.memory.now (at old)) (cell tag 0 0) new → Heads tag old.memory.now new.memory.now (at old) (at new)
headed tag w = (w.step, w.numbers)

-- what is left where a cell was skipped
pub skip_moves : {old new : Walk} → Skips old new → left new.memory.now (at new) ≤ left old.memory.now (at old) - 3
skip_moves k = rw k.numbers (moved-skip _ _ k.step)

-- that moves by a cell
pub moved-head : (tag : ℕ) (m : List ℕ) (s : Step) {m₁ : List ℕ} {s₁ : Step} → Heads tag m m₁ s s₁ → Moves 3 m m₁ s s₁
moved-head tag m s h =
    let i = moved-skip m s refl in
    let j = (moved-write m (skipped m s) (cell tag 0 0) h).0 in
    omega arith

-- facts that hold unless there was a refusal hold behind it
pub still_headed : {P : Type 0} (m : List ℕ) {s s₁ : Step} → s₁ ≡ extended m (skipped m s) → When s P → When s₁ P
still_headed m e k = still_written m e (still_skipped m refl k)

-- a refusal stays
pub refusal_headed : (m : List ℕ) (s : Step) {s₁ : Step} → s₁ ≡ extended m (skipped m s) → (n p : ℕ) → s ≡ Bad n p → s₁ ≡ Bad n p
unfolding skipped extended
refusal_headed m s e n p z = e ∙ ap (λ s. extended m (skipped m s)) z

-- the rules say the same behind it
pub heads : {σ : Scope} {m₀ : List ℕ} {at₀ free₀ : ℕ} {B : Type 0} {Q : B → Type 0} {encode : B → List ℕ} {gain used : ℕ} {mₑ : List ℕ} {r : Step} {slack : ℕ} {v w m m₁ : List ℕ} {s s₁ : Step} {R : Res B} (t tag : ℕ)
    → Heads tag m m₁ s s₁ → Ends σ m₀ at₀ free₀ Q encode gain used mₑ r slack (v ++ cell tag 0 0) w m₁ s₁ R → Ends σ m₀ at₀ free₀ Q encode gain used mₑ r slack v (cell t 0 0 ++ w) m s R
heads t tag h k = skips t 0 0 refl (writes tag 0 0 h (λ at free e. refl) k)

-- the tag of the cell that the code sees
pub tag_of : (m : List ℕ) (s : Step) {t : Cell} → t ≡ cell_at m s → t.tag ≡ tag_at m s
unfolding tag_at
tag_of m s sees = ap (λ c. c.tag) sees

-- the tag ahead is the first number there
pub tag-ahead : {σ : Scope} {m : List ℕ} {at free : ℕ} (t p d : ℕ) (w : List ℕ) → Ready σ m at free (cell t p d ++ w) → tag_at m (Ok at free) ≡ t
unfolding tag_at
tag-ahead t p d w y = ap (λ c. c.tag) (cell-ahead t p d w y)

-- Cells one after the other, as the laws of the steps take them

pub in_two : (a b : List ℕ) → a ++ b ≡ a ++ (b ++ [])
in_two a b = simp append-nil

pub in_three : (a b c : List ℕ) → (a ++ b) ++ c ≡ a ++ (b ++ (c ++ []))
in_three a b c = simp (append_assoc, append-nil)

pub in_four : (a b c d : List ℕ) → ((a ++ b) ++ c) ++ d ≡ a ++ (b ++ (c ++ (d ++ [])))
in_four a b c d = simp (append_assoc, append-nil)

pub then_three : (a b c d : List ℕ) → ((a ++ b) ++ c) ++ d ≡ a ++ (b ++ (c ++ d))
then_three a b c d = simp append_assoc

pub behind_three : (v a b c : List ℕ) → v ++ ((a ++ b) ++ c) ≡ ((v ++ a) ++ b) ++ c
behind_three v a b c = simp append_assoc

pub behind_four : (v a b c d : List ℕ) → v ++ (((a ++ b) ++ c) ++ d) ≡ (((v ++ a) ++ b) ++ c) ++ d
behind_four v a b c d = simp append_assoc
