-- More laws on following the code: rules that say the same, cells that cannot be ahead, what is known of where the walk stands. Assumes nothing.
use mathlib.Core.Path.{◌≡◌, refl, ap, ◌∙◌}
use mathlib.Core.Bool.{Bool, true, false}
use mathlib.Core.List.{List}
use Prim.Native.Nat.{ℕ}
use native.Mathlib.Omega.{arith}
use Rattle.rules.specs.Base.{Res, ok, ◌>>=◌, need}
use Rattle.walk.specs.Steps.{skipped, refused_at, checked, extended}
use Rattle.walk.specs.Walking.{Scope, Walked, Did, When}
use Rattle.walk.specs.Places.{Step, Ok, Bad}
use Rattle.walk.proofs.Follow.{Here, Ends, on, off}

-- past a test that held
pub passed : (b : Bool) (n p : ℕ) (s : Step) {s₁ : Step} → s₁ ≡ checked b n p s → When s₁ (b ≡ true)
unfolding checked refused_at
passed true n p s e at free q = refl
passed false n p (Ok a f) e at free q = let y : ◌≡◌ {A = ℕ} 0 1 = cc in absurd (omega arith)
passed false n p (Bad k l) e at free q = let y : ◌≡◌ {A = ℕ} 0 1 = cc in absurd (omega arith)

-- a refusal stays
pub skipped-stays : (m : List ℕ) {s s₁ : Step} {n p : ℕ} → s₁ ≡ skipped m s → s ≡ Bad n p → s₁ ≡ Bad n p
unfolding skipped
skipped-stays m e z = e ∙ ap (skipped m) z

pub checked-stays : (b : Bool) (k q : ℕ) {s s₁ : Step} {n p : ℕ} → s₁ ≡ checked b k q s → s ≡ Bad n p → s₁ ≡ Bad n p
unfolding checked refused_at
checked-stays true k q e z = e ∙ z
checked-stays false k q e z = e ∙ ap (refused_at k q) z

pub extended-stays : (m : List ℕ) {s s₁ : Step} {n p : ℕ} → s₁ ≡ extended m s → s ≡ Bad n p → s₁ ≡ Bad n p
unfolding extended
extended-stays m e z = e ∙ ap (extended m) z

-- a test alone is one with nothing behind it
pub need-alone : (b : Bool) (n p : ℕ) → ◌>>=◌ (need b n p) (λ _. ok tt) ≡ need b n p
unfolding ◌>>=◌ need
need-alone true n p = refl
need-alone false n p = refl

-- behind what is allowed the rules go on
pub goes_on : {A B : Type 0} {R : Res A} {a : A} (K : A → Res B) → R ≡ ok a → K a ≡ ◌>>=◌ R K
unfolding ◌>>=◌
goes_on K e = rw e

-- facts are changed under the condition
pub whenever : {P P' : Type 0} {s : Step} → (P → P') → When s P → When s P'
whenever f h at free e = f (h at free e)

-- and joined
pub both : {P P' : Type 0} {s : Step} → When s P → When s P' → When s (P × P')
both h k at free e = (h at free e, k at free e)

-- the cells are grouped otherwise
pub regrouped : {σ : Scope} {Given A : Type 0} {Q : A → Type 0} {encode : A → List ℕ} {gain : ℕ} {cells cells' m m' : List ℕ} {s r : Step} {R : Res A}
    → cells ≡ cells' → Did σ Given Q encode gain cells m m' s r R → Did σ Given Q encode gain cells' m m' s r R
regrouped e d = rw (← e) d

module _ {σ : Scope} {m₀ : List ℕ} {at₀ free₀ : ℕ} {B : Type 0} {Q : B → Type 0} {encode : B → List ℕ} {gain used : ℕ} {mₑ : List ℕ} {r : Step} where
  -- rules that say the same
  pub likewise : {slack : ℕ} {v w m : List ℕ} {s : Step} {R R' : Res B} → When s (R' ≡ R) → Ends σ m₀ at₀ free₀ Q encode gain used mₑ r slack v w m s R'
      → Ends σ m₀ at₀ free₀ Q encode gain used mₑ r slack v w m s R
  likewise h (on {at} {free} f) = on (λ y. rw (h at free refl) at (f y))
  likewise h (off e) = off e

  -- what follows of where the walk stands
  pub knowing : {P : Type 0} {slack : ℕ} {v w m : List ℕ} {s : Step} {R : Res B}
      → ((at free : ℕ) → s ≡ Ok at free → Here σ m₀ at₀ free₀ Q encode gain used mₑ r slack v w m at free → P)
      → (When s P → Ends σ m₀ at₀ free₀ Q encode gain used mₑ r slack v w m s R) → Ends σ m₀ at₀ free₀ Q encode gain used mₑ r slack v w m s R
  knowing {P} {slack} {v} {w} {m} {s} {R} h k = go s h k
    where
      use_it : {at free : ℕ} → Ends σ m₀ at₀ free₀ Q encode gain used mₑ r slack v w m (Ok at free) R → Here σ m₀ at₀ free₀ Q encode gain used mₑ r slack v w m at free
          → Walked Q encode gain used m₀ mₑ at₀ free₀ r R
      use_it (on f) y = f y

      go : (s : Step) → ((at free : ℕ) → s ≡ Ok at free → Here σ m₀ at₀ free₀ Q encode gain used mₑ r slack v w m at free → P)
          → (When s P → Ends σ m₀ at₀ free₀ Q encode gain used mₑ r slack v w m s R) → Ends σ m₀ at₀ free₀ Q encode gain used mₑ r slack v w m s R
      go (Bad n p) h k = k (λ at free e. let z : ◌≡◌ {A = ℕ} 0 1 = cc in absurd (omega arith))
      go (Ok at free) h k = on (λ y. use_it (k (λ a f e. h at free refl y)) y)

  -- what cannot be ahead; a refusal stays
  pub barred : {slack : ℕ} {v w m : List ℕ} {s : Step} {R : Res B} → ((n p : ℕ) → s ≡ Bad n p → r ≡ Bad n p) → When s ⊥ → Ends σ m₀ at₀ free₀ Q encode gain used mₑ r slack v w m s R
  barred {slack} {v} {w} {m} {s} {R} k h = go s k h
    where
      go : (s : Step) → ((n p : ℕ) → s ≡ Bad n p → r ≡ Bad n p) → When s ⊥ → Ends σ m₀ at₀ free₀ Q encode gain used mₑ r slack v w m s R
      go (Bad n p) k h = off (k n p refl)
      go (Ok at free) k h = absurd (h at free refl)
