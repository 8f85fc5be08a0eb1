-- Something was read, or nothing; tests that hold together. Assumes nothing.
use mathlib.Core.Path.{◌≡◌, refl}
use mathlib.Core.Bool.{Bool, true, false, ◌&&◌}
use mathlib.Core.Option.{Option, none, some}
use Prim.Native.Nat.{ℕ}
use native.Mathlib.Omega.{arith}
use Rattle.rules.specs.Base.{pick}
use Rattle.variables.specs.Slots.{is_some}

-- `clash (cc)`: the facts at hand say that two different things are the same
pub clash : {X : Type 0} → ◌≡◌ {A = ℕ} 0 1 → X
clash e = absurd (omega arith)

pub both : (a b : Bool) → (a && b) ≡ true → (a ≡ true) × (b ≡ true)
both true b e = (refl, e)
both false b e = clash (cc)

module _ {A : Type 0} where
  pub nothing : (o : Option A) {t : Bool} → t ≡ is_some o → t ≡ false → o ≡ none
  unfolding is_some
  nothing none e f = refl
  nothing (some a) e f = clash (cc)

  -- what is read on a test is something exactly if the test holds
  pub some_if : (t : Bool) (a : A) → t ≡ is_some (pick t (λ _. some a) (λ _. none))
  unfolding is_some
  some_if true a = refl
  some_if false a = refl

  -- something was read on a test: the test holds
  pub chosen : (t : Bool) (x : Option A) {a : A} → pick t (λ _. x) (λ _. none) ≡ some a → (t ≡ true) × (x ≡ some a)
  chosen true x e = (refl, e)
  chosen false x e = clash (cc)
