-- Taking a token of a kind. Assumes nothing.
use mathlib.Core.Path.{◌≡◌, refl}
use mathlib.Core.List.{List}
use Prim.Native.Nat.{ℕ, ◌*◌, ◌≤◌}
use Rattle.rules.specs.Syntax as S
use Rattle.rules.specs.Syntax.{on_read, ◌>>=◌, give, when, unexpected}
use Rattle.parse.specs.Reading.{Did, nothing}
use Rattle.parse.specs.Steps.{token_at, kind_at, Skips, Step, At, Bad}
use Rattle.parse.proofs.Follow.{begin, named, skips, is, isn't, unexpects, gives}

module _ {m : List ℕ} {n j a k : ℕ} {r : Step} (behind : 3 * n ≤ a) where
  -- it is there, and is skipped
  pub takes : {m₁ : List ℕ} → kind_at m (At n j a) ≡ k → Skips m m₁ (At n j a) r → Did nothing m m₁ (At n j a) r (S.take k)
  unfolding S.take S.skip when unexpected ◌>>=◌ on_read give
  takes e q = begin (named (λ us. refl) (is behind _ unexpected k e (skips behind q (λ t z. gives t refl))))

  -- it is not, and is refused
  pub misses : (kind_at m (At n j a) ≡ k → ⊥) → r ≡ Bad 5 (token_at m (At n j a)).place → Did nothing m m (At n j a) r (S.take k)
  unfolding S.take S.skip when unexpected
  misses e q = begin (named (λ us. refl) (isn't behind S.skip unexpected k e (unexpects behind q)))
