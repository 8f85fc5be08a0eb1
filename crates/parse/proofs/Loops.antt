-- Loops of the code against readers of the rules that read an element and then themselves. Assumes nothing.
use mathlib.Core.Path.{◌≡◌, refl, sym, ap, ◌∙◌}
use mathlib.Core.List.{List, [], ◌++◌, append_assoc}
use Prim.Native.Nat.{ℕ, zero, suc, ◌+◌, ◌*◌, ◌≤◌, ◌<◌}
use native.Mathlib.Omega.{arith}
use Rattle.rules.specs.Tokens.{Token}
use Rattle.rules.specs.Syntax as S
use Rattle.rules.specs.Syntax.{Read, got, bad, Reader, on_read, ◌>>=◌, give}
use Rattle.parse.specs.Steps.{count_of, left_of, free_of, token_at, Step, Bad}
use Rattle.parse.specs.Reading.{Did}
use Rattle.parse.proofs.Follow.{seen, Ends, begin, off, named, bind, knows}

-- what is read is given on as it is
pub same : {A : Type 0} (o : Read A) → o ≡ on_read o (λ x. give x)
unfolding on_read give
same (got a us) = refl
same (bad x p) = refl

-- one after the other, however they are taken together
pub joins : {A B C : Type 0} (o : Read A) (f : A → Reader B) (g : B → Reader C) → on_read (on_read o f) g ≡ on_read o (λ a us. on_read (f a us) g)
unfolding on_read
joins (got a us) f g = refl
joins (bad x p) f g = refl

module _ {A : Type 0} (encode : A → List ℕ) (R : ℕ → Reader A) (each more : ℕ) (m₁ : List ℕ) (s₁ : Step) where
  -- from the loop's beginning at s₁ it has come to s: whatever ends what is still to be read there ends the whole. What was read so far is put
  -- before the rest by `wrap`, and is encoded by v
  abbrev pub Loops : List ℕ → Step → Type 0
  Loops m s = (mₑ : List ℕ) (r : Step) (F : ℕ) → each * left_of s₁ + more ≤ F
      → ((v : List ℕ) (wrap : A → A) → ((x : A) → encode (wrap x) ≡ v ++ encode x) → (f : ℕ) → each * left_of s + more ≤ f
      → Ends (count_of s₁) m₁ (free_of s₁) encode mₑ r v m s (◌>>=◌ (R f) (λ x. give (wrap x))))
      → Ends (count_of s₁) m₁ (free_of s₁) encode mₑ r [] m₁ s₁ (R F)

  pub loops_start : Loops m₁ s₁
  unfolding ◌>>=◌
  loops_start mₑ r F b k = named (λ us. same (R F us)) (k [] (λ x. x) (λ x. refl) F b)

  -- a refusal within it
  pub loops-refused : {m : List ℕ} {x p : ℕ} → Loops m (Bad x p) → (F : ℕ) → each * left_of s₁ + more ≤ F → Did encode m₁ m s₁ (Bad x p) (R F)
  loops-refused {m} old F b = begin (old m _ F b (λ v wrap q f h. off refl))

  -- an element E, put before the rest by `add`
  module _ (behind : 3 * count_of s₁ ≤ free_of s₁) {E : Type 0} (w : E) (encodeE : E → List ℕ) (element : ℕ → Reader E) (add : E → A → A) (adds : (e : E) (x : A) → encode (add e x) ≡ encodeE e ++ encode x) where
    pub loops_step : {m m' : List ℕ} {s s' : Step} → Loops m s
        → ((g : ℕ) (us : List Token) → token_at m s ≡ seen (S.next us) → R (suc g) us ≡ on_read (element g us) (λ e. ◌>>=◌ (R g) (λ x. give (add e x))))
        → ((g : ℕ) → each * left_of s + more ≤ suc g → Did encodeE m m' s s' (element g))
        → each * left_of s' + more < each * left_of s + more
        → Loops m' s'
    unfolding ◌>>=◌ give on_read
    loops_step {m} {m'} {s} {s'} old turn did less mₑ r F b k = old mₑ r F b step
      where
        step : (v : List ℕ) (wrap : A → A) → ((x : A) → encode (wrap x) ≡ v ++ encode x) → (f : ℕ) → each * left_of s + more ≤ f → Ends (count_of s₁) m₁ (free_of s₁) encode mₑ r v m s (◌>>=◌ (R f) (λ x. give (wrap x)))
        step v wrap q zero h = absurd (omega arith)
        step v wrap q (suc g) h =
            knows behind (λ us z. ap (λ o. on_read o (λ x. give (wrap x))) (turn g us z) ∙ joins (element g us) _ _)
            (bind behind w (did g h) (λ e.
            named (λ us. joins (R g us) _ _)
            (k (v ++ encodeE e) (λ x. wrap (add e x)) (λ x. q (add e x) ∙ ap (λ l. v ++ l) (adds e x) ∙ sym (append_assoc v (encodeE e) (encode x))) g (omega arith))))
