-- What a cell's kind says of its tag. Assumes nothing.
use mathlib.Core.Logic.{◌⊎◌, inl, inr}
use Rattle.std.proofs.Common.{◌≡◌, sym, ℕ, Result, Ok, Err}
use Rattle.rules.specs.KindNumbers.{kind_number, Decodes}
use Rattle.rules.specs.declared.kinds.Kind.{Kind}
use Rattle.rules.specs.declared.kinds.UnknownKind.{UnknownKind}
use Rattle.rules.proofs.KindLaws.{other_number}
use Rattle.std.proofs.lemmas.Bool.{eqb-false}

module _ {n : ℕ} {r : Result Kind UnknownKind} (d : Decodes n r) where
  pub of_kind : {k : Kind} → r ≡ Ok k → (j : Kind) → k ≡ j → n ≡ kind_number j
  of_kind e j f = sym (rw (e, f) at d)

  pub of_three : {k a b c : Kind} → r ≡ Ok k → (k ≡ a) ⊎ ((k ≡ b) ⊎ (k ≡ c)) → (n ≡ kind_number a) ⊎ ((n ≡ kind_number b) ⊎ (n ≡ kind_number c))
  of_three {a} e (inl f) = inl (of_kind e a f)
  of_three {b} e (inr (inl f)) = inr (inl (of_kind e b f))
  of_three {c} e (inr (inr f)) = inr (inr (of_kind e c f))

  pub not_kind : {k : Kind} → r ≡ Ok k → (j : Kind) → (k ≡ j → ⊥) → n ≡ kind_number j → ⊥
  not_kind e j f = eqb-false n (kind_number j) (other_number n r j d (λ h. f cc))

  pub no_kind : {u : UnknownKind} → r ≡ Err u → (j : Kind) → n ≡ kind_number j → ⊥
  no_kind e j = eqb-false n (kind_number j) (other_number n r j d (λ h. cc))
