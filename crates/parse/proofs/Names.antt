-- A name that is taken: its place and its length are the numbers of the token that is next. Assumes nothing.
use mathlib.Core.Path.{◌≡◌, refl, sym, ap, ◌∙◌}
use mathlib.Core.Bool.{Bool, true, false}
use mathlib.Core.List.{List}
use Prim.Native.Nat.{ℕ, ◌*◌, ◌≤◌}
use lib.Dec.{eqb}
use lib.ListN.{length, replicate, length-replicate}
use Rattle.rules.specs.Base.{pick}
use Rattle.rules.specs.Kinds.{NAME}
use Rattle.rules.specs.Tokens.{Token}
use Rattle.rules.specs.Syntax.{Name, Reader, on_read, ◌>>=◌, ◌>>◌, give, next, take, name_of, take_name}
use Rattle.rules.specs.Cells.{datum}
use Rattle.parse.specs.Steps.{token_at, Step}
use Rattle.parse.specs.Reading.{Did, nothing}
use Rattle.parse.proofs.Follow.{Ends, named, thens, looks}
use Rattle.parse.proofs.Loops.{joins}

-- the name that a token is, if it is one; else some name with the token's numbers
unfoldable pub name_for : Token → Name
name_for t = record { place = t.place; letters = pick (eqb t.kind NAME) (λ _. t.letters) (λ _. replicate t.value 0) }

-- its length is the token's datum
pub name-datum : (t : Token) → length (name_for t).letters ≡ datum t
unfolding name_for datum
name-datum t = go (eqb t.kind NAME)
  where
    go : (b : Bool) → length (pick b (λ _. t.letters) (λ _. replicate t.value 0)) ≡ pick b (λ _. length t.letters) (λ _. t.value)
    go true = refl
    go false = length-replicate t.value 0

-- a name that is taken is the next token
pub name-taken : (us : List Token) → take_name us ≡ ◌>>◌ (take NAME) (give (name_for (next us))) us
unfolding name_for take_name ◌>>=◌ ◌>>◌ on_read take give name_of
name-taken us = go (eqb (next us).kind NAME) refl
  where
    go : (b : Bool) → eqb (next us).kind NAME ≡ b → take_name us ≡ ◌>>◌ (take NAME) (give (name_for (next us))) us
    go true e = rw e
    go false e = rw e

module _ {n : ℕ} {m₀ : List ℕ} {at₀ : ℕ} {B : Type 0} {encode : B → List ℕ} {mₑ : List ℕ} {r : Step} (behind : 3 * n ≤ at₀) where
  -- a name is taken, whose numbers are the next token's
  pub takes-name : {K : Name → Reader B} {v m m₁ : List ℕ} {s s₁ : Step} → Did nothing m m₁ s s₁ (take NAME)
      → ((x : Name) → x.place ≡ (token_at m s).place → length x.letters ≡ (token_at m s).datum → Ends n m₀ at₀ encode mₑ r v m₁ s₁ (K x))
      → Ends n m₀ at₀ encode mₑ r v m s (◌>>=◌ take_name K)
  unfolding ◌>>=◌ ◌>>◌ on_read give name_for
  takes-name {K} {s} d k =
      named (λ us. ap (λ o. on_read o K) (name-taken us) ∙ joins (take NAME us) _ _)
      (looks behind {K = λ t. ◌>>◌ (take NAME) (K (name_for t))} s (λ t z.
      thens behind d (k (name_for t) (sym (ap (λ c. c.place) z)) (name-datum t ∙ sym (ap (λ c. c.datum) z)))))

  -- a name is taken and not used
  pub passes-name : {K : Reader B} {v m m₁ : List ℕ} {s s₁ : Step} → Did nothing m m₁ s s₁ (take NAME)
      → Ends n m₀ at₀ encode mₑ r v m₁ s₁ K → Ends n m₀ at₀ encode mₑ r v m s (◌>>◌ take_name K)
  unfolding take_name ◌>>=◌ ◌>>◌ give on_read
  passes-name d k = named (λ us. joins (take NAME us) _ _) (thens behind d k)
