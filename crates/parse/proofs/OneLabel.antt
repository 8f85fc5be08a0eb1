-- A label of CASE: a constant, with `..` and another behind it or not. Assumes nothing.
use mathlib.Core.Path.{◌≡◌, refl, sym, ◌∙◌}
use mathlib.Core.Bool.{true}
use mathlib.Core.List.{List}
use mathlib.Core.Option.{none, some}
use Prim.Native.Nat.{ℕ, ◌*◌, ◌≤◌}
use borrow.Author.Tests.{eq-eqb, ne_eqb}
use Rattle.rules.specs.Kinds.{DOTS}
use Rattle.rules.specs.Tokens.{Token}
use Rattle.rules.specs.Syntax as S
use Rattle.rules.specs.Syntax.{Con, con_bool, label, on_read, ◌>>=◌, ◌>>◌, give, when, constant, maybe, one_label}
use Rattle.rules.specs.Cells.{cell, con_cells, label_cells}
use Rattle.parse.specs.Steps.{count_of, free_of, kind_at, Skips, Writes, Step, Bad}
use Rattle.parse.specs.Reading.{Did}
use Rattle.parse.proofs.Follow.{begin, off, knows, skips_on, bind, writes, gives}
use Rattle.parse.proofs.Loops.{joins}
use Rattle.parse.proofs.NextKind.{kind_left}

-- behind low: nothing, or `..` and high
lone : (c : Con) (us : List Token) → ((S.next us).kind ≡ DOTS → ⊥) → ◌>>=◌ (maybe DOTS) (λ d. give (label c d)) us ≡ give (label c none) us
unfolding ◌>>=◌ on_read give maybe when
lone c us h = rw (ne_eqb _ _ h)

ranged : (c : Con) (us : List Token) → (S.next us).kind ≡ DOTS
    → ◌>>=◌ (maybe DOTS) (λ d. give (label c d)) us ≡ ◌>>◌ S.skip (◌>>=◌ constant (λ d. give (label c (some d)))) us
unfolding ◌>>=◌ ◌>>◌ on_read give maybe when S.skip
ranged c us h = rw (eq-eqb _ _ h) (joins (constant (S.rest us)) _ _)

module _ {m m₁ : List ℕ} {s s₁ : Step} (behind : 3 * count_of s ≤ free_of s) (low : Did con_cells m m₁ s s₁ constant) where
  -- some constant
  any : Con
  any = con_bool 0 true

  -- low is refused
  pub low-refused : {x p : ℕ} → s₁ ≡ Bad x p → Did label_cells m m₁ s s₁ one_label
  unfolding one_label
  low-refused e = begin (bind behind any low (λ c. rw e (off refl)))

  -- low alone
  pub lone-read : (kind_at m₁ s₁ ≡ DOTS → ⊥) → Did label_cells m m₁ s s₁ one_label
  unfolding one_label label_cells
  lone-read h = begin (bind behind any low (λ c. knows behind (λ us z. lone c us (λ e. h (sym (kind_left m₁ s₁ us z) ∙ e))) (gives (label c none) refl)))

  -- low, `..`, high
  pub ranged-read : {m₂ m₃ m₄ : List ℕ} {s₂ s₃ r : Step} → kind_at m₁ s₁ ≡ DOTS → Skips m₁ m₂ s₁ s₂
      → Writes (cell DOTS 0 0) m₂ m₃ s₂ s₃ → Did con_cells m₃ m₄ s₃ r constant → Did label_cells m m₄ s r one_label
  unfolding one_label label_cells
  ranged-read h q w high =
      begin
      (bind behind any low (λ c.
      knows behind (λ us z. ranged c us (kind_left m₁ s₁ us z ∙ h))
      (skips_on behind q
      (writes behind _ _ _ w
      (bind behind any high (λ d.
      gives (label c (some d)) refl))))))
