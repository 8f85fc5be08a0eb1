-- The ways to read a constant, by the next token. Assumes nothing.
use mathlib.Core.Path.{◌≡◌, refl, ap, ◌∙◌}
use mathlib.Core.Bool.{Bool, true, false}
use mathlib.Core.List.{List}
use mathlib.Core.Logic.{◌⊎◌, inl, inr}
use Prim.Native.Nat.{ℕ, zero, suc, ◌*◌, ◌≤◌, ◌<◌}
use native.Mathlib.Omega.{arith}
use lib.Dec.{eqb}
use borrow.Author.Tests.{ne_eqb}
use Rattle.rules.specs.Base.{pick}
use Rattle.rules.specs.Kinds.{INT, TRUE, FALSE, PLUS, MINUS}
use Rattle.rules.specs.KindNumbers.{kind_number}
use Rattle.rules.specs.Tokens.{Token}
use Rattle.rules.specs.Syntax as S
use Rattle.rules.specs.Syntax.{con_bool, con_int, got, bad, on_read, ◌>>=◌, give, when, signed, truth_con, unsigned, constant, starts_constant}
use Rattle.rules.specs.Cells.{WHOLE, cell, truth_kind, sign_kind, con_cells}
use Rattle.rules.proofs.KindLaws.{two_kinds}
use Rattle.rules.specs.declared.kinds.Kind.{Kind}
use Rattle.rules.specs.declared.kinds.Kind.TheVariants.{True, False, Minus, Plus}
use Rattle.parse.specs.Reading.{Did}
use Rattle.parse.specs.Parts.{integer_cells}
use Rattle.parse.specs.Steps.{count_of, free_of, token_at, kind_at, Skips, Writes, Step, At, Bad}
use Rattle.parse.proofs.Follow.{begin, knows, looks, skips, bind, writes, gives, refuses}
use Rattle.parse.proofs.NextKind.{kind_left, kind-of, place_of}

-- an integer without a sign starts where its token does
unsigned_next : (us : List Token) → unsigned us ≡ ◌>>=◌ (S.take INT) (λ t. give (con_int (S.next us).place false t.place t.value)) us
unfolding unsigned S.take ◌>>=◌ on_read give
unsigned_next us = go (eqb (S.next us).kind INT)
  where
    read : Bool → S.Read Token
    read b = pick b (λ _. got (S.next us) (S.rest us)) (λ _. bad 5 (S.next us).place)

    go : (b : Bool)
        → on_read (read b) (λ t. give (con_int t.place false t.place t.value))
        ≡ on_read (read b) (λ t. give (con_int (S.next us).place false t.place t.value))
    go true = refl
    go false = refl

-- by the kind of the next token a constant is read in one way
truth_next : (b : Bool) (us : List Token) → (S.next us).kind ≡ truth_kind b → constant us ≡ truth_con b us
unfolding constant when truth_kind
truth_next true us e = rw e
truth_next false us e = rw e

signed_next : (below : Bool) (us : List Token) → (S.next us).kind ≡ sign_kind below → constant us ≡ signed below us
unfolding constant when sign_kind
signed_next true us e = rw e
signed_next false us e = rw e

-- a number that no kind has is unexpected
unknown_next : (us : List Token) → WHOLE < (S.next us).kind → constant us ≡ bad 5 (S.next us).place
unfolding constant when unsigned S.take ◌>>=◌ on_read
unknown_next us h =
    let k = (S.next us).kind in
    rw (ne_eqb k MINUS (λ e. omega arith), ne_eqb k PLUS (λ e. omega arith), ne_eqb k TRUE (λ e. omega arith), ne_eqb k FALSE (λ e. omega arith), ne_eqb k INT (λ e. omega arith))

module _ {m m₁ mₑ : List ℕ} {s s₁ r : Step} {place k : ℕ} (behind : 3 * count_of s ≤ free_of s) (here : place ≡ (token_at m s).place) (is : kind_at m s ≡ k) where
  -- the one or the other is skipped, and its cell is written
  truth_by : (b : Bool) → k ≡ truth_kind b → Skips m m₁ s s₁ → Writes (cell k place 0) m₁ mₑ s₁ r → Did con_cells m mₑ s r constant
  unfolding con_cells truth_con
  truth_by b e q w =
      begin
      (knows behind (λ us z. truth_next b us (kind-of m s is us z ∙ e))
      (skips behind q (λ u z.
      writes behind _ _ _ w
      (gives (con_bool u.place b) (rw (e, place_of m s here u z))))))

  -- the one or the other is skipped, and an integer is read
  signed_by : (below : Bool) → k ≡ sign_kind below → Skips m m₁ s s₁ → Did (integer_cells k place) m₁ mₑ s₁ r (S.take INT) → Did con_cells m mₑ s r constant
  unfolding con_cells signed integer_cells
  signed_by below e q d =
      begin
      (knows behind (λ us z. signed_next below us (kind-of m s is us z ∙ e))
      (skips behind q (λ u z.
      bind behind u d (λ x.
      gives (con_int u.place below x.place x.value) (rw (e, place_of m s here u z))))))

module _ (kind : Kind) {m m₁ mₑ : List ℕ} {s s₁ r : Step} {place : ℕ} (behind : 3 * count_of s ≤ free_of s) (here : place ≡ (token_at m s).place) (is : kind_at m s ≡ kind_number kind) where
  -- TRUE or FALSE is skipped, and a cell is written
  pub truth-read : (kind ≡ True) ⊎ (kind ≡ False) → Skips m m₁ s s₁ → Writes (cell (kind_number kind) place 0) m₁ mₑ s₁ r → Did con_cells m mₑ s r constant
  unfolding truth_kind
  truth-read (inl e) q w = truth_by behind here is true (ap kind_number e) q w
  truth-read (inr e) q w = truth_by behind here is false (ap kind_number e) q w

  -- a sign is skipped, and an integer is read
  pub signed-read : (kind ≡ Minus) ⊎ (kind ≡ Plus) → Skips m m₁ s s₁ → Did (integer_cells (kind_number kind) place) m₁ mₑ s₁ r (S.take INT) → Did con_cells m mₑ s r constant
  unfolding sign_kind
  signed-read (inl e) q d = signed_by behind here is true (ap kind_number e) q d
  signed-read (inr e) q d = signed_by behind here is false (ap kind_number e) q d

-- an integer is read
pub unsigned-read : (kind : Kind) {m mₑ : List ℕ} {s r : Step} {place : ℕ} → 3 * count_of s ≤ free_of s → place ≡ (token_at m s).place → kind_at m s ≡ kind_number kind → (kind ≡ Minus → ⊥) → (kind ≡ Plus → ⊥) → (kind ≡ True → ⊥) → (kind ≡ False → ⊥) → Did (integer_cells PLUS place) m mₑ s r (S.take INT) → Did con_cells m mₑ s r constant
unfolding con_cells sign_kind integer_cells constant when
unsigned-read kind {m} {s} behind here is h₁ h₂ h₃ h₄ d =
    begin
    (knows behind (λ us z. rw (kind-of m s is us z, two_kinds kind Minus h₁, two_kinds kind Plus h₂, two_kinds kind True h₃, two_kinds kind False h₄) (unsigned_next us))
    (looks behind s (λ u z.
    bind behind u d (λ x.
    gives (con_int u.place false x.place x.value) (rw (place_of m s here u z))))))

-- no kind has the next token's number
pub unknown-read : {n : ℕ} {m : List ℕ} {j a : ℕ} {r : Step} → 3 * n ≤ a → WHOLE < kind_at m (At n j a) → r ≡ Bad 5 (token_at m (At n j a)).place → Did con_cells m m (At n j a) r constant
unknown-read {n} {m} {j} {a} behind h e =
    begin (refuses behind 5 _ e (λ us z. rw z (unknown_next us (omega (arith, kind_left m (At n j a) us z)))))

-- a constant starts with a token that is not the end
pub constant-starts : (k : ℕ) → starts_constant k ≡ true → 1 ≤ k
unfolding starts_constant
constant-starts zero e = let z : ◌≡◌ {A = ℕ} 0 1 = cc in absurd (omega arith)
constant-starts (suc k) e = omega arith

-- and with one whose number is a kind's
pub no-constant : (k : ℕ) → WHOLE < k → starts_constant k ≡ false
unfolding starts_constant
no-constant k h = rw (ne_eqb k INT (λ e. omega arith), ne_eqb k TRUE (λ e. omega arith), ne_eqb k FALSE (λ e. omega arith), ne_eqb k MINUS (λ e. omega arith), ne_eqb k PLUS (λ e. omega arith)) refl
