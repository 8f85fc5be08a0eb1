-- An expression that is read starts at the place of the next token. Assumes nothing.
use mathlib.Core.Path.{◌≡◌, refl, ap, ◌∙◌}
use mathlib.Core.Bool.{Bool, true, false}
use mathlib.Core.List.{List}
use Prim.Native.Nat.{ℕ, zero, suc, ◌+◌}
use native.Mathlib.Omega.{arith}
use lib.ListN.{length-append}
use lib.Dec.{eqb, ltb, leb}
use Rattle.rules.specs.Limits.{nesting_limit}
use Rattle.rules.specs.Base.{pick}
use Rattle.rules.specs.Kinds.{NAME, INT, FALSE, TRUE, NOT, OPEN, PLUS, MINUS}
use Rattle.rules.specs.Tokens.{Token}
use Rattle.rules.specs.Syntax as S
use Rattle.rules.specs.Syntax.{Exp, Read, got, bad, Reader, on_read, ◌>>=◌, ◌>>◌, give, when, unexpected, nested, name_of, operators, operator_of, leaf, parens, operand, prefixed, signed_operand, expr, more}
use Rattle.rules.specs.Walk.{first}
use Rattle.rules.specs.Cells.{WHOLE, cell, exp_cells, whole_cells}
use Rattle.parse.specs.Steps.{token_at, extended, written, Writes, Step}
use Rattle.parse.specs.Reading.{Done, read, refusal, Did, reads, stays}
use Rattle.parse.proofs.Cells.{sets_append, ahead_next}

-- an expression that starts at p, or a refusal
pub data Starts (p : ℕ) : Read Exp → Type 0 where
  there : {e : Exp} {us : List Token} → first e ≡ p → Starts p (got e us)
  refused : {x q : ℕ} → Starts p (bad x q)

-- whichever is chosen
either : {p : ℕ} (b : Bool) {x y : Read Exp} → Starts p x → Starts p y → Starts p (pick b (λ _. x) (λ _. y))
either true h k = h
either false h k = k

-- what is given at the end starts there, whatever is read before
ends : {A : Type 0} {p : ℕ} (o : Read A) {K : A → Reader Exp} → ((a : A) (us : List Token) → Starts p (K a us)) → Starts p (on_read o K)
unfolding on_read
ends (got a us) k = k a us
ends (bad x q) k = refused

-- operands, and a sign before one
leaf-starts : (make : Token → Exp) → ((t : Token) → first (make t) ≡ t.place) → (us : List Token) → Starts (S.next us).place (leaf make us)
unfolding leaf ◌>>=◌ on_read S.skip give
leaf-starts make h us = there (h (S.next us))

parens-starts : (n p : ℕ) (exp : Reader Exp) (us : List Token) → Starts p (parens n p exp us)
unfolding parens nested ◌>>=◌ ◌>>◌ give first
parens-starts n p exp us = either (ltb n nesting_limit) (ends (S.skip us) (λ _ vs. ends (exp vs) (λ e vs. ends (S.take _ vs) (λ _ vs. there refl)))) refused

operand-starts : (n : ℕ) (exp : Reader Exp) (us : List Token) → Starts (S.next us).place (operand n exp us)
unfolding operand when unexpected first name_of
operand-starts n exp us =
    either (eqb (S.next us).kind NAME) (leaf-starts _ (λ t. refl) us)
    (either (eqb (S.next us).kind INT) (leaf-starts _ (λ t. refl) us)
    (either (eqb (S.next us).kind TRUE) (leaf-starts _ (λ t. refl) us)
    (either (eqb (S.next us).kind FALSE) (leaf-starts _ (λ t. refl) us)
    (either (eqb (S.next us).kind OPEN) (parens-starts n (S.next us).place exp us)
    refused))))

prefixed-starts : (s : S.Sign) (arg : Reader Exp) (us : List Token) → Starts (S.next us).place (prefixed s arg us)
unfolding prefixed ◌>>=◌ on_read S.skip give first
prefixed-starts s arg us = ends (arg (S.rest us)) (λ a vs. there refl)

signed-starts : (arg : Reader Exp) (us : List Token) → Starts (S.next us).place (arg us) → Starts (S.next us).place (signed_operand arg us)
unfolding signed_operand when
signed-starts arg us h =
    either (eqb (S.next us).kind MINUS) (prefixed-starts _ arg us)
    (either (eqb (S.next us).kind PLUS) (prefixed-starts _ arg us)
    (either (eqb (S.next us).kind NOT) (prefixed-starts _ arg us)
    h))

-- a chain of operators starts where its first operand does
more_starts : {p : ℕ} (f n m : ℕ) (a : Exp) (us : List Token) → first a ≡ p → Starts p (more f n m a us)
unfolding expr ◌>>=◌ on_read S.skip first
more_starts zero n m a us h = refused
more_starts (suc f) n m a us h =
    let o = operator_of (S.next us).kind operators in
    either (leb m o.level) (ends (expr f n (suc o.level) (S.rest us)) (λ b vs. more_starts f n m _ vs h)) (there h)

-- and so does what is read of operand and chain
chained : {p : ℕ} (f n m : ℕ) {o : Read Exp} → Starts p o → Starts p (on_read o (more f n m))
unfolding on_read
chained f n m (there {e} {us} h) = more_starts f n m e us h
chained f n m refused = refused

-- an expression starts at the next token
pub expr-starts : (f n m : ℕ) (us : List Token) → Starts (S.next us).place (expr f n m us)
unfolding expr ◌>>=◌
expr-starts zero n m us = refused
expr-starts (suc f) n m us = chained f n m (signed-starts (operand n (expr f (suc n) 1)) us (operand-starts n (expr f (suc n) 1) us))

-- an expression with its first byte behind it, where what the reader reads starts at the next token
module _ {m m₁ mₑ : List ℕ} {r : Step} (place : ℕ) where
  close : {n : ℕ} {s₁ : Step} {o : Read Exp} (a p : ℕ) → place ≡ p → Starts p o → Done exp_cells n m m₁ a s₁ o → Writes (cell WHOLE place 0) m₁ mₑ s₁ r → Done whole_cells n m mₑ a r o
  unfolding extended written whole_cells cell
  close a p q refused refusal w = rw w.0 refusal
  close a p q (there f) (read {a = b} e us g x l) w =
      rw w.0
      (read {a = b + 3} e us g (w.1 ∙ rw (q, f, x, l) (sets_append m a (exp_cells e) (cell WHOLE p 0)))
      (rw (length-append (exp_cells e) (cell WHOLE (first e) 0)) (omega arith)))

  pub closed : {s s₁ : Step} {R : Reader Exp} → place ≡ (token_at m s).place → ((us : List Token) → Starts (S.next us).place (R us)) → Did exp_cells m m₁ s s₁ R
      → Writes (cell WHOLE place 0) m₁ mₑ s₁ r → Did whole_cells m mₑ s r R
  unfolding extended
  closed met h stays w = rw w.0 stays
  closed {R} met h (reads {n} {j} {a} d) w =
      reads {a = a} {r = r} {reader = R} (λ us g. close a (S.next us).place (met ∙ ap (λ t. t.place) (ahead_next n m j a us g)) (h us) (d us g) w)
