-- A chain of operators, grouped from the left: the loop that reads it, against the rules' `more`, which takes along what is read so far.
-- Assumes nothing.
use mathlib.Core.Path.{◌≡◌, refl, sym, ap}
use mathlib.Core.Bool.{true}
use mathlib.Core.List.{List, ◌++◌, append_assoc}
use Prim.Native.Nat.{ℕ, zero, suc, ◌+◌, ◌*◌, ◌≤◌, ◌<◌}
use native.Mathlib.Omega.{arith}
use borrow.Author.Tests.{le-leb, lt-leb}
use Rattle.rules.specs.Tokens.{Token, plain}
use Rattle.rules.specs.Syntax as S
use Rattle.rules.specs.Syntax.{Exp, truth, binary, on_read, ◌>>=◌, give, operators, operator_of, operand, signed_operand, expr, more}
use Rattle.rules.specs.Codes.{bin_code}
use Rattle.rules.specs.Cells.{BINARY, cell, exp_cells}
use Rattle.parse.specs.Steps.{count_of, left_of, free_of, token_at, kind_at, Step, Bad}
use Rattle.parse.specs.Reading.{DidWith}
use Rattle.parse.specs.Parts.{Right, right, right_cells}
use Rattle.parse.proofs.Follow.{seen, Ends, begin, off, named, bind, knows, gives}
use Rattle.parse.proofs.Loops.{joins}

-- an expression, and an operator with its right operand
abbrev joined : Exp → Right → Exp
joined a x = binary x.operator.place (operator_of x.operator.kind operators).op a x.operand

-- its cells
joined-cells : (a : Exp) (x : Right) → exp_cells a ++ right_cells x ≡ exp_cells (joined a x)
unfolding exp_cells right_cells
joined-cells a x =
    sym
    (append_assoc
    (exp_cells a)
    (exp_cells x.operand)
    (cell BINARY x.operator.place (bin_code (operator_of x.operator.kind operators).op)))

-- where an operator of the level or a tighter one is ahead, it is read with its right operand, and then more; else nothing more
module _ (f n least : ℕ) (a : Exp) (us : List Token) where
  turns : least ≤ (operator_of (S.next us).kind operators).level → more (suc f) n least a us ≡ on_read (right f n us) (λ x. more f n least (joined a x))
  unfolding expr right ◌>>=◌ on_read give S.skip
  turns h = rw (le-leb _ _ h) (sym (joins (expr f n (suc (operator_of (S.next us).kind operators).level) (S.rest us)) _ _))

  stops : (operator_of (S.next us).kind operators).level < least → more (suc f) n least a us ≡ give a us
  unfolding expr give
  stops h = rw (lt-leb _ _ h)

-- the level of the operator ahead, by the rules' token and by the code's
level-ahead : (m : List ℕ) (s : Step) (us : List Token) → token_at m s ≡ seen (S.next us)
    → (operator_of (kind_at m s) operators).level ≡ (operator_of (S.next us).kind operators).level
unfolding kind_at
level-ahead m s us z = ap (λ t. (operator_of t.tag operators).level) z

module _ (nesting least : ℕ) (m₁ : List ℕ) (s₁ : Step) where
  -- from its first operand's end at s₁ the chain has come to s: what ends `more` there, whatever was read so far, ends it here, whatever that operand is
  abbrev pub Chains : List ℕ → Step → Type 0
  Chains m s = (n : ℕ) (m₀ : List ℕ) (at₀ : ℕ) → 3 * n ≤ at₀ → (mₑ : List ℕ) (r : Step) (a : Exp) (F : ℕ) → 2 * left_of s₁ + 1 ≤ F
      → ((b : Exp) (f : ℕ) → 2 * left_of s + 1 ≤ f → Ends n m₀ at₀ exp_cells mₑ r (exp_cells b) m s (more f nesting least b))
      → Ends n m₀ at₀ exp_cells mₑ r (exp_cells a) m₁ s₁ (more F nesting least a)

  -- nothing is read but the first operand
  pub chain_start : Chains m₁ s₁
  chain_start n m₀ at₀ behind mₑ r a F b k = k a F b

  -- an operator and its right operand are read
  pub chain_step : {m m' : List ℕ} {s s' : Step} → Chains m s → least ≤ (operator_of (kind_at m s) operators).level
      → DidWith 2 0 right_cells m m' s s' (λ f. right f nesting) → left_of s' < left_of s → Chains m' s'
  unfolding ◌>>=◌
  chain_step {m} {m'} {s} {s'} old high did less n m₀ at₀ behind mₑ r a F h k = old n m₀ at₀ behind mₑ r a F h step
    where
      step : (b : Exp) (f : ℕ) → 2 * left_of s + 1 ≤ f → Ends n m₀ at₀ exp_cells mₑ r (exp_cells b) m s (more f nesting least b)
      step b zero q = absurd (omega arith)
      step b (suc f) q =
          knows behind (λ us z. turns f nesting least b us (rw (level-ahead m s us z) at high))
          (bind behind (record { operator = plain 0 0; operand = b }) (did f (omega arith)) (λ x. rw (joined-cells b x) (k (joined b x) f (omega arith))))

  -- an operand is refused
  pub chain-refused : {m₀ m : List ℕ} {s₀ : Step} {x p : ℕ} → 3 * count_of s₀ ≤ free_of s₀ → left_of s₁ ≤ left_of s₀
      → DidWith 2 0 exp_cells m₀ m₁ s₀ s₁ (λ f. signed_operand (operand nesting (expr f (suc nesting) 1))) → Chains m (Bad x p)
      → DidWith 2 2 exp_cells m₀ m s₀ (Bad x p) (λ f. expr f nesting least)
  unfolding expr ◌>>=◌
  chain-refused behind le first chain zero h = absurd (omega arith)
  chain-refused {m₀} {m} {s₀} behind le first chain (suc g) h =
      begin
      (named {S = ◌>>=◌ (signed_operand (operand nesting (expr g (suc nesting) 1))) (more g nesting least)} (λ us. refl)
      (bind behind (truth 0 true) (first g (omega arith)) (λ a. chain (count_of s₀) m₀ (free_of s₀) behind m _ a g (omega arith) (λ b f q. off refl))))

  -- the chain ends before what is no operator of the level or a tighter one
  pub chain_end : {m₀ m : List ℕ} {s₀ s : Step} → 3 * count_of s₀ ≤ free_of s₀ → left_of s₁ ≤ left_of s₀
      → DidWith 2 0 exp_cells m₀ m₁ s₀ s₁ (λ f. signed_operand (operand nesting (expr f (suc nesting) 1))) → Chains m s
      → (operator_of (kind_at m s) operators).level < least → DidWith 2 2 exp_cells m₀ m s₀ s (λ f. expr f nesting least)
  unfolding expr ◌>>=◌
  chain_end behind le first chain low zero h = absurd (omega arith)
  chain_end {m₀} {m} {s₀} {s} behind le first chain low (suc g) h =
      begin
      (named {S = ◌>>=◌ (signed_operand (operand nesting (expr g (suc nesting) 1))) (more g nesting least)} (λ us. refl)
      (bind behind (truth 0 true) (first g (omega arith)) (λ a. chain (count_of s₀) m₀ (free_of s₀) behind m s a g (omega arith) last)))
    where
      last : (b : Exp) (f : ℕ) → 2 * left_of s + 1 ≤ f → Ends (count_of s₀) m₀ (free_of s₀) exp_cells m s (exp_cells b) m s (more f nesting least b)
      last b zero q = absurd (omega arith)
      last b (suc f) q = knows behind (λ us z. stops f nesting least b us (rw (level-ahead m s us z) at low)) (gives b refl)
