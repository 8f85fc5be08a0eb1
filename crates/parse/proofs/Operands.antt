-- What the functions for operands read, by the rules' readers: a law for each way out. Assumes nothing.
use mathlib.Core.Path.{◌≡◌, refl, sym, ap, ◌∙◌}
use mathlib.Core.Bool.{Bool, true, false}
use mathlib.Core.List.{List}
use mathlib.Core.Logic.{◌⊎◌, inl, inr}
use Prim.Native.Nat.{ℕ, ◌+◌, ◌*◌, ◌≤◌, ◌<◌}
use native.Mathlib.Numerals.{add-one}
use native.Mathlib.Omega.{arith}
use lib.Dec.{eqb}
use borrow.Author.Tests.{ne_eqb}
use Rattle.rules.specs.Limits.{nesting_limit}
use Rattle.rules.specs.Base.{pick}
use Rattle.rules.specs.Kinds.{NAME, INT, FALSE, TRUE, NOT, OPEN, CLOSE, PLUS, MINUS}
use Rattle.rules.specs.Tokens.{Token}
use Rattle.rules.specs.Syntax as S
use Rattle.rules.specs.Syntax.{Exp, named, whole, truth, paren, unary, Sign, minus, plus, inverse, Reader, ◌>>=◌, ◌>>◌, give, when, name_of, operators, operator_of, unexpected, leaf, parens, operand, prefixed, signed_operand, expr}
use Rattle.rules.specs.Codes.{bin_code}
use Rattle.rules.specs.KindNumbers.{kind_number}
use Rattle.rules.proofs.KindLaws.{one_kind}
use Rattle.rules.specs.declared.kinds.Kind.{Kind}
use Rattle.rules.specs.declared.kinds.Kind.TheVariants.{Name, Int, True, False, Open}
use Rattle.rules.specs.Cells.{WHOLE, UNARY, BINARY, cell, datum, name_cell, truth_kind, sign_code, exp_cells}
use Rattle.parse.specs.Steps.{count_of, free_of, token_at, kind_at, Skips, Writes, Step, At, Bad}
use Rattle.parse.specs.Reading.{Did, reads, stays, nothing}
use Rattle.parse.specs.Parts.{prefix_code, in_parens, right, right_cells}
use Rattle.cells.specs.declared.cell.Cell.{Cell}
use Rattle.parse.proofs.Cells.{ahead_next}
use Rattle.parse.proofs.NextKind.{kind_left, kind-of, place_of}
use Rattle.parse.proofs.Follow.{seen, begin, bind, thens, looks, knows, skips, skips_on, writes, under, over, unexpects, gives}

-- what is done by one reader is done by another that is the same where the next token is known
same : {m mₑ : List ℕ} {s r : Step} {R Q : Reader Exp} → ((us : List Token) → token_at m s ≡ seen (S.next us) → R us ≡ Q us)
    → Did exp_cells m mₑ s r Q → Did exp_cells m mₑ s r R
same q stays = stays
same {m} {r} {R} q (reads {n} {j} {a} d) = reads {a = a} {r = r} {reader = R} (λ us h. rw (q us (ahead_next n m j a us h)) (d us h))

-- an operand by the kind of the next token
module _ (nesting : ℕ) (exp : Reader Exp) (us : List Token) where
  of_name : (S.next us).kind ≡ NAME → operand nesting exp us ≡ leaf (λ t. named (name_of t)) us
  unfolding operand when
  of_name e = rw e

  of_integer : (S.next us).kind ≡ INT → operand nesting exp us ≡ leaf (λ t. whole t.place t.value) us
  unfolding operand when
  of_integer e = rw e

  of_truth : (b : Bool) → (S.next us).kind ≡ truth_kind b → operand nesting exp us ≡ leaf (λ t. truth t.place b) us
  unfolding operand when truth_kind
  of_truth true e = rw e
  of_truth false e = rw e

  of_open : (S.next us).kind ≡ OPEN → operand nesting exp us ≡ in_parens nesting exp us
  unfolding operand when in_parens
  of_open e = rw e

  of_other : (k : ℕ) → (S.next us).kind ≡ k → (k ≡ NAME → ⊥) → (k ≡ INT → ⊥) → (k ≡ TRUE → ⊥) → (k ≡ FALSE → ⊥) → (k ≡ OPEN → ⊥)
      → operand nesting exp us ≡ unexpected us
  unfolding operand when
  of_other k e a b d f o = rw (e, ne_eqb k NAME a, ne_eqb k INT b, ne_eqb k TRUE d, ne_eqb k FALSE f, ne_eqb k OPEN o)

-- the cell of a leaf, by the numbers of its token
name-cell : (t : Token) → t.kind ≡ NAME → exp_cells (named (name_of t)) ≡ cell t.kind t.place (datum t)
unfolding exp_cells name_cell name_of datum
name-cell t k = rw k

integer-cell : (t : Token) → t.kind ≡ INT → exp_cells (whole t.place t.value) ≡ cell t.kind t.place (datum t)
unfolding exp_cells datum
integer-cell t k = rw k

truth-cell : (t : Token) (b : Bool) → t.kind ≡ truth_kind b → exp_cells (truth t.place b) ≡ cell t.kind t.place 0
unfolding exp_cells
truth-cell t b k = rw k

-- a choice by three tests, as that of a sign
abbrev chosen : {A : Type 0} → Bool → Bool → Bool → A → A → A → A → A
chosen a b d x y z w = pick a (λ _. x) (λ _. pick b (λ _. y) (λ _. pick d (λ _. z) (λ _. w)))

-- a sign by its kind
sign_of : ℕ → Sign
sign_of k = chosen (eqb k MINUS) (eqb k PLUS) (eqb k NOT) minus plus inverse inverse

module _ (arg : Reader Exp) (us : List Token) where
  -- what is chosen by the next token's kind
  abbrev signs : Bool → Bool → Bool → S.Read Exp
  signs a b d = chosen a b d (prefixed minus arg us) (prefixed plus arg us) (prefixed inverse arg us) (arg us)

  -- where the code is 1 there is no sign, and else there is
  unsigned : prefix_code (S.next us).kind ≡ 1 → signed_operand arg us ≡ arg us
  unfolding prefix_code sign_code signed_operand when
  unsigned h = go (eqb (S.next us).kind MINUS) (eqb (S.next us).kind PLUS) (eqb (S.next us).kind NOT) h
    where
      go : (a b d : Bool) → chosen {A = ℕ} a b d 5 0 6 1 ≡ 1 → signs a b d ≡ arg us
      go true b d h = absurd (omega arith)
      go false true d h = absurd (omega arith)
      go false false true h = absurd (omega arith)
      go false false false h = refl

  signed : (k : ℕ) → (S.next us).kind ≡ k → (prefix_code k ≡ 1 → ⊥) → signed_operand arg us ≡ prefixed (sign_of k) arg us
  unfolding prefix_code sign_code signed_operand when sign_of
  signed k e h = rw e (go (eqb k MINUS) (eqb k PLUS) (eqb k NOT) h)
    where
      go : (a b d : Bool) → (chosen {A = ℕ} a b d 5 0 6 1 ≡ 1 → ⊥) → signs a b d ≡ prefixed (chosen a b d minus plus inverse inverse) arg us
      go true b d h = refl
      go false true d h = refl
      go false false true h = refl
      go false false false h = absurd (h refl)

-- its code
signed-code : (k : ℕ) → (prefix_code k ≡ 1 → ⊥) → sign_code (sign_of k) ≡ prefix_code k
unfolding prefix_code sign_code sign_of
signed-code k h = go (eqb k MINUS) (eqb k PLUS) (eqb k NOT) h
  where
    go : (a b d : Bool) → (chosen {A = ℕ} a b d 5 0 6 1 ≡ 1 → ⊥) → sign_code (chosen a b d minus plus inverse inverse) ≡ chosen a b d 5 0 6 1
    go true b d h = refl
    go false true d h = refl
    go false false true h = refl
    go false false false h = absurd (h refl)

-- an operator and its right operand by the operator's level
of_level : (f n level : ℕ) (us : List Token) → level ≡ (operator_of (S.next us).kind operators).level
    → right f n us ≡ (do t ← S.skip; b ← expr f n (level + 1); give (record { operator = t; operand = b })) us
unfolding right
of_level f n level us e = rw (e, add-one)

module _ {m mₑ : List ℕ} {s r : Step} (behind : 3 * count_of s ≤ free_of s) where
  -- an operand with no sign before it
  pub reads-unsigned : (arg : Reader Exp) → prefix_code (kind_at m s) ≡ 1 → Did exp_cells m mₑ s r arg → Did exp_cells m mₑ s r (signed_operand arg)
  reads-unsigned arg k d = same (λ us z. unsigned arg us (ap prefix_code (kind_left m s us z) ∙ k)) d

  -- a sign and its operand
  pub reads-signed : {arg : Reader Exp} {m₁ m₂ : List ℕ} {s₁ s₂ : Step} (place code : ℕ) → place ≡ (token_at m s).place → (prefix_code (kind_at m s) ≡ code) × (code ≡ 1 → ⊥)
      → Skips m m₁ s s₁ → Did exp_cells m₁ m₂ s₁ s₂ arg → Writes (cell UNARY place code) m₂ mₑ s₂ r → Did exp_cells m mₑ s r (signed_operand arg)
  unfolding prefixed exp_cells
  reads-signed {arg} place code here sign q d w =
      let k = kind_at m s in
      let some : prefix_code k ≡ 1 → ⊥ = λ e. sign.1 (sym sign.0 ∙ e) in
      begin
      (knows behind (λ us z. signed arg us k (kind_left m s us z) some)
      (skips behind q (λ t z.
      bind behind (truth 0 true) d (λ x.
      writes behind UNARY place code w
      (gives (unary t.place (sign_of k) x) (rw (signed-code k some, sign.0, place_of m s here t z)))))))

  -- so many parentheses are around
  module _ (nesting : ℕ) where
    -- an operand of one token, which is skipped
    leaf-read : (exp : Reader Exp) (make : Token → Exp) (place d : ℕ) {m₁ : List ℕ} {s₁ : Step} {k : ℕ} → kind_at m s ≡ k → Skips m m₁ s s₁ → Writes (cell k place d) m₁ mₑ s₁ r
        → ((us : List Token) → (S.next us).kind ≡ k → operand nesting exp us ≡ leaf make us)
        → ((t : Token) → token_at m s ≡ seen t → exp_cells (make t) ≡ cell k place d) → Did exp_cells m mₑ s r (operand nesting exp)
    unfolding leaf
    leaf-read exp make place d {k} is q w which same =
        begin
        (knows behind (λ us z. which us (kind-of m s is us z))
        (skips behind q (λ t z. writes behind k place d w (gives (make t) (same t z)))))

    -- a name or an integer
    pub reads_word : (exp : Reader Exp) (t : Cell) (kind : Kind) {m₁ : List ℕ} {s₁ : Step} → t ≡ token_at m s → kind_at m s ≡ kind_number kind → (kind ≡ Name) ⊎ (kind ≡ Int)
        → Skips m m₁ s s₁ → Writes (cell (kind_number kind) t.place t.datum) m₁ mₑ s₁ r → Did exp_cells m mₑ s r (operand nesting exp)
    unfolding kind_at
    reads_word exp t kind met is (inl e) q w =
        let k = ap kind_number e in
        leaf-read exp _ t.place t.datum is q w (λ us z. of_name nesting exp us (z ∙ k))
        (λ u z. rw (met ∙ z, ← (sym (ap (λ x. x.tag) z) ∙ is)) (name-cell u (sym (ap (λ x. x.tag) z) ∙ is ∙ k)))
    reads_word exp t kind met is (inr e) q w =
        let k = ap kind_number e in
        leaf-read exp _ t.place t.datum is q w (λ us z. of_integer nesting exp us (z ∙ k))
        (λ u z. rw (met ∙ z, ← (sym (ap (λ x. x.tag) z) ∙ is)) (integer-cell u (sym (ap (λ x. x.tag) z) ∙ is ∙ k)))

    truly : (exp : Reader Exp) (t : Cell) {k : ℕ} {m₁ : List ℕ} {s₁ : Step} (b : Bool) → t ≡ token_at m s → kind_at m s ≡ k → k ≡ truth_kind b
        → Skips m m₁ s s₁ → Writes (cell k t.place 0) m₁ mₑ s₁ r → Did exp_cells m mₑ s r (operand nesting exp)
    unfolding kind_at
    truly exp t b met is k q w =
        leaf-read exp _ t.place 0 is q w (λ us z. of_truth nesting exp us b (z ∙ k))
        (λ u z. rw (met ∙ z, ← (sym (ap (λ x. x.tag) z) ∙ is)) (truth-cell u b (sym (ap (λ x. x.tag) z) ∙ is ∙ k)))

    -- TRUE or FALSE
    pub reads-truth : (exp : Reader Exp) (t : Cell) (kind : Kind) {m₁ : List ℕ} {s₁ : Step} → t ≡ token_at m s → kind_at m s ≡ kind_number kind → (kind ≡ True) ⊎ (kind ≡ False)
        → Skips m m₁ s s₁ → Writes (cell (kind_number kind) t.place 0) m₁ mₑ s₁ r → Did exp_cells m mₑ s r (operand nesting exp)
    unfolding truth_kind
    reads-truth exp t kind met is (inl e) q w = truly exp t true met is (ap kind_number e) q w
    reads-truth exp t kind met is (inr e) q w = truly exp t false met is (ap kind_number e) q w

    -- an expression in parentheses
    pub reads_open : (exp : Reader Exp) → kind_at m s ≡ OPEN → Did exp_cells m mₑ s r (in_parens nesting exp) → Did exp_cells m mₑ s r (operand nesting exp)
    reads_open exp k d = same (λ us z. of_open nesting exp us (kind-of m s k us z)) d

    -- parentheses and what is in them
    pub reads-inner : {exp : Reader Exp} {m₁ m₂ m₃ : List ℕ} {s₁ s₂ s₃ : Step} (place : ℕ) → place ≡ (token_at m s).place → nesting < nesting_limit → Skips m m₁ s s₁ → Did exp_cells m₁ m₂ s₁ s₂ exp
        → Did nothing m₂ m₃ s₂ s₃ (S.take CLOSE) → Writes (cell OPEN place 0) m₃ mₑ s₃ r → Did exp_cells m mₑ s r (in_parens nesting exp)
    unfolding in_parens parens exp_cells
    reads-inner place here h skip d q w =
        begin
        (looks behind s (λ t z.
        under behind nesting nesting_limit t.place h
        (skips_on behind skip
        (bind behind (truth 0 true) d (λ x.
        thens behind q
        (writes behind OPEN place 0 w
        (gives (paren t.place x) (rw (place_of m s here t z)))))))))

    -- an operator and its right operand
    pub reads_right : (f : ℕ) {m₁ m₂ : List ℕ} {s₁ s₂ : Step} (place level code : ℕ) → place ≡ (token_at m s).place → level ≡ (operator_of (kind_at m s) operators).level
        → code ≡ bin_code (operator_of (kind_at m s) operators).op → Skips m m₁ s s₁ → Did exp_cells m₁ m₂ s₁ s₂ (expr f nesting (level + 1))
        → Writes (cell BINARY place code) m₂ mₑ s₂ r → Did right_cells m mₑ s r (right f nesting)
    unfolding right_cells kind_at
    reads_right f place level code here l q skip d w =
        begin
        (knows behind (λ us z. of_level f nesting level us (l ∙ ap (λ t. (operator_of t.tag operators).level) z))
        (skips behind skip (λ t z.
        bind behind (truth 0 true) d (λ x.
        writes behind BINARY place code w
        (gives (record { operator = t; operand = x }) (rw (q, place_of m s here t z, ap (λ t. t.tag) z)))))))

-- no operand: by another kind, or by a number that no kind has; parentheses that are nested too deep
module _ {m : List ℕ} {n j a : ℕ} {r : Step} (behind : 3 * n ≤ a) (nesting : ℕ) (exp : Reader Exp) where
  pub reads_none : (kind : Kind) → kind_at m (At n j a) ≡ kind_number kind → (kind ≡ Name → ⊥) → (kind ≡ Int → ⊥) → (kind ≡ True → ⊥) → (kind ≡ False → ⊥) → (kind ≡ Open → ⊥)
      → r ≡ Bad 5 (token_at m (At n j a)).place → Did exp_cells m m (At n j a) r (operand nesting exp)
  reads_none kind is a b d f o e =
      let other : (x : Kind) → (kind ≡ x → ⊥) → kind_number kind ≡ kind_number x → ⊥ = λ x h q. h (one_kind kind x q) in
      begin
      (knows behind (λ us z. of_other nesting exp us _ (kind-of m _ is us z) (other Name a) (other Int b) (other True d) (other False f) (other Open o))
      (unexpects behind e))

  pub reads-unknown : WHOLE < kind_at m (At n j a) → r ≡ Bad 5 (token_at m (At n j a)).place → Did exp_cells m m (At n j a) r (operand nesting exp)
  reads-unknown h e =
      begin
      (knows behind (λ us z. of_other nesting exp us _ (kind_left m _ us z) (λ q. omega arith) (λ q. omega arith) (λ q. omega arith) (λ q. omega arith) (λ q. omega arith))
      (unexpects behind e))

  pub reads-deep : nesting_limit ≤ nesting → r ≡ Bad 10 (token_at m (At n j a)).place → Did exp_cells m m (At n j a) r (in_parens nesting exp)
  unfolding in_parens parens
  reads-deep h e =
      begin
      (looks behind {K = λ t. parens nesting t.place exp} (At n j a) (λ t z.
      over behind (do S.skip; x ← exp; S.take CLOSE; give (paren t.place x)) nesting nesting_limit t.place h (rw (ap (λ t. t.place) z) at e)))
