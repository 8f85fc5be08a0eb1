-- How the steps of the code follow the steps of a reader of the rules: one law for each kind of step. Assumes nothing.
use Rattle.std.specs.Prelude.{⊤, Result, Ok, Err}
use Rattle.std.specs.Result.{IsErrAnd}
use mathlib.Core.Path.{◌≡◌, refl, sym, ap, ◌∙◌}
use mathlib.Core.Bool.{Bool, true, false}
use mathlib.Core.List.{List, [], ◌++◌}
use Prim.Native.Nat.{ℕ, ◌+◌, ◌*◌, ◌≤◌, ◌<◌}
use native.Mathlib.Nat.{add-zero}
use native.Mathlib.Omega.{arith}
use lib.Dec.{eqb, ltb}
use lib.ListN.{length, length-append}
use lib.Seq.{sets}
use borrow.Author.Tests.{eq-eqb, ne_eqb, lt-ltb, le-ltb, ltb-false}
use Rattle.rules.specs.Base.{pick}
use Rattle.rules.specs.Tokens.{Token, plain}
use Rattle.rules.specs.Syntax as S
use Rattle.rules.specs.Syntax.{Read, bad, Reader, on_read, ◌>>=◌, ◌>>◌, give, when, whether, nested, unexpected}
use Rattle.rules.specs.Cells.{cell, datum}
use Rattle.parse.specs.Steps.{count_of, free_of, token_at, kind_at, skipped, extended, written, Writes, Skips, after, Step, At, Bad}
use Rattle.parse.specs.Reading.{Ahead, Done, read, refusal, Did, reads, stays, nothing}
use Rattle.rules.specs.Answers.{fault_number}
use Rattle.rules.specs.declared.compiling.Refusal.{Refusal}
use Rattle.parse.specs.declared.parser.Parser.{Parser}
use Rattle.cells.specs.declared.cell.Cell.{Cell}
use Rattle.parse.proofs.Cells.{sets_append, ahead_next, ahead_rest, ahead_end, kept, back}

-- a token's numbers
abbrev pub seen : Token → Cell
seen t = record { tag = t.kind; place = t.place; datum = datum t }

-- Reading began with the numbers m₀, free from at₀ on, and ends with the numbers mₑ at the step r, which is to mean what `encode` says.
module _ (n : ℕ) (m₀ : List ℕ) (at₀ : ℕ) {B : Type 0} (encode : B → List ℕ) (mₑ : List ℕ) (r : Step) where
  -- at the step s, where the numbers v were written since the beginning, the reader says what is to come
  pub data Ends (v m : List ℕ) : Step → Reader B → Type 0 where
    on : {k j a : ℕ} {R : Reader B} → (k ≡ n → (us : List Token) → Ahead n m₀ j us → m ≡ sets m₀ at₀ v → a ≡ at₀ + length v → Done encode n m₀ mₑ at₀ r (R us)) → Ends v m (At k j a) R
    off : {x p : ℕ} {R : Reader B} → r ≡ Bad x p → Ends v m (Bad x p) R

-- a reading as a whole is what its steps make of it
pub begin : {m₀ : List ℕ} {B : Type 0} {encode : B → List ℕ} {mₑ : List ℕ} {s r : Step} {R : Reader B} → Ends (count_of s) m₀ (free_of s) encode mₑ r [] m₀ s R → Did encode m₀ mₑ s r R
begin (on {a} k) = reads (λ us h. k refl us h refl (sym (add-zero a)))
begin (off e) = rw e stays

module _ {n : ℕ} {m₀ : List ℕ} {at₀ : ℕ} {B : Type 0} {encode : B → List ℕ} {mₑ : List ℕ} {r : Step} where
  -- the end: what is given is what was written
  pub gives : {v : List ℕ} (b : B) → encode b ≡ v → Ends n m₀ at₀ encode mₑ r v mₑ r (give b)
  unfolding give
  gives {v} b q = go r refl
    where
      go : (s : Step) → r ≡ s → Ends n m₀ at₀ encode mₑ r v mₑ s (give b)
      go (At k j a) e = on {R = give b} (λ same us h mm aa. rw (e, same) (read b us h (mm ∙ ap (sets m₀ at₀) (sym q)) (aa ∙ ap (λ w. at₀ + length w) (sym q))))
      go (Bad x p) e = off e

  -- another name for the reader
  pub named : {v m : List ℕ} {s : Step} {R S : Reader B} → ((us : List Token) → R us ≡ S us) → Ends n m₀ at₀ encode mₑ r v m s S → Ends n m₀ at₀ encode mₑ r v m s R
  named {R} q (on k) = on {R = R} (λ same us h mm aa. rw (q us) (k same us h mm aa))
  named q (off e) = off e

  module _ (behind : 3 * n ≤ at₀) where
    -- what a call read, and then what follows; w only says that there is such a thing
    pub bind : {A : Type 0} (w : A) {read_a : A → List ℕ} {R : Reader A} {K : A → Reader B} {v m m₁ : List ℕ} {s s₁ : Step} → Did read_a m m₁ s s₁ R
        → ((e : A) → Ends n m₀ at₀ encode mₑ r (v ++ read_a e) m₁ s₁ (K e)) → Ends n m₀ at₀ encode mₑ r v m s (◌>>=◌ R K)
    unfolding ◌>>=◌ on_read
    bind {A} w {read_a} {R} {K} {v} {m} {m₁} stays k = go (k w)
      where
        go : {x p : ℕ} → Ends n m₀ at₀ encode mₑ r (v ++ read_a w) m₁ (Bad x p) (K w) → Ends n m₀ at₀ encode mₑ r v m (Bad x p) (◌>>=◌ R K)
        go (off e) = off e
    bind {A} w {read_a} {R} {K} {v} {m} {m₁} (reads {a} {r = s₁} d) k = on (λ same us h mm aa. onward mm aa k ((rw same at d) us (kept at₀ v behind mm h)))
      where
        follow : {e : A} {vs : List Token} {j₁ a₁ : ℕ} → Ends n m₀ at₀ encode mₑ r (v ++ read_a e) m₁ (At n j₁ a₁) (K e) → Ahead n m₀ j₁ vs → m₁ ≡ sets m₀ at₀ (v ++ read_a e)
            → a₁ ≡ at₀ + length (v ++ read_a e) → Done encode n m₀ mₑ at₀ r (K e vs)
        follow (on q) h mm aa = q refl _ h mm aa

        ended : {e : A} {x p : ℕ} → Ends n m₀ at₀ encode mₑ r (v ++ read_a e) m₁ (Bad x p) (K e) → Done encode n m₀ mₑ at₀ r (bad x p)
        ended (off e) = rw e refusal

        onward : {t : Step} {o : Read A} → m ≡ sets m₀ at₀ v → a ≡ at₀ + length v → ((e : A) → Ends n m₀ at₀ encode mₑ r (v ++ read_a e) m₁ t (K e)) → Done read_a n m m₁ a t o
            → Done encode n m₀ mₑ at₀ r (on_read o K)
        onward mm aa k (read e vs h q l) = follow (k e) (back at₀ v behind mm h) (q ∙ rw (mm, aa) (sets_append m₀ at₀ v (read_a e))) (l ∙ rw (length-append v (read_a e)) (omega arith))
        onward mm aa k refusal = ended (k w)

    -- a step that leaves no numbers
    pub thens : {A : Type 0} {R : Reader A} {K : Reader B} {v m m₁ : List ℕ} {s s₁ : Step} → Did nothing m m₁ s s₁ R → Ends n m₀ at₀ encode mₑ r v m₁ s₁ K → Ends n m₀ at₀ encode mₑ r v m s (◌>>◌ R K)
    unfolding ◌>>◌ on_read
    thens stays (off e) = off e
    thens {A} {R} {K} {v} {m} {m₁} (reads {a} {r = s₁} d) k = on (λ same us h mm aa. onward (R us) mm aa ((rw same at d) us (kept at₀ v behind mm h)) k)
      where
        onward : (o : Read A) → m ≡ sets m₀ at₀ v → a ≡ at₀ + length v → {t : Step} → Done nothing n m m₁ a t o → Ends n m₀ at₀ encode mₑ r v m₁ t K → Done encode n m₀ mₑ at₀ r (on_read o (λ _. K))
        onward _ mm aa (read e vs h q l) (on f) = f refl vs (back at₀ v behind mm h) (q ∙ mm) (l ∙ rw aa (add-zero (at₀ + length v)))
        onward _ mm aa refusal (off e) = rw e refusal

    -- the next token is looked at
    pub looks : {K : Token → Reader B} {v m : List ℕ} (s : Step) → ((t : Token) → token_at m s ≡ seen t → Ends n m₀ at₀ encode mₑ r v m s (K t)) → Ends n m₀ at₀ encode mₑ r v m s (λ us. K (S.next us) us)
    unfolding token_at plain datum
    looks {K} {v} {m} (Bad x p) k = go (k (plain 0 0) refl)
      where
        go : {R : Reader B} → Ends n m₀ at₀ encode mₑ r v m (Bad x p) R → Ends n m₀ at₀ encode mₑ r v m (Bad x p) (λ us. K (S.next us) us)
        go (off e) = off e
    looks {K} {v} {m} (At c j a) k = on (λ same us h mm aa. go same us h mm aa (k (S.next us) (rw same (ahead_next n m j a us (kept at₀ v behind mm h)))))
      where
        go : c ≡ n → (us : List Token) → Ahead n m₀ j us → m ≡ sets m₀ at₀ v → a ≡ at₀ + length v → Ends n m₀ at₀ encode mₑ r v m (At c j a) (K (S.next us)) → Done encode n m₀ mₑ at₀ r (K (S.next us) us)
        go same us h mm aa (on f) = f same us h mm aa

    -- another name for the reader, where the next token is known
    pub knows : {v m : List ℕ} {s : Step} {R Q : Reader B} → ((us : List Token) → token_at m s ≡ seen (S.next us) → R us ≡ Q us) → Ends n m₀ at₀ encode mₑ r v m s Q
        → Ends n m₀ at₀ encode mₑ r v m s R
    knows {v} {m} {R} q (on {j} {a} k) = on {R = R} (λ same us h mm aa. rw (q us (rw same (ahead_next n m j a us (kept at₀ v behind mm h)))) (k same us h mm aa))
    knows q (off e) = off e

    -- the next token is skipped
    skip_to : {v m : List ℕ} {s : Step} {K : Token → Reader B} → ((t : Token) → token_at m s ≡ seen t → Ends n m₀ at₀ encode mₑ r v m (skipped s) (K t)) → (t : Token) → token_at m s ≡ seen t → Ends n m₀ at₀ encode mₑ r v m s (λ us. K t (S.rest us))
    unfolding skipped
    skip_to {v} {m} {s = Bad x p} {K} k t e = go (k t e)
      where
        go : {R S : Reader B} → Ends n m₀ at₀ encode mₑ r v m (Bad x p) R → Ends n m₀ at₀ encode mₑ r v m (Bad x p) S
        go (off e) = off e
    skip_to {v} {m} {s = At c j a} {K} k t e = go (ltb j c) refl (k t e)
      where
        go : (b : Bool) → ltb j c ≡ b → Ends n m₀ at₀ encode mₑ r v m (pick b (λ _. At c (j + 1) a) (λ _. At c j a)) (K t) → Ends n m₀ at₀ encode mₑ r v m (At c j a) (λ us. K t (S.rest us))
        go true q (on f) = on (λ same us h mm aa. f same (S.rest us) (ahead_rest n m₀ j us h) mm aa)
        go false q (on f) = on (λ same us h mm aa. f same (S.rest us) (ahead_end n m₀ j us (rw same at (ltb-false j c q)) h) mm aa)

    pub skips : {v m m₁ : List ℕ} {s s₁ : Step} {K : Token → Reader B} → Skips m m₁ s s₁ → ((t : Token) → token_at m s ≡ seen t → Ends n m₀ at₀ encode mₑ r v m₁ s₁ (K t)) → Ends n m₀ at₀ encode mₑ r v m s (◌>>=◌ S.skip K)
    unfolding ◌>>=◌ on_read S.skip
    skips {s} {K} q k = looks {K = λ t us. K t (S.rest us)} s (skip_to (λ t e. rw (q.0, q.1) at (k t e)))

    pub skips_on : {v m m₁ : List ℕ} {s s₁ : Step} {K : Reader B} → Skips m m₁ s s₁ → Ends n m₀ at₀ encode mₑ r v m₁ s₁ K → Ends n m₀ at₀ encode mₑ r v m s (◌>>◌ S.skip K)
    unfolding ◌>>◌ on_read S.skip
    skips_on {s} {K} q k = looks {K = λ t us. K (S.rest us)} s (skip_to {K = λ t. K} (λ t e. rw (q.0, q.1) at k))

    -- a cell is written
    pub writes : {v m m₁ : List ℕ} {s s₁ : Step} {R : Reader B} (tag place d : ℕ) → Writes (cell tag place d) m m₁ s s₁ → Ends n m₀ at₀ encode mₑ r (v ++ cell tag place d) m₁ s₁ R → Ends n m₀ at₀ encode mₑ r v m s R
    unfolding extended written cell
    writes {v} {m} {m₁} {s} {R} tag place d q k = go s (rw q.0 at k) q.1
      where
        go : (s : Step) → Ends n m₀ at₀ encode mₑ r (v ++ cell tag place d) m₁ (extended s) R → m₁ ≡ written m s (cell tag place d) → Ends n m₀ at₀ encode mₑ r v m s R
        go (Bad x p) (off e) w = off e
        go (At c j a) (on f) w = on (λ same us h mm aa. f same us h (w ∙ rw (mm, aa) (sets_append m₀ at₀ v (cell tag place d))) (longer us h mm aa))
          where
            longer : (us : List Token) → Ahead n m₀ j us → m ≡ sets m₀ at₀ v → a ≡ at₀ + length v → a + 3 ≡ at₀ + length (v ++ cell tag place d)
            longer us h mm aa = rw (length-append v (cell tag place d), cell) (omega arith)

    -- a choice by the next token's kind
    module _ {v m : List ℕ} {s : Step} (a b : Reader B) where
      tested : (p : ℕ → Bool) (d : Bool) → p (kind_at m s) ≡ d → Ends n m₀ at₀ encode mₑ r v m s (λ us. pick d (λ _. a us) (λ _. b us)) → Ends n m₀ at₀ encode mₑ r v m s (whether p a b)
      unfolding whether kind_at
      tested p d q e = looks {K = λ t us. pick (p t.kind) (λ _. a us) (λ _. b us)} s (λ t z. named (λ us. rw (← (ap (λ c. c.tag) z), q)) e)

      pub passes : (p : ℕ → Bool) → p (kind_at m s) ≡ true → Ends n m₀ at₀ encode mₑ r v m s a → Ends n m₀ at₀ encode mₑ r v m s (whether p a b)
      passes p q e = tested p true q e

      pub fails : (p : ℕ → Bool) → p (kind_at m s) ≡ false → Ends n m₀ at₀ encode mₑ r v m s b → Ends n m₀ at₀ encode mₑ r v m s (whether p a b)
      fails p q e = tested p false q e

      pub is : (k : ℕ) → kind_at m s ≡ k → Ends n m₀ at₀ encode mₑ r v m s a → Ends n m₀ at₀ encode mₑ r v m s (when k a b)
      unfolding when whether
      is k q e = passes (λ x. eqb x k) (eq-eqb _ _ q) e

      pub isn't : (k : ℕ) → (kind_at m s ≡ k → ⊥) → Ends n m₀ at₀ encode mₑ r v m s b → Ends n m₀ at₀ encode mₑ r v m s (when k a b)
      unfolding when whether
      isn't k q e = fails (λ x. eqb x k) (ne_eqb _ _ q) e

    -- nested less than most
    pub under : {v m : List ℕ} {s : Step} {R : Reader B} (d most p : ℕ) → d < most → Ends n m₀ at₀ encode mₑ r v m s R → Ends n m₀ at₀ encode mₑ r v m s (nested d most p R)
    unfolding nested
    under d most p q e = named (λ us. rw (lt-ltb d most q)) e

    -- a refusal: of the next token, and of a nesting that has its most
    pub refuses : {v m : List ℕ} {c j a : ℕ} {R : Reader B} (x p : ℕ) → r ≡ Bad x p → ((us : List Token) → token_at m (At c j a) ≡ seen (S.next us) → R us ≡ bad x p) → Ends n m₀ at₀ encode mₑ r v m (At c j a) R
    refuses {v} {m} {c} {j} {a} {R} x p e k = on {R = R} (λ same us h mm aa. rw (e, k us (rw same (ahead_next n m j a us (kept at₀ v behind mm h)))) refusal)

    pub unexpects : {v m : List ℕ} {c j a : ℕ} → r ≡ Bad 5 (token_at m (At c j a)).place → Ends n m₀ at₀ encode mₑ r v m (At c j a) unexpected
    unfolding unexpected
    unexpects e = refuses 5 _ e (λ us z. rw (← (ap (λ c. c.place) z)))

    pub over : {v m : List ℕ} {c j a : ℕ} (R : Reader B) (d most p : ℕ) → most ≤ d → r ≡ Bad 10 p → Ends n m₀ at₀ encode mₑ r v m (At c j a) (nested d most p R)
    unfolding nested
    over R d most p q e = refuses 10 p e (λ us z. rw (le-ltb d most q))

-- what comes behind a refusal, whatever reads it
pub stay : {m : List ℕ} {A : Type 0} {encode : A → List ℕ} {x p : ℕ} {R : Reader A} → Did encode m m (Bad x p) (Bad x p) R
stay = stays

pub stay-written : (cell : List ℕ) {m : List ℕ} {x p : ℕ} → Writes cell m m (Bad x p) (Bad x p)
unfolding extended written
stay-written cell = (refl, refl)

-- a refusal that is passed up
pub refused : {A : Type 0} {encode : A → List ℕ} {m mₑ : List ℕ} {s : Step} {R : Reader A} (r : Result ⊤ Refusal) (p : Parser) (e : Refusal) → IsErrAnd r (λ x. x ≡ e)
    → Did encode m mₑ s (Bad (fault_number e.fault) e.place) R → Did encode m mₑ s (after r p) R
refused (Err x) p e same d = rw same d
refused (Ok u) p e same d = absurd same
