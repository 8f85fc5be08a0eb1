-- Labels with commas between: the first, and then the loop's. Assumes nothing.
use mathlib.Core.Path.{◌≡◌, refl, sym, ◌∙◌}
use mathlib.Core.Bool.{Bool, true, false}
use mathlib.Core.List.{List, [], ◌∷◌}
use mathlib.Core.Option.{none}
use Prim.Native.Nat.{ℕ, zero, suc, ◌*◌, ◌≤◌, ◌<◌}
use native.Mathlib.Omega.{arith}
use lib.Dec.{eqb}
use borrow.Author.Tests.{eq-eqb, ne_eqb}
use Rattle.rules.specs.Base.{pick}
use Rattle.rules.specs.Kinds.{COMMA, COLON}
use Rattle.rules.specs.Tokens.{Token}
use Rattle.rules.specs.Syntax as S
use Rattle.rules.specs.Syntax.{Label, label, con_bool, Read, got, bad, Reader, on_read, ◌>>=◌, ◌>>◌, give, when, one_label, labels}
use Rattle.rules.specs.Cells.{cell, label_cells, labels_cells}
use Rattle.parse.specs.Steps.{count_of, left_of, free_of, kind_at, Skips, Writes, Step, Bad}
use Rattle.parse.specs.Reading.{Did, DidWith}
use Rattle.parse.proofs.Follow.{begin, named, knows, skips_on, bind, writes, gives}
use Rattle.parse.proofs.Loops.{joins, Loops, loops_start, loops-refused, loops_step}
use Rattle.parse.proofs.NextKind.{kind_left}

-- what is read behind a label
pub behind_label : ℕ → Reader (List Label)
behind_label f = when COMMA (◌>>◌ S.skip (labels f)) (give [])

-- a label, and what is behind it
onward : (f : ℕ) (us : List Token) → labels (suc f) us ≡ ◌>>=◌ one_label (λ a. ◌>>=◌ (behind_label f) (λ ls. give (a ∷ ls))) us
unfolding labels ◌>>=◌ ◌>>◌ on_read give when S.skip behind_label
onward f us = by (one_label us)
  where
    by : (o : Read Label)
        → on_read o (λ a. when COMMA (◌>>◌ S.skip (◌>>=◌ (λ us. labels f us) (λ ls. give (a ∷ ls)))) (give (a ∷ [])))
        ≡ on_read o (λ a. ◌>>=◌ (behind_label f) (λ ls. give (a ∷ ls)))
    by (bad x p) = refl
    by (got a vs) = go (eqb (S.next vs).kind COMMA)
      where
        go : (b : Bool)
            → pick b (λ _. on_read (labels f (S.rest vs)) (λ ls. give (a ∷ ls))) (λ _. got (a ∷ []) vs)
            ≡ on_read (pick b (λ _. labels f (S.rest vs)) (λ _. got [] vs)) (λ ls. give (a ∷ ls))
        go true = refl
        go false = refl

-- a comma and a label
comma_label : Reader Label
comma_label = ◌>>◌ S.skip (◌>>=◌ one_label (λ a. give a))

-- behind a label, where a comma is next: a comma and a label, and what is behind it
again : (g : ℕ) (us : List Token) → (S.next us).kind ≡ COMMA → behind_label (suc g) us ≡ on_read (comma_label us) (λ e. ◌>>=◌ (behind_label g) (λ x. give (e ∷ x)))
unfolding ◌>>=◌ ◌>>◌ on_read give when S.skip behind_label comma_label
again g us e = rw (eq-eqb _ _ e) (onward g (S.rest us) ∙ sym (joins (one_label (S.rest us)) _ _))

-- where none is, nothing more
ended : {B : Type 0} (f : ℕ) (us : List Token) (K : List Label → Reader B) → ((S.next us).kind ≡ COMMA → ⊥) → ◌>>=◌ (behind_label f) K us ≡ K [] us
unfolding ◌>>=◌ on_read give when behind_label
ended f us K e = rw (ne_eqb _ _ e)

-- some label
any : Label
any = label (con_bool 0 true) none

module _ (m₁ : List ℕ) (s₁ : Step) where
  -- from the step s₁ behind a label the loop has come to s
  abbrev pub Comes : List ℕ → Step → Type 0
  Comes m s = Loops labels_cells behind_label 1 0 m₁ s₁ m s

  -- where it begins
  pub starts : Comes m₁ s₁
  starts = loops_start labels_cells behind_label 1 0 m₁ s₁

  module _ (behind : 3 * count_of s₁ ≤ free_of s₁) where
    -- past a comma and a label
    pub turns : {m m₂ m' : List ℕ} {s s₂ s' : Step} → Comes m s → 3 * count_of s ≤ free_of s → kind_at m s ≡ COMMA → Skips m m₂ s s₂ → Did label_cells m₂ m' s₂ s' one_label
        → left_of s' < left_of s → Comes m' s'
    unfolding labels_cells comma_label
    turns {m} {s} old b k q d less =
        loops_step labels_cells behind_label 1 0 m₁ s₁ behind any label_cells (λ g. comma_label) (λ e x. e ∷ x) (λ e x. refl) old
        (λ g us z. again g us (kind_left m s us z ∙ k))
        (λ g h. begin (skips_on b q (bind b any d (λ a. gives a refl))))
        (omega arith)

    -- a label that is refused
    pub breaks : {m : List ℕ} {x p : ℕ} → Comes m (Bad x p) → (g : ℕ) → left_of s₁ ≤ g → Did labels_cells m₁ m s₁ (Bad x p) (behind_label g)
    breaks all g h = loops-refused labels_cells behind_label 1 0 m₁ s₁ all g (omega arith)

    -- where no comma is next, the cell that closes labels ends it
    pub ends : {m mₑ : List ℕ} {s r : Step} → Comes m s → (kind_at m s ≡ COMMA → ⊥) → Writes (cell COLON 0 0) m mₑ s r
        → (g : ℕ) → left_of s₁ ≤ g → Did labels_cells m₁ mₑ s₁ r (behind_label g)
    unfolding labels_cells
    ends {m} {mₑ} {s} {r} all k w g h =
        begin
        (all mₑ r g (omega arith) (λ v wrap q f b.
        knows behind (λ us z. ended f us _ (λ e. k (sym (kind_left m s us z) ∙ e)))
        (writes behind _ _ _ w
        (gives (wrap []) (q [])))))

-- a label, and then the loop
pub labels-read : {m m₁ mₑ : List ℕ} {s s₁ r : Step} → 3 * count_of s ≤ free_of s → left_of s₁ ≤ left_of s → Did label_cells m m₁ s s₁ one_label
    → ((g : ℕ) → left_of s₁ ≤ g → Did labels_cells m₁ mₑ s₁ r (behind_label g)) → DidWith 1 1 labels_cells m mₑ s r labels
unfolding labels_cells
labels-read behind on d k zero h = absurd (omega arith)
labels-read behind on d k (suc g) h =
    begin
    (named (onward g)
    (bind behind any d (λ a.
    bind behind [] (k g (omega arith)) (λ ls.
    gives (a ∷ ls) refl))))
