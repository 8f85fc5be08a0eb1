-- Reading the labels of a group follows the rules. Assumes nothing.
use mathlib.Core.Path.{◌≡◌, refl, sym, ap, ◌∙◌}
use mathlib.Core.Bool.{Bool, true, false}
use mathlib.Core.List as L
use mathlib.Core.List.{[], ◌∷◌, ◌++◌, append-nil, append_assoc}
use mathlib.Core.Option.{none, some}
use Prim.Native.Nat.{ℕ, ◌+◌, ◌≤◌, ◌<◌}
use native.Mathlib.Nat.{add-zero}
use native.Mathlib.Omega.{arith}
use lib.Dec.{leb}
use lib.ListN.{length, get_or, drop}
use lib.Seq.{get_or-drop}
use Rattle.rules.specs.Base.{pick}
use Rattle.rules.specs.Kinds.{DOTS, COLON}
use Rattle.rules.specs.Core.{lnil, lab}
use Rattle.rules.specs.Syntax.{Con, con_bool, con_int, Label, label}
use Rattle.rules.specs.Walk.{con_value, high_of, labels}
use Rattle.rules.specs.Cells.{cell, truth_kind, sign_kind, con_cells, label_cells, labels_cells}
use Rattle.rules.specs.CoreCells.{span_cells}
use Rattle.walk.specs.Steps.{kept, cell_at, tag_at, skipped, extended, written, left, Moves}
use Rattle.walk.specs.Constants.{is_constant}
use Rattle.walk.specs.Walking.{Scope, Ready, stays}
use Rattle.walk.specs.Promises.{LabelsMean}
use Rattle.walk.specs.LabelPromises.{tag_behind, LabelMeans}
use Rattle.walk.specs.Places.{Step, Ok, Bad}
use Rattle.cells.specs.declared.cell.Cell.{Cell}
use Rattle.walk.proofs.Moves.{some-ahead}
use Rattle.walk.proofs.Along.{Heads, moved-head}
use Rattle.walk.proofs.Stores.{behind_part}
use Rattle.walk.proofs.Follow.{begin, gives, bind, looks, skips, writes}
use Rattle.walk.proofs.Knowing.{whenever, knowing, regrouped, barred, skipped-stays, extended-stays}
use Rattle.walk.proofs.ConstantAhead.{label-ahead}
use Rattle.walk.proofs.ReadLabel.{refusal-ahead}

-- no constant starts with `..`
constant_first : (c : Con) (w : L.List ℕ) → get_or (con_cells c ++ w) 0 0 ≡ DOTS → ⊥
unfolding con_cells cell truth_kind sign_kind
constant_first (con_bool p true) w e = omega arith
constant_first (con_bool p false) w e = omega arith
constant_first (con_int p true q v) w e = omega arith
constant_first (con_int p false q v) w e = omega arith

-- nor what stands behind a label
labels_first : (ls : L.List Label) (w : L.List ℕ) → get_or (labels_cells ls ++ w) 0 0 ≡ DOTS → ⊥
unfolding labels_cells label_cells cell
labels_first [] w e = omega arith
labels_first (label c none ∷ ls) w e = constant_first c _ (rw append_assoc at e)
labels_first (label c (some d) ∷ ls) w e = constant_first c _ (simp append_assoc at e)

-- a tag other than that of the end is the number that stands there
tag-number : (m : L.List ℕ) (i free : ℕ) → tag_at m (Ok i free) ≡ DOTS → get_or (kept m) i 0 ≡ DOTS
unfolding tag_at cell_at
tag-number m i free e = go (leb (i + 3) (length (kept m))) e
  where
    go : (b : Bool)
        → (pick {A = Cell} b (λ _. record { tag = get_or (kept m) i 0; place = get_or (kept m) (i + 1) 0; datum = get_or (kept m) (i + 2) 0 }) (λ _. record { tag = 0; place = 0; datum = 0 })).tag ≡ DOTS
        → get_or (kept m) i 0 ≡ DOTS
    go true e = e
    go false e = absurd (omega arith)

-- no `..` stands behind a label
behind_label_lem : {σ : Scope} {m : L.List ℕ} {at free : ℕ} (l : Label) (ls : L.List Label) (w : L.List ℕ) → Ready σ m at free (label_cells l ++ (labels_cells ls ++ w))
    → tag_behind m (Ok at free) (length (label_cells l)) ≡ DOTS → ⊥
unfolding tag_behind
behind_label_lem {m = m} {at} {free} l ls w y e =
    let i = at + length (label_cells l) in
    let ahead : drop i (kept m) ≡ labels_cells ls ++ (w ++ y.rest) = behind_part (kept m) at (label_cells l) _ (y.ahead ∙ simp append_assoc) in
    labels_first ls _ (ap (λ w. get_or w 0 0) (sym ahead) ∙ get_or-drop i (kept m) 0 0 ∙ ap (λ k. get_or (kept m) k 0) (add-zero i) ∙ tag-number m i free e)

-- a label, and then the others
pub labels_more : {m m₁ mₑ : L.List ℕ} {s s₁ r : Step} → is_constant (tag_at m s) ≡ true → LabelMeans m m₁ s s₁ → LabelsMean m₁ mₑ s₁ r → LabelsMean m mₑ s r
unfolding labels labels_cells span_cells cell tag_at is_constant
labels_more {m} {s = s} starts one others σ [] =
    begin (λ _. looks COLON 0 0 [] (λ seen.
    barred (λ n p e. let z = ap is_constant (sym (refusal-ahead m e)) ∙ starts in let y : ◌≡◌ {A = ℕ} 0 1 = cc in absurd (omega arith))
    (whenever (λ e. let z = ap (λ c. is_constant c.tag) (sym e) ∙ starts in let y : ◌≡◌ {A = ℕ} 0 1 = cc in omega arith) seen)))
labels_more {m} {s = s} starts one others σ (label c d ∷ ls) =
    regrouped (ap (λ w. label_cells (label c d) ++ w) (append-nil (labels_cells ls)))
    (begin (λ _. knowing (λ at free e y. rw e (behind_label_lem (label c d) ls [] y.ready)) (λ given.
    bind tt (one σ c d) given (λ _ _.
    bind lnil (others σ ls) (λ at free e. tt) (λ x _.
    gives (lab (con_value c) (con_value (high_of c d)) x) (λ at free e. tt) refl (omega arith))))))

-- the cell that closes them
pub labels_end : {m mₑ : L.List ℕ} {s s₁ r : Step} → is_constant (tag_at m s) ≡ false → s₁ ≡ skipped m s → (r ≡ extended m s₁) × (mₑ ≡ written m s₁ (cell COLON 0 0)) → LabelsMean m mₑ s r
unfolding labels labels_cells span_cells cell
labels_end {m} other past w σ [] = begin (λ _. skips COLON 0 0 past (writes {slack = 0} COLON 0 0 w (λ at free e. refl) (gives lnil (λ at free e. tt) refl (omega arith))))
labels_end {m} other past w σ (l ∷ ls) =
    begin (λ _. label-ahead l (labels_cells ls) (λ starts.
    barred (λ n p e. extended-stays m w.0 (skipped-stays m past e)) (whenever (λ e. let z = sym other ∙ e in let y : ◌≡◌ {A = ℕ} 0 1 = cc in omega arith) starts)))

-- From the loop's beginning at s with the numbers m the walk has come to s₁ with the numbers m₁: whatever is promised of what is ahead there is promised of all
pub record LabelTurns (m : L.List ℕ) (s : Step) (m₁ : L.List ℕ) (s₁ : Step) : Type 0 where
  pub far : left m₁ s₁ ≤ left m s
  pub rest : (mₑ : L.List ℕ) (r : Step) → LabelsMean m₁ mₑ s₁ r → LabelsMean m mₑ s r

pub turns_start : (m : L.List ℕ) (s : Step) → LabelTurns m s m s
turns_start m s = record { far = omega arith; rest = λ mₑ r means. means }

-- the code tests it by the cell ahead
pub tested : (m : L.List ℕ) (s : Step) {b v : Bool} {t : Cell} → t ≡ cell_at m s → b ≡ is_constant t.tag → b ≡ v → is_constant (tag_at m s) ≡ v
unfolding tag_at
tested m s sees is e = ap (λ c. is_constant c.tag) (sym sees) ∙ sym is ∙ e

-- a label is ahead, so a cell is
label_there : (m : L.List ℕ) (s : Step) → is_constant (tag_at m s) ≡ true → 3 ≤ left m s
unfolding is_constant
label_there m s starts = some-ahead _ _ (λ e. let z = ap is_constant (sym e) ∙ starts in let y : ◌≡◌ {A = ℕ} 0 1 = cc in omega arith)

pub turns_on : {m m₁ m₂ : L.List ℕ} {s s₁ s₂ : Step} → is_constant (tag_at m₁ s₁) ≡ true → Moves 3 m₁ m₂ s₁ s₂ × LabelMeans m₁ m₂ s₁ s₂ → LabelTurns m s m₁ s₁ → LabelTurns m s m₂ s₂
turns_on starts one t = record { far = omega (arith, one.0, t.far); rest = λ mₑ r means. t.rest mₑ r (labels_more starts one.1 means) }

pub turns_less : (m m₁ : L.List ℕ) (s s₁ : Step) → is_constant (tag_at m s) ≡ true → Moves 3 m m₁ s s₁ → left m₁ s₁ < left m s
turns_less m m₁ s s₁ starts far = omega (arith, far, label_there m s starts)

-- a label is refused
pub turns_refused : {m m₁ m₂ : L.List ℕ} {s s₁ : Step} {n p : ℕ} → is_constant (tag_at m₁ s₁) ≡ true → LabelMeans m₁ m₂ s₁ (Bad n p) → LabelTurns m s m₁ s₁ → LabelsMean m m₂ s (Bad n p)
turns_refused starts one t = t.rest _ _ (labels_more starts one (λ σ ls. stays))

pub turns_end : {m m₁ mₑ : L.List ℕ} {s s₁ r : Step} → is_constant (tag_at m₁ s₁) ≡ false → Heads COLON m₁ mₑ s₁ r → LabelTurns m s m₁ s₁ → Moves 3 m mₑ s r × LabelsMean m mₑ s r
turns_end other wrote t = (omega (arith, moved-head COLON _ _ wrote, t.far), t.rest _ _ (labels_end other refl wrote))
