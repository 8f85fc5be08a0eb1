-- The loops over the statements of a list, the branches of IF, and the groups of CASE: their start, a turn, their end. Assumes nothing.
use mathlib.Core.Path.{◌≡◌, refl, sym, ap, ◌∙◌}
use mathlib.Core.Bool.{true, false, true≢false}
use mathlib.Core.List as L
use mathlib.Core.List.{◌++◌}
use Prim.Native.Nat.{ℕ, ◌+◌, ◌≤◌, max}
use native.Mathlib.Omega.{arith}
use lib.ListN.{length, length-append}
use Rattle.rules.specs.Core.{List, Brs, Grps, nil, cons, none, els, elsif, other, grp}
use Rattle.rules.specs.Kinds.{FINISH, THEN, ELSE, END_IF}
use Rattle.rules.specs.Cells.{cell, end_cell}
use Rattle.rules.specs.CoreCells.{held_cells, span_cells, stmt_cells, body_cells, brs_cells, grps_cells}
use Rattle.rules.specs.Depth.{height, depth_s, depth_l, depth_b, depth_g}
use Rattle.rules.specs.Worst.{Bound, add_w, max_w, worst_s, worst_l, worst_b, worst_g}
use Rattle.theorems.specs.Fields.{FitL, FitB, FitG}
use Rattle.theorems.specs.Levels.{levels_s, nest_l, nest_b, nest_g}
use Rattle.cells.specs.Reading.{cell_in, behind, is_label, Lies}
use Rattle.cells.specs.Laws.{lies_first, lies_rest}
use Rattle.figures.specs.Parts.{Part, Ending, shown, StatementMeans, ListMeans, BranchesMean, GroupsMean, HeldMeans}
use Rattle.figures.proofs.Heads.{head, tail}
use Rattle.figures.proofs.Tags.{tagged, no_end, list_no_label, spans_label}
use Rattle.figures.proofs.Closings.{SpansMean}
use Rattle.figures.proofs.Following.{conditional_list}
use Rattle.figures.proofs.Whole.{sums, largest, alike, Ahead, joined, begin, go_on, complete, close}

-- Lists

-- what is still ahead of a list that ends there, with that depth and that bound
pub data ListLeft (m : L.List ℕ) (levels : ℕ) (f : Part) (end deep : ℕ) (bound : Bound) : Type 0 where
  rest : (x : List) → nest_l x ≤ levels → FitL x → Ahead add_w m f end deep bound (body_cells x) (depth_l x) (worst_l x) → ListLeft m levels f end deep bound

-- the loop has come so far: whatever list lies at the start, the rest of it is ahead
abbrev pub ListLoop : L.List ℕ → ℕ → ℕ → Part → Type 0
ListLoop m at levels f = (x : List) → Lies m at (body_cells x) → nest_l x ≤ levels → FitL x → ListLeft m levels f (at + length (body_cells x)) (depth_l x) (worst_l x)

pub list_start : {m : L.List ℕ} {at levels d w : ℕ} → d ≡ 0 → w ≡ 0 → ListLoop m at levels (record { at = at; depth = d; worst = w })
list_start p q x y n i = rw (p, q) (rest x n i (begin sums (depth_l x) (worst_l x) y))

module _ {m : L.List ℕ} {levels : ℕ} {f : Part} {t : ℕ} (q : t ≡ (cell_in m f.at).tag) where
  module _ {end deep : ℕ} {bound : Bound} where
    -- a turn reads one statement
    list_on : {s g : Part} → (t ≡ FINISH → ⊥) → StatementMeans m f.at levels s → g ≡ joined add_w f s → ListLeft m levels f end deep bound → ListLeft m levels g end deep bound
    unfolding body_cells end_cell cell levels_s depth_s worst_s
    list_on h means e (rest nil n i a) = absurd (h (q ∙ ap (λ c. c.tag) (head a.lies)))
    list_on h means e (rest (cons x l) n i a) =
        let r = means x (lies_first (stmt_cells x) (body_cells l) a.lies) (omega arith) i.0 in
        rest l (omega arith) i.1 (go_on sums (stmt_cells x) (body_cells l) (depth_s x) (depth_l l) (worst_s x) (worst_l l) a (rw r at e))

    -- the end reads the closing cell
    list_end : {j : ℕ} → t ≡ FINISH → j ≡ behind m f.at → ListLeft m levels f end deep bound → record { at = j; depth = f.depth; worst = f.worst } ≡ shown end deep bound
    unfolding body_cells end_cell depth_s worst_s
    list_end h e (rest nil n i a) = close sums FINISH 0 0 a e
    list_end h e (rest (cons x l) n i a) = absurd (no_end (tagged x (lies_first (stmt_cells x) (body_cells l) a.lies)) (sym q ∙ h))

  pub list-turn : {at : ℕ} {s g : Part} → ListLoop m at levels f → (t ≡ FINISH → ⊥) → StatementMeans m f.at levels s → g ≡ joined add_w f s → ListLoop m at levels g
  list-turn k h means e x y n i = list_on h means e (k x y n i)

  pub list_done : {at j : ℕ} → ListLoop m at levels f → t ≡ FINISH → j ≡ behind m f.at → ListMeans m at levels (record { at = j; depth = f.depth; worst = f.worst })
  list_done k h e x y n i = list_end h e (k x y n i)

-- The branches of IF

-- what is still ahead of branches that end there, with that depth and that bound
pub data BranchesLeft (m : L.List ℕ) (levels : ℕ) (f : Part) (end deep : ℕ) (bound : Bound) : Type 0 where
  rest_b_lem : (x : Brs) → nest_b x ≤ levels → FitB x → Ahead max_w m f end deep bound (brs_cells x) (depth_b x) (worst_b x) → BranchesLeft m levels f end deep bound

-- the loop has come so far: whatever branches lie at the start, the rest of them is ahead
abbrev pub BranchesLoop : L.List ℕ → ℕ → ℕ → Part → Type 0
BranchesLoop m at levels f = (x : Brs) → Lies m at (brs_cells x) → nest_b x ≤ levels → FitB x → BranchesLeft m levels f (at + length (brs_cells x)) (depth_b x) (worst_b x)

pub branches_start : {m : L.List ℕ} {at levels d w : ℕ} → d ≡ 0 → w ≡ 0 → BranchesLoop m at levels (record { at = at; depth = d; worst = w })
branches_start p q x y n i = rw (p, q) (rest_b_lem x n i (begin largest (depth_b x) (worst_b x) y))

module _ {m : L.List ℕ} {levels : ℕ} {f : Part} {t : ℕ} (q : t ≡ (cell_in m f.at).tag) where
  module _ {end deep : ℕ} {bound : Bound} where
    -- a turn reads a condition and its list
    branches_on : {j d : ℕ} {s : Ending} {g h : Part} → t ≡ THEN → j ≡ behind m f.at → HeldMeans m j s → ListMeans m s.at levels g → d ≡ max s.depth g.depth
        → h ≡ joined max_w f (record { at = g.at; depth = d; worst = g.worst })
        → BranchesLeft m levels f end deep bound → BranchesLeft m levels h end deep bound
    unfolding brs_cells cell levels_s depth_s worst_s
    branches_on is e held means v k (rest_b_lem none n i a) = let u = ap (λ c. c.tag) (head a.lies) in absurd (omega arith)
    branches_on is e held means v k (rest_b_lem (els l) n i a) = let u = ap (λ c. c.tag) (head a.lies) in absurd (omega arith)
    branches_on is e held means v k (rest_b_lem (elsif c l b) n i a) =
        let xs = (cell THEN 0 0 ++ held_cells 0 c) ++ body_cells l in
        let p = conditional_list THEN c l e held means (lies_first xs (brs_cells b) a.lies) (omega arith) i.1 in
        rest_b_lem b (omega arith) i.2
        (go_on largest xs (brs_cells b) (max (height c) (depth_l l)) (depth_b b) (worst_l l) (worst_b b) a (k ∙ ap (joined max_w f) (alike p.0 (v ∙ p.1) p.2)))

    -- the end is ELSE's list
    branches_else : {j : ℕ} {g r : Part} → t ≡ ELSE → j ≡ behind m f.at → ListMeans m j levels g → r ≡ joined max_w f g → BranchesLeft m levels f end deep bound → r ≡ shown end deep bound
    unfolding brs_cells cell levels_s depth_s worst_s
    branches_else is e means k (rest_b_lem none n i a) = let u = ap (λ c. c.tag) (head a.lies) in absurd (omega arith)
    branches_else is e means k (rest_b_lem (els l) n i a) =
        let b = tail e a.lies in
        k ∙ ap (joined max_w f) (means l b.1 n i ∙ alike (omega arith) refl refl) ∙ complete largest a
    branches_else is e means k (rest_b_lem (elsif c l b) n i a) = let u = ap (λ c. c.tag) (head a.lies) in absurd (omega arith)

    -- or the closing cell
    branches_end : {j : ℕ} → (t ≡ THEN → ⊥) → (t ≡ ELSE → ⊥) → j ≡ behind m f.at → BranchesLeft m levels f end deep bound
        → record { at = j; depth = f.depth; worst = f.worst } ≡ shown end deep bound
    unfolding brs_cells cell depth_s worst_s
    branches_end h k e (rest_b_lem none n i a) = close largest END_IF 0 0 a e
    branches_end h k e (rest_b_lem (els l) n i a) = absurd (k (q ∙ ap (λ c. c.tag) (head a.lies)))
    branches_end h k e (rest_b_lem (elsif c l b) n i a) = absurd (h (q ∙ ap (λ c. c.tag) (head a.lies)))

  pub branches-turn : {at j d : ℕ} {s : Ending} {g h : Part} → BranchesLoop m at levels f → t ≡ THEN → j ≡ behind m f.at → HeldMeans m j s → ListMeans m s.at levels g
      → d ≡ max s.depth g.depth → h ≡ joined max_w f (record { at = g.at; depth = d; worst = g.worst }) → BranchesLoop m at levels h
  branches-turn k is e held means v p x y n i = branches_on is e held means v p (k x y n i)

  pub branches_last : {at j : ℕ} {g r : Part} → BranchesLoop m at levels f → t ≡ ELSE → j ≡ behind m f.at → ListMeans m j levels g → r ≡ joined max_w f g → BranchesMean m at levels r
  branches_last k is e means p x y n i = branches_else is e means p (k x y n i)

  pub branches_done : {at j : ℕ} → BranchesLoop m at levels f → (t ≡ THEN → ⊥) → (t ≡ ELSE → ⊥) → j ≡ behind m f.at
      → BranchesMean m at levels (record { at = j; depth = f.depth; worst = f.worst })
  branches_done k h l e x y n i = branches_end h l e (k x y n i)

-- The groups of CASE

-- what is still ahead of groups that end there, with that depth and that bound
pub data GroupsLeft (m : L.List ℕ) (levels : ℕ) (f : Part) (end deep : ℕ) (bound : Bound) : Type 0 where
  rest_g_lem : (x : Grps) → nest_g x ≤ levels → FitG x → Ahead max_w m f end deep bound (grps_cells x) (depth_g x) (worst_g x) → GroupsLeft m levels f end deep bound

-- the loop has come so far: whatever groups lie at the start, the rest of them is ahead
abbrev pub GroupsLoop : L.List ℕ → ℕ → ℕ → Part → Type 0
GroupsLoop m at levels f = (x : Grps) → Lies m at (grps_cells x) → nest_g x ≤ levels → FitG x → GroupsLeft m levels f (at + length (grps_cells x)) (depth_g x) (worst_g x)

pub groups_start : {m : L.List ℕ} {at levels d w : ℕ} → d ≡ 0 → w ≡ 0 → GroupsLoop m at levels (record { at = at; depth = d; worst = w })
groups_start p q x y n i = rw (p, q) (rest_g_lem x n i (begin largest (depth_g x) (worst_g x) y))

module _ {m : L.List ℕ} {levels : ℕ} {f : Part} {t : ℕ} (q : t ≡ (cell_in m f.at).tag) where
  module _ {end deep : ℕ} {bound : Bound} where
    -- a turn reads labels and their list
    groups_on : {j : ℕ} {g h : Part} → is_label t ≡ true → SpansMean m f.at j → ListMeans m j levels g → h ≡ joined max_w f g
        → GroupsLeft m levels f end deep bound → GroupsLeft m levels h end deep bound
    unfolding grps_cells levels_s depth_s worst_s
    groups_on is spans means k (rest_g_lem (other l) n i a) = absurd (true≢false (sym is ∙ ap is_label q ∙ list_no_label l a.lies))
    groups_on is spans means k (rest_g_lem (grp ls l g) n i a) =
        let xs = span_cells ls ++ body_cells l in
        let y = lies_first xs (grps_cells g) a.lies in
        let s = spans ls (lies_first (span_cells ls) (body_cells l) y) in
        let r = means l (rw s (lies_rest (span_cells ls) (body_cells l) y)) (omega arith) i.1 in
        let z = length-append (span_cells ls) (body_cells l) in
        rest_g_lem g (omega arith) i.2
        (go_on largest xs (grps_cells g) (depth_l l) (depth_g g) (worst_l l) (worst_g g) a (k ∙ ap (joined max_w f) (r ∙ alike (omega arith) refl refl)))

    -- the end is the last list
    groups_end : {g r : Part} → is_label t ≡ false → ListMeans m f.at levels g → r ≡ joined max_w f g → GroupsLeft m levels f end deep bound → r ≡ shown end deep bound
    unfolding grps_cells levels_s depth_s worst_s
    groups_end is means k (rest_g_lem (other l) n i a) = k ∙ ap (joined max_w f) (means l a.lies n i) ∙ complete largest a
    groups_end is means k (rest_g_lem (grp ls l g) n i a) =
        absurd (true≢false (sym (spans_label ls (lies_first (span_cells ls) (body_cells l) (lies_first (span_cells ls ++ body_cells l) (grps_cells g) a.lies))) ∙ sym (ap is_label q) ∙ is))

  pub groups-turn : {at j : ℕ} {g h : Part} → GroupsLoop m at levels f → is_label t ≡ true → SpansMean m f.at j → ListMeans m j levels g → h ≡ joined max_w f g → GroupsLoop m at levels h
  groups-turn k is spans means p x y n i = groups_on is spans means p (k x y n i)

  pub groups_done : {at : ℕ} {g r : Part} → GroupsLoop m at levels f → is_label t ≡ false → ListMeans m f.at levels g → r ≡ joined max_w f g → GroupsMean m at levels r
  groups_done k is means p x y n i = groups_end is means p (k x y n i)
