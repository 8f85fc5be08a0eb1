-- What the three loops over statements do: statements of a list, branches of IF, groups of CASE. Assumes nothing.
use mathlib.Core.Path.{◌≡◌, refl, sym, ap, ◌∙◌}
use mathlib.Core.Bool.{Bool, true, false}
use mathlib.Core.List as L
use mathlib.Core.List.{◌++◌}
use Prim.Native.Nat.{ℕ, ◌+◌, ◌≤◌}
use native.Mathlib.Omega.{arith}
use Rattle.rules.specs.Kinds.{FINISH, ELSE, END_IF, THEN}
use Rattle.rules.specs.Core.{List, Brs, Grps, nil, cons, none, els, elsif, other, grp}
use Rattle.rules.specs.Translation.{size_l, size_b, size_g, jlen}
use Rattle.rules.specs.Cells.{cell, end_cell}
use Rattle.rules.specs.CoreCells.{held_cells, span_cells, stmt_cells, body_cells, brs_cells, grps_cells}
use Rattle.theorems.specs.Levels.{levels_l, levels_b, levels_g, nest_l, nest_b, nest_g}
use Rattle.cells.specs.Reading.{cell_in, behind, is_label, Lies, Moves}
use Rattle.emit.specs.Sizes.{capped, jump_size}
use Rattle.emit.specs.Sizes.{Sized}
use Rattle.emit.proofs.CoreHeads.{head_l, head_b, head_g, tag-list, tag-branches, tag-groups, statement_goes_on, label-starts, list-starts}
use Rattle.emit.proofs.SizeSums.{past_cell, onward, HeldDoes, LabelsDo, StatementDoes, ListDoes, BranchesDo, GroupsDo, counts_past, counts_then, counts_held, counts-labels, counts-statement, counts-list, counts_behind, add_on}
use Rattle.emit.proofs.SizeLoops.{End, Loop, Looped, loop_start, loop_turn, loop_done, rest_by, end_by, end_past}

-- Lists

-- the loop's invariant: it began at i and has come to s
abbrev pub ListLoop : L.List ℕ → ℕ → ℕ → Sized → Type 0
ListLoop m levels i s = Looped body_cells size_l nest_l m levels i s

pub list_start : (m : L.List ℕ) (levels i : ℕ) → ListLoop m levels i (record { at = i; size = 0 })
list_start m levels i = loop_start body_cells size_l nest_l m levels i

-- a statement is read
pub list-turn : {m : L.List ℕ} {levels i tag n : ℕ} {s one : Sized} → ListLoop m levels i s → tag ≡ (cell_in m s.at).tag → (tag ≡ FINISH → ⊥)
    → StatementDoes m s.at levels one → n ≡ capped (s.size + one.size) → ListLoop m levels i (record { at = one.at; size = n })
unfolding body_cells size_l levels_l head_l
list-turn {m} {levels} {i} {tag} {n} {s} {one = r} old sees more one adds = loop_turn body_cells size_l nest_l m levels old one.fine go
  where
    go : Loop body_cells size_l nest_l m levels s (record { at = r.at; size = n })
    go nil l few = absurd (more (sees ∙ tag-list nil l))
    go (cons x y) l few =
        rest_by body_cells size_l nest_l m levels _ y (stmt_cells x) refl (counts-statement one x (omega arith)) 0 adds (omega arith) (omega arith) (omega arith) l

-- the closing cell is passed
pub list_done : {m : L.List ℕ} {levels i tag j : ℕ} {s : Sized} → ListLoop m levels i s → tag ≡ (cell_in m s.at).tag → tag ≡ FINISH → j ≡ behind m s.at
    → ListDoes m i levels (record { at = j; size = s.size })
unfolding body_cells size_l end_cell head_l
list_done {m} {levels} {i} {tag} {j} {s} old sees is past = loop_done body_cells size_l nest_l m levels old (past_cell m s.at past) last
  where
    last : (y : List) → Lies m s.at (body_cells y) → nest_l y ≤ levels → capped s.size ≡ s.size → End body_cells size_l s y (record { at = j; size = s.size })
    last nil l few whole = end_past body_cells size_l nest_l m levels nil FINISH 0 0 refl refl past l whole
    last (cons x y) l few whole = absurd (statement_goes_on x (sym (tag-list (cons x y) l) ∙ sym sees ∙ is))

-- Branches

abbrev pub BranchesLoop : L.List ℕ → ℕ → ℕ → Sized → Type 0
BranchesLoop m levels i s = Looped brs_cells size_b nest_b m levels i s

pub branches_start : (m : L.List ℕ) (levels i : ℕ) → BranchesLoop m levels i (record { at = i; size = 0 })
branches_start m levels i = loop_start brs_cells size_b nest_b m levels i

-- a branch moves on
pub branch-moves : {m : L.List ℕ} {levels next : ℕ} {condition body : Sized} (i : ℕ) → next ≡ behind m i → HeldDoes m next condition
    → ListDoes m condition.at levels body
    → Moves m i body.at
branch-moves {m} {next = next} {condition = c} {body = b} i past condition body =
    onward m i next b.at (past_cell m i past) (onward m next c.at b.at condition.fine body.fine)

-- a JUMP stands behind a list unless END_IF follows
pub jumps : (b : Brs) → jump_size (head_b b) ≡ jlen b
unfolding jump_size head_b jlen
jumps none = refl
jumps (els l) = refl
jumps (elsif c l b) = refl

-- a branch is read
pub branches-turn : {m : L.List ℕ} {levels i tag next p q o j n : ℕ} {s condition body : Sized} → BranchesLoop m levels i s → tag ≡ (cell_in m s.at).tag
    → tag ≡ THEN
    → next ≡ behind m s.at → HeldDoes m next condition → ListDoes m condition.at levels body → p ≡ capped (s.size + condition.size) → q ≡ capped (p + 3)
    → o ≡ capped (q + body.size) → j ≡ jump_size (cell_in m body.at).tag → n ≡ capped (o + j) → BranchesLoop m levels i (record { at = body.at; size = n })
unfolding brs_cells size_b levels_b head_b
branches-turn {m} {levels} {j = j} {n = n} {s} {body = r} old sees is past condition body a b c jump d =
    loop_turn brs_cells size_b nest_b m levels old (branch-moves s.at past condition body) go
  where
    go : Loop brs_cells size_b nest_b m levels s (record { at = r.at; size = n })
    go none l few = let h = tag-branches none l in absurd (omega arith)
    go (els y) l few = let h = tag-branches (els y) l in absurd (omega arith)
    go (elsif e y z) l few =
        let w = counts_then (counts_then (counts_past THEN 0 0 past) (counts_held condition 0 e)) (counts-list body y (omega arith)) in
        let h : j ≡ jlen z = jump ∙ ap jump_size (tag-branches z (counts_behind (brs_cells z) w l)) ∙ jumps z in
        rest_by brs_cells size_b nest_b m levels _ z ((cell THEN 0 0 ++ held_cells 0 e) ++ body_cells y) refl w (3 + j)
        (add_on _ _ (add_on _ _ (add_on _ _ a b) c) d) (omega arith) (omega arith) (omega arith) l

-- ELSE is read
pub branches_else : {m : L.List ℕ} {levels i tag next n : ℕ} {s rest : Sized} → BranchesLoop m levels i s → tag ≡ (cell_in m s.at).tag → tag ≡ ELSE
    → next ≡ behind m s.at
    → ListDoes m next levels rest → n ≡ capped (s.size + rest.size) → BranchesDo m i levels (record { at = rest.at; size = n })
unfolding brs_cells size_b levels_b head_b
branches_else {m} {levels} {i} {tag} {next} {n} {s} {rest} old sees is past list adds =
    loop_done brs_cells size_b nest_b m levels old (onward m s.at next rest.at (past_cell m s.at past) list.fine) last
  where
    last : (y : Brs) → Lies m s.at (brs_cells y) → nest_b y ≤ levels → capped s.size ≡ s.size → End brs_cells size_b s y (record { at = rest.at; size = n })
    last none l few whole = let h = tag-branches none l in absurd (omega arith)
    last (els y) l few whole =
        end_by brs_cells size_b nest_b m levels (els y) (counts_then (counts_past ELSE 0 0 past) (counts-list list y few)) 0 adds (omega arith) (omega arith) l
    last (elsif e y z) l few whole = let h = tag-branches (elsif e y z) l in absurd (omega arith)

-- END_IF is passed
pub branches_done : {m : L.List ℕ} {levels i tag again j : ℕ} {s : Sized} → BranchesLoop m levels i s → tag ≡ (cell_in m s.at).tag → (tag ≡ THEN → ⊥)
    → again ≡ (cell_in m s.at).tag → (again ≡ ELSE → ⊥) → j ≡ behind m s.at → BranchesDo m i levels (record { at = j; size = s.size })
unfolding brs_cells size_b head_b
branches_done {m} {levels} {i} {tag} {again} {j} {s} old sees no-then looks no_else_lem past =
    loop_done brs_cells size_b nest_b m levels old (past_cell m s.at past) last
  where
    last : (y : Brs) → Lies m s.at (brs_cells y) → nest_b y ≤ levels → capped s.size ≡ s.size → End brs_cells size_b s y (record { at = j; size = s.size })
    last none l few whole = end_past brs_cells size_b nest_b m levels none END_IF 0 0 refl refl past l whole
    last (els y) l few whole = absurd (no_else_lem (looks ∙ tag-branches (els y) l))
    last (elsif e y z) l few whole = absurd (no-then (sees ∙ tag-branches (elsif e y z) l))

-- Groups

abbrev pub GroupsLoop : L.List ℕ → ℕ → ℕ → Sized → Type 0
GroupsLoop m levels i s = Looped grps_cells size_g nest_g m levels i s

pub groups_start : (m : L.List ℕ) (levels i : ℕ) → GroupsLoop m levels i (record { at = i; size = 0 })
groups_start m levels i = loop_start grps_cells size_g nest_g m levels i

-- where the test says that a label lies, a cell does
pub label-ahead : {tag : ℕ} {b : Bool} → b ≡ is_label tag → b ≡ true → tag ≡ 0 → ⊥
unfolding is_label
label-ahead tests holds e = let z : true ≡ false = sym holds ∙ tests ∙ ap is_label e in let y : ◌≡◌ {A = ℕ} 0 1 = cc in omega arith

-- a group moves on
pub group-moves : {m : L.List ℕ} {levels i : ℕ} {tests body : Sized} → LabelsDo m i tests → ListDoes m tests.at levels body → Moves m i body.at
group-moves {m} {i} {tests = t} {body = b} tests body = onward m i t.at b.at tests.fine body.fine

-- a group is read
pub groups-turn : {m : L.List ℕ} {levels i tag p q o n : ℕ} {b : Bool} {s tests body : Sized} → GroupsLoop m levels i s → tag ≡ (cell_in m s.at).tag
    → b ≡ is_label tag → b ≡ true
    → LabelsDo m s.at tests → ListDoes m tests.at levels body → p ≡ capped (s.size + tests.size) → q ≡ capped (p + 4) → o ≡ capped (q + body.size)
    → n ≡ capped (o + 3)
    → GroupsLoop m levels i (record { at = body.at; size = n })
unfolding grps_cells size_g levels_g head_g
groups-turn {m} {levels} {n = n} {s} {body = r} old sees label holds tests body a c d e =
    loop_turn grps_cells size_g nest_g m levels old (group-moves tests body) go
  where
    go : Loop grps_cells size_g nest_g m levels s (record { at = r.at; size = n })
    go (other y) l few =
        let z : true ≡ false = sym holds ∙ label ∙ ap is_label (sees ∙ tag-groups (other y) l) ∙ list-starts y in
        let f : ◌≡◌ {A = ℕ} 0 1 = cc in absurd (omega arith)
    go (grp ls y z) l few =
        let w = counts_then (counts-labels tests ls) (counts-list body y (omega arith)) in
        rest_by grps_cells size_g nest_g m levels _ z (span_cells ls ++ body_cells y) refl w 7
        (add_on _ _ (add_on _ _ (add_on _ _ a c) d) e) (omega arith) (omega arith) (omega arith) l

-- ELSE's list is read
pub groups_done : {m : L.List ℕ} {levels i tag p n : ℕ} {b : Bool} {s rest : Sized} → GroupsLoop m levels i s → tag ≡ (cell_in m s.at).tag → b ≡ is_label tag
    → b ≡ false
    → ListDoes m s.at levels rest → p ≡ capped (s.size + 1) → n ≡ capped (p + rest.size) → GroupsDo m i levels (record { at = rest.at; size = n })
unfolding grps_cells size_g levels_g head_g
groups_done {m} {levels} {i} {tag} {p} {n} {b} {s} {rest} old sees label fails list adds sums = loop_done grps_cells size_g nest_g m levels old list.fine last
  where
    last : (y : Grps) → Lies m s.at (grps_cells y) → nest_g y ≤ levels → capped s.size ≡ s.size → End grps_cells size_g s y (record { at = rest.at; size = n })
    last (other y) l few whole = end_by grps_cells size_g nest_g m levels (other y) (counts-list list y few) 1 (add_on _ _ adds sums) (omega arith) (omega arith) l
    last (grp ls y z) l few whole =
        let f : true ≡ false = sym (ap is_label (sees ∙ tag-groups (grp ls y z) l) ∙ label-starts ls) ∙ sym label ∙ fails in
        let g : ◌≡◌ {A = ℕ} 0 1 = cc in absurd (omega arith)
