-- The loops over a list's statements, IF's branches and CASE's groups, against the rules, which take the first and then the others. Assumes nothing.
use mathlib.Core.Path.{◌≡◌, refl, sym, ap, ◌∙◌}
use mathlib.Core.Bool.{Bool, true, false}
use mathlib.Core.List as L
use mathlib.Core.List.{[], ◌++◌, append_assoc, append-nil}
use Prim.Native.Nat.{ℕ, ◌-◌, ◌≤◌}
use native.Mathlib.Nat.{le_refl}
use native.Mathlib.Omega.{arith}
use lib.ListN.{length}
use Rattle.rules.specs.Base.{Res, ok, ◌>>=◌}
use Rattle.rules.specs.Numbers.{bool}
use Rattle.rules.specs.Kinds.{FINISH, BOOL, THEN, ELSE, END_IF, END_CASE}
use Rattle.rules.specs.Core.{exit, nil, cons, none, els, elsif, other, grp, lnil}
use Rattle.rules.specs.Syntax.{Name, Exp, Label, Stm, Stms, empty, then, Branches, no_else, else_b, branch, Groups, no_other, else_g, group}
use Rattle.rules.specs.Walk.{Var, condition, labels, statement, list, branches, groups}
use Rattle.rules.specs.Cells.{cell, end_cell, type_kind, whole_cells, labels_cells, list_cells, branch_cells, group_cells}
use Rattle.rules.specs.CoreCells.{held_cells, span_cells, stmt_cells, body_cells, brs_cells, grps_cells}
use Rattle.theorems.specs.TreePlaces.{ExpIn, StmIn, StmsIn, i_then, BranchesIn, i_else_b, i_branch, GroupsIn, i_else_g, i_group}
use Rattle.theorems.specs.Spelling.{Spelled}
use Rattle.walk.specs.Steps.{tag_at, skipped, left}
use Rattle.walk.specs.Constants.{is_constant}
use Rattle.walk.specs.Walking.{Scope, When, Did, stays, Any}
use Rattle.walk.specs.Promises.{scope, Marks, HeldMeans, LabelsMean, StatementMeans, ListMeans, BranchesMean, GroupsMean}
use Rattle.walk.specs.Places.{Step, Bad}
use Rattle.walk.proofs.Follow.{place_of, free_of, Ends, off, begin, gives, bind, skips, still_skipped, still_done}
use Rattle.walk.proofs.Refusals.{moved}
use Rattle.walk.proofs.Along.{Heads, still_headed, heads, joins, same, said, laid, refusal_headed, in_two, then_three, behind_three, behind_four}
use Rattle.walk.proofs.FirstCells.{elsewhere, no_refusal, no_end, list_ends, list_goes_on, no_else_lem, an_else, a_branch, opens, no_other_lem, an_other, a_group, group-opens}
use Rattle.walk.proofs.Assignments.{any_expr}

-- From the loop's beginning at s₁ with the numbers m₁ it has come to s with the numbers m. What was said so far is put before the rest by `wrap`, and is encoded by v. Holds y: what is given of
-- what is ahead
module _ {X : Type 0} {A : Type 0} (σ : Scope) (Holds : X → Type 0) (cells : X → L.List ℕ) (encode : A → L.List ℕ) (rule : X → Res A) (m₁ : L.List ℕ) (s₁ : Step) where
  -- what is still ahead at s ends at r, where x was ahead at the beginning
  abbrev pub Rest : X → L.List ℕ → Step → L.List ℕ → Step → Type 0
  Rest x mₑ r m s = (v : L.List ℕ) (wrap : A → A) → ((a : A) → encode (wrap a) ≡ v ++ encode a) → (y : X) → When s (Holds y)
      → Ends σ m₁ (place_of s₁) (free_of s₁) Any encode 0 (length (cells x)) mₑ r 0 v (cells y) m s (◌>>=◌ (rule y) (λ a. ok (wrap a)))

  -- whatever ends that ends the whole
  abbrev pub Rounds : L.List ℕ → Step → Type 0
  Rounds m s = (x : X) (mₑ : L.List ℕ) (r : Step) → Rest x mₑ r m s → When s₁ (Holds x)
      → Ends σ m₁ (place_of s₁) (free_of s₁) Any encode 0 (length (cells x)) mₑ r 0 [] (cells x) m₁ s₁ (rule x)

  -- nothing was said yet
  rounds_start : Rounds m₁ s₁
  rounds_start x mₑ r k h = said (same (rule x)) (k [] (λ a. a) (λ a. refl) x h)

  -- the whole, where the rest ends
  rounds_end : {m mₑ : L.List ℕ} {s r : Step} → Rounds m s → ((x : X) → Rest x mₑ r m s) → (x : X) → Did σ (Holds x) Any encode 0 (cells x) m₁ mₑ s₁ r (rule x)
  rounds_end {mₑ} {r} loop last x = begin (λ given. loop x mₑ r (last x) given)

  -- the loop ended at a refusal
  rounds_refused : {m : L.List ℕ} {n p : ℕ} → Rounds m (Bad n p) → (x : X) → Did σ (Holds x) Any encode 0 (cells x) m₁ m s₁ (Bad n p) (rule x)
  rounds_refused loop x = rounds_end loop (λ x v wrap q y h. off refl) x

-- what is given of a list, of branches or of groups is given of their parts
module _ {N : ℕ} {P : Name → Type 0} where
  then_in : {x : Stm} {l : Stms} → StmsIn N P (then x l) → StmIn N P x × StmsIn N P l
  then_in (i_then x l) = (x, l)

  else_in : {l : Stms} → BranchesIn N P (else_b l) → StmsIn N P l
  else_in (i_else_b l) = l

  branch_in : {c : Exp} {l : Stms} {b : Branches} → BranchesIn N P (branch c l b) → ExpIn N P c × (StmsIn N P l × BranchesIn N P b)
  branch_in (i_branch c l b) = (c, (l, b))

  other_in : {l : Stms} → GroupsIn N P (else_g l) → StmsIn N P l
  other_in (i_else_g l) = l

  group_in : {ls : L.List Label} {l : Stms} {g : Groups} → GroupsIn N P (group ls l g) → StmsIn N P l × GroupsIn N P g
  group_in (i_group ls l g) = (l, g)

-- a tag with which a group starts is none with which it doesn't
other_tag : {k t : ℕ} → opens k ≡ true → opens t ≡ false → k ≡ t → ⊥
other_tag a b e = let z : true ≡ false = sym a ∙ ap opens e ∙ b in let y : ◌≡◌ {A = ℕ} 0 1 = cc in omega arith

module _ (text : L.List ℕ) (count : ℕ) (taken : L.List Bool) (inside : Bool) where
  -- A list's statements

  abbrev ListIn : L.List ℕ → Stms → Type 0
  ListIn slots x = StmsIn (length text) (Spelled text) x × Marks taken slots

  abbrev ListRest : L.List Var → L.List ℕ → L.List ℕ → Step → Stms → L.List ℕ → Step → L.List ℕ → Step → Type 0
  ListRest vs slots = Rest (scope text count vs) (ListIn slots) list_cells body_cells (λ x. list vs x slots inside)

  abbrev pub ListRounds : L.List ℕ → Step → L.List ℕ → Step → Type 0
  ListRounds m₁ s₁ m s = (vs : L.List Var) (slots : L.List ℕ) → Rounds (scope text count vs) (ListIn slots) list_cells body_cells (λ x. list vs x slots inside) m₁ s₁ m s

  pub list_start : (m₁ : L.List ℕ) (s₁ : Step) → ListRounds m₁ s₁ m₁ s₁
  list_start m₁ s₁ vs slots = rounds_start _ _ _ _ _ m₁ s₁

  -- one more
  pub list-turn : {m₁ m m₂ : L.List ℕ} {s₁ s s₂ : Step} {k : ℕ} → ListRounds m₁ s₁ m s → k ≡ tag_at m s → (k ≡ FINISH → ⊥) → StatementMeans text count taken inside m m₂ s s₂ → ListRounds m₁ s₁ m₂ s₂
  unfolding list body_cells list_cells ◌>>=◌
  list-turn {m₁} {m} {m₂} {s₁} {s} {s₂} old tells more did vs slots x mₑ r rest = old vs slots x mₑ r turn
    where
      turn : ListRest vs slots m₁ s₁ x mₑ r m s
      turn v wrap q empty h = elsewhere m s tells list_ends more (no_refusal m s tells more)
      turn v wrap q (then z l) h =
          let h₂ = still_done (did vs slots z) h in
          said (joins (statement vs z slots inside) _ _)
          (bind exit (did vs slots z) (λ at free e. ((then_in (h at free e).0).0, (h at free e).1)) (λ a any.
          said (joins (list vs l slots inside) _ _)
          (rest (v ++ stmt_cells a) (λ b. wrap (cons a b)) (λ b. q (cons a b) ∙ sym (append_assoc v (stmt_cells a) (body_cells b))) l
          (λ at free e. ((then_in (h₂ at free e).0).1, (h₂ at free e).1)))))

  -- the cell that closes it
  pub list_done : {m₁ m mₑ : L.List ℕ} {s₁ s r : Step} {k : ℕ} → ListRounds m₁ s₁ m s → k ≡ tag_at m s → k ≡ FINISH → Heads FINISH m mₑ s r → ListMeans text count taken inside m₁ mₑ s₁ r
  unfolding list body_cells list_cells end_cell ◌>>=◌
  list_done {m₁} {m} {mₑ} {s₁} {s} {r} loop tells end wrote vs slots = rounds_end _ _ _ _ _ m₁ s₁ (loop vs slots) last
    where
      last : (x : Stms) → ListRest vs slots m₁ s₁ x mₑ r m s
      last x v wrap q empty h = laid (sym (append-nil (cell FINISH 0 0))) (heads FINISH FINISH wrote (gives (wrap nil) (λ at free e. tt) (q nil) (le_refl _)))
      last x v wrap q (then z l) h = elsewhere m s tells (list_goes_on z l) (λ e. no_end z (sym e ∙ end)) (refusal_headed m s wrote.0)

  -- a refusal
  pub list_refused : {m₁ m : L.List ℕ} {s₁ : Step} {n p : ℕ} → ListRounds m₁ s₁ m (Bad n p) → ListMeans text count taken inside m₁ m s₁ (Bad n p)
  list_refused {m₁} {s₁ = s₁} loop vs slots = rounds_refused _ _ _ _ _ m₁ s₁ (loop vs slots)

  -- IF's branches

  abbrev BranchIn : L.List ℕ → Branches → Type 0
  BranchIn slots x = BranchesIn (length text) (Spelled text) x × Marks taken slots

  abbrev BranchRest : L.List Var → L.List ℕ → L.List ℕ → Step → Branches → L.List ℕ → Step → L.List ℕ → Step → Type 0
  BranchRest vs slots = Rest (scope text count vs) (BranchIn slots) branch_cells brs_cells (λ x. branches vs x slots inside)

  abbrev pub BranchRounds : L.List ℕ → Step → L.List ℕ → Step → Type 0
  BranchRounds m₁ s₁ m s = (vs : L.List Var) (slots : L.List ℕ) → Rounds (scope text count vs) (BranchIn slots) branch_cells brs_cells (λ x. branches vs x slots inside) m₁ s₁ m s

  pub branches_start : (m₁ : L.List ℕ) (s₁ : Step) → BranchRounds m₁ s₁ m₁ s₁
  branches_start m₁ s₁ vs slots = rounds_start _ _ _ _ _ m₁ s₁

  -- one more condition with its list
  pub branches-turn : {m₁ m m₂ m₃ m₄ : L.List ℕ} {s₁ s s₂ s₃ s₄ : Step} {k : ℕ} → BranchRounds m₁ s₁ m s → k ≡ tag_at m s → k ≡ THEN → Heads THEN m m₂ s s₂
      → HeldMeans text count BOOL 0 m₂ m₃ s₂ s₃ → ListMeans text count taken inside m₃ m₄ s₃ s₄ → BranchRounds m₁ s₁ m₄ s₄
  unfolding branches condition brs_cells branch_cells type_kind ◌>>=◌
  branches-turn {m₁} {m} {s₁} {s} old tells is wrote held body vs slots x mₑ r rest = old vs slots x mₑ r turn
    where
      turn : BranchRest vs slots m₁ s₁ x mₑ r m s
      turn v wrap q no_else h = elsewhere m s tells no_else_lem (λ e. omega arith) (no_refusal m s tells (λ e. omega arith))
      turn v wrap q (else_b l) h = elsewhere m s tells (an_else l) (λ e. omega arith) (no_refusal m s tells (λ e. omega arith))
      turn v wrap q (branch c l b) h =
          let h₂ = still_headed m wrote.0 h in
          let h₃ = still_done (held vs bool c) h₂ in
          let h₄ = still_done (body vs slots l) h₃ in
          laid (then_three (cell THEN 0 0) (whole_cells c) (list_cells l) (branch_cells b))
          (said (joins (condition vs c) _ _)
          (heads THEN THEN wrote
          (bind any_expr (held vs bool c) (λ at free e. ((branch_in (h₂ at free e).0).0, refl)) (λ a any.
          said (joins (list vs l slots inside) _ _)
          (bind nil (body vs slots l) (λ at free e. ((branch_in (h₃ at free e).0).1.0, (h₃ at free e).1)) (λ w any.
          said (joins (branches vs b slots inside) _ _)
          (rest (((v ++ cell THEN 0 0) ++ held_cells 0 a) ++ body_cells w) (λ d. wrap (elsif a w d)) (λ d. q (elsif a w d) ∙ behind_four v (cell THEN 0 0) (held_cells 0 a) (body_cells w) (brs_cells d)) b
          (λ at free e. ((branch_in (h₄ at free e).0).1.1, (h₄ at free e).1)))))))))

  -- ELSE and a list
  pub branches_else : {m₁ m m₂ mₑ : L.List ℕ} {s₁ s s₂ r : Step} {k : ℕ} → BranchRounds m₁ s₁ m s → k ≡ tag_at m s → k ≡ ELSE → Heads ELSE m m₂ s s₂ → ListMeans text count taken inside m₂ mₑ s₂ r
      → BranchesMean text count taken inside m₁ mₑ s₁ r
  unfolding branches brs_cells branch_cells ◌>>=◌
  branches_else {m₁} {m} {mₑ} {s₁} {s} {r} loop tells is wrote body vs slots = rounds_end _ _ _ _ _ m₁ s₁ (loop vs slots) last
    where
      last : (x : Branches) → BranchRest vs slots m₁ s₁ x mₑ r m s
      last x v wrap q no_else h = elsewhere m s tells no_else_lem (λ e. omega arith) (no_refusal m s tells (λ e. omega arith))
      last x v wrap q (else_b l) h =
          let h₂ = still_headed m wrote.0 h in
          laid (in_two (cell ELSE 0 0) (list_cells l))
          (said (joins (list vs l slots inside) _ _)
          (heads ELSE ELSE wrote
          (bind nil (body vs slots l) (λ at free e. (else_in (h₂ at free e).0, (h₂ at free e).1)) (λ a any.
          gives (wrap (els a)) (λ at free e. tt) (q (els a) ∙ sym (append_assoc v (cell ELSE 0 0) (body_cells a))) (le_refl _)))))
      last x v wrap q (branch c l b) h = elsewhere m s tells (a_branch c l b) (λ e. omega arith) (no_refusal m s tells (λ e. omega arith))

  -- no ELSE
  pub branches_done : {m₁ m mₑ : L.List ℕ} {s₁ s r : Step} {k : ℕ} → BranchRounds m₁ s₁ m s → k ≡ tag_at m s → (k ≡ THEN → ⊥) → (k ≡ ELSE → ⊥) → Heads END_IF m mₑ s r
      → BranchesMean text count taken inside m₁ mₑ s₁ r
  unfolding branches brs_cells branch_cells ◌>>=◌
  branches_done {m₁} {m} {mₑ} {s₁} {s} {r} loop tells not-then not-else wrote vs slots = rounds_end _ _ _ _ _ m₁ s₁ (loop vs slots) last
    where
      last : (x : Branches) → BranchRest vs slots m₁ s₁ x mₑ r m s
      last x v wrap q no_else h = laid (sym (append-nil (cell END_IF 0 0))) (heads END_IF END_IF wrote (gives (wrap none) (λ at free e. tt) (q none) (le_refl _)))
      last x v wrap q (else_b l) h = elsewhere m s tells (an_else l) not-else (refusal_headed m s wrote.0)
      last x v wrap q (branch c l b) h = elsewhere m s tells (a_branch c l b) not-then (refusal_headed m s wrote.0)

  -- a refusal
  pub branches_refused : {m₁ m : L.List ℕ} {s₁ : Step} {n p : ℕ} → BranchRounds m₁ s₁ m (Bad n p) → BranchesMean text count taken inside m₁ m s₁ (Bad n p)
  branches_refused {m₁} {s₁ = s₁} loop vs slots = rounds_refused _ _ _ _ _ m₁ s₁ (loop vs slots)

  -- CASE's groups

  abbrev GroupIn : L.List ℕ → Groups → Type 0
  GroupIn slots x = GroupsIn (length text) (Spelled text) x × Marks taken slots

  abbrev GroupRest : L.List Var → L.List ℕ → L.List ℕ → Step → Groups → L.List ℕ → Step → L.List ℕ → Step → Type 0
  GroupRest vs slots = Rest (scope text count vs) (GroupIn slots) group_cells grps_cells (λ x. groups vs x slots inside)

  abbrev pub GroupRounds : L.List ℕ → Step → L.List ℕ → Step → Type 0
  GroupRounds m₁ s₁ m s = (vs : L.List Var) (slots : L.List ℕ) → Rounds (scope text count vs) (GroupIn slots) group_cells grps_cells (λ x. groups vs x slots inside) m₁ s₁ m s

  pub groups_start : (m₁ : L.List ℕ) (s₁ : Step) → GroupRounds m₁ s₁ m₁ s₁
  groups_start m₁ s₁ vs slots = rounds_start _ _ _ _ _ m₁ s₁

  -- one more group
  pub groups-turn : {m₁ m m₂ m₃ : L.List ℕ} {s₁ s s₂ s₃ : Step} {k : ℕ} {opened : Bool} → GroupRounds m₁ s₁ m s → k ≡ tag_at m s → opened ≡ opens k → opened ≡ true
      → LabelsMean m m₂ s s₂ → ListMeans text count taken inside m₂ m₃ s₂ s₃ → GroupRounds m₁ s₁ m₃ s₃
  unfolding groups grps_cells group_cells ◌>>=◌ is_constant
  groups-turn {m₁} {m} {s₁} {s} {k} old tells sees is marks body vs slots x mₑ r rest = old vs slots x mₑ r turn
    where
      at_group : opens k ≡ true
      at_group = sym sees ∙ is

      turn : GroupRest vs slots m₁ s₁ x mₑ r m s
      turn v wrap q no_other h = elsewhere m s tells no_other_lem (other_tag at_group refl) (no_refusal m s tells (other_tag at_group refl))
      turn v wrap q (else_g l) h = elsewhere m s tells (an_other l) (other_tag at_group refl) (no_refusal m s tells (other_tag at_group refl))
      turn v wrap q (group ls l g) h =
          let h₂ = still_done (marks (scope text count vs) ls) h in
          let h₃ = still_done (body vs slots l) h₂ in
          laid (append_assoc (labels_cells ls) (list_cells l) (group_cells g))
          (said (joins (labels ls) _ _)
          (bind lnil (marks (scope text count vs) ls) (λ at free e. tt) (λ a any.
          said (joins (list vs l slots inside) _ _)
          (bind nil (body vs slots l) (λ at free e. ((group_in (h₂ at free e).0).0, (h₂ at free e).1)) (λ w any.
          said (joins (groups vs g slots inside) _ _)
          (rest ((v ++ span_cells a) ++ body_cells w) (λ d. wrap (grp a w d)) (λ d. q (grp a w d) ∙ behind_three v (span_cells a) (body_cells w) (grps_cells d)) g
          (λ at free e. ((group_in (h₃ at free e).0).1, (h₃ at free e).1))))))))

  -- ELSE and a list
  pub groups_else : {m₁ m mₑ : L.List ℕ} {s₁ s s₂ r : Step} {k : ℕ} → GroupRounds m₁ s₁ m s → k ≡ tag_at m s → k ≡ ELSE → s₂ ≡ skipped m s → ListMeans text count taken inside m mₑ s₂ r
      → GroupsMean text count taken inside m₁ mₑ s₁ r
  unfolding groups grps_cells group_cells ◌>>=◌ is_constant
  groups_else {m₁} {m} {mₑ} {s₁} {s} {r} loop tells is past body vs slots = rounds_end _ _ _ _ _ m₁ s₁ (loop vs slots) last
    where
      last : (x : Groups) → GroupRest vs slots m₁ s₁ x mₑ r m s
      last x v wrap q no_other h = elsewhere m s tells no_other_lem (λ e. omega arith) (no_refusal m s tells (λ e. omega arith))
      last x v wrap q (else_g l) h =
          let h₂ = still_skipped m past h in
          laid (in_two (cell ELSE 0 0) (list_cells l))
          (said (joins (list vs l slots inside) _ _)
          (skips ELSE 0 0 past
          (bind nil (body vs slots l) (λ at free e. (other_in (h₂ at free e).0, (h₂ at free e).1)) (λ a any.
          gives (wrap (other a)) (λ at free e. tt) (q (other a)) (omega arith)))))
      last x v wrap q (group ls l g) h = elsewhere m s tells (a_group ls l g) (λ e. other_tag (group-opens ls) (ap opens is) (sym e)) (no_refusal m s tells (λ e. omega arith))

  -- no ELSE
  pub groups_done : {m₁ m mₑ : L.List ℕ} {s₁ s r : Step} {k : ℕ} {opened : Bool} → GroupRounds m₁ s₁ m s → k ≡ tag_at m s → opened ≡ opens k → opened ≡ false → (k ≡ ELSE → ⊥) → Heads FINISH m mₑ s r
      → GroupsMean text count taken inside m₁ mₑ s₁ r
  unfolding groups grps_cells body_cells end_cell group_cells ◌>>=◌
  groups_done {m₁} {m} {mₑ} {s₁} {s} {r} loop tells sees is not-else wrote vs slots = rounds_end _ _ _ _ _ m₁ s₁ (loop vs slots) last
    where
      last : (x : Groups) → GroupRest vs slots m₁ s₁ x mₑ r m s
      last x v wrap q no_other h = laid (sym (append-nil (cell END_CASE 0 0))) (heads END_CASE FINISH wrote (gives (wrap (other nil)) (λ at free e. tt) (q (other nil)) (le_refl _)))
      last x v wrap q (else_g l) h = elsewhere m s tells (an_other l) not-else (refusal_headed m s wrote.0)
      last x v wrap q (group ls l g) h = elsewhere m s tells (a_group ls l g) (λ e. other_tag (group-opens ls) (sym sees ∙ is) (sym e)) (refusal_headed m s wrote.0)

  -- a refusal
  pub groups_refused : {m₁ m : L.List ℕ} {s₁ : Step} {n p : ℕ} → GroupRounds m₁ s₁ m (Bad n p) → GroupsMean text count taken inside m₁ m s₁ (Bad n p)
  groups_refused {m₁} {s₁ = s₁} loop vs slots = rounds_refused _ _ _ _ _ m₁ s₁ (loop vs slots)

  -- behind a refusal nothing is walked
  pub list_none : {m : L.List ℕ} {n p : ℕ} → (left m (Bad n p) ≤ left m (Bad n p) - 3) × ListMeans text count taken inside m m (Bad n p) (Bad n p)
  list_none = (moved _ _ _ _ _, λ vs slots x. stays)

  pub groups_none : {m : L.List ℕ} {n p : ℕ} → (left m (Bad n p) ≤ left m (Bad n p) - 3) × GroupsMean text count taken inside m m (Bad n p) (Bad n p)
  groups_none = (moved _ _ _ _ _, λ vs slots x. stays)
