-- What a statement does, given what its calls do, by the tag of its first cell. Assumes nothing.
use mathlib.Core.Path.{◌≡◌, refl, sym, ap, ◌∙◌}
use mathlib.Core.Bool.{Bool, true, false}
use mathlib.Core.List as L
use mathlib.Core.List.{[], ◌∷◌, ◌++◌}
use mathlib.Core.Option.{Option}
use Prim.Native.Nat.{ℕ, ◌<◌}
use native.Mathlib.Nat.{le_refl}
use native.Mathlib.Omega.{arith}
use lib.Dec.{eqb}
use lib.IntN.{pos}
use lib.ListN.{length, set, length-set}
use borrow.Author.Tests.{eqb-true, eqb-false}
use Rattle.rules.specs.Base.{ok, ◌>>=◌, need}
use Rattle.rules.specs.Numbers.{bool, dint, same_ty}
use Rattle.rules.specs.Limits.{variable_limit}
use Rattle.rules.specs.Kinds.{FINISH, BOOL, DINT, ASSIGN, IF, CASE, FOR, WHILE, REPEAT}
use Rattle.rules.specs.Core.{if, case, for, while, repeat, nil, none, other}
use Rattle.rules.specs.Syntax.{Name, Exp, Con, Stm, assign_s, if_s, case_s, for_s, while_s, repeat_s, exit_s, Stms, Branches, Groups}
use Rattle.rules.specs.Walk.{Var, assigned, selector, final, step, condition, statement, list}
use Rattle.rules.specs.Cells.{cell, type_kind, name_cell, whole_cells, maybe_cells, stm_cells, list_cells, branch_cells, group_cells}
use Rattle.rules.specs.CoreCells.{stmt_cells}
use Rattle.theorems.specs.TreePlaces.{NameIn, ExpIn, StmIn, i_if, i_case, i_for, i_while, i_repeat, StmsIn, BranchesIn, GroupsIn}
use Rattle.theorems.specs.Spelling.{Spelled}
use Rattle.walk.specs.Steps.{tag_at, Moves}
use Rattle.walk.specs.Walking.{When, Did, Any}
use Rattle.walk.specs.Promises.{scope, Marks, HeldMeans, for_head, for_head_cells, AssignmentMeans, LeaveMeans, ForHeadMeans, StatementMeans, ListMeans, BranchesMean, GroupsMean}
use Rattle.walk.specs.Places.{Step, Bad, Target}
use Rattle.walk.proofs.Marks.{one_more_lem}
use Rattle.walk.proofs.Follow.{begin, gives, bind, still_done}
use Rattle.walk.proofs.Along.{Heads, moved-head, still_headed, heads, joins, follows, given_more, refusal-stays, said, laid, in_two, in_three}
use Rattle.walk.proofs.FirstCells.{never, no_refusal, stm_tag, stm_starts, Tagged, assign_t, if_t, case_t, for_t, while_t, repeat_t, tagged}
use Rattle.walk.proofs.Assignments.{any_slot, any_expr}

-- a FOR is what it is up to its list, and then its list
for_parts : (vs : L.List Var) (slots : L.List ℕ) (inside : Bool) (v : Name) (a e : Exp) (c : Option Con) (l : Stms) → statement vs (for_s v a e c l) slots inside
    ≡ ◌>>=◌ (for_head vs slots v a e c) (λ b. ◌>>=◌ (list vs l (b.slot.slot ∷ slots) true) (λ w. ok (for b.slot.slot b.initial b.last b.by w)))
unfolding statement for_head ◌>>=◌
for_parts vs slots inside v a e c l =
    sym (joins (assigned vs slots v) _ _ ∙ follows (assigned vs slots v) (λ s. joins (need (same_ty s.type dint) 8 v.place) _ _
    ∙ follows (need (same_ty s.type dint) 8 v.place) (λ _. joins (selector vs a) _ _ ∙ follows (selector vs a) (λ x. joins (final vs e) _ _
    ∙ follows (final vs e) (λ y. joins (step c) _ _)))))

-- what is given of a statement is given of its parts
module _ {N : ℕ} {P : Name → Type 0} where
  if_in : {b : Branches} → StmIn N P (if_s b) → BranchesIn N P b
  if_in (i_if b) = b

  case_in : {e : Exp} {g : Groups} → StmIn N P (case_s e g) → ExpIn N P e × GroupsIn N P g
  case_in (i_case e g) = (e, g)

  for_in : {v : Name} {a e : Exp} {c : Option Con} {l : Stms} → StmIn N P (for_s v a e c l) → NameIn N P v × (ExpIn N P a × (ExpIn N P e × StmsIn N P l))
  for_in (i_for v a e c l) = (v, (a, (e, l)))

  while_in : {c : Exp} {l : Stms} → StmIn N P (while_s c l) → ExpIn N P c × StmsIn N P l
  while_in (i_while c l) = (c, l)

  repeat_in : {c : Exp} {l : Stms} → StmIn N P (repeat_s l c) → StmsIn N P l × ExpIn N P c
  repeat_in (i_repeat l c) = (l, c)

module _ (text : L.List ℕ) (count : ℕ) (taken : L.List Bool) (inside : Bool) (m : L.List ℕ) (s : Step) {k : ℕ} (tells : k ≡ tag_at m s) where
  abbrev StmGiven : L.List ℕ → Stm → Type 0
  StmGiven slots x = StmIn (length text) (Spelled text) x × Marks taken slots

  -- what is done past a statement
  abbrev Does : L.List ℕ → Step → L.List Var → L.List ℕ → Stm → Type 0
  Does mₑ r vs slots x = Did (scope text count vs) (StmGiven slots x) Any stmt_cells 0 (stm_cells x) m mₑ s r (statement vs x slots inside)

  -- only a statement of the tag that is ahead matters
  by_tag : (t : ℕ) {mₑ : L.List ℕ} {r : Step} → k ≡ t → (t ≡ FINISH → ⊥) → ((vs : L.List Var) (slots : L.List ℕ) (x : Stm) → Tagged t x → Does mₑ r vs slots x) → StatementMeans text count taken inside m mₑ s r
  by_tag t {mₑ} {r} is more did vs slots x = go (eqb (stm_tag x) t) refl
    where
      go : (b : Bool) → eqb (stm_tag x) t ≡ b → Does mₑ r vs slots x
      go true e = did vs slots x (rw (eqb-true (stm_tag x) t e) at (tagged x))
      go false e = never m s tells (stm_starts x) (λ z. eqb-false (stm_tag x) t e (sym z ∙ is)) (no_refusal m s tells (λ z. more (sym is ∙ z)))

  -- an assignment
  pub statement-assignment : {m₁ : L.List ℕ} {r : Step} → k ≡ ASSIGN → Moves 3 m m₁ s r × AssignmentMeans text count taken m m₁ s r → Moves 3 m m₁ s r × StatementMeans text count taken inside m m₁ s r
  statement-assignment {m₁} {r} is did = (did.0, by_tag ASSIGN is (λ e. omega arith) past)
    where
      past : (vs : L.List Var) (slots : L.List ℕ) (x : Stm) → Tagged ASSIGN x → Does m₁ r vs slots x
      past vs slots (assign_s v e) assign_t = did.1 vs slots inside v e
      past vs slots (if_s _) u = elim u [ ]
      past vs slots (case_s _ _) u = elim u [ ]
      past vs slots (for_s _ _ _ _ _) u = elim u [ ]
      past vs slots (while_s _ _) u = elim u [ ]
      past vs slots (repeat_s _ _) u = elim u [ ]
      past vs slots (exit_s _) u = elim u [ ]

  -- IF and its branches
  pub statement_if : {m₁ m₂ : L.List ℕ} {s₁ r : Step} → k ≡ IF → Heads IF m m₁ s s₁ → Moves 3 m₁ m₂ s₁ r × BranchesMean text count taken inside m₁ m₂ s₁ r
      → Moves 3 m m₂ s r × StatementMeans text count taken inside m m₂ s r
  unfolding statement stm_cells stmt_cells
  statement_if {m₁} {m₂} {s₁} {r} is wrote body = (let i = moved-head IF m s wrote in omega arith, by_tag IF is (λ e. omega arith) past)
    where
      past : (vs : L.List Var) (slots : L.List ℕ) (x : Stm) → Tagged IF x → Does m₂ r vs slots x
      past vs slots (if_s b) if_t =
          begin {Given = StmGiven slots (if_s b)} (λ given. laid (in_two (cell IF 0 0) (branch_cells b))
          (let h₁ = still_headed m wrote.0 given in
          heads IF IF wrote
          (bind none (body.1 vs slots b) (λ at free e. (if_in (h₁ at free e).0, (h₁ at free e).1)) (λ c any.
          gives (if c) (λ at free e. tt) refl (le_refl _)))))
      past vs slots (assign_s _ _) u = elim u [ ]
      past vs slots (case_s _ _) u = elim u [ ]
      past vs slots (for_s _ _ _ _ _) u = elim u [ ]
      past vs slots (while_s _ _) u = elim u [ ]
      past vs slots (repeat_s _ _) u = elim u [ ]
      past vs slots (exit_s _) u = elim u [ ]

  -- CASE, a selector, and its groups
  pub statement-case : {m₁ m₂ m₃ : L.List ℕ} {s₁ s₂ r : Step} → k ≡ CASE → Heads CASE m m₁ s s₁ → Moves 3 m₁ m₂ s₁ s₂ × HeldMeans text count DINT 0 m₁ m₂ s₁ s₂
      → Moves 3 m₂ m₃ s₂ r × GroupsMean text count taken inside m₂ m₃ s₂ r → Moves 3 m m₃ s r × StatementMeans text count taken inside m m₃ s r
  unfolding statement stm_cells stmt_cells selector type_kind
  statement-case {m₁} {m₂} {m₃} {s₁} {s₂} {r} is wrote held body = (let i = moved-head CASE m s wrote in omega arith, by_tag CASE is (λ e. omega arith) past)
    where
      past : (vs : L.List Var) (slots : L.List ℕ) (x : Stm) → Tagged CASE x → Does m₃ r vs slots x
      past vs slots (case_s e g) case_t =
          begin {Given = StmGiven slots (case_s e g)} (λ given. laid (in_three (cell CASE 0 0) (whole_cells e) (group_cells g))
          (let h₁ = still_headed m wrote.0 given in
          let h₂ = still_done (held.1 vs dint e) h₁ in
          heads CASE CASE wrote
          (bind any_expr (held.1 vs dint e) (λ at free z. ((case_in (h₁ at free z).0).0, refl)) (λ y any.
          bind (other nil) (body.1 vs slots g) (λ at free z. ((case_in (h₂ at free z).0).1, (h₂ at free z).1)) (λ w any.
          gives (case y w) (λ at free z. tt) refl (le_refl _))))))
      past vs slots (assign_s _ _) u = elim u [ ]
      past vs slots (if_s _) u = elim u [ ]
      past vs slots (for_s _ _ _ _ _) u = elim u [ ]
      past vs slots (while_s _ _) u = elim u [ ]
      past vs slots (repeat_s _ _) u = elim u [ ]
      past vs slots (exit_s _) u = elim u [ ]

  -- WHILE, a condition, and its list
  pub statement_while : {m₁ m₂ m₃ : L.List ℕ} {s₁ s₂ r : Step} → k ≡ WHILE → Heads WHILE m m₁ s s₁ → Moves 3 m₁ m₂ s₁ s₂ × HeldMeans text count BOOL 0 m₁ m₂ s₁ s₂
      → Moves 3 m₂ m₃ s₂ r × ListMeans text count taken true m₂ m₃ s₂ r → Moves 3 m m₃ s r × StatementMeans text count taken inside m m₃ s r
  unfolding statement stm_cells stmt_cells condition type_kind
  statement_while {m₁} {m₂} {m₃} {s₁} {s₂} {r} is wrote held body = (let i = moved-head WHILE m s wrote in omega arith, by_tag WHILE is (λ e. omega arith) past)
    where
      past : (vs : L.List Var) (slots : L.List ℕ) (x : Stm) → Tagged WHILE x → Does m₃ r vs slots x
      past vs slots (while_s c l) while_t =
          begin {Given = StmGiven slots (while_s c l)} (λ given. laid (in_three (cell WHILE 0 0) (whole_cells c) (list_cells l))
          (let h₁ = still_headed m wrote.0 given in
          let h₂ = still_done (held.1 vs bool c) h₁ in
          heads WHILE WHILE wrote
          (bind any_expr (held.1 vs bool c) (λ at free z. ((while_in (h₁ at free z).0).0, refl)) (λ y any.
          bind nil (body.1 vs slots l) (λ at free z. ((while_in (h₂ at free z).0).1, (h₂ at free z).1)) (λ w any.
          gives (while y w) (λ at free z. tt) refl (le_refl _))))))
      past vs slots (assign_s _ _) u = elim u [ ]
      past vs slots (if_s _) u = elim u [ ]
      past vs slots (case_s _ _) u = elim u [ ]
      past vs slots (for_s _ _ _ _ _) u = elim u [ ]
      past vs slots (repeat_s _ _) u = elim u [ ]
      past vs slots (exit_s _) u = elim u [ ]

  -- REPEAT, its list, and a condition
  pub statement-repeat : {m₁ m₂ m₃ : L.List ℕ} {s₁ s₂ r : Step} → k ≡ REPEAT → Heads REPEAT m m₁ s s₁ → Moves 3 m₁ m₂ s₁ s₂ × ListMeans text count taken true m₁ m₂ s₁ s₂
      → Moves 3 m₂ m₃ s₂ r × HeldMeans text count BOOL 0 m₂ m₃ s₂ r → Moves 3 m m₃ s r × StatementMeans text count taken inside m m₃ s r
  unfolding statement stm_cells stmt_cells condition type_kind
  statement-repeat {m₁} {m₂} {m₃} {s₁} {s₂} {r} is wrote body held = (let i = moved-head REPEAT m s wrote in omega arith, by_tag REPEAT is (λ e. omega arith) past)
    where
      past : (vs : L.List Var) (slots : L.List ℕ) (x : Stm) → Tagged REPEAT x → Does m₃ r vs slots x
      past vs slots (repeat_s l c) repeat_t =
          begin {Given = StmGiven slots (repeat_s l c)} (λ given. laid (in_three (cell REPEAT 0 0) (list_cells l) (whole_cells c))
          (let h₁ = still_headed m wrote.0 given in
          let h₂ = still_done (body.1 vs slots l) h₁ in
          heads REPEAT REPEAT wrote
          (bind nil (body.1 vs slots l) (λ at free z. ((repeat_in (h₁ at free z).0).0, (h₁ at free z).1)) (λ w any.
          bind any_expr (held.1 vs bool c) (λ at free z. ((repeat_in (h₂ at free z).0).1, refl)) (λ y any.
          gives (repeat w y) (λ at free z. tt) refl (le_refl _))))))
      past vs slots (assign_s _ _) u = elim u [ ]
      past vs slots (if_s _) u = elim u [ ]
      past vs slots (case_s _ _) u = elim u [ ]
      past vs slots (for_s _ _ _ _ _) u = elim u [ ]
      past vs slots (while_s _ _) u = elim u [ ]
      past vs slots (exit_s _) u = elim u [ ]

  -- FOR up to its list, and its list, in which its variable is taken
  pub statement_for : {m₁ m₂ : L.List ℕ} {r : Step} (bounds : Target) {inner : L.List Bool} → k ≡ FOR → Moves 3 m m₁ s bounds.step × ForHeadMeans text count taken m m₁ s bounds
      → inner ≡ set taken bounds.slot true → When bounds.step (length inner ≡ variable_limit) → Moves 3 m₁ m₂ bounds.step r × ListMeans text count inner true m₁ m₂ bounds.step r → Moves 3 m m₂ s r × StatementMeans text count taken inside m m₂ s r
  unfolding stm_cells stmt_cells for_head_cells
  statement_for {m₁} {m₂} {r} bounds {inner} is head marks long body = (omega arith, by_tag FOR is (λ e. omega arith) past)
    where
      marked : length inner ≡ variable_limit → {slots : L.List ℕ} (slot : ℕ) → bounds.slot ≡ slot → slot < variable_limit → Marks taken slots → Marks inner (slot ∷ slots)
      marked wide slot e few h =
          let l = sym (length-set taken bounds.slot true) ∙ ap (λ (w : L.List Bool). length w) (sym marks) ∙ wide in
          rw (marks, e) (one_more_lem slot (omega arith) h)

      past : (vs : L.List Var) (slots : L.List ℕ) (x : Stm) → Tagged FOR x → Does m₂ r vs slots x
      past vs slots (for_s v a e c l) for_t =
          begin {Given = StmGiven slots (for_s v a e c l)} (λ given. laid (in_two (((name_cell FOR v ++ whole_cells a) ++ whole_cells e) ++ maybe_cells c) (list_cells l))
          (said (for_parts vs slots inside v a e c l)
          (let h₁ = still_done (head.1 vs slots v a e c) given in
          bind (record { slot = any_slot; initial = any_expr; last = any_expr; by = pos 0 }) (head.1 vs slots v a e c)
          (λ at free z. let g = for_in (given at free z).0 in (g.0, (g.1.0, (g.1.1.0, (given at free z).1)))) (λ b target.
          bind nil (body.1 vs (b.slot.slot ∷ slots) l)
          (λ at free z. ((for_in (h₁ at free z).0).1.1.1, marked (long at free z) b.slot.slot (target at free z).slot (target at free z).few (h₁ at free z).1)) (λ w any.
          gives (for b.slot.slot b.initial b.last b.by w) (λ at free z. tt) refl (le_refl _))))))
      past vs slots (assign_s _ _) u = elim u [ ]
      past vs slots (if_s _) u = elim u [ ]
      past vs slots (case_s _ _) u = elim u [ ]
      past vs slots (while_s _ _) u = elim u [ ]
      past vs slots (repeat_s _ _) u = elim u [ ]
      past vs slots (exit_s _) u = elim u [ ]

  -- none of them: EXIT
  pub statement-exit : {m₁ : L.List ℕ} {r : Step} → (k ≡ ASSIGN → ⊥) → (k ≡ IF → ⊥) → (k ≡ CASE → ⊥) → (k ≡ FOR → ⊥) → (k ≡ WHILE → ⊥) → (k ≡ REPEAT → ⊥)
      → Moves 3 m m₁ s r × LeaveMeans inside m m₁ s r → Moves 3 m m₁ s r × StatementMeans text count taken inside m m₁ s r
  unfolding stm_tag
  statement-exit {m₁} {r} no-assign no-if no-case no-for no-while no-repeat did = (did.0, past)
    where
      stays : (n p : ℕ) → s ≡ Bad n p → r ≡ Bad n p
      stays = refusal-stays (did.1 (scope text count []) [] 0)

      past : (vs : L.List Var) (slots : L.List ℕ) (x : Stm) → Does m₁ r vs slots x
      past vs slots (assign_s v e) = never m s tells (stm_starts (assign_s v e)) no-assign stays
      past vs slots (if_s b) = never m s tells (stm_starts (if_s b)) no-if stays
      past vs slots (case_s e g) = never m s tells (stm_starts (case_s e g)) no-case stays
      past vs slots (for_s v a e c l) = never m s tells (stm_starts (for_s v a e c l)) no-for stays
      past vs slots (while_s c l) = never m s tells (stm_starts (while_s c l)) no-while stays
      past vs slots (repeat_s l c) = never m s tells (stm_starts (repeat_s l c)) no-repeat stays
      past vs slots (exit_s p) = given_more (λ given. tt) (did.1 (scope text count vs) slots p)
