-- What an assignment, a FOR up to its list and EXIT do, given what their calls do. Assumes nothing.
use mathlib.Core.Path.{◌≡◌, refl, sym, ap, ◌∙◌}
use mathlib.Core.Bool.{Bool}
use mathlib.Core.List.{List, [], append-nil}
use Prim.Native.Nat.{ℕ, ◌-◌, ◌≤◌}
use native.Mathlib.Nat.{le_refl}
use native.Mathlib.Omega.{arith}
use lib.Dec.{eqb}
use lib.IntN.{pos}
use lib.ListN.{length}
use Rattle.rules.specs.Numbers.{bool, dint, same_ty}
use Rattle.rules.specs.Kinds.{ASSIGN, FOR, DINT, EXIT}
use Rattle.rules.specs.Core.{Expr, var, assign, exit}
use Rattle.rules.specs.Syntax.{Name, Exp, assign_s}
use Rattle.rules.specs.Walk.{Slot, selector, final, statement}
use Rattle.rules.specs.Cells.{cell, type_kind, name_cell, whole_cells, maybe_cells, stm_cells}
use Rattle.rules.specs.CoreCells.{stmt_cells}
use Rattle.theorems.specs.TreePlaces.{NameIn, ExpIn, StmIn, i_assign}
use Rattle.theorems.specs.Spelling.{Spelled}
use Rattle.walk.specs.Steps.{cell_at, skipped, checked, extended, written, left, Moves}
use Rattle.walk.specs.Walking.{When, stays}
use Rattle.walk.specs.Promises.{scope, Marks, TargetIs, AssignedMeans, ValuedMeans, AssignmentMeans, LeaveMeans, HeldMeans, ByMeans, ForHeadMeans, for_head, for_head_cells}
use Rattle.walk.specs.Places.{Step, Bad, Target}
use Rattle.cells.specs.declared.cell.Cell.{Cell}
use Rattle.walk.proofs.ConstantValues.{dint-kind}
use Rattle.walk.proofs.Moves.{moved-skip, moved-check, moved-write}
use Rattle.walk.proofs.Follow.{begin, gives, bind, checks, looks, skips, writes, still_checked, still_skipped, still_written, still_done}
use Rattle.walk.proofs.Refusals.{moved}
use Rattle.walk.proofs.Along.{laid, in_two, in_four}

-- where only that there is such a thing matters
pub any_slot : Slot
any_slot = record { slot = 0; type = bool }

pub any_expr : Expr
any_expr = var 0

-- what is given of an assignment is given of its name, and of its value
assigned-name : {N : ℕ} {P : Name → Type 0} {v : Name} {e : Exp} → StmIn N P (assign_s v e) → NameIn N P v
assigned-name (i_assign n x) = n

assigned-value : {N : ℕ} {P : Name → Type 0} {v : Name} {e : Exp} → StmIn N P (assign_s v e) → ExpIn N P e
assigned-value (i_assign n x) = x

-- a name, an expression of its type
module _ (text : List ℕ) (count : ℕ) (taken : List Bool) (m₀ : List ℕ) (s : Step) {m₁ m₂ : List ℕ} {s₁ r : Step} (name : Target)
    (found : Moves 3 m₀ m₀ s name.step × AssignedMeans text count taken m₀ s name)
    (wrote : (s₁ ≡ extended m₀ name.step) × (m₁ ≡ written m₀ name.step (cell ASSIGN 0 name.slot)))
    (value : Moves 3 m₁ m₂ s₁ r × ValuedMeans text count name.kind name.place m₁ m₂ s₁ r) where
  -- how far it comes
  assignment-moves : Moves 3 m₀ m₂ s r
  assignment-moves = let k = (moved-write m₀ name.step (cell ASSIGN 0 name.slot) wrote).0 in omega arith

  -- what it does
  assignment-means : AssignmentMeans text count taken m₀ m₂ s r
  unfolding statement stm_cells stmt_cells
  assignment-means vs slots inside v e =
      begin {Given = StmIn (length text) (Spelled text) (assign_s v e) × Marks taken slots} (λ given. laid (in_two (name_cell ASSIGN v) (whole_cells e))
      (bind any_slot (found.1 vs slots ASSIGN v) (λ at free z. (assigned-name (given at free z).0, (given at free z).1)) (λ x is.
      let known = still_written m₀ wrote.0 is in
      let given₁ = still_written m₀ wrote.0 (still_done (found.1 vs slots ASSIGN v) given) in
      writes {slack = 0} ASSIGN 0 x.slot wrote (λ at free z. ap (cell ASSIGN 0) (is at free z).slot)
      (bind any_expr (value.1 vs x.type v.place e) (λ at free z. (assigned-value (given₁ at free z).0, ((known at free z).kind, (known at free z).place))) (λ y any.
      gives (assign x.slot y) (λ at free z. tt) refl (le_refl _))))))

  pub assignment-does : Moves 3 m₀ m₂ s r × AssignmentMeans text count taken m₀ m₂ s r
  assignment-does = (assignment-moves, assignment-means)

-- a name, an initial and a final value, a step
module _ (text : List ℕ) (count : ℕ) (taken : List Bool) (m₀ : List ℕ) (s : Step) {m₁ m₂ m₃ m₄ : List ℕ} {s₁ s₂ s₃ s₄ r : Step} (name : Target)
    (found : Moves 3 m₀ m₀ s name.step × AssignedMeans text count taken m₀ s name)
    (typed : s₁ ≡ checked (eqb name.kind DINT) 8 name.place name.step)
    (wrote : (s₂ ≡ extended m₀ s₁) × (m₁ ≡ written m₀ s₁ (cell FOR 0 name.slot)))
    (initial : Moves 3 m₁ m₂ s₂ s₃ × HeldMeans text count DINT 0 m₁ m₂ s₂ s₃)
    (last : Moves 3 m₂ m₃ s₃ s₄ × HeldMeans text count DINT 1 m₂ m₃ s₃ s₄)
    (by : Moves 3 m₃ m₄ s₄ r × ByMeans m₃ m₄ s₄ r) where
  for_head_moves : Moves 3 m₀ m₄ s r
  for_head_moves =
      let k = (moved-write m₀ s₁ (cell FOR 0 name.slot) wrote).0 in
      let j = moved-check m₀ (eqb name.kind DINT) 8 name.place name.step typed in
      omega arith

  -- what is answered
  abbrev target : Target
  target = record { step = r; slot = name.slot; kind = name.kind; place = name.place }

  -- behind the steps that follow it is the same
  target_is : {v : Name} {x : Slot} → TargetIs v name x → TargetIs v target x
  target_is h = record { slot = h.slot; few = h.few; kind = h.kind; place = h.place }

  for_head_means : ForHeadMeans text count taken m₀ m₄ s target
  unfolding for_head for_head_cells selector final type_kind
  for_head_means vs slots v a e c =
      begin (λ given. laid (in_four (name_cell FOR v) (whole_cells a) (whole_cells e) (maybe_cells c))
      (bind any_slot (found.1 vs slots FOR v) (λ at free z. ((given at free z).0, (given at free z).1.1.1)) (λ x is.
      let given₀ = still_done (found.1 vs slots FOR v) given in
      let known₁ = still_checked (eqb name.kind DINT) 8 name.place typed is in
      let given₁ = still_checked (eqb name.kind DINT) 8 name.place typed given₀ in
      let known₂ = still_written m₀ wrote.0 known₁ in
      let given₂ = still_written m₀ wrote.0 given₁ in
      checks (eqb name.kind DINT) (same_ty x.type dint) 8 name.place v.place typed (λ at free z. (ap (λ k. eqb k DINT) (is at free z).kind ∙ dint-kind x.type, (is at free z).place))
      (writes {slack = 0} FOR 0 x.slot wrote (λ at free z. ap (cell FOR 0) (known₁ at free z).slot)
      (bind any_expr (initial.1 vs dint a) (λ at free z. ((given₂ at free z).1.0, refl)) (λ y any.
      let known₃ = still_done (initial.1 vs dint a) known₂ in
      let given₃ = still_done (initial.1 vs dint a) given₂ in
      bind any_expr (last.1 vs dint e) (λ at free z. ((given₃ at free z).1.1.0, refl)) (λ z any.
      let known₄ = still_done (last.1 vs dint e) known₃ in
      bind (pos 0) (by.1 (scope text count vs) c) (λ at free z. tt) (λ d any.
      gives (record { slot = x; initial = y; last = z; by = d }) (λ at free z. target_is (still_done (by.1 (scope text count vs) c) known₄ at free z)) refl (le_refl _)))))))))

  pub for_head_does : Moves 3 m₀ m₄ s r × ForHeadMeans text count taken m₀ m₄ s target
  for_head_does = (for_head_moves, for_head_means)

-- EXIT
module _ (inside : Bool) (m₀ : List ℕ) (s : Step) {m₁ : List ℕ} {s₁ s₂ r : Step} {word : Cell} (sees : word ≡ cell_at m₀ s) (past : s₁ ≡ skipped m₀ s)
    (looped : s₂ ≡ checked inside 12 word.place s₁) (wrote : (r ≡ extended m₀ s₂) × (m₁ ≡ written m₀ s₂ (cell EXIT 0 0))) where
  leave-moves : Moves 3 m₀ m₁ s r
  leave-moves =
      let i = moved-skip m₀ s past in
      let j = moved-check m₀ inside 12 word.place s₁ looped in
      let k = (moved-write m₀ s₂ (cell EXIT 0 0) wrote).0 in
      omega arith

  leave-means : LeaveMeans inside m₀ m₁ s r
  unfolding statement stm_cells stmt_cells
  leave-means σ slots p =
      begin (λ given. laid (sym (append-nil (cell EXIT p 0))) (looks EXIT p 0 [] (λ sight.
      let near : When s (word.place ≡ p) = λ at free z. ap (λ c. c.place) (sees ∙ sight at free z) in
      skips EXIT p 0 past
      (checks inside inside 12 word.place p looped (λ at free z. (refl, still_skipped m₀ past near at free z))
      (writes {slack = 0} EXIT 0 0 wrote (λ at free z. refl)
      (gives exit (λ at free z. tt) refl (le_refl _)))))))

  pub leave-does : Moves 3 m₀ m₁ s r × LeaveMeans inside m₀ m₁ s r
  leave-does = (leave-moves, leave-means)

-- Behind a refusal nothing is done

pub valued_none : {text : List ℕ} {count wanted place : ℕ} {m : List ℕ} {n p : ℕ} → (left m (Bad n p) ≤ left m (Bad n p) - 3) × ValuedMeans text count wanted place m m (Bad n p) (Bad n p)
valued_none = (moved _ _ _ _ _, λ vs t p e. stays)

pub held_none : {text : List ℕ} {count wanted : ℕ} (more : ℕ) {m : List ℕ} {n p : ℕ} → (left m (Bad n p) ≤ left m (Bad n p) - 3) × HeldMeans text count wanted more m m (Bad n p) (Bad n p)
held_none more = (moved _ _ _ _ _, λ vs t e. stays)

pub by_none : {m : List ℕ} {n p : ℕ} → (left m (Bad n p) ≤ left m (Bad n p) - 3) × ByMeans m m (Bad n p) (Bad n p)
by_none = (moved _ _ _ _ _, λ σ c. stays)
