-- What the functions of the walk promise of the cells ahead.
use Rattle.std.specs.Prelude.{◌≡◌, Bool, false, ◌++◌, ℕ, ◌<◌, ℤ, length, get_or}
use mathlib.Core.List as L
use Rattle.std.proofs.Math.Option.{Option}
use Rattle.rules.specs.Base.{Res, ok, ◌>>=◌, member, need}
use Rattle.rules.specs.Numbers.{Ty, dint, same_ty}
use Rattle.rules.specs.Bytes.{to_u}
use Rattle.rules.specs.Kinds.{FOR, BY}
use Rattle.rules.specs.Core.{Expr}
use Rattle.rules.specs.Depth.{height}
use Rattle.rules.specs.Syntax.{Name, Exp, Con, Label, Stm, assign_s, Stms, Branches, Groups, exit_s}
use Rattle.rules.specs.Walk.{Var, Slot, Typed, con_first, con_type, con_value, exact, labels, step, first, expression, placed, selector, final, assigned, statement, list, branches, groups}
use Rattle.rules.specs.Cells.{cell, type_kind, name_cell, whole_cells, con_cells, maybe_cells, labels_cells, stm_cells, list_cells, branch_cells, group_cells}
use Rattle.rules.specs.CoreCells.{expr_cells, held_cells, span_cells, stmt_cells, body_cells, brs_cells, grps_cells}
use Rattle.theorems.specs.TreePlaces.{NameIn, ExpIn, StmIn, StmsIn, BranchesIn, GroupsIn}
use Rattle.theorems.specs.Spelling.{Spelled}
use Rattle.walk.specs.Operands.{capped}
use Rattle.walk.specs.Walking.{Scope, Did, Nothing, Any, nothing}
use Rattle.walk.specs.Places.{Step, Literal, Value, Target}

abbrev pub scope : L.List ℕ → ℕ → L.List Var → Scope
scope text count vs = record { text = text; count = count; vars = vs }

-- Constants

pub record ConstantIs (c : Con) (r : Literal) : Type 0 where
  pub allowed : exact c ≡ ok tt
  pub first : r.first ≡ con_first c
  pub kind : r.kind ≡ type_kind (con_type c)
  pub bits : r.bits ≡ to_u (con_value c)

abbrev pub ConstantMeans : L.List ℕ → Step → Literal → Type 0
ConstantMeans m s r = (σ : Scope) (c : Con) → Did σ Nothing (λ _. ConstantIs c r) nothing 3 (con_cells c) m m s r.step (exact c)

abbrev pub LabelsMean : L.List ℕ → L.List ℕ → Step → Step → Type 0
LabelsMean m m' s r = (σ : Scope) (ls : L.List Label) → Did σ Nothing Any span_cells 0 (labels_cells ls) m m' s r (labels ls)

abbrev pub ByMeans : L.List ℕ → L.List ℕ → Step → Step → Type 0
ByMeans m m' s r = (σ : Scope) (c : Option Con) → Did σ Nothing Any (λ z. cell BY 0 (to_u z)) 0 (maybe_cells c) m m' s r (step c)

-- Expressions, whose names stand in the text

abbrev pub Spells : L.List ℕ → Exp → Type 0
Spells text e = ExpIn (length text) (Spelled text) e

pub record ValueIs (e : Exp) (r : Value) (x : Typed) : Type 0 where
  pub first : r.first ≡ first e
  pub kind : r.kind ≡ type_kind x.type
  pub height : r.height ≡ capped (height x.core)

abbrev pub ExpressionMeans : L.List ℕ → ℕ → L.List ℕ → L.List ℕ → Step → Value → Type 0
ExpressionMeans text count m m' s r =
    (vs : L.List Var) (e : Exp) → Did (scope text count vs) (Spells text e) (ValueIs e r) (λ x. expr_cells x.core) 3 (whole_cells e) m m' s r.step (expression vs e)

abbrev pub ValuedMeans : L.List ℕ → ℕ → ℕ → ℕ → L.List ℕ → L.List ℕ → Step → Step → Type 0
ValuedMeans text count wanted place m m' s r =
    (vs : L.List Var) (t : Ty) (p : ℕ) (e : Exp)
    → Did (scope text count vs) (Spells text e × ((wanted ≡ type_kind t) × (place ≡ p))) Any (held_cells 0) 0 (whole_cells e) m m' s r (placed vs t p 0 e)

abbrev pub HeldMeans : L.List ℕ → ℕ → ℕ → ℕ → L.List ℕ → L.List ℕ → Step → Step → Type 0
HeldMeans text count wanted more m m' s r =
    (vs : L.List Var) (t : Ty) (e : Exp) → Did (scope text count vs) (Spells text e × (wanted ≡ type_kind t)) Any (held_cells more) 0 (whole_cells e) m m' s r (placed vs t (first e) more e)

-- Statements

-- the marks of the slots that enclosing FORs have
pub record Marks (taken : L.List Bool) (slots : L.List ℕ) : Type 0 where
  pub marks : (i : ℕ) → i < 64 → get_or taken i false ≡ member i slots

pub record TargetIs (v : Name) (r : Target) (s : Slot) : Type 0 where
  pub slot : r.slot ≡ s.slot
  pub few : s.slot < 64
  pub kind : r.kind ≡ type_kind s.type
  pub place : r.place ≡ v.place

abbrev pub AssignedMeans : L.List ℕ → ℕ → L.List Bool → L.List ℕ → Step → Target → Type 0
AssignedMeans text count taken m s r =
    (vs : L.List Var) (slots : L.List ℕ) (tag : ℕ) (v : Name)
    → Did (scope text count vs) (NameIn (length text) (Spelled text) v × Marks taken slots) (TargetIs v r) nothing 3 (name_cell tag v) m m s r.step (assigned vs slots v)

abbrev pub AssignmentMeans : L.List ℕ → ℕ → L.List Bool → L.List ℕ → L.List ℕ → Step → Step → Type 0
AssignmentMeans text count taken m m' s r =
    (vs : L.List Var) (slots : L.List ℕ) (inside : Bool) (v : Name) (e : Exp)
    → Did (scope text count vs) (StmIn (length text) (Spelled text) (assign_s v e) × Marks taken slots) Any stmt_cells 0 (stm_cells (assign_s v e)) m m' s r (statement vs (assign_s v e) slots inside)

abbrev pub LeaveMeans : Bool → L.List ℕ → L.List ℕ → Step → Step → Type 0
LeaveMeans inside m m' s r =
    (σ : Scope) (slots : L.List ℕ) (p : ℕ) → Did σ Nothing Any stmt_cells 0 (stm_cells (exit_s p)) m m' s r (statement σ.vars (exit_s p) slots inside)

-- a FOR up to its list
pub record Bounds : Type 0 where
  pub slot : Slot
  pub initial : Expr
  pub last : Expr
  pub by : ℤ

unfoldable pub for_head : L.List Var → L.List ℕ → Name → Exp → Exp → Option Con → Res Bounds
for_head vs slots v a e c = do
  s ← assigned vs slots v
  _ ← need (same_ty s.type dint) 8 v.place
  x ← selector vs a
  y ← final vs e
  d ← step c
  ok (record { slot = s; initial = x; last = y; by = d })

unfoldable pub for_head_cells : Bounds → L.List ℕ
for_head_cells b = ((cell FOR 0 b.slot.slot ++ held_cells 0 b.initial) ++ held_cells 1 b.last) ++ cell BY 0 (to_u b.by)

abbrev pub ForHeadMeans : L.List ℕ → ℕ → L.List Bool → L.List ℕ → L.List ℕ → Step → Target → Type 0
ForHeadMeans text count taken m m' s r =
    (vs : L.List Var) (slots : L.List ℕ) (v : Name) (a e : Exp) (c : Option Con)
    → Did (scope text count vs) (NameIn (length text) (Spelled text) v × (Spells text a × (Spells text e × Marks taken slots))) (λ b. TargetIs v r b.slot) for_head_cells 0
    (((name_cell FOR v ++ whole_cells a) ++ whole_cells e) ++ maybe_cells c) m m' s r.step (for_head vs slots v a e c)

abbrev pub StatementMeans : L.List ℕ → ℕ → L.List Bool → Bool → L.List ℕ → L.List ℕ → Step → Step → Type 0
StatementMeans text count taken inside m m' s r =
    (vs : L.List Var) (slots : L.List ℕ) (x : Stm)
    → Did (scope text count vs) (StmIn (length text) (Spelled text) x × Marks taken slots) Any stmt_cells 0 (stm_cells x) m m' s r (statement vs x slots inside)

abbrev pub ListMeans : L.List ℕ → ℕ → L.List Bool → Bool → L.List ℕ → L.List ℕ → Step → Step → Type 0
ListMeans text count taken inside m m' s r =
    (vs : L.List Var) (slots : L.List ℕ) (x : Stms)
    → Did (scope text count vs) (StmsIn (length text) (Spelled text) x × Marks taken slots) Any body_cells 0 (list_cells x) m m' s r (list vs x slots inside)

abbrev pub BranchesMean : L.List ℕ → ℕ → L.List Bool → Bool → L.List ℕ → L.List ℕ → Step → Step → Type 0
BranchesMean text count taken inside m m' s r =
    (vs : L.List Var) (slots : L.List ℕ) (x : Branches)
    → Did (scope text count vs) (BranchesIn (length text) (Spelled text) x × Marks taken slots) Any brs_cells 0 (branch_cells x) m m' s r (branches vs x slots inside)

abbrev pub GroupsMean : L.List ℕ → ℕ → L.List Bool → Bool → L.List ℕ → L.List ℕ → Step → Step → Type 0
GroupsMean text count taken inside m m' s r =
    (vs : L.List Var) (slots : L.List ℕ) (x : Groups)
    → Did (scope text count vs) (GroupsIn (length text) (Spelled text) x × Marks taken slots) Any grps_cells 0 (group_cells x) m m' s r (groups vs x slots inside)
