-- The walk through a tree with its places in the text refuses only as the list allows.
use Rattle.std.specs.Prelude.{Bool, true, false, ℕ, ◌≤◌}
use Rattle.std.proofs.Math.Option.{Option, none, some}
use mathlib.Core.List.{List, []}
use Rattle.std.proofs.Common.{arith}
use Rattle.rules.specs.Numbers.{Ty}
use Rattle.rules.specs.Syntax.{Name, Exp, Con, Label, Decl, Stm, Stms, Branches, Groups, Tree}
use Rattle.rules.specs.Walk.{Var, Slot, find, known_at, known, con_first, exact, initial, declare, declare_all, high_of, span, labels, step, first, expression, placed, condition, selector, final, assigned, statement, list, branches, groups, walk}
use Rattle.theorems.specs.Refusals.{Fine, f_ok, f_refuse, Any, after, needs}
use Rattle.theorems.specs.TokenPlaces.{Each, e_nil, e_cons}
use Rattle.theorems.specs.TreePlaces.{NameIn, ExpIn, i_named, i_whole, i_truth, i_paren, i_unary, i_binary, ConIn, i_bool, i_int, MaybeIn, i_none, i_some, LabelIn, i_label, DeclIn, StmIn, i_assign, i_if, i_case, i_for, i_while, i_repeat, i_exit, StmsIn, i_empty, i_then, BranchesIn, i_no_else, i_else_b, i_branch, GroupsIn, i_no_other, i_else_g, i_group, TreeIn}

module _ (N : ℕ) (P : Name → Type 0) where
  -- Names

  known_at_fine : (p : ℕ) (s : Option Slot) → p ≤ N → Fine N Any (known_at p s)
  unfolding known_at
  known_at_fine p none h = f_refuse 7 p (omega arith)
  known_at_fine p (some s) h = f_ok tt

  known_fine : (vs : List Var) (v : Name) → NameIn N P v → Fine N Any (known vs v)
  unfolding known
  known_fine vs v h = known_at_fine v.place (find v.letters 0 vs) h.near

  -- Constants, declarations and labels

  con_first_in : {c : Con} → ConIn N c → con_first c ≤ N
  unfolding con_first
  con_first_in (i_bool h) = h
  con_first_in (i_int h k) = h

  exact_fine : {c : Con} → ConIn N c → Fine N Any (exact c)
  unfolding exact
  exact_fine (i_bool h) = f_ok tt
  exact_fine (i_int h k) = needs _ _ _ (omega arith)

  initial_fine : (d : Decl) {c : Option Con} → NameIn N P d.name → MaybeIn N c → Fine N Any (initial d c)
  unfolding initial
  initial_fine d h i_none = f_ok tt
  initial_fine d h (i_some k) = after (exact_fine k) (λ _. after (needs _ _ _ (omega arith)) (λ _. f_ok tt))

  declare_fine : (vs : List Var) {d : Decl} → DeclIn N P d → Fine N Any (declare vs d)
  unfolding declare
  declare_fine vs {d} h = after (needs _ _ _ (omega arith)) (λ _. after (needs _ _ _ (omega arith)) (λ _. after (initial_fine d h.name h.init) (λ _. f_ok tt)))

  declare_all_fine : (vs : List Var) {ds : List Decl} → Each (DeclIn N P) ds → Fine N Any (declare_all vs ds)
  unfolding declare_all
  declare_all_fine vs e_nil = f_ok tt
  declare_all_fine vs (e_cons h k) = after (declare_fine vs h) (λ ws. declare_all_fine ws k)

  high_in : {c : Con} {d : Option Con} → ConIn N c → MaybeIn N d → ConIn N (high_of c d)
  unfolding high_of
  high_in h i_none = h
  high_in h (i_some k) = k

  span_fine : {c d : Con} → ConIn N c → ConIn N d → Fine N Any (span c d)
  unfolding span
  span_fine h k = let p = con_first_in h in after (exact_fine h) (λ _. after (exact_fine k) (λ _. after (needs _ _ _ (omega arith)) (λ _. needs _ _ _ (omega arith))))

  labels_fine : {ls : List Label} → Each (LabelIn N) ls → Fine N Any (labels ls)
  unfolding labels
  labels_fine e_nil = f_ok tt
  labels_fine (e_cons (i_label h k) j) = after (span_fine h (high_in h k)) (λ _. after (labels_fine j) (λ _. f_ok tt))

  step_fine : {c : Option Con} → MaybeIn N c → Fine N Any (step c)
  unfolding step
  step_fine i_none = f_ok tt
  step_fine (i_some h) = let p = con_first_in h in after (exact_fine h) (λ _. after (needs _ _ _ (omega arith)) (λ _. after (needs _ _ _ (omega arith)) (λ _. f_ok tt)))

  -- Expressions

  first_in : {e : Exp} → ExpIn N P e → first e ≤ N
  unfolding first
  first_in (i_named h) = h.near
  first_in (i_whole h) = h
  first_in (i_truth h) = h
  first_in (i_paren h k) = h
  first_in (i_unary h k) = h
  first_in (i_binary h k j) = first_in k

  module _ (vs : List Var) where
    expression_fine : {e : Exp} → ExpIn N P e → Fine N Any (expression vs e)
    unfolding expression
    expression_fine (i_named h) = after (known_fine vs _ h) (λ _. f_ok tt)
    expression_fine (i_whole h) = after (needs _ _ _ (omega arith)) (λ _. f_ok tt)
    expression_fine (i_truth h) = f_ok tt
    expression_fine (i_paren h k) = after (expression_fine k) (λ _. f_ok tt)
    expression_fine (i_unary h k) = after (expression_fine k) (λ _. after (needs _ _ _ (omega arith)) (λ _. f_ok tt))
    expression_fine (i_binary h k j) = after (expression_fine k) (λ _. after (expression_fine j) (λ _. after (needs _ _ _ (omega arith)) (λ _. f_ok tt)))

    placed_fine : (t : Ty) (p more : ℕ) {e : Exp} → p ≤ N → ExpIn N P e → Fine N Any (placed vs t p more e)
    unfolding placed
    placed_fine t p more h k = let q = first_in k in after (expression_fine k) (λ _. after (needs _ _ _ (omega arith)) (λ _. after (needs _ _ _ (omega arith)) (λ _. f_ok tt)))

    -- where its own first byte is named
    own_fine : (t : Ty) (more : ℕ) {e : Exp} → ExpIn N P e → Fine N Any (placed vs t (first e) more e)
    own_fine t more h = placed_fine t _ more (first_in h) h

    -- Statements

    assigned_fine : (taken : List ℕ) (v : Name) → NameIn N P v → Fine N Any (assigned vs taken v)
    unfolding assigned
    assigned_fine taken v h = after (known_fine vs v h) (λ _. after (needs _ _ _ (omega arith)) (λ _. f_ok tt))

    mutual
      unfolding statement condition selector final

      statement_fine : {s : Stm} → StmIn N P s → (taken : List ℕ) (inside : Bool) → Fine N Any (statement vs s taken inside)
      statement_fine (i_assign h k) taken inside = after (assigned_fine taken _ h) (λ s. after (placed_fine _ _ _ h.near k) (λ _. f_ok tt))
      statement_fine (i_if h) taken inside = after (branches_fine h taken inside) (λ _. f_ok tt)
      statement_fine (i_case h k) taken inside = after (own_fine _ _ h) (λ _. after (groups_fine k taken inside) (λ _. f_ok tt))
      statement_fine (i_for h a e c l) taken inside =
          after (assigned_fine taken _ h) (λ s. after (needs _ _ _ (omega arith)) (λ _. after (own_fine _ _ a) (λ _. after (own_fine _ _ e) (λ _. after (step_fine c) (λ _. after (list_fine l _ true) (λ _. f_ok tt))))))
      statement_fine (i_while h k) taken inside = after (own_fine _ _ h) (λ _. after (list_fine k taken true) (λ _. f_ok tt))
      statement_fine (i_repeat h k) taken inside = after (list_fine h taken true) (λ _. after (own_fine _ _ k) (λ _. f_ok tt))
      statement_fine (i_exit h) taken inside = after (needs _ _ _ (omega arith)) (λ _. f_ok tt)

      list_fine : {l : Stms} → StmsIn N P l → (taken : List ℕ) (inside : Bool) → Fine N Any (list vs l taken inside)
      list_fine i_empty taken inside = f_ok tt
      list_fine (i_then h k) taken inside = after (statement_fine h taken inside) (λ _. after (list_fine k taken inside) (λ _. f_ok tt))

      branches_fine : {b : Branches} → BranchesIn N P b → (taken : List ℕ) (inside : Bool) → Fine N Any (branches vs b taken inside)
      branches_fine i_no_else taken inside = f_ok tt
      branches_fine (i_else_b h) taken inside = after (list_fine h taken inside) (λ _. f_ok tt)
      branches_fine (i_branch h k j) taken inside = after (own_fine _ _ h) (λ _. after (list_fine k taken inside) (λ _. after (branches_fine j taken inside) (λ _. f_ok tt)))

      groups_fine : {g : Groups} → GroupsIn N P g → (taken : List ℕ) (inside : Bool) → Fine N Any (groups vs g taken inside)
      groups_fine i_no_other taken inside = f_ok tt
      groups_fine (i_else_g h) taken inside = after (list_fine h taken inside) (λ _. f_ok tt)
      groups_fine (i_group h k j) taken inside = after (labels_fine h) (λ _. after (list_fine k taken inside) (λ _. after (groups_fine j taken inside) (λ _. f_ok tt)))

  pub walk_fine : {t : Tree} → TreeIn N P t → Fine N Any (walk t)
  unfolding walk
  walk_fine h = after (declare_all_fine [] h.decls) (λ vs. after (list_fine vs h.body [] false) (λ _. f_ok tt))
