-- The walk refuses with no number above 16: 17 is that of lent memory alone. Assumes nothing.
use mathlib.Core.Path.{◌≡◌}
use mathlib.Core.Bool.{Bool, true, false}
use mathlib.Core.Option.{Option, none, some}
use mathlib.Core.List.{List, [], ◌∷◌}
use Prim.Native.Nat.{ℕ, ◌≤◌}
use native.Mathlib.Omega.{arith}
use Rattle.rules.specs.Base.{Res, ok, refuse, ◌>>=◌, need}
use Rattle.rules.specs.Numbers.{Ty}
use Rattle.rules.specs.Syntax.{Name, Exp, named, whole, truth, paren, unary, binary, Con, con_bool, con_int, Label, label, Decl, Stm, assign_s, if_s, case_s, for_s, while_s, repeat_s, exit_s, Stms, empty, then, Branches, no_else, else_b, branch, Groups, no_other, else_g, group, Tree}
use Rattle.rules.specs.Walk.{Var, Slot, find, known_at, known, exact, initial, declare, declare_all, high_of, span, labels, step, expression, placed, condition, selector, final, assigned, statement, list, branches, groups, walk}

-- an answer, or a refusal with such a number
data Low {A : Type 0} : Res A → Type 0 where
  l_ok : {a : A} → Low (ok a)
  l_refuse : {n p : ℕ} → (1 ≤ n) × (n ≤ 16) → Low (refuse n p)

-- a first step and what follows it
after : {A B : Type 0} {r : Res A} {f : A → Res B} → Low r → ((a : A) → Low (f a)) → Low (◌>>=◌ r f)
unfolding ◌>>=◌
after (l_ok {a}) k = k a
after (l_refuse h) k = l_refuse h

-- a test
needs : (b : Bool) (n p : ℕ) → (1 ≤ n) × (n ≤ 16) → Low (need b n p)
unfolding need
needs true n p h = l_ok
needs false n p h = l_refuse h

-- Names, constants, declarations and labels

known_low : (vs : List Var) (v : Name) → Low (known vs v)
unfolding known known_at
known_low vs v = by (find v.letters 0 vs)
  where
    by : (s : Option Slot) → Low (known_at v.place s)
    by none = l_refuse {n = 7} (omega arith, omega arith)
    by (some s) = l_ok

exact_low : (c : Con) → Low (exact c)
unfolding exact
exact_low (con_bool p b) = l_ok
exact_low (con_int p below q v) = needs _ _ _ (omega arith, omega arith)

initial_low : (d : Decl) (c : Option Con) → Low (initial d c)
unfolding initial
initial_low d none = l_ok
initial_low d (some c) = after (exact_low c) (λ _. after (needs _ _ _ (omega arith, omega arith)) (λ _. l_ok))

declare_all_low : (vs : List Var) (ds : List Decl) → Low (declare_all vs ds)
unfolding declare_all declare
declare_all_low vs [] = l_ok
declare_all_low vs (d ∷ ds) =
    after (after (needs _ _ _ (omega arith, omega arith)) (λ _. after (needs _ _ _ (omega arith, omega arith)) (λ _. after (initial_low d d.init) (λ _. l_ok)))) (λ ws. declare_all_low ws ds)

span_low : (c d : Con) → Low (span c d)
unfolding span
span_low c d = after (exact_low c) (λ _. after (exact_low d) (λ _. after (needs _ _ _ (omega arith, omega arith)) (λ _. needs _ _ _ (omega arith, omega arith))))

labels_low : (ls : List Label) → Low (labels ls)
unfolding labels
labels_low [] = l_ok
labels_low (label c d ∷ ls) = after (span_low c (high_of c d)) (λ _. after (labels_low ls) (λ _. l_ok))

step_low : (c : Option Con) → Low (step c)
unfolding step
step_low none = l_ok
step_low (some c) = after (exact_low c) (λ _. after (needs _ _ _ (omega arith, omega arith)) (λ _. after (needs _ _ _ (omega arith, omega arith)) (λ _. l_ok)))

module _ (vs : List Var) where
  -- Expressions

  expression_low : (e : Exp) → Low (expression vs e)
  unfolding expression
  expression_low (named v) = after (known_low vs v) (λ _. l_ok)
  expression_low (whole p v) = after (needs _ _ _ (omega arith, omega arith)) (λ _. l_ok)
  expression_low (truth p b) = l_ok
  expression_low (paren p a) = after (expression_low a) (λ _. l_ok)
  expression_low (unary p s a) = after (expression_low a) (λ _. after (needs _ _ _ (omega arith, omega arith)) (λ _. l_ok))
  expression_low (binary p o a b) = after (expression_low a) (λ _. after (expression_low b) (λ _. after (needs _ _ _ (omega arith, omega arith)) (λ _. l_ok)))

  placed_low : (t : Ty) (p more : ℕ) (e : Exp) → Low (placed vs t p more e)
  unfolding placed
  placed_low t p more e = after (expression_low e) (λ _. after (needs _ _ _ (omega arith, omega arith)) (λ _. after (needs _ _ _ (omega arith, omega arith)) (λ _. l_ok)))

  -- Statements

  assigned_low : (taken : List ℕ) (v : Name) → Low (assigned vs taken v)
  unfolding assigned
  assigned_low taken v = after (known_low vs v) (λ _. after (needs _ _ _ (omega arith, omega arith)) (λ _. l_ok))

  mutual
    unfolding statement condition selector final

    statement_low : (s : Stm) (taken : List ℕ) (inside : Bool) → Low (statement vs s taken inside)
    statement_low (assign_s v e) taken inside = after (assigned_low taken v) (λ _. after (placed_low _ _ _ e) (λ _. l_ok))
    statement_low (if_s b) taken inside = after (branches_low b taken inside) (λ _. l_ok)
    statement_low (case_s e g) taken inside = after (placed_low _ _ _ e) (λ _. after (groups_low g taken inside) (λ _. l_ok))
    statement_low (for_s v a e c l) taken inside =
        after (assigned_low taken v) (λ s. after (needs _ _ _ (omega arith, omega arith)) (λ _. after (placed_low _ _ _ a) (λ _. after (placed_low _ _ _ e) (λ _. after (step_low c) (λ _. after (list_low l _ true) (λ _. l_ok))))))
    statement_low (while_s c l) taken inside = after (placed_low _ _ _ c) (λ _. after (list_low l taken true) (λ _. l_ok))
    statement_low (repeat_s l c) taken inside = after (list_low l taken true) (λ _. after (placed_low _ _ _ c) (λ _. l_ok))
    statement_low (exit_s p) taken inside = after (needs _ _ _ (omega arith, omega arith)) (λ _. l_ok)

    list_low : (l : Stms) (taken : List ℕ) (inside : Bool) → Low (list vs l taken inside)
    list_low empty taken inside = l_ok
    list_low (then s l) taken inside = after (statement_low s taken inside) (λ _. after (list_low l taken inside) (λ _. l_ok))

    branches_low : (b : Branches) (taken : List ℕ) (inside : Bool) → Low (branches vs b taken inside)
    branches_low no_else taken inside = l_ok
    branches_low (else_b l) taken inside = after (list_low l taken inside) (λ _. l_ok)
    branches_low (branch c l b) taken inside = after (placed_low _ _ _ c) (λ _. after (list_low l taken inside) (λ _. after (branches_low b taken inside) (λ _. l_ok)))

    groups_low : (g : Groups) (taken : List ℕ) (inside : Bool) → Low (groups vs g taken inside)
    groups_low no_other taken inside = l_ok
    groups_low (else_g l) taken inside = after (list_low l taken inside) (λ _. l_ok)
    groups_low (group ls l g) taken inside = after (labels_low ls) (λ _. after (list_low l taken inside) (λ _. after (groups_low g taken inside) (λ _. l_ok)))

-- The whole

walk_low : (t : Tree) → Low (walk t)
unfolding walk
walk_low t = after (declare_all_low [] t.decls) (λ vs. after (list_low vs t.body [] false) (λ _. l_ok))

-- the number of its refusal
pub walk_refused : (t : Tree) (n p : ℕ) → walk t ≡ refuse n p → (1 ≤ n) × (n ≤ 16)
walk_refused t n p e = by e (walk_low t)
  where
    by : {A : Type 0} {r : Res A} → r ≡ refuse n p → Low r → (1 ≤ n) × (n ≤ 16)
    by e l_ok = let z : ◌≡◌ {A = ℕ} 0 1 = cc in absurd (omega arith)
    by e (l_refuse {n = k} h) = let same : k ≡ n = cc in (omega arith, omega arith)
