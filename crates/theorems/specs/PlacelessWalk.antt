-- The walk of a tree without its places: the same core program without its places, or the same refusal at place 0.
use mathlib.Core.List as L
use Rattle.std.specs.Prelude.{◌≡◌, refl, Bool, true, false, [], ◌∷◌, map, ℕ, leb, length}
use Rattle.std.proofs.Math.Option
use Rattle.std.proofs.Math.Option.{Option, none, some}
use Rattle.rules.specs.Numbers.{Ty}
use Rattle.rules.specs.Core.{Expr, Program}
use Rattle.rules.specs.Base.{Res, ok, refuse, ◌>>=◌, need}
use Rattle.rules.specs.Syntax.{Name, Sign, minus, plus, inverse, Exp, named, whole, truth, paren, unary, binary, Con, con_bool, con_int, Label, label, Decl, Stm, assign_s, if_s, case_s, for_s, while_s, repeat_s, exit_s, Stms, empty, then, Branches, no_else, else_b, branch, Groups, no_other, else_g, group, Tree, parse}
use Rattle.rules.specs.Walk.{Var, Slot, known_at, known, con_first, con_type, con_value, exact, initial, declare, declare_all, high_of, span, labels, step, first, Typed, typed, sign_core, expression, placed, condition, selector, final, assigned, statement, list, branches, groups, walk}
use Rattle.rules.specs.Limits.{text_limit, code_limit, memory_numbers}
use Rattle.rules.specs.Tokens.{Token, tokens}
use Rattle.rules.specs.Translation.{code_of}
use Rattle.rules.specs.Image.{image}
use Rattle.rules.specs.Compile.{front, compiled}
use Rattle.theorems.specs.PlacelessCode.{bare_e, bare_s, bare_l, bare_b, bare_g, bare_program, height_bare, code_bare, image_bare}

-- The tree with 0 for every place

unfoldable pub bare_name : Name → Name
bare_name v = record { place = 0; letters = v.letters }

unfoldable pub bare_exp : Exp → Exp
bare_exp (named v) = named (bare_name v)
bare_exp (whole p v) = whole 0 v
bare_exp (truth p b) = truth 0 b
bare_exp (paren p a) = paren 0 (bare_exp a)
bare_exp (unary p s a) = unary 0 s (bare_exp a)
bare_exp (binary p o a b) = binary 0 o (bare_exp a) (bare_exp b)

unfoldable pub bare_con : Con → Con
bare_con (con_bool p b) = con_bool 0 b
bare_con (con_int p below q v) = con_int 0 below 0 v

unfoldable pub bare_label : Label → Label
bare_label (label c d) = label (bare_con c) (Option.map bare_con d)

unfoldable pub bare_decl : Decl → Decl
bare_decl d = record { name = bare_name d.name; type = d.type; init = Option.map bare_con d.init }

unfoldable mutual
  pub bare_stm : Stm → Stm
  bare_stm (assign_s v e) = assign_s (bare_name v) (bare_exp e)
  bare_stm (if_s b) = if_s (bare_branches b)
  bare_stm (case_s e g) = case_s (bare_exp e) (bare_groups g)
  bare_stm (for_s v a e c l) = for_s (bare_name v) (bare_exp a) (bare_exp e) (Option.map bare_con c) (bare_stms l)
  bare_stm (while_s c l) = while_s (bare_exp c) (bare_stms l)
  bare_stm (repeat_s l c) = repeat_s (bare_stms l) (bare_exp c)
  bare_stm (exit_s p) = exit_s 0

  pub bare_stms : Stms → Stms
  bare_stms empty = empty
  bare_stms (then s l) = then (bare_stm s) (bare_stms l)

  pub bare_branches : Branches → Branches
  bare_branches no_else = no_else
  bare_branches (else_b l) = else_b (bare_stms l)
  bare_branches (branch c l b) = branch (bare_exp c) (bare_stms l) (bare_branches b)

  pub bare_groups : Groups → Groups
  bare_groups no_other = no_other
  bare_groups (else_g l) = else_g (bare_stms l)
  bare_groups (group ls l g) = group (map bare_label ls) (bare_stms l) (bare_groups g)

unfoldable pub bare_tree : Tree → Tree
bare_tree t = record { decls = map bare_decl t.decls; body = bare_stms t.body }

-- Answers

unfoldable pub bare_res : {A : Type 0} → (A → A) → Res A → Res A
bare_res e (ok a) = ok (e a)
bare_res e (refuse n p) = refuse n 0

-- r' is r without places
pub record Bare {A : Type 0} (e : A → A) (r r' : Res A) : Type 0 where
  pub bare : r' ≡ bare_res e r

abbrev pub as_is : {A : Type 0} → A → A
as_is a = a

kept : {A : Type 0} {e : A → A} (a : A) → Bare e (ok a) (ok (e a))
unfolding bare_res
kept a = record { bare = refl }

needs : (d : Bool) (n p : ℕ) → Bare as_is (need d n p) (need d n 0)
unfolding need bare_res
needs true n p = record { bare = refl }
needs false n p = record { bare = refl }

-- two steps
after : {A B : Type 0} (e : A → A) (d : B → B) (r : Res A) (f f' : A → Res B) → ((a : A) → Bare d (f a) (f' (e a))) → ◌>>=◌ (bare_res e r) f' ≡ bare_res d (◌>>=◌ r f)
unfolding ◌>>=◌ bare_res
after e d (ok a) f f' k = (k a).bare
after e d (refuse n p) f f' k = refl

bind : {A B : Type 0} {e : A → A} {d : B → B} {r r' : Res A} {f : A → Res B} (f' : A → Res B) → Bare e r r' → ((a : A) → Bare d (f a) (f' (e a))) → Bare d (◌>>=◌ r f) (◌>>=◌ r' f')
bind {e} {d} {r} {f = f} f' h k = record { bare = rw h.bare (after e d r f f' k) }

-- Constants

-- what the walk asks of a constant
record SameCon (c c' : Con) : Type 0 where
  first : con_first c' ≡ 0
  type : con_type c' ≡ con_type c
  value : con_value c' ≡ con_value c
  exact : Bare as_is (exact c) (exact c')

same_con : (c : Con) → SameCon c (bare_con c)
unfolding bare_con con_first con_type con_value exact
same_con (con_bool p b) = record { first = refl; type = refl; value = refl; exact = kept tt }
same_con (con_int p below q v) = record { first = refl; type = refl; value = refl; exact = needs _ _ _ }

high_of_bare : (c : Con) (d : Option Con) → high_of (bare_con c) (Option.map bare_con d) ≡ bare_con (high_of c d)
unfolding high_of
high_of_bare c none = refl
high_of_bare c (some d) = refl

labels_bare : (ls : L.List Label) → Bare as_is (labels ls) (labels (map bare_label ls))
unfolding labels span bare_label
labels_bare [] = kept _
labels_bare (label c d ∷ ls) =
    let h = same_con c in let k = same_con (high_of c d) in
    simp (high_of_bare c d, h.first, h.type, h.value, k.type, k.value)
    (bind _ (bind _ h.exact (λ _. bind _ k.exact (λ _. bind _ (needs _ _ _) (λ _. needs _ _ _)))) (λ _. bind _ (labels_bare ls) (λ r. kept _)))

step_bare : (c : Option Con) → Bare as_is (step c) (step (Option.map bare_con c))
unfolding step
step_bare none = kept _
step_bare (some c) = let h = same_con c in simp (h.first, h.type, h.value) (bind _ h.exact (λ _. bind _ (needs _ _ _) (λ _. bind _ (needs _ _ _) (λ _. kept _))))

-- Declarations

initial_bare : (d : Decl) (c : Option Con) → Bare as_is (initial d c) (initial (bare_decl d) (Option.map bare_con c))
unfolding initial bare_decl bare_name
initial_bare d none = kept _
initial_bare d (some c) = let h = same_con c in simp (h.type, h.value) (bind _ h.exact (λ _. bind _ (needs _ _ _) (λ _. kept _)))

declare_bare : (vs : L.List Var) (d : Decl) → Bare as_is (declare vs d) (declare vs (bare_decl d))
unfolding declare bare_decl bare_name
declare_bare vs d = bind _ (needs _ _ _) (λ _. bind _ (needs _ _ _) (λ _. bind _ (initial_bare d d.init) (λ z. kept _)))

declare_all_bare : (vs : L.List Var) (ds : L.List Decl) → Bare as_is (declare_all vs ds) (declare_all vs (map bare_decl ds))
unfolding declare_all
declare_all_bare vs [] = kept vs
declare_all_bare vs (d ∷ ds) = bind _ (declare_bare vs d) (λ ws. declare_all_bare ws ds)

-- Expressions

first_bare : (e : Exp) → first (bare_exp e) ≡ 0
unfolding first bare_exp bare_name
first_bare (named v) = refl
first_bare (whole p v) = refl
first_bare (truth p b) = refl
first_bare (paren p a) = refl
first_bare (unary p s a) = refl
first_bare (binary p o a b) = first_bare a

unfoldable bare_typed : Typed → Typed
bare_typed x = typed (bare_e x.core) x.type

sign_bare : (p : ℕ) (s : Sign) (e : Expr) → sign_core 0 s (bare_e e) ≡ bare_e (sign_core p s e)
unfolding sign_core bare_e
sign_bare p minus e = refl
sign_bare p plus e = refl
sign_bare p inverse e = refl

known-at : (p : ℕ) (o : Option Slot) → Bare as_is (known_at p o) (known_at 0 o)
unfolding known_at bare_res
known-at p none = record { bare = refl }
known-at p (some s) = record { bare = refl }

module _ (vs : L.List Var) where
  known_bare : (v : Name) → Bare as_is (known vs v) (known vs (bare_name v))
  unfolding known bare_name
  known_bare v = known-at _ _

  expression_bare : (e : Exp) → Bare bare_typed (expression vs e) (expression vs (bare_exp e))
  unfolding expression bare_exp bare_typed typed bare_e
  expression_bare (named v) = bind _ (known_bare v) (λ s. kept _)
  expression_bare (whole p v) = bind _ (needs _ _ _) (λ _. kept _)
  expression_bare (truth p b) = kept _
  expression_bare (paren p a) = bind _ (expression_bare a) (λ x. kept _)
  expression_bare (unary p s a) = bind _ (expression_bare a) (λ x. bind _ (needs _ _ _) (λ _. rw (sign_bare p) (kept _)))
  expression_bare (binary p o a b) = bind _ (expression_bare a) (λ x. bind _ (expression_bare b) (λ y. bind _ (needs _ _ _) (λ _. kept _)))

  placed_bare : (t : Ty) (p more : ℕ) (e : Exp) → Bare bare_e (placed vs t p more e) (placed vs t 0 more (bare_exp e))
  unfolding placed bare_typed typed
  placed_bare t p more e = simp first_bare (bind _ (expression_bare e) (λ x. simp height_bare (bind _ (needs _ _ _) (λ _. bind _ (needs _ _ _) (λ _. kept _)))))

  -- an expression that is refused at its own first byte
  own_place : (t : Ty) (more : ℕ) (e : Exp) → Bare bare_e (placed vs t (first e) more e) (placed vs t (first (bare_exp e)) more (bare_exp e))
  own_place t more e = rw (first_bare e) (placed_bare t (first e) more e)

  -- Statements

  assigned_bare : (taken : L.List ℕ) (v : Name) → Bare as_is (assigned vs taken v) (assigned vs taken (bare_name v))
  unfolding assigned bare_name
  assigned_bare taken v = bind _ (known_bare v) (λ s. bind _ (needs _ _ _) (λ _. kept s))

  mutual
    unfolding statement condition selector final bare_stm bare_s bare_name

    statement_bare : (s : Stm) (taken : L.List ℕ) (inside : Bool) → Bare bare_s (statement vs s taken inside) (statement vs (bare_stm s) taken inside)
    statement_bare (assign_s v e) taken inside = bind _ (assigned_bare taken v) (λ s. bind _ (placed_bare _ _ _ e) (λ x. kept _))
    statement_bare (if_s b) taken inside = bind _ (branches_bare b taken inside) (λ c. kept _)
    statement_bare (case_s e g) taken inside = bind _ (own_place _ _ e) (λ x. bind _ (groups_bare g taken inside) (λ h. kept _))
    statement_bare (for_s v a e c l) taken inside =
        bind _ (assigned_bare taken v) (λ s. bind _ (needs _ _ _) (λ _. bind _ (own_place _ _ a) (λ x. bind _ (own_place _ _ e) (λ y.
        bind _ (step_bare c) (λ d. bind _ (list_bare l (s.slot ∷ taken) true) (λ m. kept _))))))
    statement_bare (while_s c l) taken inside = bind _ (own_place _ _ c) (λ x. bind _ (list_bare l taken true) (λ m. kept _))
    statement_bare (repeat_s l c) taken inside = bind _ (list_bare l taken true) (λ m. bind _ (own_place _ _ c) (λ x. kept _))
    statement_bare (exit_s p) taken inside = bind _ (needs _ _ _) (λ _. kept _)

    list_bare : (l : Stms) (taken : L.List ℕ) (inside : Bool) → Bare bare_l (list vs l taken inside) (list vs (bare_stms l) taken inside)
    list_bare empty taken inside = kept _
    list_bare (then s l) taken inside = bind _ (statement_bare s taken inside) (λ x. bind _ (list_bare l taken inside) (λ m. kept _))

    branches_bare : (b : Branches) (taken : L.List ℕ) (inside : Bool) → Bare bare_b (branches vs b taken inside) (branches vs (bare_branches b) taken inside)
    branches_bare no_else taken inside = kept _
    branches_bare (else_b l) taken inside = bind _ (list_bare l taken inside) (λ m. kept _)
    branches_bare (branch c l b) taken inside = bind _ (own_place _ _ c) (λ x. bind _ (list_bare l taken inside) (λ m. bind _ (branches_bare b taken inside) (λ d. kept _)))

    groups_bare : (g : Groups) (taken : L.List ℕ) (inside : Bool) → Bare bare_g (groups vs g taken inside) (groups vs (bare_groups g) taken inside)
    groups_bare no_other taken inside = kept _
    groups_bare (else_g l) taken inside = bind _ (list_bare l taken inside) (λ m. kept _)
    groups_bare (group ls l g) taken inside = bind _ (labels_bare ls) (λ k. bind _ (list_bare l taken inside) (λ m. bind _ (groups_bare g taken inside) (λ h. kept _)))

walk_bare : (t : Tree) → Bare bare_program (walk t) (walk (bare_tree t))
unfolding walk bare_tree bare_program
walk_bare t = bind _ (declare_all_bare [] t.decls) (λ vs. bind _ (list_bare vs t.body [] false) (λ l. kept _))

-- Compiling

front_bare : (s : L.List ℕ) (ts : L.List Token) {tree : Res Tree} → tokens s ≡ ok ts → Bare bare_tree (parse ts) tree → Bare bare_program (front s) (◌>>=◌ tree walk)
unfolding front ◌>>=◌
front_bare s ts h k = rw h (bind _ k walk_bare)

-- what is compiled of a tree without places, given whether the text is short enough
unfoldable pub bare_compiled : ℕ → ℕ → Bool → Res Tree → Res Program
bare_compiled lent capacity short tree = do
  _ ← need (leb memory_numbers lent) 17 0
  _ ← need short 1 0
  p ← ◌>>=◌ tree walk
  _ ← need (leb (length (code_of p.body)) code_limit) 13 0
  _ ← need (leb (length (image p)) capacity) 14 0
  ok p

pub compiled_bare : (lent capacity : ℕ) (s : L.List ℕ) (ts : L.List Token) {tree : Res Tree} → tokens s ≡ ok ts → Bare bare_tree (parse ts) tree
    → Bare bare_program (compiled lent capacity s) (bare_compiled lent capacity (leb (length s) text_limit) tree)
unfolding compiled bare_compiled
compiled_bare lent capacity s ts h k =
    bind _ (needs _ _ _) (λ _. bind _ (needs _ _ _) (λ _. bind _ (front_bare s ts h k) (λ p.
    rw (code_bare p, image_bare p) (bind _ (needs _ _ _) (λ _. bind _ (needs _ _ _) (λ _. kept p))))))
