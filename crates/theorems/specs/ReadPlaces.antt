-- What is read from tokens with their places in the text has its places there too, and its names have what the tokens' letters have; so have the refusals their places.
use Rattle.std.proofs.Math.Path.{◌≡◌}
use Rattle.std.specs.Prelude.{Bool, true, false, List, eqb, ltb, leb}
use Prim.Native.Nat.{ℕ, zero, suc, ◌≤◌, ◌*◌}
use native.Mathlib.Omega.{arith}
use Rattle.std.proofs.Math.ListN.{length}
use Rattle.rules.specs.Base.{refuse}
use Rattle.rules.specs.Tokens.{Token, plain}
use Rattle.rules.specs.Kinds.{FINISH}
use Rattle.rules.specs.Syntax.{Name, Sign, Exp, Stms, Tree, Read, got, bad, Reader, on_read, ◌>>=◌, ◌>>◌, give, next, rest, skip, take, when, whether, unexpected, nested, name_of, take_name, signed, truth_con, unsigned, constant, maybe, operator_of, operators, leaf, parens, operand, prefixed, signed_operand, expr, more, assignment, if_then, case_of, for_do, while_do, repeat_until, exit, one_label, labels, one_branch, one_group, one_more, statement, list, branches, groups, declaration, declarations, variables, program, tree_of, parse}
use Rattle.theorems.specs.Refusals.{Fine, f_ok, f_refuse, Any, either}
use Rattle.theorems.specs.TokenPlaces.{Each, e_nil, e_cons, each_on, At}
use Rattle.theorems.specs.TreePlaces.{NameIn, TokenIn, ExpIn, i_named, i_whole, i_truth, i_paren, i_unary, i_binary, ConIn, i_bool, i_int, MaybeIn, i_none, i_some, LabelIn, i_label, DeclIn, StmIn, i_assign, i_if, i_case, i_for, i_while, i_repeat, i_exit, StmsIn, i_empty, i_then, BranchesIn, i_no_else, i_else_b, i_branch, GroupsIn, i_no_other, i_else_g, i_group, TreeIn}

-- a refusal of reading: its number is from 5 to 10 (5, and 10 for nesting), its place one of the text
record Unread (N n p : ℕ) : Type 0 where
  pub low : 5 ≤ n
  pub high : n ≤ 10
  pub near : p ≤ N

-- P: a property of names, which the name with no letters at 0 has: it stands for the end of the tokens
module _ (N : ℕ) (P : Name → Type 0) (blank : P (name_of (plain FINISH 0))) where
  -- what was read has a property, and the tokens left have their places; or it is refused
  data Kept {A : Type 0} (Q : A → Type 0) : Read A → Type 0 where
    k_got : {a : A} {ts : List Token} → Q a → Each (TokenIn N P) ts → Kept Q (got a ts)
    k_bad : (n p : ℕ) → Unread N n p → Kept Q (bad n p)

  -- a reader that keeps to the text, if the tokens before it do
  record Placed {A : Type 0} (Q : A → Type 0) (r : Reader A) : Type 0 where
    pub reads : (ts : List Token) → Each (TokenIn N P) ts → Kept Q (r ts)

  next_in : {ts : List Token} → Each (TokenIn N P) ts → TokenIn N P (next ts)
  unfolding next plain
  next_in e_nil = record { near = omega arith; has = blank }
  next_in (e_cons h k) = h

  rest_in : {ts : List Token} → Each (TokenIn N P) ts → Each (TokenIn N P) (rest ts)
  unfolding rest
  rest_in e_nil = e_nil
  rest_in (e_cons h k) = k

  -- The words of which the grammar is made

  onwards : {A B : Type 0} {R : A → Type 0} {Q : B → Type 0} {r : Read A} {f : A → Reader B} → Kept R r → ((a : A) → R a → Placed Q (f a)) → Kept Q (on_read r f)
  unfolding on_read
  onwards (k_got h t) k = (k _ h).reads _ t
  onwards (k_bad n p h) k = k_bad n p h

  bind : {A B : Type 0} {R : A → Type 0} {Q : B → Type 0} {m : Reader A} {f : A → Reader B} → Placed R m → ((a : A) → R a → Placed Q (f a)) → Placed Q (◌>>=◌ m f)
  unfolding ◌>>=◌
  bind h k = record { reads = λ ts t. onwards (h.reads ts t) k }

  pass : {A B : Type 0} {R : A → Type 0} {Q : B → Type 0} {m : Reader A} {r : Reader B} → Placed R m → Placed Q r → Placed Q (◌>>◌ m r)
  unfolding ◌>>◌
  pass h k = record { reads = λ ts t. onwards (h.reads ts t) (λ _ _. k) }

  gives : {A : Type 0} {Q : A → Type 0} (a : A) → Q a → Placed Q (give a)
  unfolding give
  gives a h = record { reads = λ ts t. k_got h t }

  skips : Placed (TokenIn N P) skip
  unfolding skip
  skips = record { reads = λ ts t. k_got (next_in t) (rest_in t) }

  refuses : {A : Type 0} {Q : A → Type 0} → Placed Q unexpected
  unfolding unexpected
  refuses = record { reads = λ ts t. let h = next_in t in k_bad 5 (next ts).place (omega arith) }

  takes : (k : ℕ) → Placed (TokenIn N P) (take k)
  unfolding take
  takes k = record { reads = λ ts t. let h = next_in t in either (Kept _) (eqb (next ts).kind k) (k_got h (rest_in t)) (k_bad 5 (next ts).place (omega arith)) }

  choice : {A : Type 0} {Q : A → Type 0} (k : ℕ) {a b : Reader A} → Placed Q a → Placed Q b → Placed Q (when k a b)
  unfolding when
  choice k h g = record { reads = λ ts t. either (Kept _) (eqb (next ts).kind k) (h.reads ts t) (g.reads ts t) }

  test : {A : Type 0} {Q : A → Type 0} (p : ℕ → Bool) {a b : Reader A} → Placed Q a → Placed Q b → Placed Q (whether p a b)
  unfolding whether
  test p h g = record { reads = λ ts t. either (Kept _) (p (next ts).kind) (h.reads ts t) (g.reads ts t) }

  under : {A : Type 0} {Q : A → Type 0} (n most p : ℕ) {a : Reader A} → p ≤ N → Placed Q a → Placed Q (nested n most p a)
  unfolding nested
  under n most p h g = record { reads = λ ts t. either (Kept _) (ltb n most) (g.reads ts t) (k_bad 10 p (omega arith)) }

  -- the fuel is spent
  spent : {A : Type 0} {Q : A → Type 0} → Placed Q (λ ts. bad 5 0)
  spent = record { reads = λ ts t. k_bad 5 0 (omega arith) }

  -- Names and constants

  named_in : {t : Token} → TokenIn N P t → NameIn N P (name_of t)
  unfolding name_of
  named_in h = record { near = h.near; has = h.has }

  name_in_lem : Placed (NameIn N P) take_name
  unfolding take_name
  name_in_lem = bind (takes _) (λ t h. gives _ (named_in h))

  signed_in : (below : Bool) → Placed (ConIn N) (signed below)
  unfolding signed
  signed_in below = bind skips (λ s h. bind (takes _) (λ t k. gives _ (i_int h.near k.near)))

  truth_in_lem : (b : Bool) → Placed (ConIn N) (truth_con b)
  unfolding truth_con
  truth_in_lem b = bind skips (λ t h. gives _ (i_bool h.near))

  constant_in : Placed (ConIn N) constant
  unfolding constant unsigned
  constant_in =
      choice _ (signed_in true) (choice _ (signed_in false) (choice _ (truth_in_lem true) (choice _ (truth_in_lem false)
      (bind (takes _) (λ t h. gives _ (i_int h.near h.near))))))

  maybe_in : (k : ℕ) → Placed (MaybeIn N) (maybe k)
  unfolding maybe
  maybe_in k = choice _ (pass skips (bind constant_in (λ c h. gives _ (i_some h)))) (gives _ i_none)

  -- Expressions

  leaf_in : {f : Token → Exp} → ((t : Token) → TokenIn N P t → ExpIn N P (f t)) → Placed (ExpIn N P) (leaf f)
  unfolding leaf
  leaf_in k = bind skips (λ t h. gives _ (k t h))

  operand_in : (n : ℕ) {exp : Reader Exp} → Placed (ExpIn N P) exp → Placed (ExpIn N P) (operand n exp)
  unfolding operand parens
  operand_in n k = record {
    reads = λ ts t.
        let p = (next_in t).near in
        (choice _ (leaf_in (λ u h. i_named (named_in h)))
        (choice _ (leaf_in (λ u h. i_whole h.near))
        (choice _ (leaf_in (λ u h. i_truth h.near))
        (choice _ (leaf_in (λ u h. i_truth h.near))
        (choice _ (under _ _ _ p (pass skips (bind k (λ e h. pass (takes _) (gives _ (i_paren p h))))))
        refuses))))).reads ts t;
  }

  prefixed_in : (s : Sign) {arg : Reader Exp} → Placed (ExpIn N P) arg → Placed (ExpIn N P) (prefixed s arg)
  unfolding prefixed
  prefixed_in s k = bind skips (λ t h. bind k (λ a q. gives _ (i_unary h.near q)))

  signed_operand_in : {arg : Reader Exp} → Placed (ExpIn N P) arg → Placed (ExpIn N P) (signed_operand arg)
  unfolding signed_operand
  signed_operand_in k = choice _ (prefixed_in _ k) (choice _ (prefixed_in _ k) (choice _ (prefixed_in _ k) k))

  mutual
    unfolding expr

    expr_in : (f n m : ℕ) → Placed (ExpIn N P) (expr f n m)
    expr_in zero n m = spent
    expr_in (suc f) n m = bind (signed_operand_in (operand_in n (expr_in f (suc n) 1))) (λ a h. more_in f n m h)

    more_in : (f n m : ℕ) {a : Exp} → ExpIn N P a → Placed (ExpIn N P) (more f n m a)
    more_in zero n m h = spent
    more_in (suc f) n m h = record {
      reads = λ ts t.
          let o = operator_of (next ts).kind operators in
          either (Kept _) (leb m o.level) ((bind skips (λ u q. bind (expr_in f n (suc o.level)) (λ b k. more_in f n m (i_binary q.near h k)))).reads ts t) (k_got h t);
    }

  -- Statements

  labels_in : (f : ℕ) → Placed (Each (LabelIn N)) (labels f)
  unfolding labels one_label
  labels_in zero = spent
  labels_in (suc f) =
      bind (bind constant_in (λ c h. bind (maybe_in _) (λ d q. gives _ (i_label h q))))
      (λ a h. choice _ (pass skips (bind (labels_in f) (λ ls q. gives _ (e_cons h q)))) (gives _ (e_cons h e_nil)))

  for_in : {exp : Reader Exp} {l : Reader Stms} → Placed (ExpIn N P) exp → Placed (StmsIn N P) l → Placed (StmIn N P) (for_do exp l)
  unfolding for_do
  for_in e j =
      pass skips (bind name_in_lem (λ v h. pass (takes _) (bind e (λ a q. pass (takes _) (bind e (λ x r. bind (maybe_in _) (λ s u.
      pass (takes _) (bind j (λ l w. pass (takes _) (gives _ (i_for h q r u w)))))))))))

  mutual
    unfolding statement assignment exit if_then case_of while_do repeat_until one_more one_branch one_group

    statement_in : (f n m : ℕ) → Placed (StmIn N P) (statement f n m)
    statement_in zero n m = spent
    statement_in (suc f) n m = record {
      reads = λ ts t.
          let e = expr_in f 0 1 in
          let j = list_in_lem f (suc n) m in
          let p = (next_in t).near in
          (choice _ (bind name_in_lem (λ v h. pass (takes _) (bind e (λ x q. gives _ (i_assign h q)))))
          (choice _ (bind skips (λ u h. gives _ (i_exit h.near)))
          (under _ _ _ p
          (choice _ (bind (branches_in f (suc n) m) (λ b h. pass (takes _) (gives _ (i_if h))))
          (choice _ (pass skips (bind e (λ x h. pass (takes _) (bind (groups_in f (suc n) m) (λ g q. pass (takes _) (gives _ (i_case h q)))))))
          (choice _ (under _ _ _ p (for_in e (list_in_lem f (suc n) (suc m))))
          (choice _ (pass skips (bind e (λ c h. pass (takes _) (bind j (λ l q. pass (takes _) (gives _ (i_while h q)))))))
          (pass skips (bind j (λ l h. pass (takes _) (bind e (λ c q. pass (takes _) (gives _ (i_repeat h q)))))))))))))).reads ts t;
    }

    list_in_lem : (f n m : ℕ) → Placed (StmsIn N P) (list f n m)
    list_in_lem zero n m = spent
    list_in_lem (suc f) n m =
        let j = list_in_lem f n m in
        choice _ (pass skips j) (test _ (bind (statement_in f n m) (λ s h. pass (takes _) (bind j (λ l q. gives _ (i_then h q))))) (gives _ i_empty))

    branches_in : (f n m : ℕ) → Placed (BranchesIn N P) (branches f n m)
    branches_in zero n m = spent
    branches_in (suc f) n m =
        let j = list_in_lem f n m in
        pass skips (bind (expr_in f 0 1) (λ c h. pass (takes _) (bind j (λ l q.
        bind (choice _ (branches_in f n m) (choice _ (pass skips (bind j (λ e r. gives _ (i_else_b r)))) (gives _ i_no_else))) (λ b r. gives _ (i_branch h q r))))))

    groups_in : (f n m : ℕ) → Placed (GroupsIn N P) (groups f n m)
    groups_in zero n m = spent
    groups_in (suc f) n m =
        let j = list_in_lem f n m in
        bind (labels_in f) (λ ls h. pass (takes _) (bind j (λ l q.
        bind (test _ (groups_in f n m) (choice _ (pass skips (bind j (λ e r. gives _ (i_else_g r)))) (gives _ i_no_other))) (λ g r. gives _ (i_group h q r)))))

  -- Declarations and the program

  declaration_in : Placed (DeclIn N P) declaration
  unfolding declaration
  declaration_in =
      bind name_in_lem (λ v h. pass (takes _) (bind {R = Any} (choice _ (pass skips (gives _ tt)) (pass (takes _) (gives _ tt)))
      (λ t _. bind (maybe_in _) (λ c q. pass (takes _) (gives _ (record { name = h; init = q }))))))

  declarations_in : (f : ℕ) → Placed (Each (DeclIn N P)) (declarations f)
  unfolding declarations
  declarations_in zero = spent
  declarations_in (suc f) = choice _ (bind declaration_in (λ d h. bind (declarations_in f) (λ ds q. gives _ (e_cons h q)))) (gives _ e_nil)

  program_in : (f : ℕ) → Placed (TreeIn N P) (program f)
  unfolding program variables
  program_in f =
      pass (takes _) (pass name_in_lem (bind (choice _ (pass skips (bind (declarations_in f) (λ ds h. pass (takes _) (gives _ h)))) (gives _ e_nil))
      (λ ds h. bind (list_in_lem f 0 0) (λ l q. pass (takes _) (pass (takes _) (gives _ (record { decls = h; body = q })))))))

  tree_in : {r : Read Tree} → Kept (TreeIn N P) r → Fine N (TreeIn N P) (tree_of r)
  unfolding tree_of
  tree_in (k_got h t) = f_ok h
  tree_in (k_bad n p h) = f_refuse n p (omega arith)

  -- what is read has the property in all its names, if the tokens have it
  pub read_in : (ts : List Token) → Each (TokenIn N P) ts → Fine N (TreeIn N P) (parse ts)
  unfolding parse
  read_in ts t = tree_in ((program_in (4 * length ts)).reads ts t)

  -- what reading refuses, it refuses with a number from 5 to 10
  tree-refused : {r : Read Tree} (n p : ℕ) → Kept (TreeIn N P) r → tree_of r ≡ refuse n p → (5 ≤ n) × (n ≤ 10)
  unfolding tree_of
  tree-refused n p (k_got h t) e = let z : ◌≡◌ {A = ℕ} 0 1 = cc in absurd (omega arith)
  tree-refused n p (k_bad m q h) e = let same : m ≡ n = cc in omega arith

  read-refused : (ts : List Token) (n p : ℕ) → Each (TokenIn N P) ts → parse ts ≡ refuse n p → (5 ≤ n) × (n ≤ 10)
  unfolding parse
  read-refused ts n p t e = tree-refused n p ((program_in (4 * length ts)).reads ts t) e

-- Of places alone, where nothing is asked of names

module _ {N : ℕ} where
  placed_only : {ts : List Token} → Each (At N) ts → Each (TokenIn N Any) ts
  placed_only h = each_on (λ t k. record { near = k; has = tt }) h

  pub parse_in : (ts : List Token) → Each (At N) ts → Fine N (TreeIn N Any) (parse ts)
  parse_in ts t = read_in N Any tt ts (placed_only t)

  pub parse-refused : (ts : List Token) (n p : ℕ) → Each (At N) ts → parse ts ≡ refuse n p → (5 ≤ n) × (n ≤ 10)
  parse-refused ts n p t e = read-refused N Any tt ts n p (placed_only t) e
