-- Blanks, comments, letter case and the program's name: two texts with the same tokens up to places and the program's name have the same
-- answer but for places.
use Rattle.std.specs.Prelude.{◌≡◌, refl, Bool, true, false, List, [], ◌∷◌, map, ℕ, zero, suc, ◌*◌, eqb, ltb, leb, length}
use Rattle.std.proofs.Common.{sym}
use Rattle.std.proofs.Math.Option
use Rattle.std.proofs.Math.Option.{none}
use Rattle.std.proofs.lemmas.List.{length-map}
use Rattle.rules.specs.Limits.{text_limit}
use Rattle.rules.specs.Base.{pick, Res, ok, refuse}
use Rattle.rules.specs.Kinds.{NAME, INT, BOOL, CASE, ELSE, ELSIF, EXIT, FALSE, FOR, IF, MINUS, NOT, OPEN, PLUS, PROGRAM, TRUE, VAR, WHILE, COMMA, SEMI}
use Rattle.rules.specs.Tokens.{Token, plain, tokens}
use Rattle.rules.specs.Syntax.{Exp, binary, Tree, Read, got, bad, Reader, on_read, ◌>>=◌, ◌>>◌, give, next, rest, skip, take, when, whether, unexpected, nested, name_of, take_name, signed, truth_con, unsigned, constant, maybe, operators, operator_of, leaf, parens, operand, prefixed, signed_operand, expr, more, assignment, if_then, case_of, for_do, while_do, repeat_until, exit, one_label, labels, one_branch, one_group, one_more, statement, list, branches, groups, declaration, declarations, variables, program, tree_of, parse}
use Rattle.rules.specs.Core.{Program}
use Rattle.rules.specs.Compile.{Answer, accepted, refused, answer, compile}
use Rattle.theorems.specs.PlacelessCode.{bare_program, answer_bare}
use Rattle.theorems.specs.PlacelessWalk.{bare_name, bare_exp, bare_con, bare_label, bare_decl, bare_stm, bare_stms, bare_branches, bare_groups, bare_tree, bare_res, Bare, as_is, bare_compiled, compiled_bare}

-- a token without its place
unfoldable pub placeless : Token → Token
placeless t = record { kind = t.kind; place = 0; letters = t.letters; value = t.value }

-- and without its letters
unfoldable pub anonymous : Token → Token
anonymous t = record { kind = t.kind; place = 0; letters = []; value = t.value }

-- what is left of a text's tokens without places and without the program's name, which is the second token
unfoldable pub essence : List Token → List Token
essence [] = []
essence (t ∷ []) = placeless t ∷ []
essence (t ∷ name ∷ ts) = placeless t ∷ anonymous name ∷ map placeless ts

-- an answer without the place of a refusal
unfoldable pub placeless_answer : Answer → Answer
placeless_answer (accepted i c d w) = accepted i c d w
placeless_answer (refused n p) = refused n 0

-- Readers

unfoldable bare_read : {A : Type 0} → (A → A) → Read A → Read A
bare_read e (got a ts) = got (e a) (map placeless ts)
bare_read e (bad n p) = bad n 0

-- r' reads, of tokens without places, what r reads, without places
record Commutes {A : Type 0} (e : A → A) (r r' : Reader A) : Type 0 where
  commutes : (ts : List Token) → r' (map placeless ts) ≡ bare_read e (r ts)

next_bare : (ts : List Token) → next (map placeless ts) ≡ placeless (next ts)
unfolding next placeless plain
next_bare [] = refl
next_bare (t ∷ ts) = refl

rest_bare : (ts : List Token) → rest (map placeless ts) ≡ map placeless (rest ts)
unfolding rest
rest_bare [] = refl
rest_bare (t ∷ ts) = refl

-- two steps
after : {A B : Type 0} (e : A → A) (d : B → B) (r : Read A) (f f' : A → Reader B) → ((a : A) → Commutes d (f a) (f' (e a))) → on_read (bare_read e r) f' ≡ bare_read d (on_read r f)
unfolding on_read bare_read
after e d (got a ts) f f' k = (k a).commutes ts
after e d (bad n p) f f' k = refl

bind : {A B : Type 0} {e : A → A} {d : B → B} {m m' : Reader A} {f : A → Reader B} (f' : A → Reader B) → Commutes e m m' → ((a : A) → Commutes d (f a) (f' (e a))) → Commutes d (◌>>=◌ m f) (◌>>=◌ m' f')
unfolding ◌>>=◌
bind {e} {d} {m} {f = f} f' h k = record { commutes = λ ts. rw (h.commutes ts) (after e d (m ts) f f' k) }

-- two steps, what the first reads not being used
pass : {A B : Type 0} {e : A → A} {d : B → B} {m m' : Reader A} {r r' : Reader B} → Commutes e m m' → Commutes d r r' → Commutes d (◌>>◌ m r) (◌>>◌ m' r')
unfolding ◌>>◌
pass {e} {d} {m} {r = r} {r' = r'} h k = record { commutes = λ ts. rw (h.commutes ts) (after e d (m ts) (λ _. r) (λ _. r') (λ _. k)) }

gives : {A : Type 0} {e : A → A} (a : A) → Commutes e (give a) (give (e a))
unfolding give bare_read
gives a = record { commutes = λ ts. refl }

-- one reading or another, by a test that sees no place
either : {A : Type 0} (e : A → A) (d : Bool) (x x' y y' : Unit {0} → Read A) → x' tt ≡ bare_read e (x tt) → y' tt ≡ bare_read e (y tt) → pick d x' y' ≡ bare_read e (pick d x y)
either e true x x' y y' h k = h
either e false x x' y y' h k = k

skips : Commutes placeless skip skip
unfolding skip bare_read
skips = record { commutes = λ ts. rw (next_bare ts, rest_bare ts) }

takes : (k : ℕ) → Commutes placeless (take k) (take k)
unfolding take bare_read placeless
takes k = record { commutes = λ ts. simp (next_bare ts, rest_bare ts) (either placeless (eqb (next ts).kind k) _ _ _ _ refl refl) }

whether_in : {A : Type 0} {e : A → A} (p : ℕ → Bool) {a a' b b' : Reader A} → Commutes e a a' → Commutes e b b' → Commutes e (whether p a b) (whether p a' b')
unfolding whether placeless
whether_in {e} p h k = record { commutes = λ ts. simp (next_bare ts) (either e (p (next ts).kind) _ _ _ _ (h.commutes ts) (k.commutes ts)) }

choice : {A : Type 0} {e : A → A} (k : ℕ) {a a' b b' : Reader A} → Commutes e a a' → Commutes e b b' → Commutes e (when k a b) (when k a' b')
unfolding when whether
choice k h g = record { commutes = λ ts. (whether_in (λ x. eqb x k) h g).commutes ts }

under : {A : Type 0} {e : A → A} (n most p : ℕ) {a a' : Reader A} → Commutes e a a' → Commutes e (nested n most p a) (nested n most 0 a')
unfolding nested bare_read
under {e} n most p h = record { commutes = λ ts. either e (ltb n most) _ _ _ _ (h.commutes ts) refl }

refuses : {A : Type 0} {e : A → A} → Commutes e unexpected unexpected
unfolding unexpected bare_read placeless
refuses = record { commutes = λ ts. rw (next_bare ts) }

-- Names and constants

name_bare : Commutes bare_name take_name take_name
unfolding take_name name_of bare_name placeless
name_bare = bind _ (takes NAME) (λ t. gives _)

constant_bare : Commutes bare_con constant constant
unfolding constant signed truth_con unsigned bare_con placeless
constant_bare =
    choice MINUS (bind _ skips (λ s. bind _ (takes INT) (λ t. gives _)))
    (choice PLUS (bind _ skips (λ s. bind _ (takes INT) (λ t. gives _)))
    (choice TRUE (bind _ skips (λ t. gives _))
    (choice FALSE (bind _ skips (λ t. gives _))
    (bind _ (takes INT) (λ t. gives _)))))

maybe_bare : (k : ℕ) → Commutes (Option.map bare_con) (maybe k) (maybe k)
unfolding maybe
maybe_bare k = choice k (pass skips (bind _ constant_bare (λ c. gives _))) (gives none)

-- Expressions

operand_bare : (n : ℕ) {exp : Reader Exp} → Commutes bare_exp exp exp → Commutes bare_exp (operand n exp) (operand n exp)
unfolding operand leaf parens name_of bare_exp bare_name placeless
operand_bare n h = record {
  commutes = λ ts. rw (next_bare ts)
      ((choice NAME (bind _ skips (λ t. gives _))
      (choice INT (bind _ skips (λ t. gives _))
      (choice TRUE (bind _ skips (λ t. gives _))
      (choice FALSE (bind _ skips (λ t. gives _))
      (choice OPEN (under n _ (next ts).place (pass skips (bind _ h (λ e. pass (takes _) (gives _)))))
      refuses))))).commutes ts);
}

signed_bare : {arg : Reader Exp} → Commutes bare_exp arg arg → Commutes bare_exp (signed_operand arg) (signed_operand arg)
unfolding signed_operand prefixed bare_exp placeless
signed_bare h =
    choice MINUS (bind _ skips (λ t. bind _ h (λ a. gives _)))
    (choice PLUS (bind _ skips (λ t. bind _ h (λ a. gives _)))
    (choice NOT (bind _ skips (λ t. bind _ h (λ a. gives _)))
    h))

mutual
  unfolding expr bare_read bare_exp placeless

  expr_bare : (f n m : ℕ) → Commutes bare_exp (expr f n m) (expr f n m)
  expr_bare zero n m = record { commutes = λ ts. refl }
  expr_bare (suc f) n m = bind _ (signed_bare (operand_bare n (expr_bare f (suc n) 1))) (λ a. more_bare f n m a)

  more_bare : (f n m : ℕ) (a : Exp) → Commutes bare_exp (more f n m a) (more f n m (bare_exp a))
  more_bare zero n m a = record { commutes = λ ts. refl }
  more_bare (suc f) n m a = record {
    commutes = λ ts.
        let o = operator_of (next ts).kind operators in
        rw (next_bare ts) (either bare_exp (leb m o.level) _ _ _ _ ((bind _ skips (λ t. bind _ (expr_bare f n (suc o.level)) (λ b. more_bare f n m (binary t.place o.op a b)))).commutes ts) refl);
  }

-- Statements

labels_bare : (f : ℕ) → Commutes (map bare_label) (labels f) (labels f)
unfolding labels one_label bare_label bare_read
labels_bare zero = record { commutes = λ ts. refl }
labels_bare (suc f) = bind _ (bind _ constant_bare (λ c. bind _ (maybe_bare _) (λ d. gives _))) (λ a. choice COMMA (pass skips (bind _ (labels_bare f) (λ ls. gives _))) (gives _))

mutual
  unfolding statement assignment exit if_then case_of for_do while_do repeat_until one_more one_branch one_group bare_stm bare_read placeless

  statement_bare : (f n m : ℕ) → Commutes bare_stm (statement f n m) (statement f n m)
  statement_bare zero n m = record { commutes = λ ts. refl }
  statement_bare (suc f) n m =
      let x = expr_bare f 0 1 in
      let l = list_bare f (suc n) m in
      record {
        commutes = λ ts. rw (next_bare ts)
            ((choice NAME (bind _ name_bare (λ v. pass (takes _) (bind _ x (λ e. gives _))))
            (choice EXIT (bind _ skips (λ t. gives _))
            (under n _ _
            (choice IF (bind _ (branches_bare f (suc n) m) (λ b. pass (takes _) (gives _)))
            (choice CASE (pass skips (bind _ x (λ e. pass (takes _) (bind _ (groups_bare f (suc n) m) (λ g. pass (takes _) (gives _))))))
            (choice FOR (under m _ _ (pass skips (bind _ name_bare (λ v. pass (takes _) (bind _ x (λ a. pass (takes _) (bind _ x (λ e. bind _ (maybe_bare _) (λ c.
            pass (takes _) (bind _ (list_bare f (suc n) (suc m)) (λ b. pass (takes _) (gives _))))))))))))
            (choice WHILE (pass skips (bind _ x (λ c. pass (takes _) (bind _ l (λ b. pass (takes _) (gives _))))))
            (pass skips (bind _ l (λ b. pass (takes _) (bind _ x (λ c. pass (takes _) (gives _))))))))))))).commutes ts);
      }

  list_bare : (f n m : ℕ) → Commutes bare_stms (list f n m) (list f n m)
  list_bare zero n m = record { commutes = λ ts. refl }
  list_bare (suc f) n m =
      choice SEMI (pass skips (list_bare f n m)) (whether_in _ (bind _ (statement_bare f n m) (λ s. pass (takes _) (bind _ (list_bare f n m) (λ l. gives _)))) (gives _))

  branches_bare : (f n m : ℕ) → Commutes bare_branches (branches f n m) (branches f n m)
  branches_bare zero n m = record { commutes = λ ts. refl }
  branches_bare (suc f) n m =
      pass skips (bind _ (expr_bare f 0 1) (λ c. pass (takes _) (bind _ (list_bare f n m) (λ l.
      bind _ (choice ELSIF (branches_bare f n m) (choice ELSE (pass skips (bind _ (list_bare f n m) (λ e. gives _))) (gives _))) (λ b. gives _)))))

  groups_bare : (f n m : ℕ) → Commutes bare_groups (groups f n m) (groups f n m)
  groups_bare zero n m = record { commutes = λ ts. refl }
  groups_bare (suc f) n m =
      bind _ (labels_bare f) (λ ls. pass (takes _) (bind _ (list_bare f n m) (λ l.
      bind _ (whether_in _ (groups_bare f n m) (choice ELSE (pass skips (bind _ (list_bare f n m) (λ e. gives _))) (gives _))) (λ g. gives _))))

-- Declarations and the program

declarations_bare : (f : ℕ) → Commutes (map bare_decl) (declarations f) (declarations f)
unfolding declarations declaration bare_decl bare_read
declarations_bare zero = record { commutes = λ ts. refl }
declarations_bare (suc f) =
    choice NAME (bind _ (bind _ name_bare (λ v. pass (takes _)
    (bind {e = as_is} _ (choice BOOL (pass skips (gives _)) (pass (takes _) (gives _))) (λ t. bind _ (maybe_bare _) (λ c. pass (takes _) (gives _)))))) (λ d.
    bind _ (declarations_bare f) (λ ds. gives _))) (gives _)

program_bare : (f : ℕ) → Commutes bare_tree (program f) (program f)
unfolding program variables bare_tree
program_bare f =
    pass (takes _) (pass name_bare
    (bind _ (choice VAR (pass skips (bind _ (declarations_bare f) (λ ds. pass (takes _) (gives _)))) (gives _)) (λ ds.
    bind _ (list_bare f 0 0) (λ l. pass (takes _) (pass (takes _) (gives _))))))

-- the program's name is not looked at
anonymous-program : (f : ℕ) (ts : List Token) → program f (essence ts) ≡ program f (map placeless ts)
unfolding essence program ◌>>◌ ◌>>=◌ on_read take take_name next rest give placeless anonymous
anonymous-program f [] = refl
anonymous-program f (t ∷ []) = refl
anonymous-program f (t ∷ name ∷ ts) = by (eqb t.kind PROGRAM) (eqb name.kind NAME) refl refl
  where
    by : (d d' : Bool) → eqb t.kind PROGRAM ≡ d → eqb name.kind NAME ≡ d' → program f (placeless t ∷ anonymous name ∷ map placeless ts) ≡ program f (placeless t ∷ placeless name ∷ map placeless ts)
    by true true p q = simp (p, q)
    by true false p q = simp (p, q)
    by false d' p q = simp p

length-essence : (ts : List Token) → length (essence ts) ≡ length ts
unfolding essence
length-essence [] = refl
length-essence (t ∷ []) = refl
length-essence (t ∷ name ∷ ts) = simp length-map

tree_of_bare : (r : Read Tree) → tree_of (bare_read bare_tree r) ≡ bare_res bare_tree (tree_of r)
unfolding tree_of bare_read bare_res
tree_of_bare (got t ts) = refl
tree_of_bare (bad n p) = refl

parse_bare : (ts : List Token) → Bare bare_tree (parse ts) (parse (essence ts))
unfolding parse
parse_bare ts = record { bare = rw (length-essence ts, anonymous-program (4 * length ts) ts, (program_bare (4 * length ts)).commutes ts, tree_of_bare) }

-- Compiling

placeless-answer : {r r' : Res Program} → Bare bare_program r r' → placeless_answer (answer r) ≡ answer r'
unfolding answer placeless_answer bare_res
placeless-answer {r = r} h = rw h.bare (by r)
  where
    by : (r : Res Program) → placeless_answer (answer r) ≡ answer (bare_res bare_program r)
    by (ok p) = sym (answer_bare p)
    by (refuse n p) = refl

-- a text's answer but for places, from its essence
of_essence : (lent capacity : ℕ) (s : List ℕ) (ts : List Token) → tokens s ≡ ok ts
    → placeless_answer (compile lent capacity s) ≡ answer (bare_compiled lent capacity (leb (length s) text_limit) (parse (essence ts)))
unfolding compile
of_essence lent capacity s ts h = placeless-answer (compiled_bare lent capacity s ts h (parse_bare ts))

pub same_answer : (lent capacity : ℕ) (s s' : List ℕ) (ts ts' : List Token) → tokens s ≡ ok ts → tokens s' ≡ ok ts' → essence ts ≡ essence ts'
    → leb (length s) text_limit ≡ leb (length s') text_limit → placeless_answer (compile lent capacity s) ≡ placeless_answer (compile lent capacity s')
same_answer lent capacity s s' ts ts' h h' e l = cc (of_essence lent capacity s ts h, of_essence lent capacity s' ts' h')
