-- The fuel of the readers is enough for every text: with more of it nothing is read otherwise.
use Rattle.std.specs.Prelude.{◌≡◌, Bool, List, [], ◌∷◌, ℕ, zero, suc, ◌+◌, ◌*◌, ◌<◌, ◌≤◌, leb, length, drop}
use Rattle.std.proofs.Math.Path.{refl}
use Rattle.std.proofs.Common.{◌∙◌, sym, arith, length-drop}
use Rattle.std.proofs.Math.Dec.{leb-suc-zero}
use Rattle.rules.specs.Limits.{nesting_limit, for_limit}
use Rattle.rules.specs.Kinds.{NAME, INT, BOOL, BY, CASE, DINT, DO, ELSE, ELSIF, END_CASE, END_FOR, END_IF, END_PROGRAM, END_REPEAT, END_VAR, END_WHILE, EXIT, FALSE, FINISH, FOR, IF, NOT, OF, PROGRAM, THEN, TO, TRUE, UNTIL, VAR, WHILE, ASSIGN, DOTS, COLON, SEMI, COMMA, OPEN, CLOSE, PLUS, MINUS}
use Rattle.rules.specs.Tokens.{Token, plain, tokens, tokens_at}
use Rattle.rules.specs.Syntax.{Exp, binary, Label, Stms, Branches, Groups, Sign, Stm, Reader, on_read, ◌>>◌, give, next, take, whether, take_name, signed, truth_con, unsigned, constant, maybe, operator, operators, operator_of, leaf, parens, operand, prefixed, signed_operand, expr, more, assignment, if_then, case_of, for_do, while_do, repeat_until, exit, one_label, labels, starts_constant, starts_statement, one_branch, one_group, one_more, statement, list, branches, groups, declaration, declarations, variables, program}
use Rattle.theorems.specs.Pieces.{follow_same, piece-takes}
use Rattle.theorems.specs.Alike.{agree_same, Alike, weak, bind, thens, gives, stops, skips, takes, past, either, under, tested, ahead}

-- The rules that have no fuel: they leave no more than they find

take_name-alike : {n : ℕ} → Alike (suc n) n take_name take_name
unfolding take_name
take_name-alike = bind (takes NAME) (λ t. gives _)

constant-alike : {n : ℕ} → Alike n n constant constant
unfolding constant signed truth_con unsigned
constant-alike = either MINUS (sign _) (either PLUS (sign _) (either TRUE (word _) (either FALSE (word _) (bind (weak (takes INT)) (λ t. gives _)))))
  where
    sign : {n : ℕ} (b : Bool) → Alike n n (signed b) (signed b)
    sign b = bind (weak skips) (λ s. bind (weak (takes INT)) (λ t. gives _))

    word : {n : ℕ} (b : Bool) → Alike n n (truth_con b) (truth_con b)
    word b = bind (weak skips) (λ t. gives _)

maybe_alike : {n : ℕ} (k : ℕ) → Alike n n (maybe k) (maybe k)
unfolding maybe
maybe_alike k = either k (thens (weak skips) (bind constant-alike (λ c. gives _))) (gives _)

label-alike : {n : ℕ} → Alike n n one_label one_label
unfolding one_label
label-alike = bind constant-alike (λ c. bind (maybe_alike DOTS) (λ d. gives _))

declaration-alike : {n : ℕ} → Alike (suc n) n declaration declaration
unfolding declaration
declaration-alike = bind take_name-alike (λ v. past COLON (bind (either BOOL (thens (weak skips) (gives _)) (past DINT (gives _))) (λ t. bind (maybe_alike ASSIGN) (λ c. past SEMI (gives _)))))

-- Expressions: fuel of two for each token, and two; after an operand, and one

leaf-alike : {n : ℕ} (f : Token → Exp) → Alike n n (leaf f) (leaf f)
unfolding leaf
leaf-alike f = bind (weak skips) (λ t. gives _)

operand-alike : {n : ℕ} {exp exp' : Reader Exp} (d : ℕ) → ((l : ℕ) → l < n → Alike l l exp exp') → Alike n n (operand d exp) (operand d exp')
unfolding operand parens
operand-alike d h = record {
  alike = λ ts q.
      (either NAME (leaf-alike _)
      (either INT (leaf-alike _)
      (either TRUE (leaf-alike _)
      (either FALSE (leaf-alike _)
      (ahead OPEN refl (λ l z. under d nesting_limit _ (thens skips (bind (h l z) (λ e. past CLOSE (gives _)))))
      stops))))).alike ts q;
}

prefixed-alike : {n : ℕ} {arg arg' : Reader Exp} (s : Sign) → Alike n n arg arg' → Alike n n (prefixed s arg) (prefixed s arg')
unfolding prefixed
prefixed-alike s h = bind (weak skips) (λ t. bind h (λ a. gives _))

signed_operand-alike : {n : ℕ} {arg arg' : Reader Exp} → Alike n n arg arg' → Alike n n (signed_operand arg) (signed_operand arg')
unfolding signed_operand
signed_operand-alike h = either MINUS (prefixed-alike _ h) (either PLUS (prefixed-alike _ h) (either NOT (prefixed-alike _ h) h))

mutual
  unfolding expr operators operator_of operator whether give

  expr-fuel : (f n d m : ℕ) → 2 * n + 2 ≤ f → Alike n n (expr f d (suc m)) (expr (suc f) d (suc m))
  expr-fuel zero n d m h = absurd (omega arith)
  expr-fuel (suc f) n d m h = bind (signed_operand-alike (operand-alike d (λ l z. expr-fuel f l (suc d) 0 (omega arith)))) (λ a. more_fuel f n d m a (omega arith))

  more_fuel : (f n d m : ℕ) (a : Exp) → 2 * n + 1 ≤ f → Alike n n (more f d (suc m) a) (more (suc f) d (suc m) a)
  more_fuel zero n d m a h = absurd (omega arith)
  more_fuel (suc f) n d m a h = record {
    alike = λ ts q.
        let o = operator_of (next ts).kind operators in
        (tested {n = n} (λ k. leb (suc m) (operator_of k operators).level) (leb-suc-zero m)
        (λ l z. bind skips (λ t. bind (expr-fuel f l d o.level (omega arith)) (λ b. more_fuel f l d m (binary t.place o.op a b) (omega arith))))
        (gives a)).alike ts q;
  }

-- Labels and declarations: fuel of one for each token, and one

labels-fuel : (f n : ℕ) → n < f → Alike n n (labels f) (labels (suc f))
unfolding labels
labels-fuel zero n h = absurd (omega arith)
labels-fuel (suc f) n h = bind label-alike (λ a. ahead COMMA refl (λ l z. thens skips (bind (labels-fuel f l (omega arith)) (λ ls. gives _))) (gives _))

declarations-fuel : (f n : ℕ) → n < f → Alike n n (declarations f) (declarations (suc f))
unfolding declarations
declarations-fuel zero n h = absurd (omega arith)
declarations-fuel (suc f) n h = ahead NAME refl (λ l z. bind declaration-alike (λ d. bind (declarations-fuel f l (omega arith)) (λ ds. gives _))) (gives _)

variables-fuel : (f n : ℕ) → n < f → Alike n n (variables f) (variables (suc f))
unfolding variables
variables-fuel f n h = either VAR (thens (weak skips) (bind (declarations-fuel f n h) (λ ds. past END_VAR (gives _)))) (gives _)

-- The statements, from their parts: behind the first token are l

exit-alike : {l : ℕ} → Alike (suc l) l exit exit
unfolding exit
exit-alike = bind skips (λ t. gives _)

if_alike : {l : ℕ} {b b' : Reader Branches} → Alike (suc l) l b b' → Alike (suc l) l (if_then b) (if_then b')
unfolding if_then
if_alike h = bind h (λ b. past END_IF (gives _))

module _ {l : ℕ} {exp exp' : Reader Exp} (e : Alike l l exp exp') where
  assignment-alike : Alike (suc l) l (assignment exp) (assignment exp')
  unfolding assignment
  assignment-alike = bind take_name-alike (λ v. past ASSIGN (bind e (λ x. gives _)))

  case-alike : {g g' : Reader Groups} → Alike l l g g' → Alike (suc l) l (case_of exp g) (case_of exp' g')
  unfolding case_of
  case-alike h = thens skips (bind e (λ x. past OF (bind h (λ g. past END_CASE (gives _)))))

  module _ {body body' : Reader Stms} (s : Alike l l body body') where
    for_alike : Alike (suc l) l (for_do exp body) (for_do exp' body')
    unfolding for_do
    for_alike = thens skips (bind (weak take_name-alike) (λ v. past ASSIGN (bind e (λ x. past TO (bind e (λ y. bind (maybe_alike BY) (λ z. past DO (bind s (λ b. past END_FOR (gives _))))))))))

    while_alike : Alike (suc l) l (while_do exp body) (while_do exp' body')
    unfolding while_do
    while_alike = thens skips (bind e (λ c. past DO (bind s (λ b. past END_WHILE (gives _)))))

    repeat-alike : Alike (suc l) l (repeat_until exp body) (repeat_until exp' body')
    unfolding repeat_until
    repeat-alike = thens skips (bind s (λ b. past UNTIL (bind e (λ c. past END_REPEAT (gives _)))))

    branch-alike : {b b' : Reader Branches} → ((q : ℕ) → q < l → Alike (suc q) q b b') → Alike (suc l) l (one_branch exp body b) (one_branch exp' body' b')
    unfolding one_branch
    branch-alike h = thens skips (bind e (λ c. past THEN (bind s (λ b. bind (ahead ELSIF refl h (either ELSE (thens (weak skips) (bind s (λ z. gives _))) (gives _))) (λ o. gives _)))))

group-alike : {l : ℕ} {ls ls' : Reader (List Label)} {body body' : Reader Stms} {g g' : Reader Groups} → Alike (suc l) (suc l) ls ls' → Alike l l body body' → ((q : ℕ) → q < l → Alike (suc q) q g g') → Alike (suc l) l (one_group ls body g) (one_group ls' body' g')
unfolding one_group starts_constant
group-alike k s h = bind k (λ ls. thens (takes COLON) (bind s (λ b. bind (tested starts_constant refl h (either ELSE (thens (weak skips) (bind s (λ z. gives _))) (gives _))) (λ o. gives _))))

one_more-alike : {l : ℕ} {stm stm' : Reader Stm} {body body' : Reader Stms} → Alike (suc l) l stm stm' → Alike l l body body' → Alike (suc l) l (one_more stm body) (one_more stm' body')
unfolding one_more
one_more-alike h s = bind h (λ x. past SEMI (bind s (λ b. gives _)))

-- Statements: fuel of three for each token, and three. Lists may find no token; the others have one, and l behind it

mutual
  unfolding statement starts_statement

  statement-fuel : (f l d m : ℕ) → 3 * l + 5 ≤ f → Alike (suc l) l (statement f d m) (statement (suc f) d m)
  statement-fuel zero l d m h = absurd (omega arith)
  statement-fuel (suc f) l d m h =
      let e = expr-fuel f l 0 0 (omega arith) in
      record {
        alike = λ ts q.
            (either NAME (assignment-alike e)
            (either EXIT exit-alike
            (under d nesting_limit _
            (either IF (if_alike (branches-fuel f l (suc d) m (omega arith)))
            (either CASE (case-alike e (weak (groups-fuel f l (suc d) m (omega arith))))
            (either FOR (under m for_limit _ (for_alike e (list-fuel f l (suc d) (suc m) (omega arith))))
            (either WHILE (while_alike e (list-fuel f l (suc d) m (omega arith)))
            (repeat-alike e (list-fuel f l (suc d) m (omega arith)))))))))).alike ts q;
      }

  list-fuel : (f n d m : ℕ) → 3 * n + 3 ≤ f → Alike n n (list f d m) (list (suc f) d m)
  list-fuel zero n d m h = absurd (omega arith)
  list-fuel (suc f) n d m h =
      ahead SEMI refl (λ l z. thens skips (list-fuel f l d m (omega arith)))
      (tested starts_statement refl (λ l z. one_more-alike (statement-fuel f l d m (omega arith)) (list-fuel f l d m (omega arith)))
      (gives _))

  branches-fuel : (f l d m : ℕ) → 3 * l + 4 ≤ f → Alike (suc l) l (branches f d m) (branches (suc f) d m)
  branches-fuel zero l d m h = absurd (omega arith)
  branches-fuel (suc f) l d m h = branch-alike (expr-fuel f l 0 0 (omega arith)) (list-fuel f l d m (omega arith)) (λ q z. branches-fuel f q d m (omega arith))

  groups-fuel : (f l d m : ℕ) → 3 * l + 4 ≤ f → Alike (suc l) l (groups f d m) (groups (suc f) d m)
  groups-fuel zero l d m h = absurd (omega arith)
  groups-fuel (suc f) l d m h = group-alike (labels-fuel f (suc l) (omega arith)) (list-fuel f l d m (omega arith)) (λ q z. groups-fuel f q d m (omega arith))

program_step : (f l : ℕ) → 3 * l + 3 ≤ f → Alike (suc l) l (program f) (program (suc f))
unfolding program
program_step f l h = thens (takes PROGRAM) (thens (weak take_name-alike) (bind (variables-fuel f l (omega arith)) (λ ds. bind (list-fuel f l 0 0 h) (λ b. past END_PROGRAM (past FINISH (gives _))))))

-- The whole

-- where one more changes nothing, nor do many
settled : {A : Type 0} (F : ℕ → A) (n : ℕ) → ((f : ℕ) → n ≤ f → F f ≡ F (suc f)) → (f : ℕ) → n ≤ f → F f ≡ F n
settled F zero h zero q = refl
settled F zero h (suc f) q = sym (h f (omega arith)) ∙ settled F zero h f (omega arith)
settled F (suc n) h zero q = absurd (omega arith)
settled F (suc n) h (suc f) q = settled (λ k. F (suc k)) n (λ k z. h (suc k) (omega arith)) f (omega arith)

tokens_step : (f i : ℕ) (s : List ℕ) → length s < f → tokens_at f i s ≡ tokens_at (suc f) i s
unfolding tokens_at
tokens_step zero i s h = absurd (omega arith)
tokens_step (suc f) i [] h = refl
tokens_step (suc f) i (x ∷ s) h = follow_same _ _ i (piece-takes x s i) (λ n q. tokens_step f (i + n) (drop n (x ∷ s)) (rw length-drop (omega arith)))

pub tokens-fuel : (s : List ℕ) (f : ℕ) → suc (length s) ≤ f → tokens_at f 0 s ≡ tokens s
unfolding tokens
tokens-fuel s f h = settled (λ g. tokens_at g 0 s) (suc (length s)) (λ g q. tokens_step g 0 s q) f h

pub program-fuel : (ts : List Token) (f : ℕ) → 4 * length ts ≤ f → program f ts ≡ program (4 * length ts) ts
unfolding program ◌>>◌ on_read take next plain
program-fuel [] f h = refl
program-fuel (t ∷ ts) f h = settled (λ g. program g (t ∷ ts)) (4 * length (t ∷ ts)) (λ g q. agree_same ((program_step g (length ts) (omega arith)).alike (t ∷ ts) (omega arith))) f h
