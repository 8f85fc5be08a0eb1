-- The syntax tree, with places and folded names, and how tokens are read as a tree: refusals 5 and, for nesting, 10.
use mathlib.Core.List as L
use Rattle.std.specs.Prelude.{Bool, true, false, ◌||◌, [], ◌∷◌, ℕ, zero, suc, ◌*◌, eqb, ltb, leb, length}
use Rattle.std.proofs.Math.Option.{Option, none, some}
use Rattle.rules.specs.Numbers.{Ty, bool, dint}
use Rattle.rules.specs.Core.{Bin, Mul, Div, Mod, Add, Sub, Lt, Gt, Le, Ge, Eq, Ne, And, Xor, Or}
use Rattle.rules.specs.Limits.{nesting_limit, for_limit}
use Rattle.rules.specs.Base.{pick, Res, ok, refuse}
use Rattle.rules.specs.Kinds.{FINISH, NAME, INT, AND, BOOL, BY, CASE, DINT, DO, ELSE, ELSIF, END_CASE, END_FOR, END_IF, END_PROGRAM, END_REPEAT, END_VAR, END_WHILE, EXIT, FALSE, FOR, IF, MOD, NOT, OF, OR, PROGRAM, REPEAT, THEN, TO, TRUE, UNTIL, VAR, WHILE, XOR, ASSIGN, DOTS, LESSEQ, MOREEQ, UNEQ, COLON, SEMI, COMMA, OPEN, CLOSE, PLUS, MINUS, STAR, SLASH, LESS, MORE, EQUAL, AMP}
use Rattle.rules.specs.Tokens.{Token, plain}

-- The tree. The first number of a node is the place that a refusal would name.

-- a name as it is used: its place and its letters
pub record Name : Type 0 where
  pub place : ℕ
  pub letters : L.List ℕ

pub data Sign : Type 0 where
  minus plus inverse : Sign

pub data Exp : Type 0 where
  named : Name → Exp
  whole : ℕ → ℕ → Exp
  truth : ℕ → Bool → Exp
  paren : ℕ → Exp → Exp
  unary : ℕ → Sign → Exp → Exp
  binary : ℕ → Bin → Exp → Exp → Exp

-- TRUE or FALSE; or an integer: the constant's first byte, whether `-` stands before it, the integer's place, its value
pub data Con : Type 0 where
  con_bool : ℕ → Bool → Con
  con_int : ℕ → Bool → ℕ → ℕ → Con

-- a label: low, and high if there is one
pub data Label : Type 0 where
  label : Con → Option Con → Label

pub record Decl : Type 0 where
  pub name : Name
  pub type : Ty
  pub init : Option Con

mutual
  pub data Stm : Type 0 where
    assign_s : Name → Exp → Stm
    if_s : Branches → Stm
    case_s : Exp → Groups → Stm
    for_s : Name → Exp → Exp → Option Con → Stms → Stm
    while_s : Exp → Stms → Stm
    repeat_s : Stms → Exp → Stm
    exit_s : ℕ → Stm

  pub data Stms : Type 0 where
    empty : Stms
    then : Stm → Stms → Stms

  -- IF's branches, then ELSE if there is one
  pub data Branches : Type 0 where
    no_else : Branches
    else_b : Stms → Branches
    branch : Exp → Stms → Branches → Branches

  -- CASE's groups, then ELSE if there is one
  pub data Groups : Type 0 where
    no_other : Groups
    else_g : Stms → Groups
    group : L.List Label → Stms → Groups → Groups

pub record Tree : Type 0 where
  pub decls : L.List Decl
  pub body : Stms

-- Reading: what was read, and the tokens left; or a refusal

pub data Read (A : Type 0) : Type 0 where
  got : A → L.List Token → Read A
  bad : ℕ → ℕ → Read A

abbrev pub Reader : Type 0 → Type 0
Reader A = L.List Token → Read A

unfoldable pub on_read : {A B : Type 0} → Read A → (A → Reader B) → Read B
on_read (got a ts) f = f a ts
on_read (bad n p) f = bad n p

unfoldable pub ◌>>=◌ : {A B : Type 0} → Reader A → (A → Reader B) → Reader B
◌>>=◌ m f ts = on_read (m ts) f

unfoldable pub ◌>>◌ : {A B : Type 0} → Reader A → Reader B → Reader B
◌>>◌ m k ts = on_read (m ts) (λ _. k)

unfoldable pub give : {A : Type 0} → A → Reader A
give a ts = got a ts

-- the next token
unfoldable pub next : L.List Token → Token
next [] = plain FINISH 0
next (t ∷ ts) = t

unfoldable pub rest : L.List Token → L.List Token
rest [] = []
rest (t ∷ ts) = ts

unfoldable pub skip : Reader Token
skip ts = got (next ts) (rest ts)

-- the next token is of this kind, else 5
unfoldable pub take : ℕ → Reader Token
take k ts = pick (eqb (next ts).kind k) (λ _. got (next ts) (rest ts)) (λ _. bad 5 (next ts).place)

-- one reader or another, by the next token's kind
unfoldable pub when : {A : Type 0} → ℕ → Reader A → Reader A → Reader A
when k a b ts = pick (eqb (next ts).kind k) (λ _. a ts) (λ _. b ts)

-- one reader or another, by a test of the next token's kind
unfoldable pub whether : {A : Type 0} → (ℕ → Bool) → Reader A → Reader A → Reader A
whether p a b ts = pick (p (next ts).kind) (λ _. a ts) (λ _. b ts)

-- the next token continues no program
unfoldable pub unexpected : {A : Type 0} → Reader A
unexpected ts = bad 5 (next ts).place

-- refuse 10 at a place where a nesting has its most
unfoldable pub nested : {A : Type 0} → ℕ → ℕ → ℕ → Reader A → Reader A
nested n most p a ts = pick (ltb n most) (λ _. a ts) (λ _. bad 10 p)

unfoldable pub name_of : Token → Name
name_of t = record { place = t.place; letters = t.letters }

unfoldable pub take_name : Reader Name
take_name = do
  t ← take NAME
  give (name_of t)

-- Constants

unfoldable pub signed : Bool → Reader Con
signed below = do
  s ← skip
  t ← take INT
  give (con_int s.place below t.place t.value)

unfoldable pub truth_con : Bool → Reader Con
truth_con b = do
  t ← skip
  give (con_bool t.place b)

unfoldable pub unsigned : Reader Con
unsigned = do
  t ← take INT
  give (con_int t.place false t.place t.value)

unfoldable pub constant : Reader Con
constant = when MINUS (signed true) (when PLUS (signed false) (when TRUE (truth_con true) (when FALSE (truth_con false) unsigned)))

-- a constant if this token stands before it
unfoldable pub maybe : ℕ → Reader (Option Con)
maybe k = when k (do skip; c ← constant; give (some c)) (give none)

-- Expressions

-- the operators with their levels, tightest 7
pub record Operator : Type 0 where
  pub kind : ℕ
  pub level : ℕ
  pub op : Bin

unfoldable pub operator : ℕ → ℕ → Bin → Operator
operator k n o = record { kind = k; level = n; op = o }

unfoldable pub operators : L.List Operator
operators =
    operator STAR 7 Mul ∷
    operator SLASH 7 Div ∷
    operator MOD 7 Mod ∷
    operator PLUS 6 Add ∷
    operator MINUS 6 Sub ∷
    operator LESS 5 Lt ∷
    operator MORE 5 Gt ∷
    operator LESSEQ 5 Le ∷
    operator MOREEQ 5 Ge ∷
    operator EQUAL 4 Eq ∷
    operator UNEQ 4 Ne ∷
    operator AND 3 And ∷
    operator AMP 3 And ∷
    operator XOR 2 Xor ∷
    operator OR 1 Or ∷
    []

-- a kind's operator; level 0 where it is none
unfoldable pub operator_of : ℕ → L.List Operator → Operator
operator_of k [] = operator k 0 Mul
operator_of k (o ∷ os) = pick (eqb k o.kind) (λ _. o) (λ _. operator_of k os)

unfoldable pub leaf : (Token → Exp) → Reader Exp
leaf f = do
  t ← skip
  give (f t)

-- `(` expression `)`, nested at most 16: else 10
unfoldable pub parens : ℕ → ℕ → Reader Exp → Reader Exp
parens n p exp = nested n nesting_limit p (do
  skip
  e ← exp
  take CLOSE
  give (paren p e))

unfoldable pub operand : ℕ → Reader Exp → Reader Exp
operand n exp ts =
    when NAME (leaf (λ t. named (name_of t)))
    (when INT (leaf (λ t. whole t.place t.value))
    (when TRUE (leaf (λ t. truth t.place true))
    (when FALSE (leaf (λ t. truth t.place false))
    (when OPEN (parens n (next ts).place exp)
    unexpected)))) ts

unfoldable pub prefixed : Sign → Reader Exp → Reader Exp
prefixed s arg = do
  t ← skip
  a ← arg
  give (unary t.place s a)

-- one `-`, `+` or NOT before an operand
unfoldable pub signed_operand : Reader Exp → Reader Exp
signed_operand arg = when MINUS (prefixed minus arg) (when PLUS (prefixed plus arg) (when NOT (prefixed inverse arg) arg))

-- f: fuel, at least twice the tokens left and two; n: the parentheses around; m: the loosest level that is read
unfoldable mutual
  pub expr : ℕ → ℕ → ℕ → Reader Exp
  expr zero n m ts = bad 5 0
  expr (suc f) n m ts = (do
    a ← signed_operand (operand n (λ us. expr f (suc n) 1 us))
    λ us. more f n m a us) ts

  -- an operand is read; operators of level m and tighter, grouped from the left
  pub more : ℕ → ℕ → ℕ → Exp → Reader Exp
  more zero n m a ts = bad 5 0
  more (suc f) n m a ts =
      let o = operator_of (next ts).kind operators in
      pick (leb m o.level) (λ _. (do
        t ← skip
        b ← (λ us. expr f n (suc o.level) us)
        λ us. more f n m (binary t.place o.op a b) us) ts) (λ _. got a ts)

-- Statements. The readers of expressions and of lists are given.

unfoldable pub assignment : Reader Exp → Reader Stm
assignment exp = do
  v ← take_name
  take ASSIGN
  e ← exp
  give (assign_s v e)

unfoldable pub if_then : Reader Branches → Reader Stm
if_then branches = do
  b ← branches
  take END_IF
  give (if_s b)

unfoldable pub case_of : Reader Exp → Reader Groups → Reader Stm
case_of exp groups = do
  skip
  e ← exp
  take OF
  g ← groups
  take END_CASE
  give (case_s e g)

unfoldable pub for_do : Reader Exp → Reader Stms → Reader Stm
for_do exp list = do
  skip
  v ← take_name
  take ASSIGN
  a ← exp
  take TO
  e ← exp
  s ← maybe BY
  take DO
  l ← list
  take END_FOR
  give (for_s v a e s l)

unfoldable pub while_do : Reader Exp → Reader Stms → Reader Stm
while_do exp list = do
  skip
  c ← exp
  take DO
  l ← list
  take END_WHILE
  give (while_s c l)

unfoldable pub repeat_until : Reader Exp → Reader Stms → Reader Stm
repeat_until exp list = do
  skip
  l ← list
  take UNTIL
  c ← exp
  take END_REPEAT
  give (repeat_s l c)

unfoldable pub exit : Reader Stm
exit = do
  t ← skip
  give (exit_s t.place)

-- constant, or low`..`high
unfoldable pub one_label : Reader Label
one_label = do
  c ← constant
  d ← maybe DOTS
  give (label c d)

-- f: fuel, at least the tokens left and one
unfoldable pub labels : ℕ → Reader (L.List Label)
labels zero ts = bad 5 0
labels (suc f) ts = (do
  a ← one_label
  when COMMA (do skip; ls ← (λ us. labels f us); give (a ∷ ls)) (give (a ∷ []))) ts

unfoldable pub starts_constant : ℕ → Bool
starts_constant k = eqb k INT || eqb k TRUE || eqb k FALSE || eqb k MINUS || eqb k PLUS

unfoldable pub starts_statement : ℕ → Bool
starts_statement k = eqb k NAME || eqb k IF || eqb k CASE || eqb k FOR || eqb k WHILE || eqb k REPEAT || eqb k EXIT

-- IF or ELSIF, a condition, THEN, a list; then the other branches, ELSE, or nothing
unfoldable pub one_branch : Reader Exp → Reader Stms → Reader Branches → Reader Branches
one_branch exp list others = do
  skip
  c ← exp
  take THEN
  l ← list
  b ← when ELSIF others (when ELSE (do skip; e ← list; give (else_b e)) (give no_else))
  give (branch c l b)

-- labels, `:`, a list; then the other groups, ELSE, or nothing
unfoldable pub one_group : Reader (L.List Label) → Reader Stms → Reader Groups → Reader Groups
one_group labels list others = do
  ls ← labels
  take COLON
  l ← list
  g ← whether starts_constant others (when ELSE (do skip; e ← list; give (else_g e)) (give no_other))
  give (group ls l g)

-- a statement, `;`, and the rest of the list
unfoldable pub one_more : Reader Stm → Reader Stms → Reader Stms
one_more stm list = do
  s ← stm
  take SEMI
  l ← list
  give (then s l)

-- f: fuel, at least three times the tokens left and three; n: IF, CASE and loops around; m: FORs around
unfoldable mutual
  pub statement : ℕ → ℕ → ℕ → Reader Stm
  statement zero n m ts = bad 5 0
  statement (suc f) n m ts =
      let p = (next ts).place in
      when NAME (assignment (expr f 0 1))
      (when EXIT exit
      (nested n nesting_limit p
      (when IF (if_then (λ us. branches f (suc n) m us))
      (when CASE (case_of (expr f 0 1) (λ us. groups f (suc n) m us))
      (when FOR (nested m for_limit p (for_do (expr f 0 1) (λ us. list f (suc n) (suc m) us)))
      (when WHILE (while_do (expr f 0 1) (λ us. list f (suc n) m us))
      (repeat_until (expr f 0 1) (λ us. list f (suc n) m us)))))))) ts

  -- a lone `;` does nothing; the list ends at a token that starts no statement
  pub list : ℕ → ℕ → ℕ → Reader Stms
  list zero n m ts = bad 5 0
  list (suc f) n m ts =
      when SEMI (do skip; λ us. list f n m us)
      (whether starts_statement (one_more (λ us. statement f n m us) (λ us. list f n m us))
      (give empty)) ts

  pub branches : ℕ → ℕ → ℕ → Reader Branches
  branches zero n m ts = bad 5 0
  branches (suc f) n m ts = one_branch (expr f 0 1) (λ us. list f n m us) (λ us. branches f n m us) ts

  pub groups : ℕ → ℕ → ℕ → Reader Groups
  groups zero n m ts = bad 5 0
  groups (suc f) n m ts = one_group (labels f) (λ us. list f n m us) (λ us. groups f n m us) ts

-- Declarations and the program

-- name `:` BOOL or DINT, `:=` constant if wanted, `;`
unfoldable pub declaration : Reader Decl
declaration = do
  v ← take_name
  take COLON
  t ← when BOOL (do skip; give bool) (do take DINT; give dint)
  c ← maybe ASSIGN
  take SEMI
  give (record { name = v; type = t; init = c })

unfoldable pub declarations : ℕ → Reader (L.List Decl)
declarations zero ts = bad 5 0
declarations (suc f) ts =
    when NAME (do d ← declaration; ds ← (λ us. declarations f us); give (d ∷ ds)) (give []) ts

unfoldable pub variables : ℕ → Reader (L.List Decl)
variables f = when VAR (do skip; ds ← declarations f; take END_VAR; give ds) (give [])

unfoldable pub program : ℕ → Reader Tree
program f = do
  take PROGRAM
  take_name
  ds ← variables f
  l ← list f 0 0
  take END_PROGRAM
  take FINISH
  give (record { decls = ds; body = l })

unfoldable pub tree_of : Read Tree → Res Tree
tree_of (got t ts) = ok t
tree_of (bad n p) = refuse n p

-- four for each token are fuel enough
unfoldable pub parse : L.List Token → Res Tree
parse ts = tree_of (program (4 * length ts) ts)
