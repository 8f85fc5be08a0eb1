-- How tokens and the tree lie in lent numbers. A cell is three numbers: a tag, a place, and a datum. The tokens' cells lie from the first
-- number on, the tree's from number `token_numbers` on: expressions in postfix, statements in prefix, each expression and each list closed by a cell.
use Rattle.std.specs.Prelude.{Bool, true, false, [], ◌∷◌, ◌++◌, ℕ, eqb, leb, length}
use mathlib.Core.List as L
use Rattle.std.proofs.Math.Option.{Option, none, some}
use Rattle.std.proofs.lemmas.List.Edits.{sets}
use Rattle.rules.specs.Limits.{text_limit, memory_numbers, token_numbers}
use Rattle.rules.specs.Base.{pick, Res, ok, refuse, ◌>>=◌, need}
use Rattle.rules.specs.Numbers.{Ty, bool, dint}
use Rattle.rules.specs.Kinds.{FINISH, NAME, INT, BOOL, CASE, DINT, ELSE, END_CASE, END_IF, EXIT, FALSE, FOR, IF, REPEAT, THEN, TRUE, WHILE, ASSIGN, DOTS, COLON, OPEN, PLUS, MINUS}
use Rattle.rules.specs.Tokens.{Token, tokens}
use Rattle.rules.specs.Syntax.{Name, Sign, minus, plus, inverse, Exp, named, whole, truth, paren, unary, binary, Con, con_bool, con_int, Label, label, Decl, Stm, assign_s, if_s, case_s, for_s, while_s, repeat_s, exit_s, Stms, empty, then, Branches, no_else, else_b, branch, Groups, no_other, else_g, group, Tree, parse}
use Rattle.rules.specs.Walk.{first}
use Rattle.rules.specs.Codes.{bin_code}
use Rattle.rules.specs.Compile.{refused, memory_after}

unfoldable pub cell : ℕ → ℕ → ℕ → L.List ℕ
cell tag place datum = tag ∷ place ∷ datum ∷ []

-- Tokens: the kind, the place, and a name's length or an integer's value

unfoldable pub datum : Token → ℕ
datum t = pick (eqb t.kind NAME) (λ _. length t.letters) (λ _. t.value)

unfoldable pub token_cell : Token → L.List ℕ
token_cell t = cell t.kind t.place (datum t)

unfoldable pub cells : L.List Token → L.List ℕ
cells [] = []
cells (t ∷ ts) = token_cell t ++ cells ts

-- The tree's tags are the kinds of tokens, and three more. A datum is a name's length, an integer's value, or an operator's code.

abbrev pub UNARY : ℕ
UNARY = 53

abbrev pub BINARY : ℕ
BINARY = 54

-- closes an expression that a statement holds; its place is the expression's first byte
abbrev pub WHOLE : ℕ
WHOLE = 55

-- closes a list, and stands for a constant that is missing
unfoldable pub end_cell : L.List ℕ
end_cell = cell FINISH 0 0

unfoldable pub name_cell : ℕ → Name → L.List ℕ
name_cell tag v = cell tag v.place (length v.letters)

unfoldable pub truth_kind : Bool → ℕ
truth_kind true = TRUE
truth_kind false = FALSE

-- NEG, nothing, NOT
unfoldable pub sign_code : Sign → ℕ
sign_code minus = 5
sign_code plus = 0
sign_code inverse = 6

unfoldable pub exp_cells : Exp → L.List ℕ
exp_cells (named v) = name_cell NAME v
exp_cells (whole p v) = cell INT p v
exp_cells (truth p b) = cell (truth_kind b) p 0
exp_cells (paren p e) = exp_cells e ++ cell OPEN p 0
exp_cells (unary p s e) = exp_cells e ++ cell UNARY p (sign_code s)
exp_cells (binary p o a b) = (exp_cells a ++ exp_cells b) ++ cell BINARY p (bin_code o)

unfoldable pub whole_cells : Exp → L.List ℕ
whole_cells e = exp_cells e ++ cell WHOLE (first e) 0

-- an integer is two cells: the constant's first byte with its sign, and the integer
unfoldable pub sign_kind : Bool → ℕ
sign_kind true = MINUS
sign_kind false = PLUS

unfoldable pub con_cells : Con → L.List ℕ
con_cells (con_bool p b) = cell (truth_kind b) p 0
con_cells (con_int p below q v) = cell (sign_kind below) p 0 ++ cell INT q v

unfoldable pub maybe_cells : Option Con → L.List ℕ
maybe_cells none = end_cell
maybe_cells (some c) = con_cells c

-- low; `..` and high if there is one
unfoldable pub label_cells : Label → L.List ℕ
label_cells (label c none) = con_cells c
label_cells (label c (some d)) = (con_cells c ++ cell DOTS 0 0) ++ con_cells d

unfoldable pub labels_cells : L.List Label → L.List ℕ
labels_cells [] = cell COLON 0 0
labels_cells (l ∷ ls) = label_cells l ++ labels_cells ls

unfoldable mutual
  pub stm_cells : Stm → L.List ℕ
  stm_cells (assign_s v e) = name_cell ASSIGN v ++ whole_cells e
  stm_cells (if_s b) = cell IF 0 0 ++ branch_cells b
  stm_cells (case_s e g) = (cell CASE 0 0 ++ whole_cells e) ++ group_cells g
  stm_cells (for_s v a e s l) = (((name_cell FOR v ++ whole_cells a) ++ whole_cells e) ++ maybe_cells s) ++ list_cells l
  stm_cells (while_s c l) = (cell WHILE 0 0 ++ whole_cells c) ++ list_cells l
  stm_cells (repeat_s l c) = (cell REPEAT 0 0 ++ list_cells l) ++ whole_cells c
  stm_cells (exit_s p) = cell EXIT p 0

  pub list_cells : Stms → L.List ℕ
  list_cells empty = end_cell
  list_cells (then s l) = stm_cells s ++ list_cells l

  pub branch_cells : Branches → L.List ℕ
  branch_cells no_else = cell END_IF 0 0
  branch_cells (else_b l) = cell ELSE 0 0 ++ list_cells l
  branch_cells (branch c l b) = ((cell THEN 0 0 ++ whole_cells c) ++ list_cells l) ++ branch_cells b

  pub group_cells : Groups → L.List ℕ
  group_cells no_other = cell END_CASE 0 0
  group_cells (else_g l) = cell ELSE 0 0 ++ list_cells l
  group_cells (group ls l g) = (labels_cells ls ++ list_cells l) ++ group_cells g

unfoldable pub type_kind : Ty → ℕ
type_kind bool = BOOL
type_kind dint = DINT

unfoldable pub decl_cells : Decl → L.List ℕ
decl_cells d = name_cell (type_kind d.type) d.name ++ maybe_cells d.init

unfoldable pub decls_cells : L.List Decl → L.List ℕ
decls_cells [] = end_cell
decls_cells (d ∷ ds) = decl_cells d ++ decls_cells ds

unfoldable pub tree_cells : Tree → L.List ℕ
tree_cells t = decls_cells t.decls ++ list_cells t.body

-- What scanning and parsing answer, and what is lent afterwards. A refusal leaves working memory as it does for compiling.

pub record Lent : Type 0 where
  -- how many tokens, or how many numbers of the tree; or the refusal
  pub answer : Res ℕ
  pub memory : L.List ℕ

unfoldable pub refused_lent : ℕ → ℕ → L.List ℕ → Lent
refused_lent n p lent = record { answer = refuse n p; memory = memory_after (refused n p) lent }

-- 17; 1; tokens. The least length is given
unfoldable pub tokens_for : ℕ → ℕ → L.List ℕ → Res (L.List Token)
tokens_for least lent text = do
  _ ← need (leb least lent) 17 0
  _ ← need (leb (length text) text_limit) 1 text_limit
  tokens text

unfoldable pub tokens_left : Res (L.List Token) → L.List ℕ → Lent
tokens_left (ok ts) lent = record { answer = ok (length ts); memory = sets lent 0 (cells ts) }
tokens_left (refuse n p) lent = refused_lent n p lent

-- scanning leaves the tokens
unfoldable pub scanned : L.List ℕ → L.List ℕ → Lent
scanned text lent = tokens_left (tokens_for token_numbers (length lent) text) lent

unfoldable pub tree_left : Res Tree → L.List ℕ → L.List ℕ → Lent
tree_left (ok t) lent scanned = record { answer = ok (length (tree_cells t)); memory = sets scanned token_numbers (tree_cells t) }
tree_left (refuse n p) lent scanned = refused_lent n p lent

unfoldable pub parsed_left : Res (L.List Token) → L.List ℕ → Lent
parsed_left (ok ts) lent = tree_left (parse ts) lent (sets lent 0 (cells ts))
parsed_left (refuse n p) lent = refused_lent n p lent

-- parsing leaves the tokens and the tree
unfoldable pub parsed : L.List ℕ → L.List ℕ → Lent
parsed text lent = parsed_left (tokens_for memory_numbers (length lent) text) lent
