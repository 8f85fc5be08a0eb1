-- The walk: names, types and heights. It turns the syntax tree into the core program, or refuses: 4 (exact case), 6 to 12, 15, 16.
-- Parts before the whole, left to right; each definition tests in the order of the rules.
use mathlib.Core.List as L
use Rattle.std.specs.Prelude.{Bool, true, false, not, ◌&&◌, [], ◌∷◌, ◌++◌, ℕ, suc, ◌+◌, ℤ, pos, neg_ℤ, ltb, leb, length}
use Rattle.std.proofs.Math.Option.{Option, none, some}
use Rattle.std.specs.Int.Signed.{le_z}
use Rattle.rules.specs.Limits.{integer_limit, variable_limit, stack_limit}
use Rattle.rules.specs.Numbers.{Ty, bool, dint, same_ty, of_bool, is_zero}
use Rattle.rules.specs.Core.{Neg, Not, Bin, Mul, Div, Mod, Add, Sub, Lt, Gt, Le, Ge, Eq, Ne, And, Xor, Or, Expr, num, flag, var, un, bin, pls, par, Labels, lnil, lab, Stmt, List, Brs, Grps, Variable, Program, assign, if, case, for, while, repeat, exit, nil, cons, none as noB, els, elsif, other, grp, result}
use Rattle.rules.specs.Depth.{height}
use Rattle.rules.specs.Base.{pick, Res, ok, refuse, ◌>>=◌, need, same, member}
use Rattle.rules.specs.Syntax.{Name, Sign, minus, plus, inverse, Exp, named, whole, truth, paren, unary, binary, Con, con_bool, con_int, Label, label, Decl, Stm, assign_s, if_s, case_s, for_s, while_s, repeat_s, exit_s, Stms, empty, then, Branches, no_else, else_b, branch, Groups, no_other, else_g, group, Tree}

-- a declared variable: its letters, its type, its initial value
pub record Var : Type 0 where
  pub letters : L.List ℕ
  pub type : Ty
  pub init : ℤ

-- without their letters
unfoldable pub nameless : L.List Var → L.List Variable
nameless [] = []
nameless (v ∷ vs) = record { type = v.type; init = v.init } ∷ nameless vs

-- Names

pub record Slot : Type 0 where
  pub slot : ℕ
  pub type : Ty

-- the slot of a name among variables that start at slot i
unfoldable pub find : L.List ℕ → ℕ → L.List Var → Option Slot
find l i [] = none
find l i (v ∷ vs) = pick (same l v.letters) (λ _. some (record { slot = i; type = v.type })) (λ _. find l (suc i) vs)

unfoldable pub is_none : Option Slot → Bool
is_none none = true
is_none (some s) = false

-- 7: unknown
unfoldable pub known_at : ℕ → Option Slot → Res Slot
known_at p none = refuse 7 p
known_at p (some s) = ok s

unfoldable pub known : L.List Var → Name → Res Slot
known vs v = known_at v.place (find v.letters 0 vs)

-- Constants

-- its first byte
unfoldable pub con_first : Con → ℕ
con_first (con_bool p b) = p
con_first (con_int p below q v) = p

unfoldable pub con_type : Con → Ty
con_type (con_bool p b) = bool
con_type (con_int p below q v) = dint

unfoldable pub con_value : Con → ℤ
con_value (con_bool p b) = of_bool b
con_value (con_int p below q v) = pick below (λ _. neg_ℤ (pos v)) (λ _. pos v)

-- the largest integer in a constant: 2147483648 only after `-`
unfoldable pub largest : Bool → ℕ
largest true = integer_limit
largest false = 2147483647

-- 4
unfoldable pub exact : Con → Res (Unit {0})
exact (con_bool p b) = ok tt
exact (con_int p below q v) = need (leb v (largest below)) 4 q

-- Declarations: 6, 9, 4, 8

unfoldable pub initial : Decl → Option Con → Res ℤ
initial d none = ok (pos 0)
initial d (some c) = do
  _ ← exact c
  _ ← need (same_ty (con_type c) d.type) 8 d.name.place
  ok (con_value c)

unfoldable pub declare : L.List Var → Decl → Res (L.List Var)
declare vs d = do
  _ ← need (is_none (find d.name.letters 0 vs)) 6 d.name.place
  _ ← need (ltb (length vs) variable_limit) 9 d.name.place
  z ← initial d d.init
  ok (vs ++ (record { letters = d.name.letters; type = d.type; init = z } ∷ []))

unfoldable pub declare_all : L.List Var → L.List Decl → Res (L.List Var)
declare_all vs [] = ok vs
declare_all vs (d ∷ ds) = do
  ws ← declare vs d
  declare_all ws ds

-- Labels: 4 of low, 4 of high, 8, 16

-- low = high for one value
unfoldable pub high_of : Con → Option Con → Con
high_of c none = c
high_of c (some d) = d

unfoldable pub span : Con → Con → Res (Unit {0})
span c d = do
  _ ← exact c
  _ ← exact d
  _ ← need (same_ty (con_type c) dint && same_ty (con_type d) dint) 8 (con_first c)
  need (le_z (con_value c) (con_value d)) 16 (con_first c)

unfoldable pub labels : L.List Label → Res Labels
labels [] = ok lnil
labels (label c d ∷ ls) = do
  _ ← span c (high_of c d)
  r ← labels ls
  ok (lab (con_value c) (con_value (high_of c d)) r)

-- BY: 4, 8, 15; missing: 1
unfoldable pub step : Option Con → Res ℤ
step none = ok (pos 1)
step (some c) = do
  _ ← exact c
  _ ← need (same_ty (con_type c) dint) 8 (con_first c)
  _ ← need (not (is_zero (con_value c))) 15 (con_first c)
  ok (con_value c)

-- Expressions

-- the first byte
unfoldable pub first : Exp → ℕ
first (named v) = v.place
first (whole p v) = p
first (truth p b) = p
first (paren p a) = p
first (unary p s a) = p
first (binary p o a b) = first a

-- an expression's code and its type
pub record Typed : Type 0 where
  pub core : Expr
  pub type : Ty

unfoldable pub typed : Expr → Ty → Typed
typed e t = record { core = e; type = t }

-- what an operator takes, if its left operand has type t
unfoldable pub takes : Bin → Ty → Ty
takes Mul t = dint
takes Div t = dint
takes Mod t = dint
takes Add t = dint
takes Sub t = dint
takes Lt t = dint
takes Gt t = dint
takes Le t = dint
takes Ge t = dint
takes Eq t = t
takes Ne t = t
takes And t = bool
takes Xor t = bool
takes Or t = bool

-- what a sign takes and gives
unfoldable pub sign_ty : Sign → Ty
sign_ty minus = dint
sign_ty plus = dint
sign_ty inverse = bool

unfoldable pub sign_core : ℕ → Sign → Expr → Expr
sign_core p minus e = un p Neg e
sign_core p plus e = pls e
sign_core p inverse e = un p Not e

-- vs: the declared variables
module _ (vs : L.List Var) where
  -- 4 and 7 at an operand, 8 at an operator
  unfoldable pub expression : Exp → Res Typed
  expression (named v) = do
    s ← known vs v
    ok (typed (var s.slot) s.type)
  expression (whole p v) = do
    _ ← need (leb v (largest false)) 4 p
    ok (typed (num (pos v)) dint)
  expression (truth p b) = ok (typed (flag b) bool)
  expression (paren p a) = do
    x ← expression a
    ok (typed (par x.core) x.type)
  expression (unary p s a) = do
    x ← expression a
    _ ← need (same_ty x.type (sign_ty s)) 8 p
    ok (typed (sign_core p s x.core) (sign_ty s))
  expression (binary p o a b) = do
    x ← expression a
    y ← expression b
    let t = takes o x.type
    _ ← need (same_ty x.type t && same_ty y.type t) 8 p
    ok (typed (bin p o x.core y.core) (result o))

  -- a whole expression whose place asks for type t: its own faults, 8 at p, its height with `more` on top at its first byte
  unfoldable pub placed : Ty → ℕ → ℕ → Exp → Res Expr
  placed t p more e = do
    x ← expression e
    _ ← need (same_ty x.type t) 8 p
    _ ← need (leb (height x.core + more) stack_limit) 10 (first e)
    ok x.core

  unfoldable pub condition : Exp → Res Expr
  condition e = placed bool (first e) 0 e

  unfoldable pub selector : Exp → Res Expr
  selector e = placed dint (first e) 0 e

  -- a FOR final counts one more
  unfoldable pub final : Exp → Res Expr
  final e = placed dint (first e) 1 e

  -- Statements

  -- a name that is assigned or taken by a FOR: 7, and 11 if an enclosing FOR has it
  unfoldable pub assigned : L.List ℕ → Name → Res Slot
  assigned taken v = do
    s ← known vs v
    _ ← need (not (member s.slot taken)) 11 v.place
    ok s

  -- taken: the slots of the enclosing FORs; inside: a loop encloses
  unfoldable mutual
    pub statement : Stm → L.List ℕ → Bool → Res Stmt
    statement (assign_s v e) taken inside = do
      s ← assigned taken v
      x ← placed s.type v.place 0 e
      ok (assign s.slot x)
    statement (if_s b) taken inside = do
      c ← branches b taken inside
      ok (if c)
    statement (case_s e g) taken inside = do
      x ← selector e
      h ← groups g taken inside
      ok (case x h)
    statement (for_s v a e c l) taken inside = do
      s ← assigned taken v
      _ ← need (same_ty s.type dint) 8 v.place
      x ← selector a
      y ← final e
      d ← step c
      m ← list l (s.slot ∷ taken) true
      ok (for s.slot x y d m)
    statement (while_s c l) taken inside = do
      x ← condition c
      m ← list l taken true
      ok (while x m)
    statement (repeat_s l c) taken inside = do
      m ← list l taken true
      x ← condition c
      ok (repeat m x)
    statement (exit_s p) taken inside = do
      _ ← need inside 12 p
      ok exit

    pub list : Stms → L.List ℕ → Bool → Res List
    list empty taken inside = ok nil
    list (then s l) taken inside = do
      x ← statement s taken inside
      m ← list l taken inside
      ok (cons x m)

    pub branches : Branches → L.List ℕ → Bool → Res Brs
    branches no_else taken inside = ok noB
    branches (else_b l) taken inside = do
      m ← list l taken inside
      ok (els m)
    branches (branch c l b) taken inside = do
      x ← condition c
      m ← list l taken inside
      d ← branches b taken inside
      ok (elsif x m d)

    pub groups : Groups → L.List ℕ → Bool → Res Grps
    groups no_other taken inside = ok (other nil)
    groups (else_g l) taken inside = do
      m ← list l taken inside
      ok (other m)
    groups (group ls l g) taken inside = do
      k ← labels ls
      m ← list l taken inside
      h ← groups g taken inside
      ok (grp k m h)

-- declarations, then statements
unfoldable pub walk : Tree → Res Program
walk t = do
  vs ← declare_all [] t.decls
  l ← list vs t.body [] false
  ok (record { vars = nameless vs; body = l })
