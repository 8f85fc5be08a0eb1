-- What a text means: what evaluating the core program does to a table, with a budget of ticks.
use mathlib.Core.List as L
use Rattle.std.specs.Prelude.{Bool, true, false, not, ◌&&◌, ◌||◌, ℕ, zero, suc, ℤ, pos, negsuc, neg_ℤ, ◌+ℤ◌, ◌-ℤ◌, ◌*ℤ◌, ltb, length, get_or, set}
use Rattle.std.specs.Int.Signed.{lt_z, le_z, quot_z, rem_z}
use Rattle.rules.specs.Numbers.{Ty, bool, dint, between, holds, is_dint, of_bool, is_zero, eq_z}
use Rattle.rules.specs.Core.{Un, Neg, Not, Bin, Mul, Div, Mod, Add, Sub, Lt, Gt, Le, Ge, Eq, Ne, And, Xor, Or, Expr, num, flag, var, un, bin, pls, par, Labels, lnil, lab, Stmt, List, Brs, Grps, assign, if, case, for, while, repeat, exit, nil, cons, none, els, elsif, other, grp}

-- one entry per variable
abbrev pub Table : Type 0
Table = L.List ℤ

-- how a run ends. `ill`: what has no meaning, as a text that is not well typed; the machine's 25
pub data Stop : Type 0 where
  done spent range divide ill : Stop

-- a value, or why there is none
pub data Ev : Type 0 where
  val : ℤ → Ev
  stop : Stop → Ev

-- the exact result, if the type holds it, else RANGE
unfoldable pub fit : Ty → ℤ → Ev
fit τ z = elim (holds τ z) [ true ↦ val z | false ↦ stop range ]

-- Operators. Sums, differences, products and negations are exact; outside the range the run stops with RANGE

unfoldable pub unop : Un → ℤ → Ev
unop Neg a = fit dint (neg_ℤ a)
unop Not a = elim (holds bool a) [ true ↦ val (of_bool (is_zero a)) | false ↦ stop ill ]

-- both operands are truth values, else there is no meaning
unfoldable pub logic : ℤ → ℤ → Bool → Ev
logic a b r = elim (holds bool a && holds bool b) [ true ↦ val (of_bool r) | false ↦ stop ill ]

-- division truncates toward zero; the remainder is the dividend less the truncated exact quotient times the divisor.
-- A zero divisor stops `/` and MOD with DIVIDE
unfoldable pub binop : Bin → ℤ → ℤ → Ev
binop Mul a b = fit dint (a *ℤ b)
binop Div a b = elim (is_zero b) [ true ↦ stop divide | false ↦ fit dint (quot_z a b) ]
binop Mod a b = elim (is_zero b) [ true ↦ stop divide | false ↦ fit dint (rem_z a b) ]
binop Add a b = fit dint (a +ℤ b)
binop Sub a b = fit dint (a -ℤ b)
binop Lt a b = val (of_bool (lt_z a b))
binop Gt a b = val (of_bool (lt_z b a))
binop Le a b = val (of_bool (le_z a b))
binop Ge a b = val (of_bool (le_z b a))
binop Eq a b = val (of_bool (eq_z a b))
binop Ne a b = val (of_bool (not (eq_z a b)))
binop And a b = logic a b (not (is_zero a || is_zero b))
binop Xor a b = logic a b (not (eq_z a b))
binop Or a b = logic a b (not (is_zero a && is_zero b))

-- Expressions: both operands are always evaluated, left first

unfoldable pub load : Table → ℕ → Ev
load t i = elim (ltb i (length t)) [ true ↦ val (get_or t i (pos 0)) | false ↦ stop ill ]

unfoldable pub bind_e : Ev → (ℤ → Ev) → Ev
bind_e (val v) f = f v
bind_e (stop o) f = stop o

unfoldable pub eval : Expr → Table → Ev
eval (num z) t = val z
eval (flag b) t = val (of_bool b)
eval (var i) t = load t i
eval (un ι o a) t = bind_e (eval a t) (λ x. unop o x)
eval (bin ι o a b) t = bind_e (eval a t) (λ x. bind_e (eval b t) (λ y. binop o x y))
eval (pls a) t = eval a t
eval (par a) t = eval a t

-- Statements

-- where a statement leaves a run, with the table and the ticks left: it goes on, an EXIT is on its way, or it has ended
pub data Out : Type 0 where
  go : Table → ℕ → Out
  left : Table → ℕ → Out
  halt : Stop → Table → ℕ → Out

-- a tick, then the rest
unfoldable pub tick : Table → ℕ → (ℕ → Out) → Out
tick t zero f = halt spent t zero
tick t (suc k) f = f k

-- go on with the value of an expression
unfoldable pub on_e : Ev → Table → ℕ → (ℤ → Out) → Out
on_e (val v) t k f = f v
on_e (stop o) t k f = halt o t k

-- a statement, then the rest of its list
unfoldable pub on_go : Out → (Table → ℕ → Out) → Out
on_go (go t k) f = f t k
on_go (left t k) f = left t k
on_go (halt o t k) f = halt o t k

-- the slot is a variable, and its type holds the value
unfoldable pub storable : L.List Ty → Table → ℕ → ℤ → Bool
storable Γ t i v = ltb i (length t) && holds (get_or Γ i dint) v

-- a FOR's variable: a DINT, and a step that is not 0
unfoldable pub load_d : L.List Ty → Table → ℕ → ℤ → Ev
load_d Γ t i s = elim (is_dint (get_or Γ i dint) && not (is_zero s)) [ true ↦ load t i | false ↦ stop ill ]

-- the table with an entry stored
unfoldable pub store : L.List Ty → ℕ → ℤ → Table → ℕ → (Table → Out) → Out
store Γ i v t k f = elim (storable Γ t i v) [ true ↦ f (set t i v) | false ↦ halt ill t k ]

-- a label of the group holds the selector
unfoldable pub in_labels : Labels → ℤ → Bool
in_labels lnil v = false
in_labels (lab lo hi ls) v = between lo hi v || in_labels ls v

-- the value passes the final value: above it for a positive step, below for a negative
unfoldable pub passes : ℤ → ℤ → ℤ → Bool
passes (pos n) v e = lt_z e v
passes (negsuc n) v e = lt_z v e

-- a loop's body, then the loop again; EXIT ends it
unfoldable pub on_pass : Out → (Table → ℕ → Out) → Out
on_pass (go t k) f = f t k
on_pass (left t k) f = go t k
on_pass (halt o t k) f = halt o t k

-- Loops. b is what the body means; fuel: a pass takes a tick, so the ticks left are enough

-- WHILE: a tick before each test
unfoldable pub loop_w : Expr → (Table → ℕ → Out) → ℕ → Table → ℕ → Out
loop_w c b zero t k = halt spent t k
loop_w c b (suc f) t k =
    tick t k (λ k'. on_e (eval c t) t k' (λ v. elim (is_zero v) [
      | true ↦ go t k'
      | false ↦ on_pass (b t k') (λ t'' k''. loop_w c b f t'' k'')
    ]))

-- REPEAT: a tick before each body, and the test after it
unfoldable pub loop_r : Expr → (Table → ℕ → Out) → ℕ → Table → ℕ → Out
loop_r c b zero t k = halt spent t k
loop_r c b (suc f) t k =
    tick t k (λ k'. on_pass (b t k') (λ t'' k''. on_e (eval c t'') t'' k'' (λ v. elim (is_zero v) [
      | true ↦ loop_r c b f t'' k''
      | false ↦ go t'' k''
    ])))

-- FOR, from a first body on: a tick before each body. After it, if variable plus step, taken exactly, passes the final value, the
-- loop ends and the variable is not changed; else it takes the step. v: the variable; s: the step; e: the held final value
unfoldable pub loop_f : L.List Ty → ℕ → ℤ → ℤ → (Table → ℕ → Out) → ℕ → Table → ℕ → Out
loop_f Γ v s e b zero t k = halt spent t k
loop_f Γ v s e b (suc f) t k =
    tick t k (λ k'. on_pass (b t k') (λ t'' k''. on_e (load_d Γ t'' v s) t'' k'' (λ x. elim (passes s (x +ℤ s) e) [
      | true ↦ go t'' k''
      | false ↦ loop_f Γ v s e b f (set t'' v (x +ℤ s)) k''
    ])))

-- Γ: the variables' types
module _ (Γ : L.List Ty) where
  unfoldable mutual
    -- one tick as each assignment, IF, CASE, FOR and EXIT begins.
    -- FOR evaluates initial, then final, then sets the variable; if that already passes the final value no body runs
    pub exec : Stmt → Table → ℕ → Out
    exec (assign i e) t k = tick t k (λ k'. on_e (eval e t) t k' (λ v. store Γ i v t k' (λ t'. go t' k')))
    exec (if b) t k = tick t k (λ k'. exec_b b t k')
    exec (case e g) t k = tick t k (λ k'. on_e (eval e t) t k' (λ v. exec_g g v t k'))
    exec (for v a e s l) t k =
        tick t k (λ k'. on_e (eval a t) t k' (λ x. on_e (eval e t) t k' (λ y. store Γ v x t k' (λ t'. on_e (load_d Γ t' v s) t' k' (λ z. elim (passes s z y) [
          | true ↦ go t' k'
          | false ↦ loop_f Γ v s y (λ u n. exec_l l u n) k' t' k'
        ])))))
    exec (while c l) t k = loop_w c (λ u n. exec_l l u n) k t k
    exec (repeat l c) t k = loop_r c (λ u n. exec_l l u n) k t k
    exec exit t k = tick t k (λ k'. left t k')

    pub exec_l : List → Table → ℕ → Out
    exec_l nil t k = go t k
    exec_l (cons s l) t k = on_go (exec s t k) (λ t' k'. exec_l l t' k')

    -- the first branch whose condition is TRUE
    pub exec_b : Brs → Table → ℕ → Out
    exec_b none t k = go t k
    exec_b (els l) t k = exec_l l t k
    exec_b (elsif c l b) t k = on_e (eval c t) t k (λ v. elim (is_zero v) [ true ↦ exec_b b t k | false ↦ exec_l l t k ])

    -- the first group with a label that holds the selector
    pub exec_g : Grps → ℤ → Table → ℕ → Out
    exec_g (other l) v t k = exec_l l t k
    exec_g (grp ls l g) v t k = elim (in_labels ls v) [ true ↦ exec_l l t k | false ↦ exec_g g v t k ]

-- the outcome, the table and the ticks left, of a whole text with a budget
pub data Ans : Type 0 where
  ans : Stop → Table → ℕ → Ans

unfoldable pub ans_of : Out → Ans
ans_of (go t k) = ans done t k
ans_of (left t k) = ans done t k
ans_of (halt o t k) = ans o t k

unfoldable pub meaning : L.List Ty → List → Table → ℕ → Ans
meaning Γ l t k = ans_of (exec_l Γ l t k)
