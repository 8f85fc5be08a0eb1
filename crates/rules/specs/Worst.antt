-- The worst case: the most ticks that a run can take, as far as the rules state one.
use Rattle.std.specs.Prelude.{true, false, ℕ, suc, ◌+◌, ◌*◌, ◌/◌, max, leb, ℤ, pos, negsuc, neg_ℤ, ◌-ℤ◌}
use Rattle.std.specs.Int.Signed.{lt_z}
use Rattle.rules.specs.Limits.{worst_limit, unbounded_mark}
use Rattle.rules.specs.Base.{pick}
use Rattle.rules.specs.Core.{Un, Neg, Not, Expr, num, flag, var, un, bin, pls, par, Stmt, List, Brs, Grps, assign, if, case, for, while, repeat, exit, nil, cons, none, els, elsif, other, grp}

-- an exact number of ticks, or unbounded
pub data Bound : Type 0 where
  fin : ℕ → Bound
  unb : Bound

-- any loop that is not bounded, anywhere, makes the whole unbounded

unfoldable pub add_w : Bound → Bound → Bound
add_w (fin a) (fin b) = fin (a + b)
add_w (fin a) unb = unb
add_w unb b = unb

unfoldable pub max_w : Bound → Bound → Bound
max_w (fin a) (fin b) = fin (max a b)
max_w (fin a) unb = unb
max_w unb b = unb

-- FOR: a bound that is one integer, with an optional sign and no parentheses, has a value before the run

pub data Lit : Type 0 where
  lit : ℤ → Lit
  nolit : Lit

-- an integer alone
unfoldable pub con_of : Expr → Lit
con_of (num z) = lit z
con_of (flag b) = nolit
con_of (var i) = nolit
con_of (un ι o a) = nolit
con_of (bin ι o a b) = nolit
con_of (pls a) = nolit
con_of (par a) = nolit

unfoldable pub neg_lit : Un → Lit → Lit
neg_lit Neg (lit z) = lit (neg_ℤ z)
neg_lit Neg nolit = nolit
neg_lit Not l = nolit

-- one integer with an optional sign and no parentheses
unfoldable pub lit_of : Expr → Lit
lit_of (num z) = lit z
lit_of (flag b) = nolit
lit_of (var i) = nolit
lit_of (un ι o a) = neg_lit o (con_of a)
lit_of (bin ι o a b) = nolit
lit_of (pls a) = con_of a
lit_of (par a) = nolit

unfoldable pub to_nat : ℤ → ℕ
to_nat (pos n) = n
to_nat (negsuc n) = 0

-- n, the number of passes from x to y by d: none if x passes y, else one and as many more as whole steps fit between
unfoldable pub pass_count : ℤ → ℤ → ℤ → ℕ
pass_count x y (pos d) = elim (lt_z y x) [ true ↦ 0 | false ↦ to_nat (y -ℤ x) / d + 1 ]
pass_count x y (negsuc m) = elim (lt_z x y) [ true ↦ 0 | false ↦ to_nat (x -ℤ y) / suc m + 1 ]

-- 1 + n × (1 + body)
unfoldable pub for_w : Lit → Lit → ℤ → Bound → Bound
for_w (lit a) (lit e) s (fin w) = fin (1 + pass_count a e s * (1 + w))
for_w (lit a) (lit e) s unb = unb
for_w (lit a) nolit s b = unb
for_w nolit e s b = unb

-- a list is the sum of its statements; assignment and EXIT 1; IF and CASE 1 plus the largest branch (a missing ELSE is 0)
unfoldable mutual
  pub worst_s : Stmt → Bound
  worst_s (assign i e) = fin 1
  worst_s (if b) = add_w (fin 1) (worst_b b)
  worst_s (case e g) = add_w (fin 1) (worst_g g)
  worst_s (for v a e s l) = for_w (lit_of a) (lit_of e) s (worst_l l)
  worst_s (while c l) = unb
  worst_s (repeat l c) = unb
  worst_s exit = fin 1

  pub worst_l : List → Bound
  worst_l nil = fin 0
  worst_l (cons s l) = add_w (worst_s s) (worst_l l)

  pub worst_b : Brs → Bound
  worst_b none = fin 0
  worst_b (els l) = worst_l l
  worst_b (elsif c l b) = max_w (worst_l l) (worst_b b)

  pub worst_g : Grps → Bound
  worst_g (other l) = worst_l l
  worst_g (grp ls l g) = max_w (worst_l l) (worst_g g)

-- the figure as the image states it: the mark if unbounded, or if the exact total is over 4,000,000,000
unfoldable pub figure : Bound → ℕ
figure unb = unbounded_mark
figure (fin w) = pick (leb w worst_limit) (λ _. w) (λ _. unbounded_mark)
