-- Stack height and depth.
use Rattle.std.specs.Prelude.{ℕ, suc, max}
use Rattle.rules.specs.Core.{Expr, num, flag, var, un, bin, pls, par, Stmt, List, Brs, Grps, assign, if, case, for, while, repeat, exit, nil, cons, none, els, elsif, other, grp}

-- stack height: operand 1; unary as its operand; binary the larger of the left's height and one more than the right's
unfoldable pub height : Expr → ℕ
height (num z) = 1
height (flag b) = 1
height (var i) = 1
height (un ι o a) = height a
height (bin ι o a b) = max (height a) (suc (height b))
height (pls a) = height a
height (par a) = height a

-- depth: the largest over all expressions, a FOR final counting one more, a CASE at least 2; no expressions 0
unfoldable mutual
  pub depth_s : Stmt → ℕ
  depth_s (assign i e) = height e
  depth_s (if b) = depth_b b
  depth_s (case e g) = max (max 2 (height e)) (depth_g g)
  depth_s (for v a e s l) = max (max (height a) (suc (height e))) (depth_l l)
  depth_s (while c l) = max (height c) (depth_l l)
  depth_s (repeat l c) = max (depth_l l) (height c)
  depth_s exit = 0

  pub depth_l : List → ℕ
  depth_l nil = 0
  depth_l (cons s l) = max (depth_s s) (depth_l l)

  pub depth_b : Brs → ℕ
  depth_b none = 0
  depth_b (els l) = depth_l l
  depth_b (elsif c l b) = max (max (height c) (depth_l l)) (depth_b b)

  pub depth_g : Grps → ℕ
  depth_g (other l) = depth_l l
  depth_g (grp ls l g) = max (depth_l l) (depth_g g)
