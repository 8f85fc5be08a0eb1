-- How deep statements are nested in a core program.
use Rattle.std.specs.Prelude.{ℕ, suc, max}
use Rattle.rules.specs.Core.{Stmt, List, Brs, Grps, assign, if, case, for, while, repeat, exit, nil, cons, none, els, elsif, other, grp}

-- a FOR is one level more than its list; up: what IF, CASE, WHILE and REPEAT are
module _ (up : ℕ → ℕ) where
  unfoldable mutual
    pub levels_s : Stmt → ℕ
    levels_s (assign i e) = 0
    levels_s (if b) = up (levels_b b)
    levels_s (case e g) = up (levels_g g)
    levels_s (for v a e s l) = suc (levels_l l)
    levels_s (while c l) = up (levels_l l)
    levels_s (repeat l c) = up (levels_l l)
    levels_s exit = 0

    pub levels_l : List → ℕ
    levels_l nil = 0
    levels_l (cons s l) = max (levels_s s) (levels_l l)

    pub levels_b : Brs → ℕ
    levels_b none = 0
    levels_b (els l) = levels_l l
    levels_b (elsif c l b) = max (levels_l l) (levels_b b)

    pub levels_g : Grps → ℕ
    levels_g (other l) = levels_l l
    levels_g (grp ls l g) = max (levels_l l) (levels_g g)

-- how deep FORs are nested: the others add nothing

abbrev pub only_fors : ℕ → ℕ
only_fors d = d

abbrev pub fors_s : Stmt → ℕ
fors_s s = levels_s only_fors s

abbrev pub fors_l : List → ℕ
fors_l l = levels_l only_fors l

abbrev pub fors_b : Brs → ℕ
fors_b b = levels_b only_fors b

abbrev pub fors_g : Grps → ℕ
fors_g g = levels_g only_fors g

-- how deep IF, CASE and loops are nested: each adds one

abbrev pub nest_s : Stmt → ℕ
nest_s s = levels_s suc s

abbrev pub nest_l : List → ℕ
nest_l l = levels_l suc l

abbrev pub nest_b : Brs → ℕ
nest_b b = levels_b suc b

abbrev pub nest_g : Grps → ℕ
nest_g g = levels_g suc g
