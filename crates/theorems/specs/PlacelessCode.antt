-- The core program without the places of its operators: the same heights, code, depth and worst case.
use mathlib.Core.List as L
use Rattle.std.specs.Prelude.{◌≡◌, ℕ}
use Rattle.rules.specs.Base.{ok}
use Rattle.rules.specs.Core.{Expr, num, flag, var, un, bin, pls, par, Stmt, List, Brs, Grps, assign, if, case, for, while, repeat, exit, nil, cons, none, els, elsif, other, grp, Program}
use Rattle.rules.specs.Codes.{Instr}
use Rattle.rules.specs.Translation.{size_e, code_e, jlen, jmp, size_s, size_l, size_b, size_g, code_s, code_l, code_b, code_g, code_of, prog}
use Rattle.rules.specs.Depth.{height, depth_s, depth_l, depth_b, depth_g}
use Rattle.rules.specs.Worst.{con_of, lit_of, worst_s, worst_l, worst_b, worst_g}
use Rattle.rules.specs.Image.{image}
use Rattle.rules.specs.Compile.{answer}

-- The core program with 0 for every place

unfoldable pub bare_e : Expr → Expr
bare_e (num z) = num z
bare_e (flag b) = flag b
bare_e (var i) = var i
bare_e (un ι o a) = un 0 o (bare_e a)
bare_e (bin ι o a b) = bin 0 o (bare_e a) (bare_e b)
bare_e (pls a) = pls (bare_e a)
bare_e (par a) = par (bare_e a)

unfoldable mutual
  pub bare_s : Stmt → Stmt
  bare_s (assign i e) = assign i (bare_e e)
  bare_s (if b) = if (bare_b b)
  bare_s (case e g) = case (bare_e e) (bare_g g)
  bare_s (for v a e s l) = for v (bare_e a) (bare_e e) s (bare_l l)
  bare_s (while c l) = while (bare_e c) (bare_l l)
  bare_s (repeat l c) = repeat (bare_l l) (bare_e c)
  bare_s exit = exit

  pub bare_l : List → List
  bare_l nil = nil
  bare_l (cons s l) = cons (bare_s s) (bare_l l)

  pub bare_b : Brs → Brs
  bare_b none = none
  bare_b (els l) = els (bare_l l)
  bare_b (elsif c l b) = elsif (bare_e c) (bare_l l) (bare_b b)

  pub bare_g : Grps → Grps
  bare_g (other l) = other (bare_l l)
  bare_g (grp ls l g) = grp ls (bare_l l) (bare_g g)

unfoldable pub bare_program : Program → Program
bare_program p = record { vars = p.vars; body = bare_l p.body }

-- Expressions

-- all that the code and its figures ask of an expression
record SameE (e e' : Expr) : Type 0 where
  height : height e' ≡ height e
  size : size_e e' ≡ size_e e
  code : (r : L.List Instr) → code_e e' r ≡ code_e e r
  con : con_of e' ≡ con_of e
  lit : lit_of e' ≡ lit_of e

same_e : (e : Expr) → SameE e (bare_e e)
unfolding bare_e height size_e code_e con_of lit_of
same_e (num z) = search
same_e (flag b) = search
same_e (var i) = search
same_e (un ι o a) = let h = same_e a in search h.code
same_e (bin ι o a b) = let h = same_e a in let k = same_e b in search (h.code, k.code)
same_e (pls a) = let h = same_e a in search h.code
same_e (par a) = let h = same_e a in search h.code

pub height_bare : (e : Expr) → height (bare_e e) ≡ height e
height_bare e = (same_e e).height

-- Statements

-- and of statements, lists, branches and groups
record SameS (s s' : Stmt) : Type 0 where
  size : size_s s' ≡ size_s s
  depth : depth_s s' ≡ depth_s s
  worst : worst_s s' ≡ worst_s s
  code : (p x n : ℕ) (r : L.List Instr) → code_s s' p x n r ≡ code_s s p x n r

record SameL (l l' : List) : Type 0 where
  size : size_l l' ≡ size_l l
  depth : depth_l l' ≡ depth_l l
  worst : worst_l l' ≡ worst_l l
  code : (p x n : ℕ) (r : L.List Instr) → code_l l' p x n r ≡ code_l l p x n r

record SameB (b b' : Brs) : Type 0 where
  size : size_b b' ≡ size_b b
  depth : depth_b b' ≡ depth_b b
  worst : worst_b b' ≡ worst_b b
  code : (p x n : ℕ) (r : L.List Instr) → code_b b' p x n r ≡ code_b b p x n r
  jlen : jlen b' ≡ jlen b
  jmp : (z : ℕ) (r : L.List Instr) → jmp b' z r ≡ jmp b z r

record SameG (g g' : Grps) : Type 0 where
  size : size_g g' ≡ size_g g
  depth : depth_g g' ≡ depth_g g
  worst : worst_g g' ≡ worst_g g
  code : (p z x n : ℕ) (r : L.List Instr) → code_g g' p z x n r ≡ code_g g p z x n r

mutual
  unfolding bare_s size_s depth_s worst_s code_s jlen jmp

  same_s : (s : Stmt) → SameS s (bare_s s)
  same_s (assign i e) = let h = same_e e in search h.code
  same_s (if b) = let h = same_b b in search h.code
  same_s (case e g) = let h = same_e e in let k = same_g g in search (h.size, h.code, k.size, k.code)
  same_s (for v a e s l) = let h = same_e a in let j = same_e e in let k = same_l l in search (h.size, h.code, j.size, j.code, k.size, k.code)
  same_s (while c l) = let h = same_e c in let k = same_l l in search (h.size, h.code, k.size, k.code)
  same_s (repeat l c) = let h = same_l l in let k = same_e c in search (h.size, h.code, k.size, k.code)
  same_s exit = search

  same_l : (l : List) → SameL l (bare_l l)
  same_l nil = search
  same_l (cons s l) = let h = same_s s in let k = same_l l in search (h.size, h.code, k.code)

  same_b : (b : Brs) → SameB b (bare_b b)
  same_b none = search
  same_b (els l) = let h = same_l l in search h.code
  same_b (elsif c l b) = let h = same_e c in let j = same_l l in let k = same_b b in search (h.size, h.code, j.size, j.code, k.size, k.code, k.jlen, k.jmp)

  same_g : (g : Grps) → SameG g (bare_g g)
  same_g (other l) = let h = same_l l in search h.code
  same_g (grp ls l g) = let h = same_l l in let k = same_g g in search (h.size, h.code, k.code)

-- The program

pub code_bare : (p : Program) → code_of (bare_program p).body ≡ code_of p.body
unfolding bare_program code_of prog
code_bare p = let h = same_l p.body in simp (h.size, h.code)

pub image_bare : (p : Program) → image (bare_program p) ≡ image p
unfolding image bare_program
image_bare p = let h = same_l p.body in simp (code_bare p, h.depth, h.worst)

pub answer_bare : (p : Program) → answer (ok (bare_program p)) ≡ answer (ok p)
unfolding answer bare_program
answer_bare p = let h = same_l p.body in simp (code_bare p, image_bare p, h.depth, h.worst)
