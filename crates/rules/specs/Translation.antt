-- Translation, from a core program to code. Each function puts its code before `r`, the code that follows.
use mathlib.Core.List as L
use Rattle.std.specs.Prelude.{[], ◌∷◌, ℕ, suc, ◌+◌}
use Rattle.rules.specs.Numbers.{of_bool}
use Rattle.rules.specs.Core.{Expr, num, flag, var, un, bin, pls, par, Labels, lnil, lab, Stmt, List, Brs, Grps, assign, if, case, for, while, repeat, exit, nil, cons, none, els, elsif, other, grp}
use Rattle.rules.specs.Codes.{Instr, TICK, CONST, LOAD, STORE, UN, BIN, JUMP, JZ, JNZ, SPAN, DROP, HOLD, FIRST, NEXT, HALT, enc_all}

-- Expressions: operands left to right, then the operator; unary plus gives nothing

unfoldable pub size_e : Expr → ℕ
size_e (num z) = 5
size_e (flag b) = 5
size_e (var i) = 2
size_e (un ι o a) = size_e a + 1
size_e (bin ι o a b) = size_e a + size_e b + 1
size_e (pls a) = size_e a
size_e (par a) = size_e a

unfoldable pub code_e : Expr → L.List Instr → L.List Instr
code_e (num z) r = CONST z ∷ r
code_e (flag b) r = CONST (of_bool b) ∷ r
code_e (var i) r = LOAD i ∷ r
code_e (un ι o a) r = code_e a (UN o ∷ r)
code_e (bin ι o a b) r = code_e a (code_e b (BIN o ∷ r))
code_e (pls a) r = code_e a r
code_e (par a) r = code_e a r

-- CASE labels: each a SPAN and a jump to the body

unfoldable pub size_lb : Labels → ℕ
size_lb lnil = 0
size_lb (lab a b ls) = 12 + size_lb ls

unfoldable pub code_lb : Labels → ℕ → L.List Instr → L.List Instr
code_lb lnil a r = r
code_lb (lab lo hi ls) a r = SPAN lo hi ∷ JNZ a ∷ code_lb ls a r

-- IF: JUMP to end after every list that another branch or ELSE follows

unfoldable pub jlen : Brs → ℕ
jlen none = 0
jlen (els a) = 3
jlen (elsif c a b) = 3

unfoldable pub jmp : Brs → ℕ → L.List Instr → L.List Instr
jmp none z r = r
jmp (els a) z r = JUMP z ∷ r
jmp (elsif c a b) z r = JUMP z ∷ r

-- Statements: their sizes, which do not depend on where they stand

unfoldable mutual
  pub size_s : Stmt → ℕ
  size_s (assign i e) = 1 + size_e e + 2
  size_s (if b) = 1 + size_b b
  size_s (case e g) = 1 + size_e e + size_g g
  size_s (for v a e s l) = 1 + size_e a + size_e e + 2 + 2 + 9 + 1 + size_l l + 9
  size_s (while c l) = 1 + size_e c + 3 + size_l l + 3
  size_s (repeat l c) = 1 + size_l l + size_e c + 3
  size_s exit = 4

  pub size_l : List → ℕ
  size_l nil = 0
  size_l (cons s l) = size_s s + size_l l

  pub size_b : Brs → ℕ
  size_b none = 0
  size_b (els l) = size_l l
  size_b (elsif c l b) = size_e c + 3 + size_l l + jlen b + size_b b

  pub size_g : Grps → ℕ
  size_g (other l) = 1 + size_l l
  size_g (grp ls l g) = size_lb ls + 3 + 1 + size_l l + 3 + size_g g

-- and their codes. p: where the code starts; x: where EXIT leads; n: the enclosing FORs

unfoldable mutual
  pub code_s : Stmt → ℕ → ℕ → ℕ → L.List Instr → L.List Instr
  code_s (assign i e) p x n r = TICK ∷ code_e e (STORE i ∷ r)
  code_s (if b) p x n r = TICK ∷ code_b b (p + 1) x n r
  code_s (case e g) p x n r = TICK ∷ code_e e (code_g g (p + 1 + size_e e) (p + 1 + size_e e + size_g g) x n r)
  code_s (for v a e s l) p x n r =
      let top = p + 1 + size_e a + size_e e + 2 + 2 + 9 in
      let z = top + 1 + size_l l + 9 in
      TICK ∷ code_e a (code_e e (HOLD n ∷ STORE v ∷ FIRST n v s z ∷ TICK ∷ code_l l (top + 1) z (suc n) (NEXT n v s top ∷ r)))
  code_s (while c l) p x n r =
      let z = p + 1 + size_e c + 3 + size_l l + 3 in
      TICK ∷ code_e c (JZ z ∷ code_l l (p + 1 + size_e c + 3) z n (JUMP p ∷ r))
  code_s (repeat l c) p x n r =
      let z = p + 1 + size_l l + size_e c + 3 in
      TICK ∷ code_l l (p + 1) z n (code_e c (JZ p ∷ r))
  code_s exit p x n r = TICK ∷ JUMP x ∷ r

  pub code_l : List → ℕ → ℕ → ℕ → L.List Instr → L.List Instr
  code_l nil p x n r = r
  code_l (cons s l) p x n r = code_s s p x n (code_l l (p + size_s s) x n r)

  pub code_b : Brs → ℕ → ℕ → ℕ → L.List Instr → L.List Instr
  code_b none p x n r = r
  code_b (els l) p x n r = code_l l p x n r
  code_b (elsif c l b) p x n r =
      let m = p + size_e c + 3 + size_l l + jlen b in
      code_e c (JZ m ∷ code_l l (p + size_e c + 3) x n (jmp b (m + size_b b) (code_b b m x n r)))

  -- z: the end of the CASE
  pub code_g : Grps → ℕ → ℕ → ℕ → ℕ → L.List Instr → L.List Instr
  code_g (other l) p z x n r = DROP ∷ code_l l (p + 1) x n r
  code_g (grp ls l g) p z x n r =
      let b = p + size_lb ls + 3 in
      let m = b + 1 + size_l l + 3 in
      code_lb ls b (JUMP m ∷ DROP ∷ code_l l (b + 1) x n (JUMP z ∷ code_g g m z x n r))

-- HALT last
unfoldable pub prog : List → L.List Instr
prog l = code_l l 0 (size_l l) 0 (HALT ∷ [])

-- the code's bytes
unfoldable pub code_of : List → L.List ℕ
code_of l = enc_all (prog l)
