-- The bytes of code are as many as its size.
use mathlib.Core.List as L
use Rattle.std.specs.Prelude.{◌≡◌, refl, [], ◌∷◌, ℕ, suc, ◌+◌, length}
use Rattle.std.proofs.Common.{ap, ◌∙◌, arith}
use Rattle.rules.specs.Core.{Expr, num, flag, var, un, bin, pls, par, Labels, lnil, lab, Stmt, List, Brs, Grps, assign, if, case, for, while, repeat, exit, nil, cons, none, els, elsif, other, grp}
use Rattle.rules.specs.Codes.{Instr, TICK, CONST, LOAD, STORE, UN, BIN, JUMP, JZ, JNZ, SPAN, DROP, HOLD, FIRST, NEXT, HALT, BAD, length_of, enc, enc_all}
use Rattle.rules.specs.Translation.{size_e, code_e, size_lb, code_lb, jlen, jmp, size_s, size_l, size_b, size_g, code_s, code_l, code_b, code_g, prog}
use Rattle.rules.specs.Bytes.{put2, put4}

len_i : (i : Instr) (r : L.List ℕ) → length (enc i r) ≡ length_of i + length r
unfolding enc put2 put4
len_i TICK r = omega arith
len_i (CONST z) r = omega arith
len_i (LOAD i) r = omega arith
len_i (STORE i) r = omega arith
len_i (UN o) r = omega arith
len_i (BIN o) r = omega arith
len_i (JUMP a) r = omega arith
len_i (JZ a) r = omega arith
len_i (JNZ a) r = omega arith
len_i (SPAN a b) r = omega arith
len_i DROP r = omega arith
len_i (HOLD l) r = omega arith
len_i (FIRST l v s a) r = omega arith
len_i (NEXT l v s a) r = omega arith
len_i HALT r = omega arith
len_i BAD r = omega arith

unfoldable pub len_all : L.List Instr → ℕ
len_all [] = 0
len_all (i ∷ r) = length_of i + len_all r

len-bytes : (r : L.List Instr) → length (enc_all r) ≡ len_all r
unfolding enc_all len_all
len-bytes [] = refl
len-bytes (i ∷ r) = len_i i (enc_all r) ∙ ap (λ z. length_of i + z) (len-bytes r)

len_e : (e : Expr) (r : L.List Instr) → len_all (code_e e r) ≡ size_e e + len_all r
unfolding code_e size_e len_all
len_e (num z) r = refl
len_e (flag b) r = refl
len_e (var i) r = refl
len_e (pls a) r = len_e a r
len_e (par a) r = len_e a r
len_e (un ι o a) r = omega (arith, len_e a (UN o ∷ r))
len_e (bin ι o a b) r = omega (arith, len_e a (code_e b (BIN o ∷ r)), len_e b (BIN o ∷ r))

len_lb : (ls : Labels) (a : ℕ) (r : L.List Instr) → len_all (code_lb ls a r) ≡ size_lb ls + len_all r
unfolding code_lb size_lb len_all
len_lb lnil a r = omega arith
len_lb (lab lo hi ls) a r = omega (arith, len_lb ls a r)

len_j : (b : Brs) (a : ℕ) (r : L.List Instr) → len_all (jmp b a r) ≡ jlen b + len_all r
unfolding jmp jlen len_all
len_j none a r = omega arith
len_j (els l) a r = refl
len_j (elsif c l b) a r = refl

mutual
  unfolding code_s size_s len_all

  pub len_s : (s : Stmt) (p x n : ℕ) (r : L.List Instr) → len_all (code_s s p x n r) ≡ size_s s + len_all r
  len_s (assign i e) p x n r = omega (arith, len_e e (STORE i ∷ r))
  len_s (if b) p x n r = omega (arith, len_b b (p + 1) x n r)
  len_s (case e g) p x n r = ap (λ z. 1 + z) (len_e e _) ∙ omega (arith, len_g g (p + 1 + size_e e) (p + 1 + size_e e + size_g g) x n r)
  len_s (for v a e s l) p x n r =
      let top = p + 1 + size_e a + size_e e + 2 + 2 + 9 in
      let z = top + 1 + size_l l + 9 in
      let k = code_l l (top + 1) z (suc n) (NEXT n v s top ∷ r) in
      omega (arith, len_e a (code_e e (HOLD n ∷ STORE v ∷ FIRST n v s z ∷ TICK ∷ k)), len_e e (HOLD n ∷ STORE v ∷ FIRST n v s z ∷ TICK ∷ k), len_l l (top + 1) z (suc n) (NEXT n v s top ∷ r))
  len_s (while c l) p x n r =
      let z = p + 1 + size_e c + 3 + size_l l + 3 in
      omega (arith, len_e c (JZ z ∷ code_l l (p + 1 + size_e c + 3) z n (JUMP p ∷ r)), len_l l (p + 1 + size_e c + 3) z n (JUMP p ∷ r))
  len_s (repeat l c) p x n r =
      let z = p + 1 + size_l l + size_e c + 3 in
      omega (arith, len_l l (p + 1) z n (code_e c (JZ p ∷ r)), len_e c (JZ p ∷ r))
  len_s exit p x n r = omega arith

  pub len_l : (l : List) (p x n : ℕ) (r : L.List Instr) → len_all (code_l l p x n r) ≡ size_l l + len_all r
  len_l nil p x n r = omega arith
  len_l (cons s l) p x n r = omega (arith, len_s s p x n (code_l l (p + size_s s) x n r), len_l l (p + size_s s) x n r)

  pub len_b : (b : Brs) (p x n : ℕ) (r : L.List Instr) → len_all (code_b b p x n r) ≡ size_b b + len_all r
  len_b none p x n r = omega arith
  len_b (els l) p x n r = len_l l p x n r
  len_b (elsif c l b) p x n r =
      let m = p + size_e c + 3 + size_l l + jlen b in
      let k = jmp b (m + size_b b) (code_b b m x n r) in
      omega (arith, len_e c (JZ m ∷ code_l l (p + size_e c + 3) x n k), len_l l (p + size_e c + 3) x n k, len_j b (m + size_b b) (code_b b m x n r), len_b b m x n r)

  pub len_g : (g : Grps) (p z x n : ℕ) (r : L.List Instr) → len_all (code_g g p z x n r) ≡ size_g g + len_all r
  len_g (other l) p z x n r = omega (arith, len_l l (p + 1) x n r)
  len_g (grp ls l g) p z x n r =
      let b = p + size_lb ls + 3 in
      let m = b + 1 + size_l l + 3 in
      let k = JUMP z ∷ code_g g m z x n r in
      omega (arith, len_lb ls b (JUMP m ∷ DROP ∷ code_l l (b + 1) x n k), len_l l (b + 1) x n k, len_g g m z x n r)

-- the code's bytes are counted before a byte is written
pub code-length : (l : List) → length (enc_all (prog l)) ≡ size_l l + 1
unfolding prog len_all
code-length l = len-bytes (prog l) ∙ len_l l 0 (size_l l) 0 (HALT ∷ [])
