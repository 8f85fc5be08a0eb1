-- The bytes of code, part by part: each part's code stands before what follows, its bytes are as many as its size, and what `codes` writes are an instruction's bytes. Assumes nothing.
use mathlib.Core.List as L
use mathlib.Core.Path.{◌≡◌, refl, ap, ◌∙◌}
use mathlib.Core.List.{[], ◌∷◌, ◌++◌}
use Prim.Native.Nat.{ℕ, suc, ◌+◌, ◌/◌, ◌%◌, ◌<◌}
use native.Mathlib.Nat.{add-zero}
use native.Mathlib.Omega.{arith}
use lib.IntN.{ℤ}
use lib.ListN.{length, length-append}
use Rattle.rules.specs.Bytes.{to_u, put2, put4}
use Rattle.rules.specs.Core.{Expr, num, flag, var, un, bin, pls, par, Labels, lnil, lab, Stmt, List, Brs, Grps, assign, if, case, for, while, repeat, exit, nil, cons, none, els, elsif, other, grp}
use Rattle.rules.specs.Codes.{Instr, TICK, CONST, LOAD, STORE, UN, BIN, JUMP, JZ, JNZ, SPAN, DROP, HOLD, FIRST, NEXT, HALT, BAD, length_of, enc, enc_all}
use Rattle.rules.specs.Translation.{size_e, code_e, size_lb, code_lb, jlen, jmp, size_s, size_l, size_b, size_g, code_s, code_l, code_b, code_g}
use Rattle.theorems.specs.Sizes.{len_all, len_s, len_l, len_b, len_g}
use Rattle.emit.specs.Places.{Put, Writes}
use Rattle.emit.proofs.Writing.{puts}

-- What follows a part's code stands behind it

move_e : (e : Expr) (r s : L.List Instr) → code_e e (r ++ s) ≡ code_e e r ++ s
unfolding code_e
move_e (num z) r s = refl
move_e (flag b) r s = refl
move_e (var i) r s = refl
move_e (un ι o a) r s = move_e a (UN o ∷ r) s
move_e (bin ι o a b) r s = ap (code_e a) (move_e b (BIN o ∷ r) s) ∙ move_e a (code_e b (BIN o ∷ r)) s
move_e (pls a) r s = move_e a r s
move_e (par a) r s = move_e a r s

move_lb : (ls : Labels) (a : ℕ) (r s : L.List Instr) → code_lb ls a (r ++ s) ≡ code_lb ls a r ++ s
unfolding code_lb
move_lb lnil a r s = refl
move_lb (lab lo hi ls) a r s = ap (λ (k : L.List Instr). SPAN lo hi ∷ JNZ a ∷ k) (move_lb ls a r s)

move_j : (b : Brs) (z : ℕ) (r s : L.List Instr) → jmp b z (r ++ s) ≡ jmp b z r ++ s
unfolding jmp
move_j none z r s = refl
move_j (els l) z r s = refl
move_j (elsif c l b) z r s = refl

mutual
  unfolding code_s

  move_s : (x : Stmt) (p e n : ℕ) (r s : L.List Instr) → code_s x p e n (r ++ s) ≡ code_s x p e n r ++ s
  move_s (assign i a) p e n r s = ap (λ (k : L.List Instr). TICK ∷ k) (move_e a (STORE i ∷ r) s)
  move_s (if b) p e n r s = ap (λ (k : L.List Instr). TICK ∷ k) (move_b b (p + 1) e n r s)
  move_s (case a g) p e n r s =
      ap (λ (k : L.List Instr). TICK ∷ code_e a k) (move_g g (p + 1 + size_e a) (p + 1 + size_e a + size_g g) e n r s) ∙ ap (λ (k : L.List Instr). TICK ∷ k) (move_e a _ s)
  move_s (for v a b d l) p e n r s =
      let top = p + 1 + size_e a + size_e b + 2 + 2 + 9 in
      let z = top + 1 + size_l l + 9 in
      ap (λ (k : L.List Instr). TICK ∷ code_e a (code_e b (HOLD n ∷ STORE v ∷ FIRST n v d z ∷ TICK ∷ k))) (move_l l (top + 1) z (suc n) (NEXT n v d top ∷ r) s)
      ∙ ap (λ (k : L.List Instr). TICK ∷ code_e a k) (move_e b (HOLD n ∷ STORE v ∷ FIRST n v d z ∷ TICK ∷ code_l l (top + 1) z (suc n) (NEXT n v d top ∷ r)) s)
      ∙ ap (λ (k : L.List Instr). TICK ∷ k) (move_e a _ s)
  move_s (while c l) p e n r s =
      let z = p + 1 + size_e c + 3 + size_l l + 3 in
      ap (λ (k : L.List Instr). TICK ∷ code_e c (JZ z ∷ k)) (move_l l (p + 1 + size_e c + 3) z n (JUMP p ∷ r) s) ∙ ap (λ (k : L.List Instr). TICK ∷ k) (move_e c _ s)
  move_s (repeat l c) p e n r s =
      let z = p + 1 + size_l l + size_e c + 3 in
      ap (λ (k : L.List Instr). TICK ∷ code_l l (p + 1) z n k) (move_e c (JZ p ∷ r) s) ∙ ap (λ (k : L.List Instr). TICK ∷ k) (move_l l (p + 1) z n _ s)
  move_s exit p e n r s = refl

  move_l : (x : List) (p e n : ℕ) (r s : L.List Instr) → code_l x p e n (r ++ s) ≡ code_l x p e n r ++ s
  move_l nil p e n r s = refl
  move_l (cons x l) p e n r s = ap (code_s x p e n) (move_l l (p + size_s x) e n r s) ∙ move_s x p e n _ s

  move_b : (x : Brs) (p e n : ℕ) (r s : L.List Instr) → code_b x p e n (r ++ s) ≡ code_b x p e n r ++ s
  move_b none p e n r s = refl
  move_b (els l) p e n r s = move_l l p e n r s
  move_b (elsif c l b) p e n r s =
      let m = p + size_e c + 3 + size_l l + jlen b in
      ap (λ (k : L.List Instr). code_e c (JZ m ∷ code_l l (p + size_e c + 3) e n (jmp b (m + size_b b) k))) (move_b b m e n r s)
      ∙ ap (λ (k : L.List Instr). code_e c (JZ m ∷ code_l l (p + size_e c + 3) e n k)) (move_j b (m + size_b b) (code_b b m e n r) s)
      ∙ ap (λ (k : L.List Instr). code_e c (JZ m ∷ k)) (move_l l (p + size_e c + 3) e n (jmp b (m + size_b b) (code_b b m e n r)) s)
      ∙ move_e c _ s

  move_g : (x : Grps) (p z e n : ℕ) (r s : L.List Instr) → code_g x p z e n (r ++ s) ≡ code_g x p z e n r ++ s
  move_g (other l) p z e n r s = ap (λ (k : L.List Instr). DROP ∷ k) (move_l l (p + 1) e n r s)
  move_g (grp ls l g) p z e n r s =
      let b = p + size_lb ls + 3 in
      let m = b + 1 + size_l l + 3 in
      ap (λ (k : L.List Instr). code_lb ls b (JUMP m ∷ DROP ∷ code_l l (b + 1) e n (JUMP z ∷ k))) (move_g g m z e n r s)
      ∙ ap (λ (k : L.List Instr). code_lb ls b (JUMP m ∷ DROP ∷ k)) (move_l l (b + 1) e n (JUMP z ∷ code_g g m z e n r) s)
      ∙ move_lb ls b _ s

-- the same of bytes: an instruction before what follows
pub enc_before : (i : Instr) (r s : L.List ℕ) → enc i (r ++ s) ≡ enc i r ++ s
unfolding enc put2 put4
enc_before TICK r s = refl
enc_before (CONST z) r s = refl
enc_before (LOAD i) r s = refl
enc_before (STORE i) r s = refl
enc_before (UN o) r s = refl
enc_before (BIN o) r s = refl
enc_before (JUMP a) r s = refl
enc_before (JZ a) r s = refl
enc_before (JNZ a) r s = refl
enc_before (SPAN a b) r s = refl
enc_before DROP r s = refl
enc_before (HOLD l) r s = refl
enc_before (FIRST l v d a) r s = refl
enc_before (NEXT l v d a) r s = refl
enc_before HALT r s = refl
enc_before BAD r s = refl

bytes_before : (r s : L.List Instr) → enc_all (r ++ s) ≡ enc_all r ++ enc_all s
unfolding enc_all
bytes_before [] s = refl
bytes_before (i ∷ r) s = ap (enc i) (bytes_before r s) ∙ enc_before i (enc_all r) (enc_all s)

pub bytes_instr : (i : Instr) (r : L.List Instr) → enc_all (i ∷ r) ≡ enc_all (i ∷ []) ++ enc_all r
bytes_instr i r = bytes_before (i ∷ []) r

pub bytes-e : (e : Expr) (r : L.List Instr) → enc_all (code_e e r) ≡ enc_all (code_e e []) ++ enc_all r
bytes-e e r = ap enc_all (move_e e [] r) ∙ bytes_before (code_e e []) r

pub bytes_lb : (ls : Labels) (a : ℕ) (r : L.List Instr) → enc_all (code_lb ls a r) ≡ enc_all (code_lb ls a []) ++ enc_all r
bytes_lb ls a r = ap enc_all (move_lb ls a [] r) ∙ bytes_before (code_lb ls a []) r

pub bytes-j : (b : Brs) (z : ℕ) (r : L.List Instr) → enc_all (jmp b z r) ≡ enc_all (jmp b z []) ++ enc_all r
bytes-j b z r = ap enc_all (move_j b z [] r) ∙ bytes_before (jmp b z []) r

pub bytes-s : (x : Stmt) (p e n : ℕ) (r : L.List Instr) → enc_all (code_s x p e n r) ≡ enc_all (code_s x p e n []) ++ enc_all r
bytes-s x p e n r = ap enc_all (move_s x p e n [] r) ∙ bytes_before (code_s x p e n []) r

pub bytes-l : (x : List) (p e n : ℕ) (r : L.List Instr) → enc_all (code_l x p e n r) ≡ enc_all (code_l x p e n []) ++ enc_all r
bytes-l x p e n r = ap enc_all (move_l x p e n [] r) ∙ bytes_before (code_l x p e n []) r

pub bytes-b : (x : Brs) (p e n : ℕ) (r : L.List Instr) → enc_all (code_b x p e n r) ≡ enc_all (code_b x p e n []) ++ enc_all r
bytes-b x p e n r = ap enc_all (move_b x p e n [] r) ∙ bytes_before (code_b x p e n []) r

pub bytes-g : (x : Grps) (p z e n : ℕ) (r : L.List Instr) → enc_all (code_g x p z e n r) ≡ enc_all (code_g x p z e n []) ++ enc_all r
bytes-g x p z e n r = ap enc_all (move_g x p z e n [] r) ∙ bytes_before (code_g x p z e n []) r

-- A part's bytes are as many as its size

pub length_instr : (i : Instr) → length (enc i []) ≡ length_of i
unfolding enc put2 put4
length_instr TICK = refl
length_instr (CONST z) = refl
length_instr (LOAD i) = refl
length_instr (STORE i) = refl
length_instr (UN o) = refl
length_instr (BIN o) = refl
length_instr (JUMP a) = refl
length_instr (JZ a) = refl
length_instr (JNZ a) = refl
length_instr (SPAN a b) = refl
length_instr DROP = refl
length_instr (HOLD l) = refl
length_instr (FIRST l v d a) = refl
length_instr (NEXT l v d a) = refl
length_instr HALT = refl
length_instr BAD = refl

length-bytes : (r : L.List Instr) → length (enc_all r) ≡ len_all r
unfolding enc_all len_all
length-bytes [] = refl
length-bytes (i ∷ r) =
    let e = ap (λ (k : L.List ℕ). length k) (enc_before i [] (enc_all r)) in
    omega (arith, length-append (enc i []) (enc_all r), length_instr i, length-bytes r)

-- an assignment's code is a TICK, the expression's and a STORE
pub length-e : (e : Expr) → length (enc_all (code_e e [])) ≡ size_e e
unfolding code_s size_s len_all enc_all enc
length-e e =
    let b = ap (λ (k : L.List ℕ). length k) (bytes-e e (STORE 0 ∷ [])) in
    omega (arith, len_s (assign 0 e) 0 0 0 [], length-bytes (code_e e (STORE 0 ∷ [])), length-append (enc_all (code_e e [])) (enc_all (STORE 0 ∷ [])))

pub length_lb : (ls : Labels) (a : ℕ) → length (enc_all (code_lb ls a [])) ≡ size_lb ls
unfolding code_lb size_lb enc_all enc put2 put4
length_lb lnil a = refl
length_lb (lab lo hi ls) a = omega (arith, length_lb ls a)

pub length-j : (b : Brs) (z : ℕ) → length (enc_all (jmp b z [])) ≡ jlen b
unfolding jmp jlen enc_all enc put2
length-j none z = refl
length-j (els l) z = refl
length-j (elsif c l b) z = refl

pub length-s : (x : Stmt) (p e n : ℕ) → length (enc_all (code_s x p e n [])) ≡ size_s x
unfolding len_all
length-s x p e n = length-bytes (code_s x p e n []) ∙ len_s x p e n [] ∙ add-zero (size_s x)

pub length-l : (x : List) (p e n : ℕ) → length (enc_all (code_l x p e n [])) ≡ size_l x
unfolding len_all
length-l x p e n = length-bytes (code_l x p e n []) ∙ len_l x p e n [] ∙ add-zero (size_l x)

pub length-b : (x : Brs) (p e n : ℕ) → length (enc_all (code_b x p e n [])) ≡ size_b x
unfolding len_all
length-b x p e n = length-bytes (code_b x p e n []) ∙ len_b x p e n [] ∙ add-zero (size_b x)

pub length-g : (x : Grps) (p z e n : ℕ) → length (enc_all (code_g x p z e n [])) ≡ size_g x
unfolding len_all
length-g x p z e n = length-bytes (code_g x p z e n []) ∙ len_g x p z e n [] ∙ add-zero (size_g x)

-- What the functions of `codes` write are an instruction's bytes, if its operands fit their fields

-- a number that fits one byte, and one that fits two
pub one : (x : ℕ) → x < 256 → x % 256 ≡ x
one x h = omega arith

pub two : (x : ℕ) → x < 65536 → x / 256 % 256 ≡ x / 256
two x h = omega arith

module _ {code code' : L.List ℕ} {at r : ℕ} where
  pub put_tick : Writes code code' at (1 ∷ []) r → Put (enc_all (TICK ∷ [])) code code' at r
  unfolding enc_all enc
  put_tick w = puts (1 ∷ []) (omega arith) w

  pub put_drop : Writes code code' at (25 ∷ []) r → Put (enc_all (DROP ∷ [])) code code' at r
  unfolding enc_all enc
  put_drop w = puts (25 ∷ []) (omega arith) w

  pub put_store : (i : ℕ) → i < 256 → Writes code code' at (4 ∷ (i % 256) ∷ []) r → Put (enc_all (STORE i ∷ [])) code code' at r
  unfolding enc_all enc
  put_store i h w = puts (4 ∷ i ∷ []) (omega arith) (rw (one i h) at w)

  pub put_hold : (l : ℕ) → l < 256 → Writes code code' at (26 ∷ (l % 256) ∷ []) r → Put (enc_all (HOLD l ∷ [])) code code' at r
  unfolding enc_all enc
  put_hold l h w = puts (26 ∷ l ∷ []) (omega arith) (rw (one l h) at w)

  pub put_jump : (a : ℕ) → a < 65536 → Writes code code' at (21 ∷ (a % 256) ∷ (a / 256 % 256) ∷ []) r → Put (enc_all (JUMP a ∷ [])) code code' at r
  unfolding enc_all enc put2
  put_jump a h w = puts (21 ∷ put2 a []) (omega arith) (rw (two a h) at w)

  pub put_jz : (a : ℕ) → a < 65536 → Writes code code' at (22 ∷ (a % 256) ∷ (a / 256 % 256) ∷ []) r → Put (enc_all (JZ a ∷ [])) code code' at r
  unfolding enc_all enc put2
  put_jz a h w = puts (22 ∷ put2 a []) (omega arith) (rw (two a h) at w)

  pub put_first : (l v : ℕ) (s : ℤ) (a : ℕ) → l < 256 → v < 256 → a < 65536
      → Writes code code' at (27 ∷ (l % 256) ∷ (v % 256) ∷ put4 (to_u s) ((a % 256) ∷ (a / 256 % 256) ∷ [])) r → Put (enc_all (FIRST l v s a ∷ [])) code code' at r
  unfolding enc_all enc put4 put2
  put_first l v s a h k t w = puts (27 ∷ l ∷ v ∷ put4 (to_u s) (put2 a [])) (omega arith) (rw (one l h, one v k, two a t) at w)

  pub put_next : (l v : ℕ) (s : ℤ) (a : ℕ) → l < 256 → v < 256 → a < 65536
      → Writes code code' at (28 ∷ (l % 256) ∷ (v % 256) ∷ put4 (to_u s) ((a % 256) ∷ (a / 256 % 256) ∷ [])) r → Put (enc_all (NEXT l v s a ∷ [])) code code' at r
  unfolding enc_all enc put4 put2
  put_next l v s a h k t w = puts (28 ∷ l ∷ v ∷ put4 (to_u s) (put2 a [])) (omega arith) (rw (one l h, one v k, two a t) at w)
