-- The codes: instructions, their lengths, and their bytes both ways.
use mathlib.Core.List as L
use Rattle.std.specs.Prelude.{[], ◌∷◌, ℕ, ℤ, get_or}
use Rattle.rules.specs.Bytes.{to_u, put2, put4, of2, of4}
use Rattle.rules.specs.Core.{Un, Neg, Not, Bin, Mul, Div, Mod, Add, Sub, Lt, Gt, Le, Ge, Eq, Ne, And, Xor, Or}

-- What each does. A target is an offset in the code; a level is the number of enclosing FORs
pub data Instr : Type 0 where
  -- 01: one tick
  TICK : Instr
  -- 02: push the value
  CONST : ℤ → Instr
  -- 03: push the slot's entry
  LOAD : ℕ → Instr
  -- 04: pop into the slot's entry
  STORE : ℕ → Instr
  -- 05, 06: pop one, push the operator's value
  UN : Un → Instr
  -- 07 to 14: pop right, then left, push the operator's value
  BIN : Bin → Instr
  -- 15: jump
  JUMP : ℕ → Instr
  -- 16: pop, jump if 0
  JZ : ℕ → Instr
  -- 18: pop, jump if not 0
  JNZ : ℕ → Instr
  -- 17, low and high: push whether the top, which stays, is within
  SPAN : ℤ → ℤ → Instr
  -- 19: pop
  DROP : Instr
  -- 1A: pop into the level's held final value
  HOLD : ℕ → Instr
  -- 1B, level, slot, step, target: jump if the variable passes the held final value
  FIRST : ℕ → ℕ → ℤ → ℕ → Instr
  -- 1C, level, slot, step, target: step and jump if the stepped variable does not pass the held final value
  NEXT : ℕ → ℕ → ℤ → ℕ → Instr
  -- 1D: the end
  HALT : Instr
  -- an unknown code, or operands that are cut off
  BAD : Instr

-- the code byte and its operands: slot and level one byte, a target two, values and step four
abbrev pub length_of : Instr → ℕ
length_of TICK = 1
length_of (CONST z) = 5
length_of (LOAD i) = 2
length_of (STORE i) = 2
length_of (UN o) = 1
length_of (BIN o) = 1
length_of (JUMP a) = 3
length_of (JZ a) = 3
length_of (JNZ a) = 3
length_of (SPAN a b) = 9
length_of DROP = 1
length_of (HOLD l) = 2
length_of (FIRST l v s a) = 9
length_of (NEXT l v s a) = 9
length_of HALT = 1
length_of BAD = 1

-- Reading: one, two and four bytes of operands; BAD where they are cut off

unfoldable pub get1 : L.List ℕ → (ℕ → L.List ℕ → Instr) → Instr
get1 [] K = BAD
get1 (a ∷ r) K = K a r

unfoldable pub get2 : L.List ℕ → (ℕ → L.List ℕ → Instr) → Instr
get2 [] K = BAD
get2 (a ∷ []) K = BAD
get2 (a ∷ b ∷ r) K = K (of2 a b) r

unfoldable pub get4 : L.List ℕ → (ℤ → L.List ℕ → Instr) → Instr
get4 [] K = BAD
get4 (a ∷ []) K = BAD
get4 (a ∷ b ∷ []) K = BAD
get4 (a ∷ b ∷ d ∷ []) K = BAD
get4 (a ∷ b ∷ d ∷ e ∷ r) K = K (of4 a b d e) r

-- the code bytes of the operators
unfoldable pub un_code : Un → ℕ
un_code Neg = 5
un_code Not = 6

unfoldable pub bin_code : Bin → ℕ
bin_code Mul = 7
bin_code Div = 8
bin_code Mod = 9
bin_code Add = 10
bin_code Sub = 11
bin_code Lt = 12
bin_code Gt = 13
bin_code Le = 14
bin_code Ge = 15
bin_code Ne = 17
bin_code Xor = 19
bin_code Or = 20
bin_code Eq = 16
bin_code And = 18

-- what each code byte reads, 0 to 29
unfoldable pub readers : L.List (L.List ℕ → Instr)
readers =
    (λ r. BAD) ∷
    (λ r. TICK) ∷
    (λ r. get4 r (λ z r. CONST z)) ∷
    (λ r. get1 r (λ i r. LOAD i)) ∷
    (λ r. get1 r (λ i r. STORE i)) ∷
    (λ r. UN Neg) ∷
    (λ r. UN Not) ∷
    (λ r. BIN Mul) ∷
    (λ r. BIN Div) ∷
    (λ r. BIN Mod) ∷
    (λ r. BIN Add) ∷
    (λ r. BIN Sub) ∷
    (λ r. BIN Lt) ∷
    (λ r. BIN Gt) ∷
    (λ r. BIN Le) ∷
    (λ r. BIN Ge) ∷
    (λ r. BIN Eq) ∷
    (λ r. BIN Ne) ∷
    (λ r. BIN And) ∷
    (λ r. BIN Xor) ∷
    (λ r. BIN Or) ∷
    (λ r. get2 r (λ a r. JUMP a)) ∷
    (λ r. get2 r (λ a r. JZ a)) ∷
    (λ r. get4 r (λ a r. get4 r (λ b r. SPAN a b))) ∷
    (λ r. get2 r (λ a r. JNZ a)) ∷
    (λ r. DROP) ∷
    (λ r. get1 r (λ l r. HOLD l)) ∷
    (λ r. get1 r (λ l r. get1 r (λ v r. get4 r (λ s r. get2 r (λ a r. FIRST l v s a))))) ∷
    (λ r. get1 r (λ l r. get1 r (λ v r. get4 r (λ s r. get2 r (λ a r. NEXT l v s a))))) ∷
    (λ r. HALT) ∷
    []

-- what stands at the start of some bytes
unfoldable pub decode_op : ℕ → L.List ℕ → Instr
decode_op b r = get_or readers b (λ r. BAD) r

unfoldable pub decode : L.List ℕ → Instr
decode [] = BAD
decode (b ∷ r) = decode_op b r

-- Writing: an instruction before the bytes that follow

unfoldable pub enc : Instr → L.List ℕ → L.List ℕ
enc TICK r = 1 ∷ r
enc (CONST z) r = 2 ∷ put4 (to_u z) r
enc (LOAD i) r = 3 ∷ i ∷ r
enc (STORE i) r = 4 ∷ i ∷ r
enc (UN o) r = un_code o ∷ r
enc (BIN o) r = bin_code o ∷ r
enc (JUMP a) r = 21 ∷ put2 a r
enc (JZ a) r = 22 ∷ put2 a r
enc (JNZ a) r = 24 ∷ put2 a r
enc (SPAN a b) r = 23 ∷ put4 (to_u a) (put4 (to_u b) r)
enc DROP r = 25 ∷ r
enc (HOLD l) r = 26 ∷ l ∷ r
enc (FIRST l v s a) r = 27 ∷ l ∷ v ∷ put4 (to_u s) (put2 a r)
enc (NEXT l v s a) r = 28 ∷ l ∷ v ∷ put4 (to_u s) (put2 a r)
enc HALT r = 29 ∷ r
enc BAD r = 0 ∷ r

unfoldable pub enc_all : L.List Instr → L.List ℕ
enc_all [] = []
enc_all (i ∷ r) = enc i (enc_all r)
