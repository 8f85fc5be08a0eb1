-- The bytes: encoder, decoder, and that compiled code stands in its bytes.
use mathlib.Core.List as L
use Rattle.std.specs.Prelude.{◌≡◌, refl, Bool, true, false, [], ◌∷◌, ◌/◌, ◌%◌, ℕ, ◌+◌, ◌-◌, ◌*◌, ◌≤◌, ◌<◌, ℤ, pos, negsuc, ltb, length, drop}
use Rattle.std.proofs.Common.{sym, ap, ◌∙◌, arith, drop_of_length-le, drop-drop}
use Rattle.std.specs.Int.Signed.{mag}
use Rattle.rules.specs.Numbers.{Ty}
use Rattle.rules.specs.Core.{Neg, Not, Mul, Div, Mod, Add, Sub, Lt, Gt, Le, Ge, Eq, Ne, And, Xor, Or}
use Rattle.rules.specs.Codes.{Instr, TICK, CONST, LOAD, STORE, UN, BIN, JUMP, JZ, JNZ, SPAN, DROP, HOLD, FIRST, NEXT, HALT, BAD, length_of, get2, get4, decode, enc, decode_op, enc_all, readers, un_code, bin_code, get1}
use Rattle.rules.specs.Machine.{code_in}
use Rattle.theorems.specs.Expressions.{At}
use Rattle.rules.specs.Bytes.{of2, of4, of_u, to_u, put2, put4}
use Rattle.theorems.specs.Tests.{ltb-t, lt-ltb, ltb-f}

-- what an instruction's operands must meet
abbrev pub Fits : Instr → Type 0
Fits TICK = Unit {0}
Fits (CONST z) = mag z < 2147483648
Fits (LOAD i) = i < 256
Fits (STORE i) = i < 256
Fits (UN o) = Unit {0}
Fits (BIN o) = Unit {0}
Fits (JUMP a) = a < 65536
Fits (JZ a) = a < 65536
Fits (JNZ a) = a < 65536
Fits (SPAN a b) = (mag a < 2147483648) × (mag b < 2147483648)
Fits DROP = Unit {0}
Fits (HOLD l) = l < 256
Fits (FIRST l v s a) = (l < 256) × (v < 256) × (mag s < 2147483648) × (a < 65536)
Fits (NEXT l v s a) = (l < 256) × (v < 256) × (mag s < 2147483648) × (a < 65536)
Fits HALT = Unit {0}
Fits BAD = Unit {0}

get2-put2 : (a : ℕ) (r : L.List ℕ) (K : ℕ → L.List ℕ → Instr) → get2 (put2 a r) K ≡ K a r
unfolding get2 put2 of2
get2-put2 a r K = let e : a % 256 + 256 * (a / 256) ≡ a = omega arith in rw e

of_u-neg : (u : ℕ) → 2147483648 ≤ u → of_u u ≡ negsuc (4294967295 - u)
unfolding of_u
of_u-neg u b = by (ltb u 2147483648) refl
  where
    by : (d : Bool) → ltb u 2147483648 ≡ d → of_u u ≡ negsuc (4294967295 - u)
    by true e = let q = ltb-t u 2147483648 e in absurd (omega arith)
    by false e = rw (e, of_u)

of_u-pos : (u : ℕ) → u < 2147483648 → of_u u ≡ pos u
unfolding of_u
of_u-pos u b = rw (lt-ltb u 2147483648 b, of_u)

pub of_u-to_u : (z : ℤ) → mag z < 2147483648 → of_u (to_u z) ≡ z
unfolding to_u
of_u-to_u (pos n) b = of_u-pos n b
of_u-to_u (negsuc n) b =
    let e : 4294967295 - (4294967295 - n) ≡ n = omega arith in
    of_u-neg (4294967295 - n) (omega arith) ∙ ap negsuc e

pub bytes-sum : (u : ℕ) → u % 256 + 256 * (u / 256 % 256) + 65536 * (u / 65536 % 256) + 16777216 * (u / 16777216) ≡ u
bytes-sum u = omega arith

get4-put4 : (z : ℤ) (r : L.List ℕ) (K : ℤ → L.List ℕ → Instr) → mag z < 2147483648 → get4 (put4 (to_u z) r) K ≡ K z r
unfolding get4 put4 of4
get4-put4 z r K b = rw (bytes-sum (to_u z), of_u-to_u z b)

decode-enc : (i : Instr) (r : L.List ℕ) → Fits i → decode (enc i r) ≡ i
unfolding decode decode_op readers enc un_code bin_code get1
decode-enc TICK r f = refl
decode-enc (CONST z) r f = get4-put4 z r _ f
decode-enc (LOAD i) r f = refl
decode-enc (STORE i) r f = refl
decode-enc (UN Neg) r f = refl
decode-enc (UN Not) r f = refl
decode-enc (BIN Mul) r f = refl
decode-enc (BIN Div) r f = refl
decode-enc (BIN Mod) r f = refl
decode-enc (BIN Add) r f = refl
decode-enc (BIN Sub) r f = refl
decode-enc (BIN Lt) r f = refl
decode-enc (BIN Gt) r f = refl
decode-enc (BIN Le) r f = refl
decode-enc (BIN Ge) r f = refl
decode-enc (BIN Ne) r f = refl
decode-enc (BIN Xor) r f = refl
decode-enc (BIN Or) r f = refl
decode-enc (BIN Eq) r f = refl
decode-enc (BIN And) r f = refl
decode-enc (JUMP a) r f = get2-put2 a r _
decode-enc (JZ a) r f = get2-put2 a r _
decode-enc (JNZ a) r f = get2-put2 a r _
decode-enc (SPAN a b) r f = get4-put4 a _ _ f.0 ∙ get4-put4 b _ _ f.1
decode-enc DROP r f = refl
decode-enc (HOLD l) r f = refl
decode-enc (FIRST l v s a) r f = get4-put4 s _ _ f.2 ∙ get2-put2 a _ _
decode-enc (NEXT l v s a) r f = get4-put4 s _ _ f.2 ∙ get2-put2 a _ _
decode-enc HALT r f = refl
decode-enc BAD r f = refl

abbrev pub AllFit : L.List Instr → Type 0
AllFit [] = Unit {0}
AllFit (i ∷ r) = Fits i × AllFit r

drop-enc : (i : Instr) (r : L.List ℕ) → drop (length_of i) (enc i r) ≡ r
unfolding enc put2 put4
drop-enc TICK r = refl
drop-enc (CONST z) r = refl
drop-enc (LOAD i) r = refl
drop-enc (STORE i) r = refl
drop-enc (UN o) r = refl
drop-enc (BIN o) r = refl
drop-enc (JUMP a) r = refl
drop-enc (JZ a) r = refl
drop-enc (JNZ a) r = refl
drop-enc (SPAN a b) r = refl
drop-enc DROP r = refl
drop-enc (HOLD l) r = refl
drop-enc (FIRST l v s a) r = refl
drop-enc (NEXT l v s a) r = refl
drop-enc HALT r = refl
drop-enc BAD r = refl

length-enc : (i : Instr) (r : L.List ℕ) → length r < length (enc i r)
unfolding enc put2 put4
length-enc TICK r = omega arith
length-enc (CONST z) r = omega arith
length-enc (LOAD i) r = omega arith
length-enc (STORE i) r = omega arith
length-enc (UN o) r = omega arith
length-enc (BIN o) r = omega arith
length-enc (JUMP a) r = omega arith
length-enc (JZ a) r = omega arith
length-enc (JNZ a) r = omega arith
length-enc (SPAN a b) r = omega arith
length-enc DROP r = omega arith
length-enc (HOLD l) r = omega arith
length-enc (FIRST l v s a) r = omega arith
length-enc (NEXT l v s a) r = omega arith
length-enc HALT r = omega arith
length-enc BAD r = omega arith

-- compiled code stands in its bytes
pub stands : (Γ : L.List Ty) (b : L.List ℕ) (n : ℕ) (is : L.List Instr) (p : ℕ) → AllFit is → drop p b ≡ enc_all is → At (code_in Γ b n) p is
unfolding code_in enc_all
stands Γ b n [] p f e = tt
stands Γ b n (i ∷ r) p f e = (
  ap decode e ∙ decode-enc i (enc_all r) f.0,
  inside (dec_le' (length b) p),
  stands Γ b n r (p + length_of i) f.1 (sym (drop-drop (length_of i) p b) ∙ ap (drop (length_of i)) e ∙ drop-enc i (enc_all r)),
)
  where
    dec_le' : (m k : ℕ) → (d : Bool) × (ltb k m ≡ d)
    dec_le' m k = (ltb k m, refl)

    inside : (d : Bool) × (ltb p (length b) ≡ d) → p < length b
    inside d = by d.0 d.1
      where
        by : (d : Bool) → ltb p (length b) ≡ d → p < length b
        by true w = ltb-t p (length b) w
        by false w = let z = ap length (sym (drop_of_length-le b (ltb-f p (length b) w)) ∙ e) in absurd (omega (arith, length-enc i (enc_all r), z))
