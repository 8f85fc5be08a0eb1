-- An image is bytes: every number in it is below 256.
use Rattle.std.specs.Prelude.{◌≡◌, refl, Bool, true, false, List, [], ◌∷◌, ◌++◌, ℕ, ◌-◌, ◌*◌, ◌/◌, ◌%◌, ◌<◌, leb, ℤ, pos, negsuc, length}
use Rattle.std.proofs.Common.{arith, ltb→lt}
use Rattle.std.specs.Int.Signed.{mag}
use Rattle.rules.specs.Limits.{worst_limit, unbounded_mark}
use Rattle.rules.specs.Base.{pick}
use Rattle.rules.specs.Numbers.{Ty, bool, dint}
use Rattle.rules.specs.Bytes.{to_u, put2, put4, record_of}
use Rattle.rules.specs.Core.{Un, Neg, Not, Bin, Mul, Div, Mod, Add, Sub, Lt, Gt, Le, Ge, Eq, Ne, And, Xor, Or, Program, Variable, types}
use Rattle.rules.specs.Codes.{Instr, TICK, CONST, LOAD, STORE, UN, BIN, JUMP, JZ, JNZ, SPAN, DROP, HOLD, FIRST, NEXT, HALT, BAD, un_code, bin_code, enc, enc_all}
use Rattle.rules.specs.Translation.{code_of, prog}
use Rattle.rules.specs.Worst.{Bound, fin, unb, figure, worst_l}
use Rattle.rules.specs.Depth.{depth_l}
use Rattle.rules.specs.Image.{type_byte, var_bytes, figure_bytes, image}
use Rattle.rules.specs.Compile.{accepted, compile}
use Rattle.theorems.specs.Tests.{leb-t}
use Rattle.theorems.specs.Decoding.{Fits, AllFit}
use Rattle.theorems.specs.Declarations.{Held, Declared}
use Rattle.theorems.specs.Sizes.{code-length}
use Rattle.theorems.specs.Accepted.{Accepted}
use Rattle.theorems.specs.Promise.{front_fits, parts, promised, by_program}
use Rattle.theorems.specs.Fields.{code_fits}
use Rattle.theorems.specs.Records.{held_small}

pub data AllBelow (n : ℕ) : List ℕ → Type 0 where
  none : AllBelow n []
  next : {x : ℕ} {s : List ℕ} → x < n → AllBelow n s → AllBelow n (x ∷ s)

-- Numbers and records

both : {r s : List ℕ} → AllBelow 256 r → AllBelow 256 s → AllBelow 256 (r ++ s)
both none b = b
both (next h a) b = next h (both a b)

two : (a : ℕ) {r : List ℕ} → a < 65536 → AllBelow 256 r → AllBelow 256 (put2 a r)
unfolding put2
two a h b = next {x = a % 256} (omega arith) (next {x = a / 256} (omega arith) b)

four : (u : ℕ) {r : List ℕ} → u < 4294967296 → AllBelow 256 r → AllBelow 256 (put4 u r)
unfolding put4
four u h b = next {x = u % 256} (omega arith) (next {x = u / 256 % 256} (omega arith)
    (next {x = u / 65536 % 256} (omega arith) (next {x = u / 16777216} (omega arith) b)))

-- a signed value's four bytes
signed : (z : ℤ) {r : List ℕ} → mag z < 2147483648 → AllBelow 256 r → AllBelow 256 (put4 (to_u z) r)
unfolding to_u
signed (pos n) h b = four n (omega arith) b
signed (negsuc n) h b = four (4294967295 - n) (omega arith) b

record_bytes : (k : ℕ) (payload : List ℕ) → k < 65536 → length payload < 65536 → AllBelow 256 payload → AllBelow 256 (record_of k payload)
unfolding record_of
record_bytes k payload h l b = two (length payload) l (two k h b)

-- Code

un_byte : (o : Un) → un_code o < 256
unfolding un_code
un_byte Neg = omega arith
un_byte Not = omega arith

bin_byte : (o : Bin) → bin_code o < 256
unfolding bin_code
bin_byte Mul = omega arith
bin_byte Div = omega arith
bin_byte Mod = omega arith
bin_byte Add = omega arith
bin_byte Sub = omega arith
bin_byte Lt = omega arith
bin_byte Gt = omega arith
bin_byte Le = omega arith
bin_byte Ge = omega arith
bin_byte Eq = omega arith
bin_byte Ne = omega arith
bin_byte And = omega arith
bin_byte Xor = omega arith
bin_byte Or = omega arith

-- a list's numbers one by one, numerals by their comparison
ruleset bytewise = (next, two, signed, un_byte, bin_byte, ltb→lt)

-- an instruction whose operands fit
enc-bytes : (i : Instr) {r : List ℕ} → Fits i → AllBelow 256 r → AllBelow 256 (enc i r)
unfolding enc
enc-bytes TICK f b = search bytewise
enc-bytes (CONST z) f b = search bytewise
enc-bytes (LOAD i) f b = search bytewise
enc-bytes (STORE i) f b = search bytewise
enc-bytes (UN o) f b = search bytewise
enc-bytes (BIN o) f b = search bytewise
enc-bytes (JUMP a) f b = search bytewise
enc-bytes (JZ a) f b = search bytewise
enc-bytes (JNZ a) f b = search bytewise
enc-bytes (SPAN l h) f b = search bytewise
enc-bytes DROP f b = search bytewise
enc-bytes (HOLD l) f b = search bytewise
enc-bytes (FIRST l v s a) f b = search bytewise
enc-bytes (NEXT l v s a) f b = search bytewise
enc-bytes HALT f b = search bytewise
enc-bytes BAD f b = search bytewise

all_bytes : (is : List Instr) → AllFit is → AllBelow 256 (enc_all is)
unfolding enc_all
all_bytes [] f = none
all_bytes (i ∷ is) f = enc-bytes i f.0 (all_bytes is f.1)

-- Variables

type_byte_lem : (τ : Ty) → type_byte τ < 256
unfolding type_byte
type_byte_lem bool = omega arith
type_byte_lem dint = omega arith

variable-bytes : (vs : List Variable) → Held vs → AllBelow 256 (var_bytes vs)
unfolding var_bytes
variable-bytes [] h = none
variable-bytes (v ∷ vs) h = next (type_byte_lem v.type) (signed v.init (held_small v.type v.init h.0) (variable-bytes vs h.1))

five_each : (vs : List Variable) → length (var_bytes vs) ≡ 5 * length vs
unfolding var_bytes put4
five_each [] = refl
five_each (v ∷ vs) = omega (arith, five_each vs)

-- Figures

figure_small : (b : Bound) → figure b < 4294967296
unfolding figure
figure_small unb = omega arith
figure_small (fin w) = by (leb w worst_limit) refl
  where
    by : (t : Bool) → leb w worst_limit ≡ t → pick t (λ _. w) (λ _. unbounded_mark) < 4294967296
    by true e = omega (arith, leb-t w worst_limit e)
    by false e = omega arith

figure-bytes : (d w : ℕ) → d < 65536 → w < 4294967296 → AllBelow 256 (record_of 3 (figure_bytes d w))
unfolding figure_bytes put2 put4
figure-bytes d w h k = record_bytes 3 (figure_bytes d w) (omega arith) (omega arith) (two d h (four w k none))

-- The image

image-bytes : (p : Program) → Accepted (types p.vars) p.body → Declared p.vars → AllBelow 256 (image p)
unfolding image code_of
image-bytes p a v =
    let code = all_bytes (prog p.body) (code_fits p.body a.fits a.short a.fors) in
    let figures = figure-bytes (depth_l p.body) (figure (worst_l p.body)) (omega arith) (figure_small (worst_l p.body)) in
    both (record_bytes 1 _ (omega arith) (omega (arith, five_each p.vars, v.few)) (variable-bytes p.vars v.held)) (both (record_bytes 2 _ (omega arith) (omega (arith, code-length p.body)) code) figures)

pub bytes_only : (lent capacity : ℕ) (text i : List ℕ) (c d w : ℕ) → compile lent capacity text ≡ accepted i c d w → AllBelow 256 i
bytes_only lent capacity text i c d w e = by_program lent capacity text i c d w e (λ i c d w. AllBelow 256 i)
    (λ p h. image-bytes p (promised lent capacity text p h) (front_fits text p (parts lent capacity text p h).fronted).walked.declared)
