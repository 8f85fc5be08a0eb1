-- An image that the compiler writes reads back as its variables and its code.
use Rattle.std.specs.Prelude.{◌≡◌, refl, true, List, [], ◌∷◌, ◌++◌, ℕ, ◌/◌, ◌%◌, ◌≤◌, ◌<◌, ℤ, pos, negsuc, leb, length}
use Rattle.std.proofs.Common.{append-nil, arith, length-append}
use Rattle.std.proofs.Math.Option.{some}
use Rattle.std.specs.Int.Signed.{mag}
use Rattle.std.proofs.Math.Seq.{take-append_seam, drop-append_seam}
use Rattle.rules.specs.Limits.{code_limit, variable_limit}
use Rattle.rules.specs.Base.{ok}
use Rattle.rules.specs.Numbers.{Ty, bool, dint, low, high, between, holds}
use Rattle.rules.specs.Bytes.{to_u, put2, put4, of2, of4, record_of, record_in}
use Rattle.rules.specs.Core.{Program, Variable}
use Rattle.rules.specs.Translation.{code_of}
use Rattle.rules.specs.Image.{type_byte, var_bytes, figure_bytes, image, type_in, variable_in, before, variables_in, on_kind, loaded_of, image_in}
use Rattle.rules.specs.Compile.{compiled}
use Rattle.theorems.specs.Tests.{le-leb, leb-t, and_r, and_l}
use Rattle.theorems.specs.Decoding.{bytes-sum, of_u-to_u}
use Rattle.theorems.specs.Declarations.{Held, Declared}
use Rattle.theorems.specs.Promise.{front_fits, parts}

-- Records

of2-put2 : (a : ℕ) → of2 (a % 256) (a / 256) ≡ a
unfolding of2
of2-put2 a = omega arith

-- a record is read back, whatever follows it
record_back : (k : ℕ) (payload r : List ℕ) → record_in (record_of k payload ++ r) ≡ some (record { kind = k; payload = payload; rest = r })
unfolding record_in record_of put2
record_back k payload r =
    let h : length payload ≤ length (payload ++ r) = omega (arith, length-append payload r) in
    rw (of2-put2 (length payload), of2-put2 k, le-leb (length payload) (length (payload ++ r)), take-append_seam payload r, drop-append_seam payload r)

-- and where nothing follows it
record_last : (k : ℕ) (payload : List ℕ) → record_in (record_of k payload) ≡ some (record { kind = k; payload = payload; rest = [] })
record_last k payload = rw append-nil at (record_back k payload [])

-- Variables

-- a value that its type holds fits in four bytes
pub held_small : (τ : Ty) (z : ℤ) → holds τ z ≡ true → mag z < 2147483648
unfolding holds between low high
held_small bool (pos n) h = let k = leb-t n 1 (and_r (leb 0 n) (leb n 1) h) in omega arith
held_small bool (negsuc n) h = let z : ◌≡◌ {A = ℕ} 0 1 = cc in absurd (omega arith)
held_small dint (pos n) h = let k = leb-t n 2147483647 h in omega arith
held_small dint (negsuc n) h = let k = leb-t n 2147483647 (and_l (leb n 2147483647) true h) in omega arith

-- the four bytes that put4 writes are the value again
of4-put4 : (z : ℤ) → mag z < 2147483648 → of4 (to_u z % 256) (to_u z / 256 % 256) (to_u z / 65536 % 256) (to_u z / 16777216) ≡ z
unfolding of4
of4-put4 z b = rw bytes-sum (of_u-to_u z b)

type_back : (τ : Ty) → type_in (type_byte τ) ≡ some τ
unfolding type_in type_byte
type_back bool = refl
type_back dint = refl

variables_back : (vs : List Variable) → Held vs → variables_in (var_bytes vs) ≡ some vs
unfolding variables_in var_bytes put4 variable_in before
variables_back [] h = refl
variables_back (v ∷ vs) h = rw (of4-put4 v.init (held_small v.type v.init h.0), type_back, h.0, variables_back vs h.1)

-- The image

image_back : (p : Program) → Declared p.vars → length (code_of p.body) ≤ code_limit → image_in (image p) ≡ some (record { vars = p.vars; code = code_of p.body })
unfolding image_in image on_kind loaded_of figure_bytes put2 put4
image_back p k s =
    rw (record_back, record_back, record_last, le-leb (length (code_of p.body)) code_limit s, variables_back p.vars k.held, le-leb (length p.vars) variable_limit k.few)

pub reads_back : (lent capacity : ℕ) (text : List ℕ) (p : Program) → compiled lent capacity text ≡ ok p
    → image_in (image p) ≡ some (record { vars = p.vars; code = code_of p.body })
reads_back lent capacity text p e = let c = parts lent capacity text p e in image_back p (front_fits text p c.fronted).walked.declared c.short
