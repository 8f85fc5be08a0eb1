-- Numbers as bytes: little-endian, negative values in two's complement; and records.
use Rattle.std.specs.Prelude.{true, false, List, [], ◌∷◌, ℕ, ◌+◌, ◌-◌, ◌*◌, ◌/◌, ◌%◌, leb, ltb, ℤ, pos, negsuc, length, take, drop}
use Rattle.std.proofs.Math.Option.{Option, none, some}
use Rattle.rules.specs.Base.{pick}

-- a signed 32-bit value as an unsigned one, and back
unfoldable pub to_u : ℤ → ℕ
to_u (pos n) = n
to_u (negsuc n) = 4294967295 - n

unfoldable pub of_u : ℕ → ℤ
of_u u = elim (ltb u 2147483648) [ true ↦ pos u | false ↦ negsuc (4294967295 - u) ]

-- two and four bytes before what follows
unfoldable pub put2 : ℕ → List ℕ → List ℕ
put2 a r = (a % 256) ∷ (a / 256) ∷ r

unfoldable pub put4 : ℕ → List ℕ → List ℕ
put4 u r = (u % 256) ∷ (u / 256 % 256) ∷ (u / 65536 % 256) ∷ (u / 16777216) ∷ r

-- the numbers that two and four bytes are
unfoldable pub of2 : ℕ → ℕ → ℕ
of2 a b = a + 256 * b

unfoldable pub of4 : ℕ → ℕ → ℕ → ℕ → ℤ
of4 a b c d = of_u (a + 256 * b + 65536 * c + 16777216 * d)

-- Records: payload length, kind, payload

unfoldable pub record_of : ℕ → List ℕ → List ℕ
record_of kind payload = put2 (length payload) (put2 kind payload)

pub record Record : Type 0 where
  pub kind : ℕ
  pub payload : List ℕ
  pub rest : List ℕ

-- the record at the start of some bytes, and the bytes behind it; none where it is cut off
unfoldable pub record_in : List ℕ → Option Record
record_in [] = none
record_in (a ∷ []) = none
record_in (a ∷ b ∷ []) = none
record_in (a ∷ b ∷ c ∷ []) = none
record_in (a ∷ b ∷ c ∷ d ∷ r) =
    pick (leb (of2 a b) (length r)) (λ _. some (record { kind = of2 c d; payload = take (of2 a b) r; rest = drop (of2 a b) r })) (λ _. none)
