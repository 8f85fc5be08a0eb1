-- Operands in the bytes of the code: what the readers of the rules read at the front, and of the bytes behind it. Assumes nothing.
use mathlib.Core.Path.{◌≡◌, refl}
use mathlib.Core.List.{List, [], ◌∷◌}
use Prim.Native.Nat.{ℕ, ◌+◌, ◌≤◌, ◌<◌}
use native.Mathlib.Omega.{arith}
use native.Mathlib.Numerals.{add-one}
use lib.ListN.{get_or, length, drop}
use lib.Seq.{drop-cons}
use lib.IntN.{ℤ}
use Rattle.rules.specs.Codes.{Instr, get1, get2, get4, decode_op, decode}
use Rattle.codes.specs.Table.{word_at, value_at}

-- what stands at an offset: its code byte, with the bytes behind it
pub decode_at : (s : List ℕ) (at : ℕ) → at < length s → decode (drop at s) ≡ decode_op (get_or s at 0) (drop (at + 1) s)
unfolding decode
decode_at s at h = rw (add-one at, drop-cons s at 0 h)

pub byte_is : (s : List ℕ) → 1 ≤ length s → (K : ℕ → List ℕ → Instr) → get1 s K ≡ K (get_or s 0 0) (drop 1 s)
unfolding get1
byte_is [] h K = absurd (omega arith)
byte_is (a ∷ r) h K = refl

pub word_is : (s : List ℕ) → 2 ≤ length s → (K : ℕ → List ℕ → Instr) → get2 s K ≡ K (word_at s 0) (drop 2 s)
unfolding get2
word_is [] h K = absurd (omega arith)
word_is (a ∷ []) h K = absurd (omega arith)
word_is (a ∷ b ∷ r) h K = refl

pub value_is : (s : List ℕ) → 4 ≤ length s → (K : ℤ → List ℕ → Instr) → get4 s K ≡ K (value_at s 0) (drop 4 s)
unfolding get4
value_is [] h K = absurd (omega arith)
value_is (a ∷ []) h K = absurd (omega arith)
value_is (a ∷ b ∷ []) h K = absurd (omega arith)
value_is (a ∷ b ∷ c ∷ []) h K = absurd (omega arith)
value_is (a ∷ b ∷ c ∷ d ∷ r) h K = refl

-- the operands of SPAN, and of FIRST and NEXT
pub pair_is : (s : List ℕ) → 8 ≤ length s → (K : ℤ → ℤ → Instr) → get4 s (λ a r. get4 r (λ b r. K a b)) ≡ K (value_at s 0) (value_at s 4)
unfolding get4
pair_is (a ∷ b ∷ c ∷ d ∷ r) h K = value_is r (omega arith) (λ z t. K (value_at (a ∷ b ∷ c ∷ d ∷ r) 0) z)
pair_is [] h K = absurd (omega arith)
pair_is (a ∷ []) h K = absurd (omega arith)
pair_is (a ∷ b ∷ []) h K = absurd (omega arith)
pair_is (a ∷ b ∷ c ∷ []) h K = absurd (omega arith)

pub loop_is : (s : List ℕ) → 8 ≤ length s → (K : ℕ → ℕ → ℤ → ℕ → Instr) →
    get1 s (λ l r. get1 r (λ v r. get4 r (λ z r. get2 r (λ a r. K l v z a)))) ≡
    K (get_or s 0 0) (get_or s 1 0) (value_at s 2) (word_at s 6)
unfolding get1 get4
loop_is (l ∷ v ∷ a ∷ b ∷ c ∷ d ∷ r) h K = word_is r (omega arith) (λ to t. K l v (value_at (l ∷ v ∷ a ∷ b ∷ c ∷ d ∷ r) 2) to)
loop_is [] h K = absurd (omega arith)
loop_is (l ∷ []) h K = absurd (omega arith)
loop_is (l ∷ v ∷ []) h K = absurd (omega arith)
loop_is (l ∷ v ∷ a ∷ []) h K = absurd (omega arith)
loop_is (l ∷ v ∷ a ∷ b ∷ []) h K = absurd (omega arith)
loop_is (l ∷ v ∷ a ∷ b ∷ c ∷ []) h K = absurd (omega arith)
