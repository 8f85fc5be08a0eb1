-- The tables of expressions: which cells are an expression's, and what operators and signs take and give. Assumes nothing.
use mathlib.Core.Path.{◌≡◌, refl}
use mathlib.Core.Logic.{⊎_elim}
use Prim.Native.Nat.{ℕ, zero, suc, ◌+◌, ◌≤◌, ◌<◌, max}
use native.Mathlib.Nat.{eq-or-lt_of_le}
use native.Mathlib.Omega.{arith}
use lib.Dec.{eqb}
use borrow.Author.Tests.{le-leb, lt-leb, ne_eqb}
use Rattle.rules.specs.Numbers.{Ty, bool, dint, same_ty}
use Rattle.rules.specs.Kinds.{BOOL, DINT}
use Rattle.rules.specs.Core.{Bin, Mul, Div, Mod, Add, Sub, Lt, Gt, Le, Ge, Eq, Ne, And, Xor, Or, result}
use Rattle.rules.specs.Codes.{bin_code}
use Rattle.rules.specs.Syntax.{Sign, minus, plus, inverse}
use Rattle.rules.specs.Walk.{takes, sign_ty}
use Rattle.rules.specs.Cells.{cell, type_kind, sign_code, UNARY}
use Rattle.walk.specs.Operands.{capped, raised, higher}
use Rattle.walk.specs.Items.{sign_cell, taken_kind, given_kind, sign_kind}
use Rattle.walk.specs.Stacking.{sign_place}

-- what holds of each of n numbers from a on
abbrev pub Through : (ℕ → Type 0) → ℕ → ℕ → Type 0
Through P a zero = Unit {0}
Through P a (suc n) = P a × Through P (suc a) n

pub through : (P : ℕ → Type 0) (a n : ℕ) → Through P a n → (k : ℕ) → a ≤ k → k < a + n → P k
through P a zero h k l u = absurd (omega arith)
through P a (suc n) h k l u = ⊎_elim (λ e. rw e at h.0) (λ (b : a < k). through P (suc a) n h.1 k b (omega arith)) (eq-or-lt_of_le l)

-- an operator that is neither of equality nor of logic
pub taken_else : (k left : ℕ) → (k ≡ 16 → ⊥) → (k ≡ 17 → ⊥) → (k ≡ 18 → ⊥) → (k ≡ 19 → ⊥) → (k ≡ 20 → ⊥) → DINT ≡ taken_kind k left
unfolding taken_kind
taken_else k left a b c d e = rw (ne_eqb k 16 a, ne_eqb k 17 b, ne_eqb k 18 c, ne_eqb k 19 d, ne_eqb k 20 e)

-- arithmetic, and what lies before and behind it
pub given-number : (k : ℕ) → 7 ≤ k → k < 12 → DINT ≡ given_kind k
unfolding given_kind
given-number k a b = rw (le-leb 7 k a, le-leb k 11 (omega arith))

pub given_low : (k : ℕ) → k < 7 → BOOL ≡ given_kind k
unfolding given_kind
given_low k a = rw (lt-leb 7 k a)

pub given_high : (k : ℕ) → 12 ≤ k → BOOL ≡ given_kind k
unfolding given_kind
given_high k a = rw (le-leb 7 k (omega arith), lt-leb k 11 a)

-- What the rules say by types, the code says by kinds

pub same_kind : (a b : Ty) → eqb (type_kind a) (type_kind b) ≡ same_ty a b
unfolding type_kind same_ty
same_kind bool bool = refl
same_kind bool dint = refl
same_kind dint bool = refl
same_kind dint dint = refl

pub sign-kind : (g : Sign) → sign_kind (sign_code g) ≡ type_kind (sign_ty g)
unfolding sign_kind sign_code type_kind sign_ty
sign-kind minus = refl
sign-kind plus = refl
sign-kind inverse = refl

pub sign-cell : (p : ℕ) (g : Sign) → cell UNARY (sign_place (sign_code g) p) (sign_code g) ≡ sign_cell p g
unfolding sign_place sign_code sign_cell
sign-cell p minus = refl
sign-cell p plus = refl
sign-cell p inverse = refl

pub taken-kind : (o : Bin) (t : Ty) → taken_kind (bin_code o) (type_kind t) ≡ type_kind (takes o t)
unfolding taken_kind bin_code type_kind takes
taken-kind Mul t = refl
taken-kind Div t = refl
taken-kind Mod t = refl
taken-kind Add t = refl
taken-kind Sub t = refl
taken-kind Lt t = refl
taken-kind Gt t = refl
taken-kind Le t = refl
taken-kind Ge t = refl
taken-kind Eq t = refl
taken-kind Ne t = refl
taken-kind And t = refl
taken-kind Xor t = refl
taken-kind Or t = refl

pub given-kind : (o : Bin) → given_kind (bin_code o) ≡ type_kind (result o)
unfolding given_kind bin_code type_kind result
given-kind Mul = refl
given-kind Div = refl
given-kind Mod = refl
given-kind Add = refl
given-kind Sub = refl
given-kind Lt = refl
given-kind Gt = refl
given-kind Le = refl
given-kind Ge = refl
given-kind Eq = refl
given-kind Ne = refl
given-kind And = refl
given-kind Xor = refl
given-kind Or = refl

-- what is not counted beyond 64 is not missed
pub higher-height : (a b : ℕ) → higher (capped a) (capped b) ≡ capped (max a (suc b))
unfolding higher raised capped
higher-height a b = omega arith
