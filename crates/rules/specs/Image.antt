-- The image: three records, written and read. Number 23.
use Rattle.std.specs.Prelude.{◌&&◌, [], ◌∷◌, ◌++◌, ℕ, eqb, leb, ℤ, length}
use mathlib.Core.List as L
use Rattle.std.proofs.Math.Option.{Option, none, some}
use Rattle.rules.specs.Limits.{variable_limit, code_limit}
use Rattle.rules.specs.Base.{pick}
use Rattle.rules.specs.Numbers.{Ty, bool, dint, holds}
use Rattle.rules.specs.Bytes.{to_u, put2, put4, of4, record_of, Record, record_in}
use Rattle.rules.specs.Core.{Variable, Program}
use Rattle.rules.specs.Translation.{code_of}
use Rattle.rules.specs.Depth.{depth_l}
use Rattle.rules.specs.Worst.{worst_l, figure}

-- Writing

unfoldable pub type_byte : Ty → ℕ
type_byte bool = 1
type_byte dint = 2

-- kind 1: per variable, in order, type and four-byte initial value
unfoldable pub var_bytes : L.List Variable → L.List ℕ
var_bytes [] = []
var_bytes (v ∷ vs) = type_byte v.type ∷ put4 (to_u v.init) (var_bytes vs)

-- kind 3: depth (two bytes), worst case (four)
unfoldable pub figure_bytes : ℕ → ℕ → L.List ℕ
figure_bytes depth worst = put2 depth (put4 worst [])

unfoldable pub image : Program → L.List ℕ
image p =
    record_of 1 (var_bytes p.vars) ++
    (record_of 2 (code_of p.body) ++
    record_of 3 (figure_bytes (depth_l p.body) (figure (worst_l p.body))))

-- Reading

-- types: 1 BOOL, 2 DINT
unfoldable pub type_in : ℕ → Option Ty
type_in k = pick (eqb k 1) (λ _. some bool) (λ _. pick (eqb k 2) (λ _. some dint) (λ _. none))

-- an initial value that its type does not hold is refused: a BOOL's is 0 or 1
unfoldable pub variable_in : Option Ty → ℤ → Option Variable
variable_in none z = none
variable_in (some τ) z = pick (holds τ z) (λ _. some (record { type = τ; init = z })) (λ _. none)

-- a variable before the others
unfoldable pub before : Option Variable → Option (L.List Variable) → Option (L.List Variable)
before none vs = none
before (some v) none = none
before (some v) (some vs) = some (v ∷ vs)

-- the variables in a payload of kind 1: five bytes each
unfoldable pub variables_in : L.List ℕ → Option (L.List Variable)
variables_in [] = some []
variables_in (k ∷ []) = none
variables_in (k ∷ a ∷ []) = none
variables_in (k ∷ a ∷ b ∷ []) = none
variables_in (k ∷ a ∷ b ∷ c ∷ []) = none
variables_in (k ∷ a ∷ b ∷ c ∷ d ∷ r) = before (variable_in (type_in k) (of4 a b c d)) (variables_in r)

-- what a run uses of an image: its variables and its code
pub record Loaded : Type 0 where
  pub vars : L.List Variable
  pub code : L.List ℕ

-- the record at the start, if it is of this kind, and what is read behind it
unfoldable pub on_kind : {A : Type 0} → ℕ → Option Record → (Record → Option A) → Option A
on_kind k none f = none
on_kind k (some r) f = pick (eqb r.kind k) (λ _. f r) (λ _. none)

-- at most 64 variables, in order
unfoldable pub loaded_of : Option (L.List Variable) → L.List ℕ → Option Loaded
loaded_of none code = none
loaded_of (some vs) code = pick (leb (length vs) variable_limit) (λ _. some (record { vars = vs; code = code })) (λ _. none)

-- exactly three records, in this order; none is number 23
unfoldable pub image_in : L.List ℕ → Option Loaded
image_in bytes =
    on_kind 1 (record_in bytes) (λ one.
    on_kind 2 (record_in one.rest) (λ two.
    on_kind 3 (record_in two.rest) (λ three.
    pick (leb (length two.payload) code_limit && eqb (length three.payload) 6 && eqb (length three.rest) 0) (λ _.
    loaded_of (variables_in one.payload) two.payload) (λ _. none))))
