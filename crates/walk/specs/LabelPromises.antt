-- What reading one label of CASE promises.
use Rattle.std.specs.Prelude.{◌≡◌, ℕ, ◌+◌, length}
use mathlib.Core.List as L
use Rattle.std.proofs.Math.Option.{Option}
use Rattle.rules.specs.Bytes.{to_u}
use Rattle.rules.specs.Kinds.{DOTS, COMMA}
use Rattle.rules.specs.Syntax.{Con, label}
use Rattle.rules.specs.Walk.{con_value, high_of, span}
use Rattle.rules.specs.Cells.{cell, label_cells}
use Rattle.walk.specs.Steps.{tag_at, skipped, Moves}
use Rattle.walk.specs.Walking.{Scope, Did, Any}
use Rattle.walk.specs.Promises.{ConstantMeans}
use Rattle.walk.specs.Places.{Step, Ok, Bad, Literal}

-- the high value: the constant behind `..`, or the low one where there is none
pub data HighIs (m : L.List ℕ) (low : Literal) : Literal → Type 0 where
  lone : (tag_at m low.step ≡ DOTS → ⊥) → HighIs m low low
  ranged : {r : Literal} → tag_at m low.step ≡ DOTS → Moves 3 m m (skipped m low.step) r.step → ConstantMeans m (skipped m low.step) r → HighIs m low r

-- the tag of the cell that lies so many numbers on
unfoldable pub tag_behind : L.List ℕ → Step → ℕ → ℕ
tag_behind m (Ok at free) n = tag_at m (Ok (at + n) free)
tag_behind m (Bad k p) n = 0

-- a label, behind which no `..` stands
abbrev pub LabelMeans : L.List ℕ → L.List ℕ → Step → Step → Type 0
LabelMeans m m' s r =
    (σ : Scope) (c : Con) (d : Option Con)
    → Did σ (tag_behind m s (length (label_cells (label c d))) ≡ DOTS → ⊥) Any (λ _. cell COMMA (to_u (con_value c)) (to_u (con_value (high_of c d)))) 0 (label_cells (label c d)) m m' s r (span c (high_of c d))
