-- Constants in the tree.
use Rattle.std.specs.Prelude.{◌≡◌, Bool, ◌||◌, ℕ, eqb}
use Rattle.rules.specs.Kinds.{TRUE, FALSE, PLUS, MINUS}
use Rattle.rules.specs.Cells.{truth_kind}

-- a constant starts with a cell of this tag
unfoldable pub is_constant : ℕ → Bool
is_constant tag = eqb tag TRUE || eqb tag FALSE || eqb tag PLUS || eqb tag MINUS

-- neither TRUE nor FALSE has this tag
abbrev pub NoTruth : ℕ → Type 0
NoTruth tag = (truth : Bool) → tag ≡ truth_kind truth → ⊥
