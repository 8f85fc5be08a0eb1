-- Cells in lent numbers.
use Rattle.std.specs.Prelude.{◌≡◌, Bool, true, false, ◌||◌, List, ◌++◌, ℕ, ◌+◌, ◌-◌, ◌≤◌, eqb, leb, ◌<◌, Option, MatchOption, length, get_or, drop}
use Rattle.rules.specs.Base.{pick}
use Rattle.rules.specs.Kinds.{NAME, INT, TRUE, FALSE, OPEN, COMMA, COLON}
use Rattle.rules.specs.Cells.{UNARY, BINARY}
use Rattle.cells.specs.declared.cell.Cell.{Cell}

unfoldable pub cell_in : List ℕ → ℕ → Cell
cell_in m i =
    pick (leb (i + 3) (length m)) (λ _. record { tag = get_or m i 0; place = get_or m (i + 1) 0; datum = get_or m (i + 2) 0 }) (λ _. record { tag = 0; place = 0; datum = 0 })

unfoldable pub behind : List ℕ → ℕ → ℕ
behind m i = pick (leb (i + 3) (length m)) (λ _. i + 3) (λ _. length m)

-- a whole cell lies there, or none does
abbrev pub IsAhead : List ℕ → ℕ → Option Cell → Type 0
IsAhead m i r = MatchOption r (length m < i + 3) (λ c. (i + 3 ≤ length m) × (c ≡ cell_in m i))

-- and j is behind it, or at the end
abbrev pub IsNext : List ℕ → ℕ → Option Cell → ℕ → Type 0
IsNext m i r j = MatchOption r ((length m < i + 3) × (j ≡ length m)) (λ c. (i + 3 ≤ length m) × (c ≡ cell_in m i) × (j ≡ i + 3))

-- the cell at i if it fits, and j is behind it; else nothing, and j is i
abbrev pub Takes : Bool → List ℕ → ℕ → Option Cell → ℕ → Type 0
Takes fits m i r j = MatchOption r ((fits ≡ false) × (j ≡ i)) (λ c. (fits ≡ true) × (c ≡ cell_in m i) × (j ≡ behind m i))

-- these numbers lie from i on
pub record Lies (m : List ℕ) (i : ℕ) (xs : List ℕ) : Type 0 where
  pub rest : List ℕ
  pub lie : drop i m ≡ xs ++ rest
  pub within : i ≤ length m

-- a cell of an expression, and not the one that closes it
unfoldable pub is_item : ℕ → Bool
is_item tag = eqb tag NAME || eqb tag INT || eqb tag TRUE || eqb tag FALSE || eqb tag OPEN || eqb tag UNARY || eqb tag BINARY

-- a label of the core program, or the cell that closes labels
unfoldable pub is_label : ℕ → Bool
is_label tag = eqb tag COMMA || eqb tag COLON

-- j is at least one cell further on than i, or at the end
abbrev pub Moves : List ℕ → ℕ → ℕ → Type 0
Moves m i j = length m - j ≤ length m - i - 3
