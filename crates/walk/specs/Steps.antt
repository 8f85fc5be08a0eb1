-- Where the walk stands: the tree ahead, and the core program that is written over the part of the tree behind. The stack of operands lies behind the tree.
use Rattle.std.specs.Prelude.{Bool, List, ℕ, ◌+◌, ◌-◌, ◌≤◌, leb, length, get_or, take}
use Rattle.std.proofs.lemmas.List.Edits.{sets}
use Rattle.rules.specs.Base.{pick}
use Rattle.walk.specs.Places.{Step, Ok, Bad}
use Rattle.cells.specs.declared.cell.Cell.{Cell}

-- where the stack begins
abbrev pub stack_start : ℕ
stack_start = 147465

-- what lies before the stack: the names, the core program, the tree
unfoldable pub kept : List ℕ → List ℕ
kept m = take stack_start m

-- the cell ahead; zeros behind the last one and after a refusal
unfoldable pub cell_at : List ℕ → Step → Cell
cell_at m (Ok at free) =
    pick (leb (at + 3) (length (kept m)))
    (λ _. record { tag = get_or (kept m) at 0; place = get_or (kept m) (at + 1) 0; datum = get_or (kept m) (at + 2) 0 })
    (λ _. record { tag = 0; place = 0; datum = 0 })
cell_at m (Bad n p) = record { tag = 0; place = 0; datum = 0 }

unfoldable pub tag_at : List ℕ → Step → ℕ
tag_at m s = (cell_at m s).tag

-- past the cell ahead
unfoldable pub skipped : List ℕ → Step → Step
skipped m (Ok at free) = pick (leb (at + 3) (length (kept m))) (λ _. Ok (at + 3) free) (λ _. Ok stack_start free)
skipped m (Bad n p) = Bad n p

-- a refusal stays; else this one
unfoldable pub refused_at : ℕ → ℕ → Step → Step
refused_at n p (Ok at free) = Bad n p
refused_at n p (Bad o q) = Bad o q

-- on if the test holds
unfoldable pub checked : Bool → ℕ → ℕ → Step → Step
checked b n p s = pick b (λ _. s) (λ _. refused_at n p s)

-- past a cell that is written
unfoldable pub extended : List ℕ → Step → Step
extended m (Ok at free) = pick (leb (free + 3) (length (kept m))) (λ _. Ok at (free + 3)) (λ _. Ok at free)
extended m (Bad n p) = Bad n p

-- the numbers with that cell
unfoldable pub written : List ℕ → Step → List ℕ → List ℕ
written m (Ok at free) cell = pick (leb (free + 3) (length (kept m))) (λ _. sets m free cell) (λ _. m)
written m (Bad n p) cell = m

-- how many numbers of the tree are ahead; none after a refusal
unfoldable pub left : List ℕ → Step → ℕ
left m (Ok at free) = length (kept m) - at
left m (Bad n p) = 0

-- the walk went on from s to r, by so many numbers
abbrev pub Moves : ℕ → List ℕ → List ℕ → Step → Step → Type 0
Moves by m m' s r = left m' r ≤ left m s - by
