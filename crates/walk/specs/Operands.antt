-- The stack of an expression's operands. Heights are not counted beyond 64, where 32 is the most that is allowed.
use Rattle.std.specs.Prelude.{List, ℕ, suc, ◌+◌, max, min, leb, length}
use Rattle.std.proofs.lemmas.List.Edits.{sets}
use Rattle.rules.specs.Base.{pick}

unfoldable pub capped : ℕ → ℕ
capped h = min h 64

unfoldable pub raised : ℕ → ℕ
raised h = capped (suc h)

unfoldable pub higher : ℕ → ℕ → ℕ
higher a b = max a (raised b)

unfoldable pub needed : ℕ → ℕ → ℕ
needed h more = capped h + more

-- an operand's two numbers, put where there is room
unfoldable pub pushed : List ℕ → ℕ → List ℕ → List ℕ
pushed m top operand = pick (leb (top + 2) (length m)) (λ _. sets m top operand) (λ _. m)

unfoldable pub pushed_to : ℕ → ℕ → ℕ
pushed_to l top = pick (leb (top + 2) l) (λ _. top + 2) (λ _. top)
