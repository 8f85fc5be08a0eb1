-- Bytes put into a buffer.
use Rattle.std.specs.Prelude.{Bool, List, ℕ, ◌+◌, leb, length}
use Rattle.std.proofs.lemmas.List.Edits.{sets}
use Rattle.rules.specs.Base.{pick}

-- bytes are put at an offset of a buffer if all of them fit, else nothing is changed
unfoldable pub fits : List ℕ → ℕ → List ℕ → Bool
fits buffer at bytes = leb (at + length bytes) (length buffer)

unfoldable pub put_at : List ℕ → ℕ → List ℕ → List ℕ
put_at buffer at bytes = pick (fits buffer at bytes) (λ _. sets buffer at bytes) (λ _. buffer)
