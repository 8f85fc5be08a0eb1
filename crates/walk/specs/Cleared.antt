-- Only the program stays in lent numbers.
use Rattle.std.specs.Prelude.{◌≡◌, List, ℕ, ◌≤◌, length, replicate}
use Rattle.std.proofs.lemmas.List.Edits.{sets}
use Rattle.std.proofs.Math.Seq.{slice}
use Rattle.rules.specs.Limits.{token_numbers}

-- the numbers behind the tokens up to the first free one stay, and all others are zero
abbrev pub Cleared : List ℕ → ℕ → List ℕ → Type 0
Cleared m free m' = (token_numbers ≤ free) × (free ≤ length m) → m' ≡ sets (replicate (length m) 0) token_numbers (slice token_numbers free m)
