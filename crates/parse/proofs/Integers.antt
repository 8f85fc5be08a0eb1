-- The token of an integer, where it is taken. Assumes nothing.
use mathlib.Core.Path.{◌≡◌, refl, ap}
use mathlib.Core.Bool.{Bool, true, false}
use mathlib.Core.List.{List}
use Prim.Native.Nat.{ℕ, ◌*◌, ◌≤◌}
use lib.Dec.{eqb}
use borrow.Author.Tests.{eqb-true}
use Rattle.rules.specs.Base.{pick}
use Rattle.rules.specs.Kinds.{INT}
use Rattle.rules.specs.Tokens.{Token}
use Rattle.rules.specs.Syntax as S
use Rattle.rules.specs.Syntax.{got, bad, on_read, ◌>>◌, give}
use Rattle.rules.specs.Cells.{datum, cell}
use Rattle.parse.specs.Parts.{integer_cells}
use Rattle.parse.specs.Reading.{Did, nothing}
use Rattle.parse.specs.Steps.{count_of, free_of, token_at, Writes, Step}
use Rattle.cells.specs.declared.cell.Cell.{Cell}
use Rattle.parse.proofs.Follow.{begin, named, looks, thens, writes, gives}

-- a token with its datum as its value, as it is where it is an integer
abbrev valued : Token → Token
valued t = record { kind = t.kind; place = t.place; letters = t.letters; value = datum t }

-- the integer that is taken is the next token, and its datum is its value
integer_next : (us : List Token) → S.take INT us ≡ ◌>>◌ (S.take INT) (give (valued (S.next us))) us
unfolding S.take ◌>>◌ on_read give datum
integer_next us = go (eqb (S.next us).kind INT) (eqb-true (S.next us).kind INT)
  where
    same : (t : Token) → t.kind ≡ INT → t ≡ valued t
    same t e = rw e

    read : Bool → S.Read Token
    read b = pick b (λ _. got (S.next us) (S.rest us)) (λ _. bad 5 (S.next us).place)

    go : (b : Bool) → (b ≡ true → (S.next us).kind ≡ INT) → read b ≡ on_read (read b) (λ _. give (valued (S.next us)))
    go true e = ap (λ t. got t (S.rest us)) (same (S.next us) (e refl))
    go false e = refl

-- an integer is taken, and its cells are written
pub integer-read : (sign place : ℕ) {m m₁ m₂ m₃ : List ℕ} {s s₁ s₂ r : Step} {t : Cell} → 3 * count_of s ≤ free_of s → t ≡ token_at m s → Did nothing m m₁ s s₁ (S.take INT)
    → Writes (cell sign place 0) m₁ m₂ s₁ s₂ → Writes (cell INT t.place t.datum) m₂ m₃ s₂ r → Did (integer_cells sign place) m m₃ s r (S.take INT)
unfolding integer_cells
integer-read sign place {s} behind sees d w₁ w₂ =
    begin (named integer_next (looks behind s (λ u z. thens behind d (writes behind _ _ _ w₁ (writes behind _ _ _ w₂ (gives (valued u) (rw (sees, z))))))))
