-- What the answers of scanning's functions stand for.
use Rattle.std.specs.Prelude.{◌≡◌, List, ◌&&◌, drop, find, ℕ, ◌<◌, leb, Option as Maybe, Some, None, Result, Ok, Err}
use denote.Ref.{Bor}
use Rattle.std.proofs.Math.Option.{Option, none, some}
use Rattle.rules.specs.Limits.{integer_limit}
use Rattle.std.specs.Option.{option_map}
use Rattle.rules.specs.Base.{pick, same}
use Rattle.rules.specs.Tokens.{Piece, gap, tok, bad, fold, starts}
use Rattle.rules.specs.Cells.{datum}
use Rattle.rules.specs.Answers.{fault_number}
use Rattle.rules.specs.KindNumbers.{kind_number}
use Rattle.rules.specs.declared.compiling.Fault.{Fault}
use Rattle.rules.specs.declared.kinds.Kind.{Kind}
use Rattle.scan.specs.declared.pieces.Piece as Code
use Rattle.scan.specs.declared.pieces.Piece.TheVariants.{Gap, Token}

-- a piece without its place and its letters
pub data Shown : Type 0 where
  -- how many bytes
  a_gap : ℕ → Shown
  -- the kind, the datum, and how many bytes
  a_token : ℕ → ℕ → ℕ → Shown
  -- the number of the list
  a_fault : ℕ → Shown

-- what a piece of the rules shows
unfoldable pub shown : Piece → Shown
shown (gap n) = a_gap n
shown (tok t n) = a_token t.kind (datum t) n
shown (bad e) = a_fault e

-- what a piece of the code shows
abbrev pub answered : Result Code.Piece Fault → Shown
answered (Ok (Gap n)) = a_gap n
answered (Ok (Token k d n)) = a_token (kind_number k) d n
answered (Err f) = a_fault (fault_number f)

-- the kind with this number, or none if the number is that of what is missing
abbrev pub Finds : ℕ → Maybe Kind → ℕ → Type 0
Finds missing (Some k) n = (kind_number k ≡ n) × (missing < n)
Finds missing None n = n ≡ missing

-- the kind of a word in a table of words and kinds; letter case means nothing
unfoldable pub kind_in : List (Bor (List ℕ) × Kind) → List ℕ → Maybe Kind
kind_in table word = option_map (λ row. row.1) (find (λ row. same (fold word) (fold row.0.now)) table)

-- the value of an integer that is not too large
unfoldable pub limited : Option ℕ → Maybe ℕ
limited none = None
limited (some v) = pick (leb v integer_limit) (λ _. Some v) (λ _. None)

-- the base that an integer's first bytes name, and how many bytes name it
unfoldable pub base_of : List ℕ → ℕ × ℕ
base_of s =
    pick (starts 50 35 s) (λ _. (2, 2)) (λ _.
    pick (starts 56 35 s) (λ _. (8, 2)) (λ _.
    pick (starts 49 54 s && starts 54 35 (drop 1 s)) (λ _. (16, 3)) (λ _.
    (10, 0))))
