-- The parts of an image where they stand in its bytes.
use Rattle.std.specs.Prelude.{◌≡◌, Bool, ◌&&◌, List, [], ℕ, ◌*◌, eqb, leb, length}
use Rattle.rules.specs.Limits.{variable_limit, code_limit}
use Rattle.std.proofs.Math.Option.{Option, none, some}
use Rattle.rules.specs.Bytes.{Record, record_in}
use Rattle.image.specs.declared.Record as Code

-- of a record: its payload, and the bytes behind it; nothing where it is cut off
unfoldable pub payload_of : Option Record → List ℕ
payload_of none = []
payload_of (some r) = r.payload

unfoldable pub rest_of : Option Record → List ℕ
rest_of none = []
rest_of (some r) = r.rest

-- the payloads of the first two records: the variables and the code
unfoldable pub variables_part : List ℕ → List ℕ
variables_part image = payload_of (record_in image)

unfoldable pub code_part : List ℕ → List ℕ
code_part image = payload_of (record_in (rest_of (record_in image)))

-- a record of the code as one of the rules
abbrev pub read : Code.Record → Record
read r = record { kind = r.kind; payload = r.payload.now; rest = r.rest.now }

-- three records stand one behind the other at the start of some bytes
pub record Three (image : List ℕ) (one two three : Record) : Type 0 where
  pub first : record_in image ≡ some one
  pub second : record_in one.rest ≡ some two
  pub third : record_in two.rest ≡ some three

-- three records are of their kinds and lengths, and nothing stands behind them
abbrev pub shaped : Record → Record → Record → Bool
shaped one two three =
    eqb one.kind 1 && (eqb two.kind 2 && (eqb three.kind 3 && ((leb (length two.payload) code_limit && eqb (length three.payload) 6 && eqb (length three.rest) 0) && leb (length one.payload) (5 * variable_limit))))
