use native.Mathlib.Numerals.{add-one, add-two}
use Rattle.rules.specs.Cells.{cell}
use Rattle.scan.proofs.cells.Cell.put.Goals as goal

pub returns : goal.returns
unfolding cell
returns c = rw (c.number.ensures, add-one, add-two)
