use mathlib.Core.Path.{refl}
use native.Mathlib.Numerals.{add-one, add-two}
use Rattle.rules.specs.Cells.{cell}
use Rattle.parse.specs.Steps.{extended, written}
use Rattle.parse.proofs.parser.Parser.write.Goals as goal

pub returns-clause-means : goal.returns-clause-means
unfolding extended written cell
returns-clause-means c = rw (c.number.ensures, add-one, add-two) (refl, refl)
