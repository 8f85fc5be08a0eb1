use mathlib.Core.Path.{refl}
use borrow.Author.Tests.{lt-ltb}
use Rattle.parse.specs.Steps.{skipped}
use Rattle.parse.proofs.parser.Parser.skip.Goals as goal

pub returns-clause-means : goal.returns-clause-means
unfolding skipped
returns-clause-means c = rw (lt-ltb _ _ c.requires) (refl, refl)
