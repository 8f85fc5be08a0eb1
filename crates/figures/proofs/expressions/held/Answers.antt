use Rattle.cells.specs.Runs.{reads_on}
use Rattle.figures.proofs.Closings.{past_whole}
use Rattle.figures.proofs.expressions.held.Goals as goal

pub returns-clause-fine : goal.returns-clause-fine
returns-clause-fine c = reads_on c.read_past.ensures.reads

pub returns-clause-means : goal.returns-clause-means
returns-clause-means c = past_whole c.read_past.ensures.reads
