use Rattle.std.proofs.Common.{arith}
use Rattle.std.proofs.lemmas.Grind.{common_steps}
use Rattle.cells.specs.Reading.{is_item}
use Rattle.cells.proofs.cell.is_item.Goals as goal

pub returns-in-Err : goal.returns-in-Err
unfolding is_item
returns-in-Err c = grind (arith, common_steps)
