-- `walk::steps::Walk::ahead` meets its contract: where a cell has room before the stack, its numbers are those of memory.
use Rattle.std.proofs.Common.{◌+◌, sym, ◌∙◌, arith}
use Rattle.walk.specs.Steps.{cell_at}
use Rattle.cells.specs.Laws.{zero_cell}
use Rattle.walk.proofs.CellRooms.{kept_at}
use Rattle.walk.proofs.steps.Walk.ahead.Goals as goal

pub returns-then-has_cell : goal.returns-then-has_cell
unfolding cell_at
returns-then-has_cell c =
    let m = c.args.self.now.memory.now in
    let i = c.args.self.now.at in
    let room = c.has_cell.ensures.room c.if-has_cell.true in
    rw (sym c.has_cell.ensures.fits ∙ c.if-has_cell.true, kept_at m i (omega arith), kept_at m (i + 1) (omega arith), kept_at m (i + 2) (omega arith))

pub returns : goal.returns
unfolding cell_at
returns c = let d = c.default.ensures in rw (sym c.has_cell.ensures.fits ∙ c.if-has_cell.false) (zero_cell _ d.0 d.1.0 d.1.1)
