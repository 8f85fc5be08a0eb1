-- `walk::steps::Walk::has_cell` meets its contract: the end that the code computes is that of the numbers before the stack.
use Rattle.std.proofs.Common.{◌+◌, sym, ◌∙◌, arith, length}
use Rattle.std.proofs.lemmas.Bool.{lt-leb, leb-true}
use Rattle.walk.specs.Steps.{kept}
use Rattle.walk.proofs.CellRooms.{kept_length, room_told, cell_room}
use Rattle.walk.proofs.steps.Walk.has_cell.Goals as goal

pub returns-then-end-ge3 : goal.returns-then-end-ge3
returns-then-end-ge3 c =
    let m = c.args.self.now.memory.now in
    let told = room_told m c.args.i _ c.min-end.ensures c.if-end-ge3.true in
    record { fits = told; room = λ e. omega (arith, cell_room m c.args.i (sym told ∙ e)) }

pub returns-else-end-ge3 : goal.returns-else-end-ge3
returns-else-end-ge3 c =
    let m = c.args.self.now.memory.now in
    let told = lt-leb (c.args.i + 3) (length (kept m)) (omega (arith, kept_length m, c.min-end.ensures)) in
    record { fits = lt-leb 3 _ c.if-end-ge3.false ∙ sym told; room = λ e. absurd (omega (arith, leb-true 3 _ e, c.if-end-ge3.false)) }
