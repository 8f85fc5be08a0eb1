-- `walk::steps::Walk::write` meets its contract: its three stores are the cell's.
use Rattle.std.proofs.Common.{refl, sym, ◌∙◌, length-set}
use native.Mathlib.Numerals.{add-one, add-two}
use Rattle.rules.specs.Cells.{cell}
use Rattle.walk.specs.Steps.{extended, written}
use Rattle.walk.proofs.steps.Walk.write.Goals as goal

pub returns-then-has_cell : goal.returns-then-has_cell
unfolding extended written cell
returns-then-has_cell c =
    let room = sym c.has_cell.ensures.fits ∙ c.if-has_cell.true in
    record { lent = refl; step = rw room; numbers = rw (room, c.number.ensures, add-one, add-two); long = simp length-set; top = refl }

pub returns-else-has_cell : goal.returns-else-has_cell
unfolding extended written
returns-else-has_cell c =
    let none = sym c.has_cell.ensures.fits ∙ c.if-has_cell.false in
    record { lent = refl; step = rw none; numbers = rw none; long = refl; top = refl }
