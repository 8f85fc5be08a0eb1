use mathlib.Core.Path.{refl, ◌∙◌}
use Rattle.emit.proofs.SizeSums.{past_cell, fewer}
use Rattle.emit.proofs.SizeItems.{held_start, held_turn, held_done, item-ahead}
use Rattle.emit.proofs.sizes.held.Goals as goal

pub loop-cell-init : goal.loop-cell-init
loop-cell-init c = record { same = refl; reads = held_start _ _ }

pub loop-cell-smaller : goal.loop-cell-smaller
loop-cell-smaller c =
    let t = c.in-Some.ensures.takes in
    rw c.next_item.ensures.same (fewer _ _ _ refl (item-ahead refl t.0) (past_cell _ _ t.2))

pub loop-cell-preserved : goal.loop-cell-preserved
loop-cell-preserved c =
    let e = c.loop-cell.invariant.same in
    let t = rw e at c.in-Some.ensures.takes in
    record { same = c.next_item.ensures.same ∙ e; reads = held_turn c.loop-cell.invariant.reads refl refl t.0 t.1 t.2 c.item_size.ensures c.add-size.ensures }

pub returns : goal.returns
returns c =
    let e = c.loop-cell.invariant.same in
    let t = rw e at c.in_default.ensures.takes in
    let d = held_done c.loop-cell.invariant.reads refl refl t.0 (rw (c.next_item.ensures.same ∙ e, t.1) at c.read.ensures.moves) in
    record { same = c.read.ensures.same ∙ c.next_item.ensures.same ∙ e; fine = d.fine; means = d.means }
