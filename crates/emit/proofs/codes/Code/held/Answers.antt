use mathlib.Core.Path.{refl, ◌∙◌}
use Prim.Native.Nat.{◌+◌}
use native.Mathlib.Omega.{arith}
use Rattle.rules.specs.Depth.{height}
use Rattle.rules.specs.Cells.{WHOLE}
use Rattle.rules.specs.CoreCells.{held_cells}
use Rattle.cells.specs.Reading.{is_item}
use Rattle.cells.specs.Laws.{behind_moves}
use Rattle.emit.proofs.CellLoops.{loop_starts, loop_turns, loop_ends, loop_moves}
use Rattle.emit.proofs.ItemCells.{expr-passed}
use Rattle.emit.proofs.codes.Code.held.Goals as goal

pub loop-cell-init : goal.loop-cell-init
loop-cell-init c = record { same = refl; core = refl; further = omega arith; going = loop_starts _ _ _ }

pub loop-cell-smaller : goal.loop-cell-smaller
unfolding is_item
loop-cell-smaller c =
    let t = c.in-Some.ensures.takes in
    rw c.next_item.ensures.same (loop_moves is_item _ _ _ refl t.0 t.2)

pub loop-cell-preserved : goal.loop-cell-preserved
unfolding is_item
loop-cell-preserved c =
    let i = c.loop-cell.invariant in
    let t = rw i.core at c.in-Some.ensures.takes in
    let less = loop_moves is_item _ _ _ refl t.0 t.2 in
    record {
      same = c.item.ensures.same ∙ i.same;
      core = c.next_item.ensures.same ∙ i.core;
      further = omega (arith, less, i.further);
      going = loop_turns t.1 t.0 c.item.ensures.puts i.going t.2;
    }

pub returns-clause-writes : goal.returns-clause-writes
unfolding held_cells is_item
returns-clause-writes c =
    let i = c.loop-cell.invariant in
    let t = rw i.core at c.in_default.ensures.takes in
    let e = c.next_item.ensures.same ∙ i.core in
    let past = rw (e, t.1) at c.read.ensures.moves in
    record {
      core = c.read.ensures.same ∙ e;
      fine = omega (arith, behind_moves c.args.from.now.memory.now c.loop-cell.from.at, i.further, past);
      means = λ more x fit. loop_ends t.0 i.going past (expr-passed x fit) WHOLE 0 (height x + more) refl;
    }
