use mathlib.Core.Path.{refl, ◌∙◌}
use native.Mathlib.Omega.{arith}
use Rattle.rules.specs.Kinds.{COLON}
use Rattle.cells.specs.Laws.{behind_moves}
use Rattle.emit.proofs.CellLoops.{loop_starts, loop_turns, loop_ends, loop_moves}
use Rattle.emit.proofs.ItemCells.{is_comma, label_put, labels-closed, labels-passed}
use Rattle.emit.proofs.codes.Code.labels.Goals as goal

pub loop-label-init : goal.loop-label-init
loop-label-init c = record { same = refl; core = refl; further = omega arith; going = loop_starts _ _ _ }

pub loop-label-smaller : goal.loop-label-smaller
loop-label-smaller c =
    let t = c.in-Some.ensures.takes in
    rw c.next_if.ensures.same (loop_moves is_comma _ _ _ refl t.0 t.2)

pub loop-label-preserved : goal.loop-label-preserved
loop-label-preserved c =
    let i = c.loop-label.invariant in
    let t = rw i.core at c.in-Some.ensures.takes in
    let less = loop_moves is_comma _ _ _ refl t.0 t.2 in
    record {
      same = c.jump.ensures.same ∙ c.span.ensures.same ∙ i.same;
      core = c.next_if.ensures.same ∙ i.core;
      further = omega (arith, less, i.further);
      going = loop_turns t.1 t.0 (label_put _ _ c.span.ensures.puts c.jump.ensures.puts) i.going t.2;
    }

pub returns-clause-writes : goal.returns-clause-writes
returns-clause-writes c =
    let i = c.loop-label.invariant in
    let t = rw i.core at c.in_default.ensures.takes in
    let e = c.next_if.ensures.same ∙ i.core in
    let past = rw (e, t.1) at c.read.ensures.moves in
    record {
      core = c.read.ensures.same ∙ e;
      fine = omega (arith, behind_moves c.args.from.now.memory.now c.loop-label.from.at, i.further, past);
      means = λ ls fit most. rw (← (labels-closed ls)) (loop_ends t.0 i.going past (labels-passed ls _ most) COLON 0 0 refl);
    }
