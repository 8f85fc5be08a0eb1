use mathlib.Core.Path.{◌∙◌, refl}
use native.Mathlib.Omega.{arith}
use Rattle.emit.proofs.SizeSums.{past_cell, fewer}
use Rattle.emit.proofs.VariableCells.{goes_on, at_end, count-starts, counts_one, counts_all}
use Rattle.emit.proofs.records.count_variables.Goals as goal

pub loop-count-init : goal.loop-count-init
loop-count-init c = record { core = c.new-from.ensures.memory; few = omega arith; counted = λ vs few l. rw c.new-from.ensures.at (count-starts l) }

pub loop-count-smaller : goal.loop-count-smaller
loop-count-smaller c =
    let t = c.in-Some.ensures.takes in
    rw c.next_unless.ensures.same (fewer _ _ _ refl (goes_on _ t.0) (past_cell _ _ t.2))

pub loop-count-preserved : goal.loop-count-preserved
loop-count-preserved c =
    let i = c.loop-count.invariant in
    let t = rw i.core at c.in-Some.ensures.takes in
    record {
      core = c.next_unless.ensures.same ∙ i.core;
      few = omega arith;
      counted = λ vs few l. counts_one refl (goes_on _ t.0) t.2 c.min-count.ensures few (i.counted vs few l);
    }

pub returns : goal.returns
returns c =
    let i = c.loop-count.invariant in
    let t = rw i.core at c.in_default.ensures.takes in
    let e = c.next_unless.ensures.same ∙ i.core in
    record {
      core = c.read.ensures.same ∙ e;
      few = i.few;
      means = λ vs few l. counts_all refl (at_end _ t.0) (rw (e, t.1) at c.read.ensures.moves) (i.counted vs few l);
    }
