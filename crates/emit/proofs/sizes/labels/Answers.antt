use mathlib.Core.Path.{refl, ◌∙◌}
use native.Mathlib.Omega.{arith}
use Rattle.rules.specs.Kinds.{COMMA}
use Rattle.std.proofs.lemmas.Bool.{eqb-true, eqb-false}
use Rattle.emit.proofs.SizeSums.{past_cell, fewer}
use Rattle.emit.proofs.SizeItems.{labels_start, labels-turn, labels_done}
use Rattle.emit.proofs.sizes.labels.Goals as goal

pub loop-size-init : goal.loop-size-init
loop-size-init c = record { same = refl; reads = labels_start _ _ }

pub loop-size-smaller : goal.loop-size-smaller
loop-size-smaller c =
    let t = c.in-Some.ensures.takes in
    let k = eqb-true _ COMMA t.0 in
    rw c.next_if.ensures.same (fewer _ _ _ refl (λ e. omega arith) (past_cell _ _ t.2))

pub loop-size-preserved : goal.loop-size-preserved
loop-size-preserved c =
    let e = c.loop-size.invariant.same in
    let t = rw e at c.in-Some.ensures.takes in
    record { same = c.next_if.ensures.same ∙ e; reads = labels-turn c.loop-size.invariant.reads refl (eqb-true _ COMMA t.0) t.2 c.add-size.ensures }

pub returns : goal.returns
returns c =
    let e = c.loop-size.invariant.same in
    let t = rw e at c.in_default.ensures.takes in
    let d = labels_done c.loop-size.invariant.reads refl (eqb-false _ COMMA t.0) (rw (c.next_if.ensures.same ∙ e, t.1) at c.read.ensures.moves) in
    record { same = c.read.ensures.same ∙ c.next_if.ensures.same ∙ e; fine = d.fine; means = d.means }
