use mathlib.Core.Path.{refl, sym, ◌∙◌}
use Prim.Native.Nat.{◌<◌}
use native.Mathlib.Omega.{arith}
use borrow.Author.Rules.{rules}
use Rattle.std.specs.Prelude.{Err}
use Rattle.rules.specs.Machine.{code_in}
use Rattle.machine.specs.Stepping.{move, only}
use Rattle.run.proofs.Progress.{seen, going_on, ending, goes, begins, reports, few, at_most_one}
use Rattle.run.proofs.carry_out.Goals as goal

pub loop-next-init : goal.loop-next-init
loop-next-init c = (rw c.new-m.ensures.0 (begins (seen c.args.vars.now c.args.code.now) c.args.budget c.args.table.now), refl)

pub overflow_add-count : goal.overflow_add-count
unfolding code_in
overflow_add-count c =
    let counted : c.loop-next.count < 9223372036854775808 = few c.args.budget _ _ _ (omega (arith, c.ranges.budget)) c.requires c.loop-next.invariant.0.count in
    omega (arith, counted)

pub loop-next-smaller : goal.loop-next-smaller
loop-next-smaller c = (going_on c.args.vars.now c.args.code.now c.args.budget c.loop-next.m _ c.loop-next.invariant.0 c.step.ensures c.in-Ok.is).less

pub loop-next-preserved : goal.loop-next-preserved
loop-next-preserved c =
    let i = c.loop-next.invariant.0 in
    let nearer = going_on c.args.vars.now c.args.code.now c.args.budget c.loop-next.m _ i c.step.ensures c.in-Ok.is in
    (goes (seen c.args.vars.now c.args.code.now) c.args.budget _ _ _ _ i nearer, search rules)

pub overflow_add-result : goal.overflow_add-result
unfolding code_in
overflow_add-result c =
    let counted : c.loop-next.count < 9223372036854775808 = few c.args.budget _ _ _ (omega (arith, c.ranges.budget)) c.requires c.loop-next.invariant.0.count in
    omega (arith, counted, at_most_one c.in-Err.stop, c.last_counts.ensures)

pub returns-in-Err : goal.returns-in-Err
returns-in-Err c =
    let i = c.loop-next.invariant.0 in
    let o = ending c.args.vars.now c.args.code.now c.args.budget c.loop-next.m _ i c.step.ensures c.in-Err.is in
    reports (seen c.args.vars.now c.args.code.now) c.args.budget c.args.table.now c.loop-next.count c.in-Err.stop (only c.step.new.table (move c.loop-next.m (Err c.in-Err.stop)))
    o.ticks (sym (o.same _) ∙ i.same) (rw (c.outcome_of.ensures, c.last_counts.ensures) refl)
