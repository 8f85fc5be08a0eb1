-- The loop keeps that the rest of the run, with the instructions counted so far, is the whole run (`Sound`). The measure is how many instructions may be left.
use mathlib.Core.Path.{◌≡◌}
use Prim.Native.Nat.{◌-◌}
use lib.ListN.{length}
use Rattle.rules.specs.Machine.{run, start}
use Rattle.theorems.specs.StackLimit.{left_over}
use Rattle.machine.specs.Stepping.{view}
use Rattle.run.proofs.Progress.{seen, at, Sound}
use Rattle.run.proofs.carry_out.Given as goal

abbrev pub invariant-loop-next : goal.invariant-loop-next
invariant-loop-next l = Sound (seen l.vars l.code) l.budget (run (seen l.vars l.code) l.budget (start l.initial.table)) l.count (view l.m) l.table × (length l.table ≡ length l.initial.table)

abbrev pub decreases-loop-next : goal.decreases-loop-next
decreases-loop-next l = left_over (seen l.vars l.code) (l.budget - l.m.ticks) (at (view l.m) l.table)
