-- The loop keeps that the entries below k are the initial values.
use mathlib.Core.Path.{◌≡◌}
use Prim.Native.Nat.{ℕ, ◌<◌}
use lib.ListN.{length, get_or}
use lib.IntN.{pos}
use Rattle.variables.specs.Slots.{values_in}
use Rattle.run.proofs.put_initials.Given as goal

abbrev pub invariant-loop-k : goal.invariant-loop-k
invariant-loop-k l = (length l.table ≡ length l.initial.table) × ((j : ℕ) → j < l.k → get_or l.table j (pos 0) ≡ get_or (values_in l.vars) j (pos 0))
