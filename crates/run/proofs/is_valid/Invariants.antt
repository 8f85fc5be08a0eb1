-- The loop keeps that all entries hold exactly if those from k on do.
use mathlib.Core.Path.{◌≡◌}
use lib.ListN.{length, drop}
use Rattle.rules.specs.Run.{all_hold}
use Rattle.variables.specs.Slots.{types_in}
use Rattle.run.proofs.is_valid.Given as goal

abbrev pub invariant-loop-k : goal.invariant-loop-k
invariant-loop-k l = (length l.table ≡ length (types_in l.vars)) × (all_hold (types_in l.vars) l.table ≡ all_hold (drop l.k (types_in l.vars)) (drop l.k l.table))
