-- `emit::sizes::labels` meets its contract: each turn reads a label. The measure is the numbers that are left.
use mathlib.Core.Path.{◌≡◌}
use Prim.Native.Nat.{◌-◌}
use lib.ListN.{length}
use Rattle.emit.specs.Sizes.{sized_at}
use Rattle.emit.proofs.SizeItems.{LabelsLoop}
use Rattle.emit.proofs.sizes.labels.Given as goal

abbrev pub invariant-loop-size : goal.invariant-loop-size
invariant-loop-size l = record {
  same : l.from.memory.now ≡ l.fn.from.memory.now;
  reads : LabelsLoop l.fn.from.memory.now l.fn.from.at (sized_at l.from.at l.size.0);
}

abbrev pub decreases-loop-size : goal.decreases-loop-size
decreases-loop-size l = length l.from.memory.now - l.from.at
