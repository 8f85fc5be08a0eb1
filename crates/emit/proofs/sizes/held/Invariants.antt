-- `emit::sizes::held` meets its contract: each turn reads a cell of the expression. The measure is the numbers that are left.
use mathlib.Core.Path.{◌≡◌}
use Prim.Native.Nat.{◌-◌}
use lib.ListN.{length}
use Rattle.emit.specs.Sizes.{sized_at}
use Rattle.emit.proofs.SizeItems.{HeldLoop}
use Rattle.emit.proofs.sizes.held.Given as goal

abbrev pub invariant-loop-cell : goal.invariant-loop-cell
invariant-loop-cell l = record {
  same : l.from.memory.now ≡ l.fn.from.memory.now;
  reads : HeldLoop l.fn.from.memory.now l.fn.from.at (sized_at l.from.at l.size.0);
}

abbrev pub decreases-loop-cell : goal.decreases-loop-cell
decreases-loop-cell l = length l.from.memory.now - l.from.at
