-- The loop's invariant: of whatever lies at the start and has room, the cells that are passed have their bytes put. The measure is what is left of the numbers.
use mathlib.Core.Path.{◌≡◌}
use Prim.Native.Nat.{◌-◌, ◌≤◌}
use lib.ListN.{length}
use Rattle.cells.specs.Reading.{is_item}
use Rattle.emit.specs.Places.{place_of}
use Rattle.emit.proofs.CellLoops.{Going}
use Rattle.emit.proofs.ItemCells.{cell_bytes}
use Rattle.emit.proofs.codes.Code.held.Given as goal

abbrev pub invariant-loop-cell : goal.invariant-loop-cell
invariant-loop-cell l = record {
  same : l.self.bytes.ghost_name ≡ l.fn.self.bytes.ghost_name;
  core : l.from.memory.now ≡ l.fn.from.memory.now;
  further : length l.fn.from.memory.now - l.from.at ≤ length l.fn.from.memory.now - l.fn.from.at;
  going : Going is_item cell_bytes l.fn.from.memory.now l.fn.self.bytes.now l.self.bytes.now (place_of l.fn.from l.fn.self) (place_of l.from l.self);
}

abbrev pub decreases-loop-cell : goal.decreases-loop-cell
decreases-loop-cell l = length l.from.memory.now - l.from.at
