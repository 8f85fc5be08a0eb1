-- The loop's invariant: of whatever lies at the start and has room, the labels that are passed have their tests put. The measure is what is left of the numbers.
use mathlib.Core.Path.{◌≡◌}
use Prim.Native.Nat.{◌-◌, ◌≤◌}
use lib.ListN.{length}
use Rattle.emit.specs.Places.{place_of}
use Rattle.emit.proofs.CellLoops.{Going}
use Rattle.emit.proofs.ItemCells.{is_comma, label_bytes}
use Rattle.emit.proofs.codes.Code.labels.Given as goal

abbrev pub invariant-loop-label : goal.invariant-loop-label
invariant-loop-label l = record {
  same : l.self.bytes.ghost_name ≡ l.fn.self.bytes.ghost_name;
  core : l.from.memory.now ≡ l.fn.from.memory.now;
  further : length l.fn.from.memory.now - l.from.at ≤ length l.fn.from.memory.now - l.fn.from.at;
  going : Going is_comma (label_bytes l.body) l.fn.from.memory.now l.fn.self.bytes.now l.self.bytes.now (place_of l.fn.from l.fn.self) (place_of l.from l.self);
}

abbrev pub decreases-loop-label : goal.decreases-loop-label
decreases-loop-label l = length l.from.memory.now - l.from.at
