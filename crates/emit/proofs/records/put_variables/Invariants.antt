-- `emit::records::put_variables` meets its contract: each turn passes a variable and puts it.
use mathlib.Core.Path.{◌≡◌}
use mathlib.Core.List.{List}
use Prim.Native.Nat.{◌+◌, ◌*◌, ◌≤◌}
use lib.ListN.{length}
use Rattle.rules.specs.Limits.{token_numbers}
use Rattle.rules.specs.Core.{Variable}
use Rattle.rules.specs.CoreCells.{variable_cells}
use Rattle.theorems.specs.Declarations.{Declared}
use Rattle.cells.specs.Reading.{Lies}
use Rattle.emit.proofs.VariableCells.{Written}
use Rattle.emit.proofs.records.put_variables.Given as goal

abbrev pub invariant-loop-k : goal.invariant-loop-k
invariant-loop-k l = record {
  core : l.from.memory.now ≡ l.memory;
  same : length l.image ≡ length l.initial.image;
  written : (vs : List Variable) → Declared vs → Lies l.memory token_numbers (variable_cells vs) → 4 + 5 * length vs ≤ length l.initial.image → l.count ≡ length vs → Written l.memory l.initial.image l.image vs l.from.at (4 + 5 * l.k);
}
