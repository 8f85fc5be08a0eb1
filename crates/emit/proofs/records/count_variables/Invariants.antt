-- `emit::records::count_variables` meets its contract: each turn passes a variable and counts it. The measure is the numbers that are left.
use mathlib.Core.Path.{◌≡◌}
use mathlib.Core.List.{List}
use Prim.Native.Nat.{◌-◌, ◌≤◌}
use lib.ListN.{length}
use Rattle.rules.specs.Limits.{token_numbers}
use Rattle.rules.specs.Core.{Variable}
use Rattle.rules.specs.CoreCells.{variable_cells}
use Rattle.cells.specs.Reading.{Lies}
use Rattle.emit.proofs.VariableCells.{Counted}
use Rattle.emit.proofs.records.count_variables.Given as goal

abbrev pub invariant-loop-count : goal.invariant-loop-count
invariant-loop-count l = record {
  core : l.from.memory.now ≡ l.memory;
  few : l.count ≤ 64;
  counted : (vs : List Variable) → length vs ≤ 64 → Lies l.memory token_numbers (variable_cells vs) → Counted l.memory vs l.from.at l.count;
}

abbrev pub decreases-loop-count : goal.decreases-loop-count
decreases-loop-count l = length l.from.memory.now - l.from.at
