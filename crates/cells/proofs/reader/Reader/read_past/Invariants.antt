use Rattle.std.proofs.Common.{◌≡◌, ℕ, ◌-◌, length}
use Rattle.rules.specs.KindNumbers.{kind_number}
use Rattle.cells.specs.Runs.{Reads}
use Rattle.cells.specs.declared.cell.Cell.{Cell}
use Rattle.cells.proofs.reader.Reader.read_past.Given as goal

-- what is read from here on is read from the start on
abbrev pub invariant-loop-cell : goal.invariant-loop-cell
invariant-loop-cell l = record {
  same : l.self.memory.now ≡ l.initial.self.memory.now;
  reads : (c : Cell) (j : ℕ) → Reads l.initial.self.memory.now (kind_number l.kind) l.self.at c j → Reads l.initial.self.memory.now (kind_number l.kind) l.initial.self.at c j;
}

abbrev pub decreases-loop-cell : goal.decreases-loop-cell
decreases-loop-cell l = length l.self.memory.now - l.self.at
