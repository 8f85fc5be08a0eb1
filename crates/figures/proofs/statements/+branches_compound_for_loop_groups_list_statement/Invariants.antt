-- The functions that read statements meet their contracts. They call each other: the measure is the levels of nesting that are left, and a rank at the same level.
use Rattle.std.proofs.Common.{◌≡◌, ◌+◌, ◌-◌, ◌*◌, ◌≤◌, length}
use Rattle.figures.specs.Parts.{part}
use Rattle.figures.proofs.Loops.{ListLoop, BranchesLoop, GroupsLoop}
use Rattle.figures.proofs.statements.+branches_compound_for_loop_groups_list_statement.Given as goal

abbrev pub decreases-branches : goal.decreases-branches
decreases-branches l = 4 * l.levels + 4

abbrev pub decreases-compound : goal.decreases-compound
decreases-compound l = 4 * l.levels + 5

abbrev pub decreases-for_loop : goal.decreases-for_loop
decreases-for_loop l = 4 * l.levels + 4

abbrev pub decreases-groups : goal.decreases-groups
decreases-groups l = 4 * l.levels + 4

abbrev pub decreases-list : goal.decreases-list
decreases-list l = 4 * l.levels + 3

abbrev pub decreases-statement : goal.decreases-statement
decreases-statement l = 4 * l.levels + 2

abbrev pub invariant-branches-loop-reader : goal.invariant-branches-loop-reader
invariant-branches-loop-reader l = record {
  same : l.reader.memory.now ≡ l.initial.reader.memory.now;
  goes_on : length l.initial.reader.memory.now - l.reader.at ≤ length l.initial.reader.memory.now - l.initial.reader.at;
  means : BranchesLoop l.initial.reader.memory.now l.initial.reader.at l.levels (part l.reader.at l.all);
}

abbrev pub decreases-branches-loop-reader : goal.decreases-branches-loop-reader
decreases-branches-loop-reader l = length l.initial.reader.memory.now - l.reader.at

abbrev pub invariant-groups-loop-reader : goal.invariant-groups-loop-reader
invariant-groups-loop-reader l = record {
  same : l.reader.memory.now ≡ l.initial.reader.memory.now;
  goes_on : length l.initial.reader.memory.now - l.reader.at ≤ length l.initial.reader.memory.now - l.initial.reader.at;
  means : GroupsLoop l.initial.reader.memory.now l.initial.reader.at l.levels (part l.reader.at l.all);
}

abbrev pub decreases-groups-loop-reader : goal.decreases-groups-loop-reader
decreases-groups-loop-reader l = length l.initial.reader.memory.now - l.reader.at

abbrev pub invariant-list-loop-reader : goal.invariant-list-loop-reader
invariant-list-loop-reader l = record {
  same : l.reader.memory.now ≡ l.initial.reader.memory.now;
  goes_on : length l.initial.reader.memory.now - l.reader.at ≤ length l.initial.reader.memory.now - l.initial.reader.at;
  means : ListLoop l.initial.reader.memory.now l.initial.reader.at l.levels (part l.reader.at l.all);
}

abbrev pub decreases-list-loop-reader : goal.decreases-list-loop-reader
decreases-list-loop-reader l = length l.initial.reader.memory.now - l.reader.at
