-- The functions that read the sizes of statements meet their contracts. They call each other: the measure is the levels that are left, and a rank at the same level.
use mathlib.Core.Path.{◌≡◌}
use Prim.Native.Nat.{◌+◌, ◌*◌, ◌-◌}
use lib.ListN.{length}
use Rattle.emit.specs.Sizes.{sized_at}
use Rattle.emit.proofs.SizeLists.{ListLoop, BranchesLoop, GroupsLoop}
use Rattle.emit.proofs.sizes.+branches_compound_groups_list_statement.Given as goal

abbrev pub decreases-branches : goal.decreases-branches
decreases-branches l = 4 * l.levels + 2

abbrev pub decreases-compound : goal.decreases-compound
decreases-compound l = 4 * l.levels + 3

abbrev pub decreases-groups : goal.decreases-groups
decreases-groups l = 4 * l.levels + 2

abbrev pub decreases-list : goal.decreases-list
decreases-list l = 4 * l.levels + 1

abbrev pub decreases-statement : goal.decreases-statement
decreases-statement l = 4 * l.levels

abbrev pub invariant-branches-loop-from : goal.invariant-branches-loop-from
invariant-branches-loop-from l = record {
  same : l.from.memory.now ≡ l.fn.from.memory.now;
  reads : BranchesLoop l.fn.from.memory.now l.levels l.fn.from.at (sized_at l.from.at l.size.0);
}

abbrev pub decreases-branches-loop-from : goal.decreases-branches-loop-from
decreases-branches-loop-from l = length l.from.memory.now - l.from.at

abbrev pub invariant-groups-loop-from : goal.invariant-groups-loop-from
invariant-groups-loop-from l = record {
  same : l.from.memory.now ≡ l.fn.from.memory.now;
  reads : GroupsLoop l.fn.from.memory.now l.levels l.fn.from.at (sized_at l.from.at l.size.0);
}

abbrev pub decreases-groups-loop-from : goal.decreases-groups-loop-from
decreases-groups-loop-from l = length l.from.memory.now - l.from.at

abbrev pub invariant-list-loop-from : goal.invariant-list-loop-from
invariant-list-loop-from l = record {
  same : l.from.memory.now ≡ l.fn.from.memory.now;
  reads : ListLoop l.fn.from.memory.now l.levels l.fn.from.at (sized_at l.from.at l.size.0);
}

abbrev pub decreases-list-loop-from : goal.decreases-list-loop-from
decreases-list-loop-from l = length l.from.memory.now - l.from.at
