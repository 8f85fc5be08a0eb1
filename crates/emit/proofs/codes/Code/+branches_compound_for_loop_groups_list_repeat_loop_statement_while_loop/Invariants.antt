-- The functions that write the code of statements meet their contracts. They call each other: the measure is the levels of nesting that may still come, and a rank at the same levels.
use mathlib.Core.Path.{◌≡◌}
use Prim.Native.Nat.{ℕ, ◌+◌, ◌*◌, ◌-◌}
use lib.ListN.{length}
use Rattle.emit.specs.Places.{place_of, ListCode, BranchesCode, GroupsCode}
use Rattle.emit.specs.declared.statements.Around.{Around}
use Rattle.emit.proofs.CodeTurns.{Turned}
use Rattle.emit.proofs.codes.Code.+branches_compound_for_loop_groups_list_repeat_loop_statement_while_loop.Given as goal

-- list above statement, statement above compound, which is a level deeper, compound above the others, and these above list
abbrev pub rank : ℕ → Around → ℕ
rank k around = 4 * around.levels + k

abbrev pub decreases-branches : goal.decreases-branches
decreases-branches l = rank 4 l.around

abbrev pub decreases-compound : goal.decreases-compound
decreases-compound l = rank 5 l.around

abbrev pub decreases-for_loop : goal.decreases-for_loop
decreases-for_loop l = rank 4 l.around

abbrev pub decreases-groups : goal.decreases-groups
decreases-groups l = rank 4 l.around

abbrev pub decreases-list : goal.decreases-list
decreases-list l = rank 3 l.around

abbrev pub decreases-repeat_loop : goal.decreases-repeat_loop
decreases-repeat_loop l = rank 4 l.around

abbrev pub decreases-statement : goal.decreases-statement
decreases-statement l = rank 2 l.around

abbrev pub decreases-while_loop : goal.decreases-while_loop
decreases-while_loop l = rank 4 l.around

abbrev pub invariant-branches-loop-self : goal.invariant-branches-loop-self
invariant-branches-loop-self l = record {
  same : l.self.bytes.ghost_name ≡ l.fn.self.bytes.ghost_name;
  core : l.from.memory.now ≡ l.fn.from.memory.now;
  turned : Turned (BranchesCode l.end l.around l.fn.from.memory.now) l.fn.from.memory.now l.fn.self.bytes.now l.self.bytes.now (place_of l.fn.from l.fn.self) (place_of l.from l.self);
}

abbrev pub decreases-branches-loop-self : goal.decreases-branches-loop-self
decreases-branches-loop-self l = length l.from.memory.now - l.from.at

abbrev pub invariant-groups-loop-tests : goal.invariant-groups-loop-tests
invariant-groups-loop-tests l = record {
  same : l.self.bytes.ghost_name ≡ l.fn.self.bytes.ghost_name;
  core : l.from.memory.now ≡ l.fn.from.memory.now;
  turned : Turned (GroupsCode l.end l.around l.fn.from.memory.now) l.fn.from.memory.now l.fn.self.bytes.now l.self.bytes.now (place_of l.fn.from l.fn.self) (place_of l.from l.self);
}

abbrev pub decreases-groups-loop-tests : goal.decreases-groups-loop-tests
decreases-groups-loop-tests l = length l.from.memory.now - l.from.at

abbrev pub invariant-list-loop-around : goal.invariant-list-loop-around
invariant-list-loop-around l = record {
  same : l.self.bytes.ghost_name ≡ l.fn.self.bytes.ghost_name;
  core : l.from.memory.now ≡ l.fn.from.memory.now;
  turned : Turned (ListCode l.around l.fn.from.memory.now) l.fn.from.memory.now l.fn.self.bytes.now l.self.bytes.now (place_of l.fn.from l.fn.self) (place_of l.from l.self);
}

abbrev pub decreases-list-loop-around : goal.decreases-list-loop-around
decreases-list-loop-around l = length l.from.memory.now - l.from.at
