-- The functions that walk statements meet their contracts. They call each other: the measure is what is left of the tree, and one more for all but a single statement.
use Rattle.std.proofs.Common.{◌+◌, ◌≤◌}
use Rattle.walk.specs.Places.{at}
use Rattle.walk.specs.Moving.{Keeps}
use Rattle.walk.specs.Steps.{left}
use Rattle.walk.proofs.Rounds.{ListRounds, BranchRounds, GroupRounds}
use Rattle.walk.proofs.steps.Walk.+branches_groups_list_statement.Given as goal

abbrev pub decreases-branches : goal.decreases-branches
decreases-branches l = left l.self.now.memory.now (at l.self.now) + 1

abbrev pub decreases-groups : goal.decreases-groups
decreases-groups l = left l.self.now.memory.now (at l.self.now) + 1

abbrev pub decreases-list : goal.decreases-list
decreases-list l = left l.self.now.memory.now (at l.self.now) + 1

abbrev pub decreases-statement : goal.decreases-statement
decreases-statement l = left l.self.now.memory.now (at l.self.now)

abbrev pub invariant-branches-loop-self : goal.invariant-branches-loop-self
invariant-branches-loop-self l =
    Keeps l.initial.self l.self × (left l.self.memory.now (at l.self) ≤ left l.initial.self.memory.now (at l.initial.self)) × BranchRounds l.scope.text.now l.scope.names l.scope.taken l.scope.inside l.initial.self.memory.now (at l.initial.self) l.self.memory.now (at l.self)

abbrev pub decreases-branches-loop-self : goal.decreases-branches-loop-self
decreases-branches-loop-self l = left l.self.memory.now (at l.self)

abbrev pub invariant-groups-loop-self : goal.invariant-groups-loop-self
invariant-groups-loop-self l =
    Keeps l.initial.self l.self × (left l.self.memory.now (at l.self) ≤ left l.initial.self.memory.now (at l.initial.self)) × GroupRounds l.scope.text.now l.scope.names l.scope.taken l.scope.inside l.initial.self.memory.now (at l.initial.self) l.self.memory.now (at l.self)

abbrev pub decreases-groups-loop-self : goal.decreases-groups-loop-self
decreases-groups-loop-self l = left l.self.memory.now (at l.self)

abbrev pub invariant-list-loop-self : goal.invariant-list-loop-self
invariant-list-loop-self l =
    Keeps l.initial.self l.self × (left l.self.memory.now (at l.self) ≤ left l.initial.self.memory.now (at l.initial.self)) × ListRounds l.scope.text.now l.scope.names l.scope.taken l.scope.inside l.initial.self.memory.now (at l.initial.self) l.self.memory.now (at l.self)

abbrev pub decreases-list-loop-self : goal.decreases-list-loop-self
decreases-list-loop-self l = left l.self.memory.now (at l.self)
