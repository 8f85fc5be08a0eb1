-- The functions that read statements call each other: the measure is the tokens left, and a rank at the same token.
use Prim.Native.Nat.{ℕ, ◌+◌, ◌*◌, ◌-◌}
use Rattle.parse.specs.Steps.{at, Goes}
use Rattle.parse.specs.declared.parser.Parser.{Parser}
use Rattle.parse.proofs.Repeats.{ListLoop, BranchLoop, GroupLoop}
use Rattle.parse.proofs.parser.Parser.+statements.Given as goal

abbrev pub left : Parser → ℕ
left p = 8 * (p.count - p.next)

abbrev pub decreases-branch : goal.decreases-branch
decreases-branch l = left l.self.now + 5

abbrev pub decreases-branches : goal.decreases-branches
decreases-branches l = left l.self.now + 6

abbrev pub decreases-case_of : goal.decreases-case_of
decreases-case_of l = left l.self.now

abbrev pub decreases-compound : goal.decreases-compound
decreases-compound l = left l.self.now + 1

abbrev pub decreases-element : goal.decreases-element
decreases-element l = left l.self.now + 3

abbrev pub decreases-for_do : goal.decreases-for_do
decreases-for_do l = left l.self.now

abbrev pub decreases-group : goal.decreases-group
decreases-group l = left l.self.now + 5

abbrev pub decreases-groups : goal.decreases-groups
decreases-groups l = left l.self.now + 6

abbrev pub decreases-if_then : goal.decreases-if_then
decreases-if_then l = left l.self.now

abbrev pub decreases-list : goal.decreases-list
decreases-list l = left l.self.now + 4

abbrev pub decreases-otherwise : goal.decreases-otherwise
decreases-otherwise l = left l.self.now + 5

abbrev pub decreases-repeat_until : goal.decreases-repeat_until
decreases-repeat_until l = left l.self.now

abbrev pub decreases-statement : goal.decreases-statement
decreases-statement l = left l.self.now + 2

abbrev pub decreases-while_do : goal.decreases-while_do
decreases-while_do l = left l.self.now

abbrev pub invariant-branches-loop-self : goal.invariant-branches-loop-self
invariant-branches-loop-self l = Goes l.initial.self l.self × BranchLoop l.nesting.statements l.nesting.fors l.initial.self.memory.now (at l.initial.self) l.self.memory.now (at l.self)

abbrev pub decreases-branches-loop-self : goal.decreases-branches-loop-self
decreases-branches-loop-self l = l.self.count - l.self.next

abbrev pub invariant-groups-loop-self : goal.invariant-groups-loop-self
invariant-groups-loop-self l = Goes l.initial.self l.self × GroupLoop l.nesting.statements l.nesting.fors l.initial.self.memory.now (at l.initial.self) l.self.memory.now (at l.self)

abbrev pub decreases-groups-loop-self : goal.decreases-groups-loop-self
decreases-groups-loop-self l = l.self.count - l.self.next

abbrev pub invariant-list-loop-nesting : goal.invariant-list-loop-nesting
invariant-list-loop-nesting l = Goes l.initial.self l.self × ListLoop l.nesting.statements l.nesting.fors l.initial.self.memory.now (at l.initial.self) l.self.memory.now (at l.self)

abbrev pub decreases-list-loop-nesting : goal.decreases-list-loop-nesting
decreases-list-loop-nesting l = l.self.count - l.self.next
