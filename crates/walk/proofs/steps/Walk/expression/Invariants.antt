-- The loop's invariant: whatever ends what is ahead ends the whole expression.
use Rattle.std.proofs.Common.{◌≤◌}
use Rattle.walk.specs.Places.{at}
use Rattle.walk.specs.Moving.{Keeps}
use Rattle.walk.specs.Steps.{left}
use Rattle.walk.proofs.ExpressionLoop.{Turns}
use Rattle.walk.proofs.steps.Walk.expression.Given as goal

abbrev pub invariant-loop-self : goal.invariant-loop-self
invariant-loop-self l =
    Keeps l.fn.self l.self × (left l.self.memory.now (at l.self) ≤ left l.fn.self.memory.now (at l.fn.self)) × Turns l.scope.text.now l.scope.names l.fn.self.memory.now (at l.fn.self) l.self.memory.now (at l.self) l.self.top

abbrev pub decreases-loop-self : goal.decreases-loop-self
decreases-loop-self l = left l.self.memory.now (at l.self)
