-- The loop's invariant: what is promised of the labels ahead is what is promised of all of them.
use Rattle.walk.specs.Places.{at}
use Rattle.walk.specs.Moving.{Keeps}
use Rattle.walk.specs.Steps.{left}
use Rattle.walk.proofs.ReadLabels.{LabelTurns}
use Rattle.walk.proofs.steps.Walk.labels.Given as goal

abbrev pub invariant-loop-self : goal.invariant-loop-self
invariant-loop-self l = Keeps l.initial.self l.self × LabelTurns l.initial.self.memory.now (at l.initial.self) l.self.memory.now (at l.self)

abbrev pub decreases-loop-self : goal.decreases-loop-self
decreases-loop-self l = left l.self.memory.now (at l.self)
