-- The loop keeps that it stands in the midst of what was ahead where it began. The measure is the numbers of the tree that are left.
use Rattle.std.proofs.Common.{List, ℕ}
use Rattle.rules.specs.Base.{Res}
use Rattle.rules.specs.Walk.{Var}
use Rattle.walk.specs.Places.{at}
use Rattle.walk.specs.Moving.{Keeps}
use Rattle.walk.specs.Steps.{left}
use Rattle.walk.specs.Declaring.{Amid}
use Rattle.walk.proofs.steps.Walk.declarations.Given as goal

abbrev pub invariant-loop-self : goal.invariant-loop-self
invariant-loop-self l =
    Keeps l.initial.self l.self × ((tail : List ℕ) (R : Res (List Var)) → Amid l.text tail R l.initial.self.memory.now 0 (at l.initial.self) → Amid l.text tail R l.self.memory.now l.count (at l.self))

abbrev pub decreases-loop-self : goal.decreases-loop-self
decreases-loop-self l = left l.self.memory.now (at l.self)
