-- The loop's invariant: what is read so far behind the first label is what the rules read.
use Prim.Native.Nat.{◌-◌}
use Rattle.parse.specs.Steps.{at, Goes}
use Rattle.parse.proofs.Labels.{Comes}
use Rattle.parse.proofs.parser.Parser.labels.Given as goal

abbrev pub invariant-loop-self : goal.invariant-loop-self
invariant-loop-self l = Goes l.initial.self l.self × Comes l.initial.self.memory.now (at l.initial.self) l.self.memory.now (at l.self)

abbrev pub decreases-loop-self : goal.decreases-loop-self
decreases-loop-self l = l.self.count - l.self.next
