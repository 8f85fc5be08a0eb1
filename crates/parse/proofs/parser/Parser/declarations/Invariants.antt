-- The loop keeps that what was read so far, with what is still to be read, is what is to be read from its beginning on. The measure is the tokens that are left.
use Prim.Native.Nat.{◌-◌}
use Rattle.parse.specs.Steps.{at, Goes}
use Rattle.parse.proofs.Programs.{Declares}
use Rattle.parse.proofs.parser.Parser.declarations.Given as goal

abbrev pub invariant-loop-self : goal.invariant-loop-self
invariant-loop-self l = Goes l.initial.self l.self × Declares l.initial.self.memory.now (at l.initial.self) l.self.memory.now (at l.self)

abbrev pub decreases-loop-self : goal.decreases-loop-self
decreases-loop-self l = l.self.count - l.self.next
