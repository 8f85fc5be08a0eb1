-- The measure is four for each token that is left, and a function's rank. The loop of `expression` reads a chain of operators.
use Prim.Native.Nat.{ℕ, ◌+◌, ◌*◌, ◌-◌}
use Rattle.parse.specs.Steps.{at, Goes}
use Rattle.parse.specs.declared.parser.Parser.{Parser}
use Rattle.parse.proofs.Chain.{Chains}
use Rattle.parse.proofs.parser.Parser.+expressions.Given as goal

abbrev pub left : Parser → ℕ
left p = 4 * (p.count - p.next)

abbrev pub decreases-expression : goal.decreases-expression
decreases-expression l = left l.self.now + 3

abbrev pub decreases-operand : goal.decreases-operand
decreases-operand l = left l.self.now + 1

abbrev pub decreases-operation : goal.decreases-operation
decreases-operation l = left l.self.now

abbrev pub decreases-parentheses : goal.decreases-parentheses
decreases-parentheses l = left l.self.now

abbrev pub decreases-signed_operand : goal.decreases-signed_operand
decreases-signed_operand l = left l.self.now + 2

abbrev pub invariant-expression-loop-operator : goal.invariant-expression-loop-operator
invariant-expression-loop-operator l = Goes l.initial.self l.self × Chains l.nesting l.least l.initial.self.memory.now (at l.initial.self) l.self.memory.now (at l.self)

abbrev pub decreases-expression-loop-operator : goal.decreases-expression-loop-operator
decreases-expression-loop-operator l = l.self.count - l.self.next
