use native.Mathlib.Omega.{arith}
use Rattle.parse.proofs.Follow.{refused, stay}
use Rattle.parse.proofs.Programs.{variables-some, variables-none}
use Rattle.parse.proofs.parser.Parser.variables.Goals as goal

pub returns-in_err-declarations-clause-means : goal.returns-in_err-declarations-clause-means
returns-in_err-declarations-clause-means c = λ f h.
    refused _ _ _ c.from_residual.ensures.1
    (variables-some (omega arith) f c.if-is_at.ensures.0 c.skip.ensures.means (c.in_err-declarations.ensures.means f (omega arith)) stay)

pub returns-then-is_at-clause-means : goal.returns-then-is_at-clause-means
returns-then-is_at-clause-means c = λ f h.
    variables-some (omega arith) f c.if-is_at.ensures.0 c.skip.ensures.means (c.in_ok-declarations.ensures.means f (omega arith)) c.take.ensures.means

pub returns-clause-means : goal.returns-clause-means
returns-clause-means c = λ f h. variables-none (omega arith) f c.if-is_at.ensures c.write.ensures.means
