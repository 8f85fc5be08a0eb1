use native.Mathlib.Omega.{arith}
use Rattle.parse.proofs.Follow.{refused, stay-written}
use Rattle.parse.proofs.Programs.{type-bool, type-dint}
use Rattle.parse.proofs.parser.Parser.declared_type.Goals as goal

pub returns-then-is_at-clause-means : goal.returns-then-is_at-clause-means
returns-then-is_at-clause-means c = type-bool (omega arith) _ _ c.if-is_at.ensures.0 c.skip.ensures.means c.write.ensures.means

pub returns-in_err-take-clause-means : goal.returns-in_err-take-clause-means
returns-in_err-take-clause-means c =
    refused _ _ _ c.from_residual.ensures.1 (type-dint (omega arith) _ _ c.if-is_at.ensures c.in_err-take.ensures.means (stay-written _))

pub returns-clause-means : goal.returns-clause-means
returns-clause-means c = type-dint (omega arith) _ _ c.if-is_at.ensures c.in_ok-take.ensures.means c.write-2.ensures.means
