use native.Mathlib.Omega.{arith}
use Rattle.parse.proofs.Follow.{refused, stay-written}
use Rattle.parse.proofs.Productions.{named-means}
use Rattle.parse.proofs.parser.Parser.named.Goals as goal

pub returns-in_err-take-clause-means : goal.returns-in_err-take-clause-means
returns-in_err-take-clause-means c =
    refused _ _ _ c.from_residual.ensures.1 (named-means _ (omega arith) c.token-token.ensures c.in_err-take.ensures.means (stay-written _))

pub returns-clause-means : goal.returns-clause-means
returns-clause-means c = named-means _ (omega arith) c.token-token.ensures c.in_ok-take.ensures.means c.write.ensures.means
