use mathlib.Core.Path.{ap}
use Rattle.parse.proofs.FirstByte.{expr-starts, closed}
use Rattle.parse.proofs.Follow.{refused, stay-written}
use Rattle.parse.proofs.parser.Parser.whole.Goals as goal

pub returns-in_err-expression-clause-means : goal.returns-in_err-expression-clause-means
returns-in_err-expression-clause-means c = λ f h.
    refused _ _ _ c.from_residual.ensures.1
    (closed _ (ap (λ t. t.place) c.token-place.ensures) (expr-starts f 0 1) (c.in_err-expression.ensures.means f h) (stay-written _))

pub returns-clause-means : goal.returns-clause-means
returns-clause-means c = λ f h.
    closed _ (ap (λ t. t.place) c.token-place.ensures) (expr-starts f 0 1) (c.in_ok-expression.ensures.means f h) c.write.ensures.means
