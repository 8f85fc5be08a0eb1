use mathlib.Core.Path.{ap}
use native.Mathlib.Omega.{arith}
use Rattle.parse.specs.Steps.{kind_at}
use Rattle.parse.proofs.NextKind.{meets}
use Rattle.parse.proofs.parser.Parser.kind.Goals as goal

pub returns-in_default : goal.returns-in_default
unfolding kind_at
returns-in_default c = (omega (arith, c.in_default.ensures.1, ap (λ t. t.tag) c.token.ensures), c.refusal.ensures)

pub returns : goal.returns
returns c = meets c.args.self.now _ c.token.ensures c.in-Ok.ensures
