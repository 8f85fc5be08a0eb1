use Rattle.parse.proofs.NextKind.{sees}
use Rattle.parse.proofs.parser.Parser.is_at.Goals as goal

pub returns : goal.returns
returns c = sees c.args.self.now _ c.token.ensures c.is.ensures
