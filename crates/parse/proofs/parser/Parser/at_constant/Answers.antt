use Rattle.parse.proofs.NextKind.{begins}
use Rattle.parse.proofs.OneConstant.{constant-starts, no-constant}
use Rattle.parse.proofs.parser.Parser.at_constant.Goals as goal

pub returns : goal.returns
returns c = begins c.args.self.now _ _ _ constant-starts no-constant c.kind.ensures c.is_ok_and.ensures
