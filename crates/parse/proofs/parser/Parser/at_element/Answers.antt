use Rattle.parse.proofs.NextKind.{begins}
use Rattle.parse.proofs.Repeats.{element-starts, no-element}
use Rattle.parse.proofs.parser.Parser.at_element.Goals as goal

pub returns : goal.returns
returns c = begins c.args.self.now _ _ _ element-starts no-element c.kind.ensures c.is_ok_and.ensures
