use Rattle.std.specs.Prelude.{None}
use mathlib.Core.Path.{◌≡◌}
use native.Mathlib.Omega.{arith}
use Rattle.parse.proofs.NextKind.{met, unmet}
use Rattle.parse.proofs.Operators.{no-sign, signed}
use Rattle.parse.proofs.parser.Parser.sign.Goals as goal

pub returns-in_err-ok : goal.returns-in_err-ok
returns-in_err-ok c =
    let gone : c.from_residual.result ≡ None = grind arith in
    rw gone (no-sign _ (unmet c.args.self.now _ c.kind.ensures c.in_err-ok.ensures.value))

pub returns : goal.returns
returns c = signed c.args.self.now _ _ (met c.args.self.now _ _ c.kind.ensures c.in_ok-ok.ensures.value) c.sign_of.ensures
