use Rattle.rules.specs.Tokens.{in_name}
use Rattle.scan.proofs.Shown.{looked_ahead}
use Rattle.scan.proofs.words.name_bytes.Goals as goal

pub returns : goal.returns
returns c = rw (c.run.ensures in_name (λ x b q. q), c.min.ensures) (looked_ahead c.args.text.now)
