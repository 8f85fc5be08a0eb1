use Rattle.std.proofs.Common.{refl}
use Rattle.rules.specs.Base.{bytes, same}
use Rattle.rules.specs.Tokens.{is_small, within, upper, fold, entry, reserved}
use Rattle.scan.proofs.Reserved.{found}
use Rattle.scan.proofs.words.reserved.Goals as goal

pub returns : goal.returns
unfolding reserved entry bytes same fold upper is_small within
returns c = rw c.lookup.ensures (found c.args.word.now _ reserved refl)
