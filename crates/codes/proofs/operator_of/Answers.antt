use mathlib.Core.Path.{◌≡◌}
use native.Mathlib.Omega.{arith}
use Rattle.rules.specs.Codes.{readers, decode_op}
use Rattle.codes.proofs.operator_of.Goals as goal

pub returns-in_default : goal.returns-in_default
unfolding decode_op readers
returns-in_default c = let last : c.args.code ≡ 20 = omega arith in λ r. rw last
