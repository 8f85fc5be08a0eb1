use native.Mathlib.Omega.{arith}
use Rattle.walk.proofs.KindTables.{given-number, given_low, given_high}
use Rattle.walk.proofs.expressions.given_kind.Goals as goal

pub returns-in-7 : goal.returns-in-7
returns-in-7 c = given-number _ (omega arith) (omega arith)

pub returns-in_default : goal.returns-in_default
returns-in_default c = given_low _ (omega arith)

pub returns-in_default-2 : goal.returns-in_default-2
returns-in_default-2 c = given_high _ (omega arith)
