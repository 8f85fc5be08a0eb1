use Rattle.std.proofs.lemmas.Bool.{eqb-false}
use Rattle.rules.proofs.KindLaws.{other_number}
use Rattle.walk.specs.Moving.{known, unknown}
use Rattle.walk.proofs.steps.kind_of.Goals as goal

pub returns-in-Ok : goal.returns-in-Ok
returns-in-Ok c = known c.in-Ok.ensures

pub returns-in-Err : goal.returns-in-Err
returns-in-Err c = let was = c.in-Err.is in unknown (λ kind. eqb-false _ _ (other_number _ _ kind c.try_from.ensures (λ e. absurd cc)))
