use Rattle.std.proofs.Common.{true, false}
use Rattle.rules.specs.Cells.{truth_kind}
use Rattle.rules.specs.declared.kinds.Kind.TheVariants.{True, False}
use Rattle.walk.specs.Constants.{NoTruth}
use Rattle.walk.proofs.Refusals.{is_kind, no_kind}
use Rattle.walk.proofs.constants.truth_of.Goals as goal

pub returns-in-True : goal.returns-in-True
unfolding truth_kind
returns-in-True c = is_kind c.kind_of.ensures True c.in-True.is (λ e. absurd cc)

pub returns-in-False : goal.returns-in-False
unfolding truth_kind
returns-in-False c = is_kind c.kind_of.ensures False c.in-False.is (λ e. absurd cc)

pub returns-in_default : goal.returns-in_default
unfolding truth_kind
returns-in_default c = go
  where
    go : NoTruth c.args.tag
    go true = no_kind c.kind_of.ensures True c.in_default.not-True
    go false = no_kind c.kind_of.ensures False c.in_default.not-False
