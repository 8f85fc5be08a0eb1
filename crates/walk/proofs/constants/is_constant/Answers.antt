use mathlib.Core.Logic.{⊎_elim}
use Rattle.std.proofs.Common.{sym}
use Rattle.rules.specs.declared.kinds.Kind.TheVariants.{True, False, Plus, Minus}
use Rattle.walk.specs.Constants.{is_constant}
use Rattle.walk.proofs.Refusals.{is_kind, no_kind}
use Rattle.walk.proofs.ConstantValues.{none-starts}
use Rattle.walk.proofs.constants.is_constant.Goals as goal

pub returns-in_default : goal.returns-in_default
returns-in_default c = let d = c.in_default in let t = c.kind_of.ensures in sym (none-starts _ (no_kind t True d.not-True) (no_kind t False d.not-False) (no_kind t Plus d.not-Plus) (no_kind t Minus d.not-Minus))

pub returns-in-True : goal.returns-in-True
unfolding is_constant
returns-in-True c =
    let t = c.kind_of.ensures in
    ⊎_elim (λ e. rw (is_kind t True e (λ z. absurd cc)))
    (⊎_elim (λ e. rw (is_kind t False e (λ z. absurd cc)))
    (⊎_elim (λ e. rw (is_kind t Plus e (λ z. absurd cc)))
    (λ e. rw (is_kind t Minus e (λ z. absurd cc)))))
    c.in-True.is
