use mathlib.Core.Path.{ap}
use Rattle.std.specs.Prelude.{Some}
use Rattle.figures.proofs.Integers.{converted, kept, turned}
use Rattle.figures.proofs.expressions.signed.Goals as goal

pub returns-then-minus : goal.returns-then-minus
returns-then-minus c = λ h. rw c.if-minus.true (ap Some (turned _ h (converted _ _ c.try_from.ensures c.in_ok-value.ensures.value)))

pub returns-else-minus : goal.returns-else-minus
returns-else-minus c = λ h. rw c.if-minus.false (ap Some (kept _ h (converted _ _ c.try_from.ensures c.in_ok-value.ensures.value)))
