use Rattle.std.proofs.Common.{◌∙◌}
use Rattle.std.proofs.lemmas.Int.{to_z-of_z}
use Rattle.ticks.proofs.Counts.{downwards}
use Rattle.ticks.proofs.count.Goals as goal

pub returns-then-step-lt0 : goal.returns-then-step-lt0
returns-then-step-lt0 c =
    let f = c.ranges in
    let d = downwards c.args.first c.args.last c.args.step (rw (to_z-of_z _ _ f.step) at c.if-step-lt0.true) in
    let u = rw (to_z-of_z _ _ f.last, to_z-of_z _ _ f.first, c.unsigned_abs-by.ensures.value, to_z-of_z _ _ f.step) at c.upward.ensures in
    (u.0 ∙ d, u.1)
