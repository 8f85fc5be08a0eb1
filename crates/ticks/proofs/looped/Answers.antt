use Rattle.std.proofs.lemmas.Int.{to_z-of_z}
use Rattle.rules.specs.Worst.{for_w}
use Rattle.ticks.specs.Laws.{number_is}
use Rattle.ticks.proofs.looped.Goals as goal

pub returns : goal.returns
unfolding for_w
returns c =
    let f = c.ranges in
    let n = rw (to_z-of_z _ _ f.first, to_z-of_z _ _ f.last, to_z-of_z _ _ f.step) at c.count.ensures in
    rw (number_is _ c.if-body-eq-UNBOUNDED.false, ← n.0, ← c.from.ensures) c.exact.ensures
