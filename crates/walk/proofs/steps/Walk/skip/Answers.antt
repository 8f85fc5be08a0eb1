use Rattle.std.proofs.Common.{refl, sym, ◌∙◌}
use Rattle.walk.specs.Steps.{skipped}
use Rattle.walk.proofs.steps.Walk.skip.Goals as goal
use Rattle.walk.proofs.steps.Walk.skip.Goals.{then-has_cell, else-has_cell}

pub returns : goal.returns
unfolding skipped
returns c = record {
  lent = refl;
  numbers = refl;
  step = elim c.if-has_cell.branch [ then-has_cell w ↦ rw (sym c.has_cell.ensures.fits ∙ w.if-has_cell.true, w.self-is) | else-has_cell w ↦ rw (sym c.has_cell.ensures.fits ∙ w.if-has_cell.false, w.self-is) ];
  top = refl;
}
