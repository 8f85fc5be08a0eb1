use Rattle.std.proofs.Common.{ap, sym, ◌∙◌}
use Rattle.std.specs.Prelude as Std
use Rattle.walk.proofs.Slots.{none_told}
use Rattle.walk.proofs.steps.Walk.is_new.Goals as goal

pub returns : goal.returns
returns c = none_told _ _ (ap Std.is_some (sym c.find.ensures) ∙ c.is_none.ensures)
