use Rattle.std.proofs.Common.{refl, ap, ◌∙◌}
use Rattle.rules.specs.Cells.{type_kind}
use Rattle.walk.proofs.Refusals.{passed_on, ended, any_answer}
use Rattle.walk.proofs.OperandStack.{stacks_none, moved-stacks}
use Rattle.walk.proofs.Slots.{kind_is, not_found, was_found}
use Rattle.walk.proofs.ItemPromises.{variable_done}
use Rattle.walk.proofs.steps.Walk.variable.Goals as goal

pub returns-in_err-slot-clause-walks : goal.returns-in_err-slot-clause-walks
returns-in_err-slot-clause-walks c =
    rw (passed_on _ c.from_residual.ensures.1)
    (ended _ _ _ _ _, λ vs v os s y. any_answer (variable_done refl (not_found _ _ _ c.args.name _ _ c.in_err-slot.ensures) refl (stacks_none _ _ _ _) vs v os s y))

pub returns-clause-walks : goal.returns-clause-walks
returns-clause-walks c =
    let f = was_found _ _ _ c.args.name _ c.in_ok-slot.ensures in
    (moved-stacks c.operand.ensures.stacks, variable_done f.0 f.1 (kind_is _ ∙ ap type_kind c.type_of.ensures) c.operand.ensures.stacks)
