use Rattle.std.proofs.Common.{refl, ap, ◌∙◌}
use Rattle.rules.specs.Cells.{type_kind}
use Rattle.walk.proofs.Refusals.{passed_on, moved, no_check, held, failed, any_answer}
use Rattle.walk.proofs.Slots.{kind_is, not_found, was_found}
use Rattle.walk.proofs.Targets.{assigned-does}
use Rattle.walk.proofs.steps.Walk.assigned.Goals as goal

pub returns-in_err-slot-clause-walks : goal.returns-in_err-slot-clause-walks
returns-in_err-slot-clause-walks c =
    let a = c.args.scope.now in
    let past = c.next-name.ensures.past in
    let none = rw past.numbers at c.in_err-slot.ensures in
    let d = assigned-does a.text.now a.names a.taken _ _ c.next-name.ensures.cell past.step refl (not_found _ _ _ c.next-name.result _ _ none) refl (no_check _ _ _) refl in
    rw (passed_on _ c.from_residual.ensures.1) (moved _ _ _ _ _, λ vs slots tag v. any_answer (d.1 vs slots tag v))

pub returns-in_err-need-clause-walks : goal.returns-in_err-need-clause-walks
returns-in_err-need-clause-walks c =
    let a = c.args.scope.now in
    let past = c.next-name.ensures.past in
    let one = rw past.numbers at c.in_ok-slot.ensures in
    let f = was_found _ _ _ c.next-name.result _ one in
    let d = assigned-does a.text.now a.names a.taken _ _ c.next-name.ensures.cell past.step f.0 f.1 c.is_taken.ensures (failed _ _ _ _ _ c.in_err-need.ensures) refl in
    rw (passed_on _ c.from_residual-in_err-need.ensures.1) (moved _ _ _ _ _, λ vs slots tag v. any_answer (d.1 vs slots tag v))

pub returns-clause-walks : goal.returns-clause-walks
returns-clause-walks c =
    let a = c.args.scope.now in
    let past = c.next-name.ensures.past in
    let one = rw past.numbers at c.in_ok-slot.ensures in
    let f = was_found _ _ _ c.next-name.result _ one in
    let kind = rw past.numbers at (kind_is _ ∙ ap type_kind c.type_of.ensures) in
    assigned-does a.text.now a.names a.taken _ _ c.next-name.ensures.cell past.step f.0 f.1 c.is_taken.ensures (held _ _ _ _ c.in_ok-need.ensures) kind
