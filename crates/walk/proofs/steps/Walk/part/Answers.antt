-- `Walk::part` meets its contract: by the kind of the cell that was read.
use Rattle.std.proofs.Common.{true, false, ◌∙◌, arith}
use Rattle.rules.specs.Numbers.{of_bool}
use Rattle.rules.specs.Bytes.{to_u}
use Rattle.rules.specs.Cells.{truth_kind}
use Rattle.rules.specs.declared.kinds.Kind.TheVariants.{Name, Int, True, False, Open, Unary}
use Rattle.walk.proofs.Moves.{moved-skip, moved-write}
use Rattle.walk.proofs.Refusals.{passed_on, moved, held, failed, any_answer, wrote, is_kind, no_kind, keeps_on, keeps_skip}
use Rattle.walk.proofs.OperandStack.{stacks_none, moved-stacks}
use Rattle.walk.proofs.ItemTags.{was_read, name-arm, whole_arm, truth-arm, paren-arm, sign_arm, operation-arm}
use Rattle.walk.proofs.steps.Walk.part.Goals as goal

pub returns-in-Name-clause-walks : goal.returns-in-Name-clause-walks
returns-in-Name-clause-walks c =
    let past = c.next-cell.ensures.past in
    let h = rw (past.numbers, past.top) at c.variable.ensures.walks in
    (omega (arith, moved-skip _ _ past.step, h.0), name-arm (was_read c.next-cell.ensures.cell past) (is_kind c.kind_of.ensures Name c.in-Name.is (λ e. absurd cc)) h.1)

pub returns-in_err-need-in-Int-clause-walks : goal.returns-in_err-need-in-Int-clause-walks
returns-in_err-need-in-Int-clause-walks c =
    let past = c.next-cell.ensures.past in
    let tag = is_kind c.kind_of.ensures Int c.in-Int.is (λ e. absurd cc) in
    rw (passed_on _ c.from_residual.ensures.1)
    (moved _ _ _ _ _, λ vs i os. any_answer (whole_arm (was_read c.next-cell.ensures.cell past) tag (failed _ _ _ _ _ c.in_err-need-in-Int.ensures) (stacks_none _ _ _ _) vs i os))

pub returns-in_ok-need-in-Int-clause-walks : goal.returns-in_ok-need-in-Int-clause-walks
returns-in_ok-need-in-Int-clause-walks c =
    let past = c.next-cell.ensures.past in
    let tag = is_kind c.kind_of.ensures Int c.in-Int.is (λ e. absurd cc) in
    let h = rw (past.numbers, past.top) at c.operand.ensures.stacks in
    (omega (arith, moved-skip _ _ past.step, moved-stacks h), whole_arm (was_read c.next-cell.ensures.cell past) tag (held _ _ _ _ c.in_ok-need-in-Int.ensures) h)

pub returns-in-True-clause-walks : goal.returns-in-True-clause-walks
unfolding truth_kind of_bool to_u
returns-in-True-clause-walks c =
    let past = c.next-cell.ensures.past in
    let h = rw (past.numbers, past.top) at c.operand-in-True.ensures.stacks in
    (omega (arith, moved-skip _ _ past.step, moved-stacks h), truth-arm (was_read c.next-cell.ensures.cell past) true (is_kind c.kind_of.ensures True c.in-True.is (λ e. absurd cc)) h)

pub returns-in-False-clause-walks : goal.returns-in-False-clause-walks
unfolding truth_kind of_bool to_u
returns-in-False-clause-walks c =
    let past = c.next-cell.ensures.past in
    let h = rw (past.numbers, past.top) at c.operand-in-False.ensures.stacks in
    (omega (arith, moved-skip _ _ past.step, moved-stacks h), truth-arm (was_read c.next-cell.ensures.cell past) false (is_kind c.kind_of.ensures False c.in-False.is (λ e. absurd cc)) h)

pub returns-in-Open-clause-walks : goal.returns-in-Open-clause-walks
returns-in-Open-clause-walks c =
    let past = c.next-cell.ensures.past in
    let w = wrote past.numbers c.write.ensures in
    (omega (arith, moved-skip _ _ past.step, (moved-write _ _ _ w).0), paren-arm (was_read c.next-cell.ensures.cell past) (is_kind c.kind_of.ensures Open c.in-Open.is (λ e. absurd cc)) w (c.write.ensures.top ∙ past.top))

pub returns-in-Unary-clause-walks : goal.returns-in-Unary-clause-walks
returns-in-Unary-clause-walks c =
    let past = c.next-cell.ensures.past in
    let h = rw (past.numbers, past.top) at c.sign.ensures.walks in
    (omega (arith, moved-skip _ _ past.step, h.0), sign_arm (was_read c.next-cell.ensures.cell past) (is_kind c.kind_of.ensures Unary c.in-Unary.is (λ e. absurd cc)) h.1)

pub returns-in_default : goal.returns-in_default
returns-in_default c =
    let past = c.next-cell.ensures.past in
    let h = rw (past.numbers, past.top) at c.operation.ensures.walks in
    let t = c.kind_of.ensures in
    let d = c.in_default in
    let means = operation-arm (was_read c.next-cell.ensures.cell past) (no_kind t Name d.not-Name) (no_kind t Int d.not-Int) (no_kind t True d.not-True) (no_kind t False d.not-False) (no_kind t Open d.not-Open) (no_kind t Unary d.not-Unary) h.1 in
    record { keeps = keeps_on (keeps_skip past) c.operation.ensures.keeps; walks = (omega (arith, moved-skip _ _ past.step, h.0), means) }
