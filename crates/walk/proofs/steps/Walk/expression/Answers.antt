use Rattle.std.proofs.Common.{le_refl, refl, ap, ◌∙◌, arith}
use Rattle.rules.specs.Cells.{type_kind}
use Rattle.names.specs.Rows.{type_of}
use Rattle.walk.proofs.Moves.{moved-skip}
use Rattle.walk.proofs.Refusals.{passed_on, moved, keeps_on, keeps_skip}
use Rattle.walk.proofs.ExpressionLoop.{tested, turns_on, item-ahead, turns_start, expression-means, expression-refused}
use Rattle.walk.proofs.Slots.{kind_is}
use Rattle.walk.proofs.steps.Walk.expression.Goals as goal

pub loop-self-smaller : goal.loop-self-smaller
loop-self-smaller c = omega (arith, c.in_ok-part.ensures.walks.0, item-ahead _ _ (tested _ _ c.ahead.ensures c.is_item.ensures c.loop-self-test.true))

pub loop-self-preserved : goal.loop-self-preserved
loop-self-preserved c =
    let i = c.loop-self.invariant in
    let h = c.in_ok-part.ensures.walks in
    (keeps_on i.0 c.part.ensures.keeps, omega (arith, h.0, i.1), turns_on (tested _ _ c.ahead.ensures c.is_item.ensures c.loop-self-test.true) h.1 i.2)

pub returns-in_err-part-clause-walks : goal.returns-in_err-part-clause-walks
returns-in_err-part-clause-walks c =
    let t = tested _ _ c.ahead.ensures c.is_item.ensures c.loop-self-test.true in
    rw (passed_on _ c.from_residual.ensures.1)
    (moved _ _ _ _ _, expression-refused refl refl (turns_on t c.in_err-part.ensures.walks.1 c.loop-self.invariant.2))

pub returns-clause-walks : goal.returns-clause-walks
returns-clause-walks c =
    let t = tested _ _ c.ahead.ensures c.is_item.ensures c.loop-self-test.false in
    let past = c.next-end.ensures.past in
    let i = c.loop-self.invariant in
    let kind = rw (past.numbers, past.top) at (kind_is _ ∙ ap type_kind (c.type_of.ensures ∙ ap type_of c.before-2.ensures)) in
    let height = rw (past.numbers, past.top) at c.before-3.ensures in
    rw past.numbers (omega (arith, moved-skip _ _ past.step, i.1), expression-means t past.step (ap (λ d. d.place) c.next-end.ensures.cell) kind height i.2)

pub loop-self-init : goal.loop-self-init
loop-self-init c = (record { lent = refl; long = refl }, le_refl _, turns_start _ _ _ _)

pub returns-in_err-part-clause-keeps : goal.returns-in_err-part-clause-keeps
returns-in_err-part-clause-keeps c = keeps_on c.loop-self.invariant.0 c.part.ensures.keeps

pub returns-clause-keeps : goal.returns-clause-keeps
returns-clause-keeps c = keeps_on c.loop-self.invariant.0 (keeps_skip c.next-end.ensures.past)
