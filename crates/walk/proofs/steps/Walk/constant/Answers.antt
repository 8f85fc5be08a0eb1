-- `Walk::constant` meets its contract: by the tag ahead.
use Rattle.std.proofs.Common.{refl, ◌∙◌, arith}
use Rattle.walk.proofs.Moves.{moved-skip}
use Rattle.walk.proofs.Refusals.{passed_on, held, failed, moved, truth_byte}
use Rattle.walk.proofs.ReadConstant.{truth-read, integer-read, integer-refused}
use Rattle.walk.proofs.steps.Walk.constant.Goals as goal

pub returns-in-Some-clause-walks : goal.returns-in-Some-clause-walks
returns-in-Some-clause-walks c =
    let past = c.next-sign.ensures.past in
    (moved-skip _ _ past.step, truth-read c.next-sign.ensures.cell c.in-Some.truth c.in-Some.ensures past.step refl refl (c.from.ensures ∙ truth_byte _))

pub returns-in_err-need-clause-walks : goal.returns-in_err-need-clause-walks
returns-in_err-need-clause-walks c =
    let past = c.next-sign.ensures.past in
    let past₂ = rw past.numbers at c.next-integer.ensures.past.step in
    let tested = rw c.largest.ensures at c.in_err-need.ensures in
    rw (passed_on _ c.from_residual.ensures.1)
    (moved _ _ _ _ _, integer-refused c.next-sign.ensures.cell _ c.is-below.ensures c.in_default.ensures past.step (rw past.numbers at c.next-integer.ensures.cell) past₂ (failed _ _ _ _ _ tested) refl)

pub returns-clause-walks : goal.returns-clause-walks
returns-clause-walks c =
    let past = c.next-sign.ensures.past in
    let past₂ = rw past.numbers at c.next-integer.ensures.past.step in
    let tested = rw c.largest.ensures at c.in_ok-need.ensures in
    (omega (arith, moved-skip _ _ past.step, moved-skip _ _ past₂), integer-read c.next-sign.ensures.cell _ c.is-below.ensures c.in_default.ensures past.step (rw past.numbers at c.next-integer.ensures.cell) past₂ (held _ _ _ _ tested) refl refl c.bits_of.ensures)
