use Rattle.std.proofs.Common.{refl, ◌∙◌, arith}
use Rattle.walk.specs.LabelPromises.{lone}
use Rattle.walk.proofs.Moves.{moved-write}
use Rattle.walk.proofs.Refusals.{passed_on, held, failed, moved, no_write, wrote}
use Rattle.walk.proofs.ReadLabel.{high_moved, label-read, closes_none, closes_untyped, no_dots}
use Rattle.walk.proofs.steps.Walk.label.Goals as goal

pub returns-in_err-low-clause-walks : goal.returns-in_err-low-clause-walks
returns-in_err-low-clause-walks c =
    rw (passed_on _ c.from_residual.ensures.1, c.constant.ensures.numbers)
    (moved _ _ _ _ _, label-read c.in_err-low.ensures.walks.1 (lone (no_dots _ _ _)) (closes_none _ _ refl))

pub returns-in_err-high-clause-walks : goal.returns-in_err-high-clause-walks
returns-in_err-high-clause-walks c =
    let high = rw c.constant.ensures.numbers at c.in_err-high.ensures.high in
    rw (passed_on _ c.from_residual-in_err-high.ensures.1, c.high_of.ensures.numbers, c.constant.ensures.numbers)
    (moved _ _ _ _ _, label-read c.in_ok-low.ensures.walks.1 high (closes_none _ _ refl))

pub returns-in_err-need-clause-walks : goal.returns-in_err-need-clause-walks
returns-in_err-need-clause-walks c =
    let high = rw c.constant.ensures.numbers at c.in_ok-high.ensures.high in
    rw (passed_on _ c.from_residual-in_err-need.ensures.1, c.high_of.ensures.numbers, c.constant.ensures.numbers)
    (moved _ _ _ _ _, label-read c.in_ok-low.ensures.walks.1 high (closes_untyped _ _ _ c.integers.ensures (failed _ _ _ _ _ c.in_err-need.ensures)))

pub returns-in_err-need-2-clause-walks : goal.returns-in_err-need-2-clause-walks
returns-in_err-need-2-clause-walks c =
    let high = rw c.constant.ensures.numbers at c.in_ok-high.ensures.high in
    let ordered = rw c.in_order.ensures at c.in_err-need-2.ensures in
    rw (passed_on _ c.from_residual-in_err-need-2.ensures.1, c.high_of.ensures.numbers, c.constant.ensures.numbers)
    (moved _ _ _ _ _, label-read c.in_ok-low.ensures.walks.1 high (record { integers = _; dints = c.integers.ensures; typed = _; typing = held _ _ _ _ c.in_ok-need.ensures; ordered = _; ordering = failed _ _ _ _ _ ordered; wrote = no_write _ _ }))

pub returns-clause-walks : goal.returns-clause-walks
returns-clause-walks c =
    let high = rw c.constant.ensures.numbers at c.in_ok-high.ensures.high in
    let ordered = rw c.in_order.ensures at c.in_ok-need-2.ensures in
    let w = wrote (c.high_of.ensures.numbers ∙ c.constant.ensures.numbers) c.write.ensures in
    (omega (arith, c.in_ok-low.ensures.walks.0, high_moved high, (moved-write _ _ _ w).0), label-read c.in_ok-low.ensures.walks.1 high (record { integers = _; dints = c.integers.ensures; typed = _; typing = held _ _ _ _ c.in_ok-need.ensures; ordered = _; ordering = held _ _ _ _ ordered; wrote = w }))
