use Rattle.std.proofs.Common.{refl}
use Rattle.walk.proofs.Refusals.{passed_on, no_check, no_write, held, failed, same, other, wrote}
use Rattle.walk.proofs.Initials.{named, initial_bare, initial-valued}
use Rattle.walk.proofs.steps.Walk.initial.Goals as goal

pub returns-then-is_at-clause-walks : goal.returns-then-is_at-clause-walks
returns-then-is_at-clause-walks c =
    let w = rw c.tag_of.ensures at (wrote c.skip.ensures.numbers c.write.ensures) in
    initial_bare (named c.args.kind c.args.place) c.skip.ensures.step w refl (same _ _ c.is_at.ensures c.if-is_at.true)

pub returns-in_err-value-clause-walks : goal.returns-in_err-value-clause-walks
returns-in_err-value-clause-walks c =
    let h = c.in_err-value.ensures.walks in
    rw (passed_on _ c.from_residual.ensures.1, c.constant.ensures.numbers)
    (initial-valued (named c.args.kind c.args.place) h.1 (no_check _ _ _) (no_write _ _) refl (other _ _ c.is_at.ensures c.if-is_at.false) h.0)

pub returns-in_err-need-clause-walks : goal.returns-in_err-need-clause-walks
returns-in_err-need-clause-walks c =
    let h = c.in_ok-value.ensures.walks in
    let typed = rw c.same_type.ensures at c.in_err-need.ensures in
    rw (passed_on _ c.from_residual-in_err-need.ensures.1, c.constant.ensures.numbers)
    (initial-valued (named c.args.kind c.args.place) h.1 (failed _ _ _ _ _ typed) (no_write _ _) refl (other _ _ c.is_at.ensures c.if-is_at.false) h.0)

pub returns-clause-walks : goal.returns-clause-walks
returns-clause-walks c =
    let h = c.in_ok-value.ensures.walks in
    let typed = rw c.same_type.ensures at c.in_ok-need.ensures in
    let w = rw c.tag_of-2.ensures at (wrote c.constant.ensures.numbers c.write-2.ensures) in
    initial-valued (named c.args.kind c.args.place) h.1 (held _ _ _ _ typed) w refl (other _ _ c.is_at.ensures c.if-is_at.false) h.0
