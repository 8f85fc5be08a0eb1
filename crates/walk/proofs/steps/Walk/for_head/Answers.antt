-- `Walk::for_head` meets its contract: where it is refused, the rest of the chain is passed along.
use Rattle.walk.proofs.Refusals.{passed_on, moved, no_check, no_write, held, failed, wrote, any_answer}
use Rattle.walk.proofs.Assignments.{for_head_does, held_none, by_none}
use Rattle.walk.proofs.steps.Walk.for_head.Goals as goal

pub returns-in_err-name-clause-walks : goal.returns-in_err-name-clause-walks
returns-in_err-name-clause-walks c =
    let a = c.args.scope.now in
    let d = for_head_does a.text.now a.names a.taken _ _ _ c.in_err-name.ensures.walks (no_check _ _ _) (no_write _ _) (held_none 0) (held_none 1) by_none in
    rw (passed_on _ c.from_residual.ensures.1, c.assigned.ensures.numbers) (moved _ _ _ _ _, λ vs slots v x e k. any_answer (d.1 vs slots v x e k))

pub returns-in_err-need-clause-walks : goal.returns-in_err-need-clause-walks
returns-in_err-need-clause-walks c =
    let a = c.args.scope.now in
    let typed = rw c.same_type.ensures at c.in_err-need.ensures in
    let d = for_head_does a.text.now a.names a.taken _ _ _ c.in_ok-name.ensures.walks (failed _ _ _ _ _ typed) (no_write _ _) (held_none 0) (held_none 1) by_none in
    rw (passed_on _ c.from_residual-in_err-need.ensures.1, c.assigned.ensures.numbers) (moved _ _ _ _ _, λ vs slots v x e k. any_answer (d.1 vs slots v x e k))

pub returns-in_err-held-clause-walks : goal.returns-in_err-held-clause-walks
returns-in_err-held-clause-walks c =
    let a = c.args.scope.now in
    let typed = rw c.same_type.ensures at c.in_ok-need.ensures in
    let d = for_head_does a.text.now a.names a.taken _ _ _ c.in_ok-name.ensures.walks (held _ _ _ _ typed) (wrote c.assigned.ensures.numbers c.write.ensures) c.in_err-held.ensures.walks (held_none 1) by_none in
    rw (passed_on _ c.from_residual-in_err-held.ensures.1) (moved _ _ _ _ _, λ vs slots v x e k. any_answer (d.1 vs slots v x e k))

pub returns-in_err-held-2-clause-walks : goal.returns-in_err-held-2-clause-walks
returns-in_err-held-2-clause-walks c =
    let a = c.args.scope.now in
    let typed = rw c.same_type.ensures at c.in_ok-need.ensures in
    let d = for_head_does a.text.now a.names a.taken _ _ _ c.in_ok-name.ensures.walks (held _ _ _ _ typed) (wrote c.assigned.ensures.numbers c.write.ensures) c.in_ok-held.ensures.walks c.in_err-held-2.ensures.walks by_none in
    rw (passed_on _ c.from_residual-in_err-held-2.ensures.1) (moved _ _ _ _ _, λ vs slots v x e k. any_answer (d.1 vs slots v x e k))

pub returns-in_err-by-clause-walks : goal.returns-in_err-by-clause-walks
returns-in_err-by-clause-walks c =
    let a = c.args.scope.now in
    let typed = rw c.same_type.ensures at c.in_ok-need.ensures in
    let d = for_head_does a.text.now a.names a.taken _ _ _ c.in_ok-name.ensures.walks (held _ _ _ _ typed) (wrote c.assigned.ensures.numbers c.write.ensures) c.in_ok-held.ensures.walks c.in_ok-held-2.ensures.walks c.in_err-by.ensures.walks in
    rw (passed_on _ c.from_residual-in_err-by.ensures.1) (moved _ _ _ _ _, λ vs slots v x e k. any_answer (d.1 vs slots v x e k))

pub returns-clause-walks : goal.returns-clause-walks
returns-clause-walks c =
    let a = c.args.scope.now in
    let typed = rw c.same_type.ensures at c.in_ok-need.ensures in
    for_head_does a.text.now a.names a.taken _ _ _ c.in_ok-name.ensures.walks (held _ _ _ _ typed) (wrote c.assigned.ensures.numbers c.write.ensures) c.in_ok-held.ensures.walks c.in_ok-held-2.ensures.walks c.in_ok-by.ensures.walks
