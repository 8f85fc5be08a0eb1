-- The functions that walk statements meet their contracts.
use Rattle.std.proofs.Common.{refl, le_refl}
use Rattle.rules.specs.Kinds.{FINISH, IF, CASE, WHILE, REPEAT, THEN, ELSE, END_IF}
use Rattle.rules.specs.declared.kinds.Kind.TheVariants.{Assign, If, Case, For, While, Repeat}
use Rattle.walk.proofs.Moves.{moved-skip}
use Rattle.walk.proofs.Refusals.{passed_on, moved, same, other, is_kind, no_kind, keeps_on}
use Rattle.walk.proofs.Along.{headed, skip_moves, moved-head, tag_of}
use Rattle.walk.proofs.Assignments.{held_none}
use Rattle.walk.proofs.Rounds.{list_start, list-turn, list_done, list_refused, list_none, branches_start, branches-turn, branches_else, branches_done, branches_refused, groups_start, groups-turn, groups_else, groups_done, groups_refused, groups_none}
use Rattle.walk.proofs.StatementArms.{statement-assignment, statement_if, statement-case, statement_for, statement_while, statement-repeat, statement-exit}
use Rattle.walk.proofs.Sooner.{moved_on, still_on, moved_twice, no_finish, no_finish_opens, fewer, sooner, sooner_within, sooner-inside}
use Rattle.walk.proofs.steps.Walk.+branches_groups_list_statement.Goals as goal

-- IF's branches

pub branches-loop-self-init : goal.branches-loop-self-init
branches-loop-self-init t c = (record { lent = refl; long = refl }, le_refl _, branches_start _ _ _ _ _ _)

pub branches-returns-in_err-held-clause-walks : goal.branches-returns-in_err-held-clause-walks
branches-returns-in_err-held-clause-walks t c =
    let then = same _ _ c.is_at.ensures c.loop-self-test.true in
    rw (passed_on _ c.from_residual.ensures.1)
    (moved _ _ _ _ _, branches_refused _ _ _ _ (branches-turn _ _ _ _ c.loop-self.invariant.2 refl then (headed _ c.head.ensures) c.in_err-held.ensures.walks.1 (list_none _ _ _ _).1))

pub branches-list-requires : goal.branches-list-requires
branches-list-requires t c =
    let then = same _ _ c.is_at.ensures c.loop-self-test.true in
    (sooner_within _ _ refl (no_finish then refl) (moved_twice _ _ (moved-head THEN _ _ (headed _ c.head.ensures)) c.in_ok-held.ensures.walks.0) c.loop-self.invariant.1 c.decreases, tt)

pub branches-loop-self-smaller : goal.branches-loop-self-smaller
branches-loop-self-smaller t c =
    let then = same _ _ c.is_at.ensures c.loop-self-test.true in
    fewer _ _ refl (no_finish then refl) (moved_twice _ _ (moved_twice _ _ (moved-head THEN _ _ (headed _ c.head.ensures)) c.in_ok-held.ensures.walks.0) c.in_ok-list.ensures.walks.0)

pub branches-loop-self-preserved : goal.branches-loop-self-preserved
branches-loop-self-preserved t c =
    let i = c.loop-self.invariant in
    let then = same _ _ c.is_at.ensures c.loop-self-test.true in (
      keeps_on i.0 (keeps_on (record { lent = c.head.ensures.lent; long = c.head.ensures.long }) (keeps_on c.held.ensures.keeps c.list.ensures.keeps)),
      still_on i.1 (moved_twice _ _ (moved_twice _ _ (moved-head THEN _ _ (headed _ c.head.ensures)) c.in_ok-held.ensures.walks.0) c.in_ok-list.ensures.walks.0),
      branches-turn _ _ _ _ i.2 refl then (headed _ c.head.ensures) c.in_ok-held.ensures.walks.1 c.in_ok-list.ensures.walks.1,
    )

pub branches-returns-in_err-list-clause-walks : goal.branches-returns-in_err-list-clause-walks
branches-returns-in_err-list-clause-walks t c =
    let then = same _ _ c.is_at.ensures c.loop-self-test.true in
    rw (passed_on _ c.from_residual-in_err-list.ensures.1)
    (moved _ _ _ _ _, branches_refused _ _ _ _ (branches-turn _ _ _ _ c.loop-self.invariant.2 refl then (headed _ c.head.ensures) c.in_ok-held.ensures.walks.1 c.in_err-list.ensures.walks.1))

pub branches-list-requires-then-is_at : goal.branches-list-requires-then-is_at
branches-list-requires-then-is_at t c =
    let else = same _ _ c.is_at-2.ensures c.if-is_at.true in
    (sooner_within _ _ refl (no_finish else refl) (moved-head ELSE _ _ (headed _ c.head-then-is_at.ensures)) c.loop-self.invariant.1 c.decreases, tt)

pub branches-returns-then-is_at-clause-walks : goal.branches-returns-then-is_at-clause-walks
branches-returns-then-is_at-clause-walks t c =
    let else = same _ _ c.is_at-2.ensures c.if-is_at.true in
    let h = headed _ c.head-then-is_at.ensures in
    let w = c.list-then-is_at.ensures.walks in
    (moved_on c.loop-self.invariant.1 (moved_twice _ _ (moved-head ELSE _ _ h) w.0), branches_else _ _ _ _ c.loop-self.invariant.2 refl else h w.1)

pub branches-returns-clause-walks : goal.branches-returns-clause-walks
branches-returns-clause-walks t c =
    let h = headed _ c.head-2.ensures in
    (moved_on c.loop-self.invariant.1 (moved-head END_IF _ _ h), branches_done _ _ _ _ c.loop-self.invariant.2 refl (other _ _ c.is_at.ensures c.loop-self-test.false) (other _ _ c.is_at-2.ensures c.if-is_at.false) h)

-- CASE's groups

pub groups-loop-self-init : goal.groups-loop-self-init
groups-loop-self-init t c = (record { lent = refl; long = refl }, le_refl _, groups_start _ _ _ _ _ _)

pub groups-returns-in_err-labels-clause-walks : goal.groups-returns-in_err-labels-clause-walks
groups-returns-in_err-labels-clause-walks t c =
    rw (passed_on _ c.from_residual.ensures.1)
    (moved _ _ _ _ _, groups_refused _ _ _ _ (groups-turn _ _ _ _ c.loop-self.invariant.2 refl c.starts_group.ensures c.loop-self-test.true c.in_err-labels.ensures.walks.1 (list_none _ _ _ _).1))

pub groups-list-requires : goal.groups-list-requires
groups-list-requires t c = (sooner_within _ _ refl (no_finish_opens c.starts_group.ensures c.loop-self-test.true) c.in_ok-labels.ensures.walks.0 c.loop-self.invariant.1 c.decreases, tt)

pub groups-loop-self-smaller : goal.groups-loop-self-smaller
groups-loop-self-smaller t c = fewer _ _ refl (no_finish_opens c.starts_group.ensures c.loop-self-test.true) (moved_twice _ _ c.in_ok-labels.ensures.walks.0 c.in_ok-list.ensures.walks.0)

pub groups-loop-self-preserved : goal.groups-loop-self-preserved
groups-loop-self-preserved t c =
    let i = c.loop-self.invariant in (
      keeps_on i.0 (keeps_on c.labels.ensures.keeps c.list.ensures.keeps),
      still_on i.1 (moved_twice _ _ c.in_ok-labels.ensures.walks.0 c.in_ok-list.ensures.walks.0),
      groups-turn _ _ _ _ i.2 refl c.starts_group.ensures c.loop-self-test.true c.in_ok-labels.ensures.walks.1 c.in_ok-list.ensures.walks.1,
    )

pub groups-returns-in_err-list-clause-walks : goal.groups-returns-in_err-list-clause-walks
groups-returns-in_err-list-clause-walks t c =
    rw (passed_on _ c.from_residual-in_err-list.ensures.1)
    (moved _ _ _ _ _, groups_refused _ _ _ _ (groups-turn _ _ _ _ c.loop-self.invariant.2 refl c.starts_group.ensures c.loop-self-test.true c.in_ok-labels.ensures.walks.1 c.in_err-list.ensures.walks.1))

pub groups-list-requires-then-is_at : goal.groups-list-requires-then-is_at
groups-list-requires-then-is_at t c =
    let else = same _ _ c.is_at.ensures c.if-is_at.true in
    (sooner_within _ _ refl (no_finish else refl) (skip_moves c.skip.ensures) c.loop-self.invariant.1 c.decreases, tt)

pub groups-returns-then-is_at-clause-walks : goal.groups-returns-then-is_at-clause-walks
groups-returns-then-is_at-clause-walks t c =
    let else = same _ _ c.is_at.ensures c.if-is_at.true in
    let w = rw c.skip.ensures.numbers at c.list-then-is_at.ensures.walks in
    (moved_on c.loop-self.invariant.1 (moved_twice _ _ (moved-skip _ _ c.skip.ensures.step) w.0), groups_else _ _ _ _ c.loop-self.invariant.2 refl else c.skip.ensures.step w.1)

pub groups-returns-clause-walks : goal.groups-returns-clause-walks
groups-returns-clause-walks t c =
    let h = headed _ c.head.ensures in
    (moved_on c.loop-self.invariant.1 (moved-head FINISH _ _ h), groups_done _ _ _ _ c.loop-self.invariant.2 refl c.starts_group.ensures c.loop-self-test.false (other _ _ c.is_at.ensures c.if-is_at.false) h)

-- A list

pub list-loop-self-init : goal.list-loop-self-init
list-loop-self-init t c = (record { lent = refl; long = refl }, le_refl _, list_start _ _ _ _ _ _)

pub list-statement-requires : goal.list-statement-requires
list-statement-requires t c = (sooner-inside c.loop-self.invariant.1 c.decreases, tt)

pub list-loop-self-smaller : goal.list-loop-self-smaller
list-loop-self-smaller t c = fewer _ _ refl (other _ _ c.is_at.ensures c.loop-self-test.true) c.in_ok-statement.ensures.walks.0

pub list-loop-self-preserved : goal.list-loop-self-preserved
list-loop-self-preserved t c =
    let i = c.loop-self.invariant in
    let w = c.in_ok-statement.ensures.walks in
    (keeps_on i.0 c.statement.ensures.keeps, still_on i.1 w.0, list-turn _ _ _ _ i.2 refl (other _ _ c.is_at.ensures c.loop-self-test.true) w.1)

pub list-returns-in_err-statement-clause-walks : goal.list-returns-in_err-statement-clause-walks
list-returns-in_err-statement-clause-walks t c =
    rw (passed_on _ c.from_residual.ensures.1)
    (moved _ _ _ _ _, list_refused _ _ _ _ (list-turn _ _ _ _ c.loop-self.invariant.2 refl (other _ _ c.is_at.ensures c.loop-self-test.true) c.in_err-statement.ensures.walks.1))

pub list-returns-clause-walks : goal.list-returns-clause-walks
list-returns-clause-walks t c =
    let h = headed _ c.head.ensures in
    (moved_on c.loop-self.invariant.1 (moved-head FINISH _ _ h), list_done _ _ _ _ c.loop-self.invariant.2 refl (same _ _ c.is_at.ensures c.loop-self-test.false) h)

-- A statement

pub statement-branches-requires : goal.statement-branches-requires
statement-branches-requires t c =
    let is = is_kind c.kind_of.ensures If c.in-If.is (λ e. absurd cc) in
    (sooner _ _ (tag_of _ _ c.ahead.ensures) (no_finish is refl) (moved-head IF _ _ (headed _ c.head.ensures)) c.decreases, tt)

pub statement-groups-requires : goal.statement-groups-requires
statement-groups-requires t c =
    let is = is_kind c.kind_of.ensures Case c.in-Case.is (λ e. absurd cc) in
    (sooner _ _ (tag_of _ _ c.ahead.ensures) (no_finish is refl) (moved_twice _ _ (moved-head CASE _ _ (headed _ c.head-in-Case.ensures)) c.in_ok-held-in-Case.ensures.walks.0) c.decreases, tt)

pub statement-list-requires : goal.statement-list-requires
statement-list-requires t c =
    let is = is_kind c.kind_of.ensures For c.in-For.is (λ e. absurd cc) in
    (sooner _ _ (tag_of _ _ c.ahead.ensures) (no_finish is refl) c.in_ok-bounds-in-For.ensures.walks.0 c.decreases, tt)

pub statement-list-requires-in-While : goal.statement-list-requires-in-While
statement-list-requires-in-While t c =
    let is = is_kind c.kind_of.ensures While c.in-While.is (λ e. absurd cc) in
    (sooner _ _ (tag_of _ _ c.ahead.ensures) (no_finish is refl) (moved_twice _ _ (moved-head WHILE _ _ (headed _ c.head-in-While.ensures)) c.in_ok-held-in-While.ensures.walks.0) c.decreases, tt)

pub statement-list-requires-in-Repeat : goal.statement-list-requires-in-Repeat
statement-list-requires-in-Repeat t c =
    let is = is_kind c.kind_of.ensures Repeat c.in-Repeat.is (λ e. absurd cc) in
    (sooner _ _ (tag_of _ _ c.ahead.ensures) (no_finish is refl) (moved-head REPEAT _ _ (headed _ c.head-in-Repeat.ensures)) c.decreases, tt)

pub statement-returns-in-Assign-clause-walks : goal.statement-returns-in-Assign-clause-walks
statement-returns-in-Assign-clause-walks t c = statement-assignment _ _ _ _ _ _ (tag_of _ _ c.ahead.ensures) (is_kind c.kind_of.ensures Assign c.in-Assign.is (λ e. absurd cc)) c.assignment.ensures.walks

pub statement-returns-in-If-clause-walks : goal.statement-returns-in-If-clause-walks
statement-returns-in-If-clause-walks t c = statement_if _ _ _ _ _ _ (tag_of _ _ c.ahead.ensures) (is_kind c.kind_of.ensures If c.in-If.is (λ e. absurd cc)) (headed _ c.head.ensures) c.branches.ensures.walks

pub statement-returns-in_err-held-in-Case-clause-walks : goal.statement-returns-in_err-held-in-Case-clause-walks
statement-returns-in_err-held-in-Case-clause-walks t c =
    let is = is_kind c.kind_of.ensures Case c.in-Case.is (λ e. absurd cc) in
    rw (passed_on _ c.from_residual.ensures.1) (statement-case _ _ _ _ _ _ (tag_of _ _ c.ahead.ensures) is (headed _ c.head-in-Case.ensures) c.in_err-held-in-Case.ensures.walks (groups_none _ _ _ _))

pub statement-returns-in_ok-held-in-Case-clause-walks : goal.statement-returns-in_ok-held-in-Case-clause-walks
statement-returns-in_ok-held-in-Case-clause-walks t c =
    let is = is_kind c.kind_of.ensures Case c.in-Case.is (λ e. absurd cc) in
    statement-case _ _ _ _ _ _ (tag_of _ _ c.ahead.ensures) is (headed _ c.head-in-Case.ensures) c.in_ok-held-in-Case.ensures.walks c.groups.ensures.walks

pub statement-returns-in_err-bounds-in-For-clause-walks : goal.statement-returns-in_err-bounds-in-For-clause-walks
statement-returns-in_err-bounds-in-For-clause-walks t c =
    let is = is_kind c.kind_of.ensures For c.in-For.is (λ e. absurd cc) in
    rw (passed_on _ c.from_residual-in_err-bounds-in-For.ensures.1)
    (statement_for _ _ _ _ _ _ (tag_of _ _ c.ahead.ensures) _ is c.in_err-bounds-in-For.ensures.walks refl (λ at free e. absurd cc) (list_none _ _ _ _))

pub statement-returns-in_ok-bounds-in-For-clause-walks : goal.statement-returns-in_ok-bounds-in-For-clause-walks
statement-returns-in_ok-bounds-in-For-clause-walks t c =
    let is = is_kind c.kind_of.ensures For c.in-For.is (λ e. absurd cc) in
    let w = rw c.taking.ensures.around at c.list.ensures.walks in
    let long = rw c.taking.ensures.around at c.taking.ensures.long in
    statement_for _ _ _ _ _ _ (tag_of _ _ c.ahead.ensures) _ is c.in_ok-bounds-in-For.ensures.walks refl (λ at free e. long) w

pub statement-returns-in_err-held-in-While-clause-walks : goal.statement-returns-in_err-held-in-While-clause-walks
statement-returns-in_err-held-in-While-clause-walks t c =
    let is = is_kind c.kind_of.ensures While c.in-While.is (λ e. absurd cc) in
    rw (passed_on _ c.from_residual-in_err-held-in-While.ensures.1) (statement_while _ _ _ _ _ _ (tag_of _ _ c.ahead.ensures) is (headed _ c.head-in-While.ensures) c.in_err-held-in-While.ensures.walks (list_none _ _ _ _))

pub statement-returns-in_ok-held-in-While-clause-walks : goal.statement-returns-in_ok-held-in-While-clause-walks
statement-returns-in_ok-held-in-While-clause-walks t c =
    let is = is_kind c.kind_of.ensures While c.in-While.is (λ e. absurd cc) in
    let w = rw c.in_loop-body.ensures at c.list-in-While.ensures.walks in
    statement_while _ _ _ _ _ _ (tag_of _ _ c.ahead.ensures) is (headed _ c.head-in-While.ensures) c.in_ok-held-in-While.ensures.walks w

pub statement-returns-in_err-list-in-Repeat-clause-walks : goal.statement-returns-in_err-list-in-Repeat-clause-walks
statement-returns-in_err-list-in-Repeat-clause-walks t c =
    let is = is_kind c.kind_of.ensures Repeat c.in-Repeat.is (λ e. absurd cc) in
    let w = rw c.in_loop.ensures at c.in_err-list-in-Repeat.ensures.walks in
    rw (passed_on _ c.from_residual-in_err-list-in-Repeat.ensures.1) (statement-repeat _ _ _ _ _ _ (tag_of _ _ c.ahead.ensures) is (headed _ c.head-in-Repeat.ensures) w (held_none 0))

pub statement-returns-in_ok-list-in-Repeat-clause-walks : goal.statement-returns-in_ok-list-in-Repeat-clause-walks
statement-returns-in_ok-list-in-Repeat-clause-walks t c =
    let is = is_kind c.kind_of.ensures Repeat c.in-Repeat.is (λ e. absurd cc) in
    let w = rw c.in_loop.ensures at c.in_ok-list-in-Repeat.ensures.walks in
    statement-repeat _ _ _ _ _ _ (tag_of _ _ c.ahead.ensures) is (headed _ c.head-in-Repeat.ensures) w c.held-in-Repeat.ensures.walks

pub statement-returns-in_default : goal.statement-returns-in_default
statement-returns-in_default t c =
    let k = c.kind_of.ensures in
    let d = c.in_default in
    let w = statement-exit _ _ _ _ _ _ (tag_of _ _ c.ahead.ensures) (no_kind k Assign d.not-Assign) (no_kind k If d.not-If) (no_kind k Case d.not-Case) (no_kind k For d.not-For) (no_kind k While d.not-While) (no_kind k Repeat d.not-Repeat) c.leave.ensures.walks in
    record { keeps = c.leave.ensures.keeps; walks = w }
