use mathlib.Core.Path.{refl, ap}
use native.Mathlib.Omega.{arith}
use borrow.Author.Rules.{rules}
use Rattle.parse.proofs.Follow.{refused, stay}
use Rattle.parse.proofs.Productions.{otherwise_else_means, otherwise-none-means, branch-means, if_then_means, group-means, case_of_means, for_do_means, while_do_means, repeat_until_means, compound-deep-means, compound-many-means, compound_if_means, compound-case-means, compound_for_means, compound_while_means, compound-repeat-means, statement-assignment-means, statement-exit-means, statement-compound-means, element_semi_means, element-statement-means}
use Rattle.parse.proofs.Repeats.{list_start, list-turn, list-refused, list_done, branches_start, branches-turn, branches-refused, branches_done, branches_first, groups_start, groups-turn, groups-refused, groups_done, groups_first}
use Rattle.parse.proofs.parser.Parser.+statements.Goals as goal

pub branch-returns-in_err-whole-clause-means : goal.branch-returns-in_err-whole-clause-means
branch-returns-in_err-whole-clause-means t c = λ f h.
    refused _ _ _ c.from_residual.ensures.1
    (branch-means f _ _ (omega arith) c.write.ensures.means (c.in_err-whole.ensures.means f (omega arith)) stay stay)

pub branch-returns-in_err-take-clause-means : goal.branch-returns-in_err-take-clause-means
branch-returns-in_err-take-clause-means t c = λ f h.
    let first = c.in_ok-whole.ensures in
    refused _ _ _ c.from_residual-in_err-take.ensures.1
    (branch-means f _ _ (omega arith) c.write.ensures.means (first.means f (omega arith)) c.in_err-take.ensures.means stay)

pub branch-returns-clause-means : goal.branch-returns-clause-means
branch-returns-clause-means t c = λ f h.
    let first = c.in_ok-whole.ensures in
    let word = c.in_ok-take.ensures in
    branch-means f _ _ (omega arith) c.write.ensures.means (first.means f (omega arith)) word.means (c.list.ensures.means f (omega arith))

pub if_then-returns-in_err-branches-clause-means : goal.if_then-returns-in_err-branches-clause-means
if_then-returns-in_err-branches-clause-means t c = λ f h.
    refused _ _ _ c.from_residual.ensures.1
    (if_then_means f _ _ (omega arith) (omega arith) c.skip.ensures.means c.write.ensures.means (λ g e. c.in_err-branches.ensures.means g (omega arith)) stay)

pub if_then-returns-clause-means : goal.if_then-returns-clause-means
if_then-returns-clause-means t c = λ f h.
    let others = c.in_ok-branches.ensures in
    if_then_means f _ _ (omega arith) (omega arith) c.skip.ensures.means c.write.ensures.means (λ g e. others.means g (omega arith)) c.take.ensures.means

pub group-returns-in_err-labels-clause-means : goal.group-returns-in_err-labels-clause-means
group-returns-in_err-labels-clause-means t c = λ f h.
    refused _ _ _ c.from_residual.ensures.1
    (group-means f _ _ (omega arith) (c.in_err-labels.ensures.means f (omega arith)) stay stay)

pub group-returns-in_err-take-clause-means : goal.group-returns-in_err-take-clause-means
group-returns-in_err-take-clause-means t c = λ f h.
    let head = c.in_ok-labels.ensures in
    refused _ _ _ c.from_residual-in_err-take.ensures.1
    (group-means f _ _ (omega arith) (head.means f (omega arith)) c.in_err-take.ensures.means stay)

pub group-returns-clause-means : goal.group-returns-clause-means
group-returns-clause-means t c = λ f h.
    let head = c.in_ok-labels.ensures in
    let word = c.in_ok-take.ensures in
    group-means f _ _ (omega arith) (head.means f (omega arith)) word.means (c.list.ensures.means f (omega arith))

pub case_of-returns-in_err-whole-clause-means : goal.case_of-returns-in_err-whole-clause-means
case_of-returns-in_err-whole-clause-means t c = λ f h.
    refused _ _ _ c.from_residual.ensures.1
    (case_of_means f _ _ (omega arith) (omega arith) c.skip.ensures.means c.write.ensures.means (c.in_err-whole.ensures.means f (omega arith)) stay (λ g e. stay) stay)

pub case_of-returns-in_err-take-clause-means : goal.case_of-returns-in_err-take-clause-means
case_of-returns-in_err-take-clause-means t c = λ f h.
    let first = c.in_ok-whole.ensures in
    refused _ _ _ c.from_residual-in_err-take.ensures.1
    (case_of_means f _ _ (omega arith) (omega arith) c.skip.ensures.means c.write.ensures.means (first.means f (omega arith)) c.in_err-take.ensures.means (λ g e. stay) stay)

pub case_of-returns-in_err-groups-clause-means : goal.case_of-returns-in_err-groups-clause-means
case_of-returns-in_err-groups-clause-means t c = λ f h.
    let first = c.in_ok-whole.ensures in
    let word = c.in_ok-take.ensures in
    refused _ _ _ c.from_residual-in_err-groups.ensures.1
    (case_of_means f _ _ (omega arith) (omega arith) c.skip.ensures.means c.write.ensures.means (first.means f (omega arith)) word.means (λ g e. c.in_err-groups.ensures.means g (omega arith)) stay)

pub case_of-returns-clause-means : goal.case_of-returns-clause-means
case_of-returns-clause-means t c = λ f h.
    let first = c.in_ok-whole.ensures in
    let word = c.in_ok-take.ensures in
    let others = c.in_ok-groups.ensures in
    case_of_means f _ _ (omega arith) (omega arith) c.skip.ensures.means c.write.ensures.means (first.means f (omega arith)) word.means (λ g e. others.means g (omega arith)) c.take-2.ensures.means

pub for_do-returns-in_err-named-clause-means : goal.for_do-returns-in_err-named-clause-means
for_do-returns-in_err-named-clause-means t c = λ f h.
    refused _ _ _ c.from_residual.ensures.1
    (for_do_means (omega arith) c.skip.ensures.means c.in_err-named.ensures.means stay stay stay stay stay stay stay stay)

pub for_do-returns-in_err-take-clause-means : goal.for_do-returns-in_err-take-clause-means
for_do-returns-in_err-take-clause-means t c = λ f h.
    let name = c.in_ok-named.ensures in
    refused _ _ _ c.from_residual-in_err-take.ensures.1
    (for_do_means (omega arith) c.skip.ensures.means name.means c.in_err-take.ensures.means stay stay stay stay stay stay stay)

pub for_do-returns-in_err-whole-clause-means : goal.for_do-returns-in_err-whole-clause-means
for_do-returns-in_err-whole-clause-means t c = λ f h.
    let name = c.in_ok-named.ensures in
    let word = c.in_ok-take.ensures in
    refused _ _ _ c.from_residual-in_err-whole.ensures.1
    (for_do_means (omega arith) c.skip.ensures.means name.means word.means (c.in_err-whole.ensures.means f (omega arith)) stay stay stay stay stay stay)

pub for_do-returns-in_err-take-2-clause-means : goal.for_do-returns-in_err-take-2-clause-means
for_do-returns-in_err-take-2-clause-means t c = λ f h.
    let name = c.in_ok-named.ensures in
    let word = c.in_ok-take.ensures in
    let first = c.in_ok-whole.ensures in
    refused _ _ _ c.from_residual-in_err-take-2.ensures.1
    (for_do_means (omega arith) c.skip.ensures.means name.means word.means (first.means f (omega arith)) c.in_err-take-2.ensures.means stay stay stay stay stay)

pub for_do-returns-in_err-whole-2-clause-means : goal.for_do-returns-in_err-whole-2-clause-means
for_do-returns-in_err-whole-2-clause-means t c = λ f h.
    let name = c.in_ok-named.ensures in
    let word = c.in_ok-take.ensures in
    let first = c.in_ok-whole.ensures in
    let next = c.in_ok-take-2.ensures in
    refused _ _ _ c.from_residual-in_err-whole-2.ensures.1
    (for_do_means (omega arith) c.skip.ensures.means name.means word.means (first.means f (omega arith)) next.means (c.in_err-whole-2.ensures.means f (omega arith)) stay stay stay stay)

pub for_do-returns-in_err-maybe_constant-clause-means : goal.for_do-returns-in_err-maybe_constant-clause-means
for_do-returns-in_err-maybe_constant-clause-means t c = λ f h.
    let name = c.in_ok-named.ensures in
    let word = c.in_ok-take.ensures in
    let first = c.in_ok-whole.ensures in
    let next = c.in_ok-take-2.ensures in
    let second = c.in_ok-whole-2.ensures in
    refused _ _ _ c.from_residual-in_err-maybe_constant.ensures.1
    (for_do_means (omega arith) c.skip.ensures.means name.means word.means (first.means f (omega arith)) next.means (second.means f (omega arith)) c.in_err-maybe_constant.ensures.means stay stay stay)

pub for_do-returns-in_err-take-3-clause-means : goal.for_do-returns-in_err-take-3-clause-means
for_do-returns-in_err-take-3-clause-means t c = λ f h.
    let name = c.in_ok-named.ensures in
    let word = c.in_ok-take.ensures in
    let first = c.in_ok-whole.ensures in
    let next = c.in_ok-take-2.ensures in
    let second = c.in_ok-whole-2.ensures in
    let step = c.in_ok-maybe_constant.ensures in
    refused _ _ _ c.from_residual-in_err-take-3.ensures.1
    (for_do_means (omega arith) c.skip.ensures.means name.means word.means (first.means f (omega arith)) next.means (second.means f (omega arith)) step.means c.in_err-take-3.ensures.means stay stay)

pub for_do-returns-in_err-list-clause-means : goal.for_do-returns-in_err-list-clause-means
for_do-returns-in_err-list-clause-means t c = λ f h.
    let name = c.in_ok-named.ensures in
    let word = c.in_ok-take.ensures in
    let first = c.in_ok-whole.ensures in
    let next = c.in_ok-take-2.ensures in
    let second = c.in_ok-whole-2.ensures in
    let step = c.in_ok-maybe_constant.ensures in
    let last = c.in_ok-take-3.ensures in
    refused _ _ _ c.from_residual-in_err-list.ensures.1
    (for_do_means (omega arith) c.skip.ensures.means name.means word.means (first.means f (omega arith)) next.means (second.means f (omega arith)) step.means last.means (c.in_err-list.ensures.means f (omega arith)) stay)

pub for_do-returns-clause-means : goal.for_do-returns-clause-means
for_do-returns-clause-means t c = λ f h.
    let name = c.in_ok-named.ensures in
    let word = c.in_ok-take.ensures in
    let first = c.in_ok-whole.ensures in
    let next = c.in_ok-take-2.ensures in
    let second = c.in_ok-whole-2.ensures in
    let step = c.in_ok-maybe_constant.ensures in
    let last = c.in_ok-take-3.ensures in
    let body = c.in_ok-list.ensures in
    for_do_means (omega arith) c.skip.ensures.means name.means word.means (first.means f (omega arith)) next.means (second.means f (omega arith)) step.means last.means (body.means f (omega arith)) c.take-4.ensures.means

pub while_do-returns-in_err-whole-clause-means : goal.while_do-returns-in_err-whole-clause-means
while_do-returns-in_err-whole-clause-means t c = λ f h.
    refused _ _ _ c.from_residual.ensures.1
    (while_do_means (omega arith) c.skip.ensures.means c.write.ensures.means (c.in_err-whole.ensures.means f (omega arith)) stay stay stay)

pub while_do-returns-in_err-take-clause-means : goal.while_do-returns-in_err-take-clause-means
while_do-returns-in_err-take-clause-means t c = λ f h.
    let first = c.in_ok-whole.ensures in
    refused _ _ _ c.from_residual-in_err-take.ensures.1
    (while_do_means (omega arith) c.skip.ensures.means c.write.ensures.means (first.means f (omega arith)) c.in_err-take.ensures.means stay stay)

pub while_do-returns-in_err-list-clause-means : goal.while_do-returns-in_err-list-clause-means
while_do-returns-in_err-list-clause-means t c = λ f h.
    let first = c.in_ok-whole.ensures in
    let word = c.in_ok-take.ensures in
    refused _ _ _ c.from_residual-in_err-list.ensures.1
    (while_do_means (omega arith) c.skip.ensures.means c.write.ensures.means (first.means f (omega arith)) word.means (c.in_err-list.ensures.means f (omega arith)) stay)

pub while_do-returns-clause-means : goal.while_do-returns-clause-means
while_do-returns-clause-means t c = λ f h.
    let first = c.in_ok-whole.ensures in
    let word = c.in_ok-take.ensures in
    let body = c.in_ok-list.ensures in
    while_do_means (omega arith) c.skip.ensures.means c.write.ensures.means (first.means f (omega arith)) word.means (body.means f (omega arith)) c.take-2.ensures.means

pub repeat_until-returns-in_err-list-clause-means : goal.repeat_until-returns-in_err-list-clause-means
repeat_until-returns-in_err-list-clause-means t c = λ f h.
    refused _ _ _ c.from_residual.ensures.1
    (repeat_until_means (omega arith) c.skip.ensures.means c.write.ensures.means (c.in_err-list.ensures.means f (omega arith)) stay stay stay)

pub repeat_until-returns-in_err-take-clause-means : goal.repeat_until-returns-in_err-take-clause-means
repeat_until-returns-in_err-take-clause-means t c = λ f h.
    let body = c.in_ok-list.ensures in
    refused _ _ _ c.from_residual-in_err-take.ensures.1
    (repeat_until_means (omega arith) c.skip.ensures.means c.write.ensures.means (body.means f (omega arith)) c.in_err-take.ensures.means stay stay)

pub repeat_until-returns-in_err-whole-clause-means : goal.repeat_until-returns-in_err-whole-clause-means
repeat_until-returns-in_err-whole-clause-means t c = λ f h.
    let body = c.in_ok-list.ensures in
    let word = c.in_ok-take.ensures in
    refused _ _ _ c.from_residual-in_err-whole.ensures.1
    (repeat_until_means (omega arith) c.skip.ensures.means c.write.ensures.means (body.means f (omega arith)) word.means (c.in_err-whole.ensures.means f (omega arith)) stay)

pub repeat_until-returns-clause-means : goal.repeat_until-returns-clause-means
repeat_until-returns-clause-means t c = λ f h.
    let body = c.in_ok-list.ensures in
    let word = c.in_ok-take.ensures in
    let first = c.in_ok-whole.ensures in
    repeat_until_means (omega arith) c.skip.ensures.means c.write.ensures.means (body.means f (omega arith)) word.means (first.means f (omega arith)) c.take-2.ensures.means

pub element-returns-in_err-statement-clause-means : goal.element-returns-in_err-statement-clause-means
element-returns-in_err-statement-clause-means t c = λ f h.
    refused _ _ _ c.from_residual.ensures.1
    (element-statement-means f _ _ (omega arith) c.if-is_at.ensures (c.in_err-statement.ensures.means f (omega arith)) stay)

pub element-returns-clause-means : goal.element-returns-clause-means
element-returns-clause-means t c = λ f h.
    let one = c.in_ok-statement.ensures in
    element-statement-means f _ _ (omega arith) c.if-is_at.ensures (one.means f (omega arith)) c.take.ensures.means

pub otherwise-returns-then-is_at-clause-means : goal.otherwise-returns-then-is_at-clause-means
otherwise-returns-then-is_at-clause-means t c = λ f h.
    otherwise_else_means _ f _ _ (omega arith) c.if-is_at.ensures.0 c.skip.ensures.means c.write.ensures.means (c.list.ensures.means f (omega arith))

pub otherwise-returns-clause-means : goal.otherwise-returns-clause-means
otherwise-returns-clause-means t c = λ f h. otherwise-none-means _ f _ _ (omega arith) c.if-is_at.ensures c.write-2.ensures.means

pub branches-loop-self-init : goal.branches-loop-self-init
branches-loop-self-init t c = (search rules, branches_start _ _ _ _)

pub branches-loop-self-preserved : goal.branches-loop-self-preserved
branches-loop-self-preserved t c =
    let first = c.in_ok-branch.ensures in
    let ahead = c.loop-self-test.ensures in
    let more = c.in_ok-branch-2.ensures in
    (search rules, branches-turn _ _ (omega (arith, first)) (omega arith) c.loop-self.invariant.1 ahead.0 c.skip.ensures.means more.means (omega (arith, ahead.1)) (omega (arith, ahead.1)))

pub branches-returns-in_err-branch-clause-means : goal.branches-returns-in_err-branch-clause-means
branches-returns-in_err-branch-clause-means t c = λ f h.
    refused _ _ _ c.from_residual.ensures.1 (branches_first f _ _ (omega arith) (c.in_err-branch.ensures.means f h) stay)

pub branches-returns-in_err-branch-2-clause-means : goal.branches-returns-in_err-branch-2-clause-means
branches-returns-in_err-branch-2-clause-means t c =
    let first = c.in_ok-branch.ensures in
    let ahead = c.loop-self-test.ensures in
    let more = branches-turn _ _ (omega (arith, first)) (omega arith) c.loop-self.invariant.1 ahead.0 c.skip.ensures.means c.in_err-branch-2.ensures.means (omega (arith, ahead.1)) (omega (arith, ahead.1)) in
    λ f h. refused _ _ _ c.from_residual-in_err-branch-2.ensures.1
    (branches_first f _ _ (omega arith) (first.means f h) (branches-refused _ _ (omega (arith, first)) more f (omega arith)))

pub branches-returns-clause-means : goal.branches-returns-clause-means
branches-returns-clause-means t c = λ f h.
    let first = c.in_ok-branch.ensures in
    branches_first f _ _ (omega arith) (first.means f h)
    (branches_done _ _ (omega (arith, first)) c.loop-self.invariant.1 c.loop-self-test.ensures c.otherwise.ensures.means f (omega arith))

pub groups-loop-self-init : goal.groups-loop-self-init
groups-loop-self-init t c = (search rules, groups_start _ _ _ _)

pub groups-loop-self-preserved : goal.groups-loop-self-preserved
groups-loop-self-preserved t c =
    let first = c.in_ok-group.ensures in
    let ahead = c.loop-self-test.ensures in
    let more = c.in_ok-group-2.ensures in
    (search rules, groups-turn _ _ (omega (arith, first)) c.loop-self.invariant.1 ahead.0 more.means (omega (arith, ahead.1)))

pub groups-returns-in_err-group-clause-means : goal.groups-returns-in_err-group-clause-means
groups-returns-in_err-group-clause-means t c = λ f h.
    refused _ _ _ c.from_residual.ensures.1 (groups_first f _ _ (omega arith) (c.in_err-group.ensures.means f h) stay)

pub groups-returns-in_err-group-2-clause-means : goal.groups-returns-in_err-group-2-clause-means
groups-returns-in_err-group-2-clause-means t c =
    let first = c.in_ok-group.ensures in
    let ahead = c.loop-self-test.ensures in
    let more = groups-turn _ _ (omega (arith, first)) c.loop-self.invariant.1 ahead.0 c.in_err-group-2.ensures.means (omega (arith, ahead.1)) in
    λ f h. refused _ _ _ c.from_residual-in_err-group-2.ensures.1
    (groups_first f _ _ (omega arith) (first.means f h) (groups-refused _ _ (omega (arith, first)) more f (omega arith)))

pub groups-returns-clause-means : goal.groups-returns-clause-means
groups-returns-clause-means t c = λ f h.
    let first = c.in_ok-group.ensures in
    groups_first f _ _ (omega arith) (first.means f h)
    (groups_done _ _ (omega (arith, first)) c.loop-self.invariant.1 c.loop-self-test.ensures c.otherwise.ensures.means f (omega arith))

pub compound-returns-then-nesting-clause-means : goal.compound-returns-then-nesting-clause-means
compound-returns-then-nesting-clause-means t c = λ f h. compound-deep-means f _ _ (omega arith) (rw c.refusal.ensures refl) c.if-nesting.true

pub compound-returns-then-nesting-2-clause-means : goal.compound-returns-then-nesting-2-clause-means
compound-returns-then-nesting-2-clause-means t c = λ f h.
    compound-many-means f _ _ (omega arith) (rw c.refusal-then-nesting-2.ensures refl) c.if-nesting.false (rw c.in-For.is at c.requires.2) c.if-nesting-2.true

pub compound-returns-in-If-clause-means : goal.compound-returns-in-If-clause-means
compound-returns-in-If-clause-means t c = λ f h. compound_if_means f _ _ (omega arith) c.if-nesting.false (rw c.in-If.is at c.requires.2) (c.if_then.ensures.means f h)

pub compound-returns-in-Case-clause-means : goal.compound-returns-in-Case-clause-means
compound-returns-in-Case-clause-means t c = λ f h. compound-case-means f _ _ (omega arith) c.if-nesting.false (rw c.in-Case.is at c.requires.2) (c.case_of.ensures.means f h)

pub compound-returns-in-While-clause-means : goal.compound-returns-in-While-clause-means
compound-returns-in-While-clause-means t c = λ f h. compound_while_means f _ _ (omega arith) c.if-nesting.false (rw c.in-While.is at c.requires.2) (c.while_do.ensures.means f h)

pub compound-returns-else-nesting-2-clause-means : goal.compound-returns-else-nesting-2-clause-means
compound-returns-else-nesting-2-clause-means t c = λ f h.
    compound_for_means f _ _ (omega arith) c.if-nesting.false (rw c.in-For.is at c.requires.2) c.if-nesting-2.false (c.for_do.ensures.means f h)

pub compound-returns-in_default-clause-means : goal.compound-returns-in_default-clause-means
compound-returns-in_default-clause-means t c = λ f h.
    let other = c.in_default in
    compound-repeat-means f _ _ (omega arith) _ c.if-nesting.false c.requires.2 other.not-If other.not-Case other.not-For other.not-While (c.repeat_until.ensures.means f h)

pub statement-returns-in-Name-clause-means : goal.statement-returns-in-Name-clause-means
statement-returns-in-Name-clause-means t c = λ f h.
    statement-assignment-means f _ _ (omega arith) (omega arith) (rw c.in-Name.is at c.in_ok-kind.ensures.0.0) (λ g e. c.assignment.ensures.means g (omega arith))

pub statement-returns-in-Exit-clause-means : goal.statement-returns-in-Exit-clause-means
statement-returns-in-Exit-clause-means t c = λ f h.
    statement-exit-means f _ _ (omega arith) (omega arith) _ (ap (λ t. t.place) c.token-place.ensures) (rw c.in-Exit.is at c.in_ok-kind.ensures.0.0) c.skip.ensures.means
    c.write.ensures.means

pub statement-returns-in_default-clause-means : goal.statement-returns-in_default-clause-means
statement-returns-in_default-clause-means t c = λ f h.
    let other = c.in_default in
    statement-compound-means f _ _ (omega arith) (omega arith) _ c.in_ok-kind.ensures.0.0 other.not-Name other.not-Exit (λ g e. c.compound.ensures.means g (omega arith))

pub element-returns-then-is_at-clause-means : goal.element-returns-then-is_at-clause-means
element-returns-then-is_at-clause-means t c = λ f h. element_semi_means f _ _ (omega arith) c.if-is_at.ensures.0 c.skip.ensures.means

pub list-loop-nesting-init : goal.list-loop-nesting-init
list-loop-nesting-init t c = (search rules, list_start _ _ _ _)

pub list-loop-nesting-preserved : goal.list-loop-nesting-preserved
list-loop-nesting-preserved t c =
    let ahead = c.loop-nesting-test.ensures in
    let more = c.in_ok-element.ensures in
    (search rules, list-turn _ _ (omega arith) c.loop-nesting.invariant.1 ahead.0 more.means (omega (arith, ahead.1)))

pub list-returns-in_err-element-clause-means : goal.list-returns-in_err-element-clause-means
list-returns-in_err-element-clause-means t c =
    let ahead = c.loop-nesting-test.ensures in
    let more = list-turn _ _ (omega arith) c.loop-nesting.invariant.1 ahead.0 c.in_err-element.ensures.means (omega (arith, ahead.1)) in
    λ f h. refused _ _ _ c.from_residual.ensures.1 (list-refused _ _ (omega arith) more f h)

pub list-returns-clause-means : goal.list-returns-clause-means
list-returns-clause-means t c = list_done _ _ (omega arith) c.loop-nesting.invariant.1 c.loop-nesting-test.ensures c.write.ensures.means
