use mathlib.Core.Path.{refl, sym, ap, ◌∙◌}
use native.Mathlib.Omega.{arith}
use Rattle.std.proofs.lemmas.Bool.{eqb-true, eqb-false}
use Rattle.rules.specs.Kinds.{FINISH, ELSE, THEN}
use Rattle.rules.specs.KindNumbers.{kind_number}
use Rattle.rules.proofs.KindLaws.{one_kind}
use Rattle.rules.specs.declared.kinds.Kind.TheVariants.{If, Case, For, While, Assign, Exit}
use Rattle.emit.proofs.KindTests.{of_kind, not_kind, no_kind}
use Rattle.emit.proofs.Readers.{tag_of, stayed, taken, held_read, list_read, labels_ahead, list_ahead, branches_ahead, groups_ahead}
use Rattle.emit.proofs.SizeSums.{fewer}
use Rattle.emit.proofs.PartsDone.{held_did, labels_did, statement_did, list_did, branches_did, groups_did, compound_did}
use Rattle.emit.proofs.LoopCodes.{for_code, while_code, repeat-code}
use Rattle.emit.proofs.StatementCodes.{assign-code, exit-code, compound-code, deep-code, if_code, case-code, for_arm, while_arm, repeat-arm, unknown-code}
use Rattle.emit.proofs.CodeTurns.{turned_none, turned_on, turned_done, list-turn, list_last, leapt-jump, leapt-none, branch_less, branch-turn, else_last, none_last, group_less, group-turn, other_last}
use Rattle.emit.proofs.codes.Code.+branches_compound_for_loop_groups_list_repeat_loop_statement_while_loop.Goals as goal

-- IF's branches and ELSE

pub branches-loop-self-init : goal.branches-loop-self-init
branches-loop-self-init t c = record { same = refl; core = refl; turned = turned_none _ _ }

pub branches-loop-self-smaller-then-leap-eq3 : goal.branches-loop-self-smaller-then-leap-eq3
branches-loop-self-smaller-then-leap-eq3 t c =
    let then = c.in-Some.ensures.takes in
    let a = c.next_if.ensures.same in
    let b = c.held.ensures.writes.core ∙ a in
    rw (c.list.ensures.writes.core ∙ b) (branch_less _ _ _ _ refl (eqb-true _ THEN then.0) then.2 (held_did c.held.ensures.writes a).fine (list_did c.list.ensures.writes b).fine)

pub branches-loop-self-preserved-then-leap-eq3 : goal.branches-loop-self-preserved-then-leap-eq3
branches-loop-self-preserved-then-leap-eq3 t c =
    let i = c.loop-self.invariant in
    let then = rw i.core at c.in-Some.ensures.takes in
    let a = c.next_if.ensures.same ∙ i.core in
    let b = c.held.ensures.writes.core ∙ a in
    let d = c.list.ensures.writes.core ∙ b in
    record {
      same = c.jump-then-leap-eq3.ensures.same ∙ c.list.ensures.same ∙ c.jump.ensures.same ∙ c.held.ensures.same ∙ i.same;
      core = d;
      turned = turned_on i.turned (branch-turn refl (eqb-true _ THEN then.0) then.2 (held_did c.held.ensures.writes a) (list_read b c.list-size.ensures)
          (rw (c.list-size.ensures.same ∙ b) at c.jump_size-leap.ensures) c.add.ensures c.add-in-Some.ensures c.ahead-other.ensures c.jump.ensures.puts (list_did c.list.ensures.writes b)
          (leapt-jump c.if-leap-eq3.true c.jump-then-leap-eq3.ensures.puts));
    }

pub branches-loop-self-smaller : goal.branches-loop-self-smaller
branches-loop-self-smaller t c =
    let then = c.in-Some.ensures.takes in
    let a = c.next_if.ensures.same in
    let b = c.held.ensures.writes.core ∙ a in
    rw (c.list.ensures.writes.core ∙ b) (branch_less _ _ _ _ refl (eqb-true _ THEN then.0) then.2 (held_did c.held.ensures.writes a).fine (list_did c.list.ensures.writes b).fine)

pub branches-loop-self-preserved : goal.branches-loop-self-preserved
branches-loop-self-preserved t c =
    let i = c.loop-self.invariant in
    let then = rw i.core at c.in-Some.ensures.takes in
    let a = c.next_if.ensures.same ∙ i.core in
    let b = c.held.ensures.writes.core ∙ a in
    let d = c.list.ensures.writes.core ∙ b in
    record {
      same = c.list.ensures.same ∙ c.jump.ensures.same ∙ c.held.ensures.same ∙ i.same;
      core = d;
      turned = turned_on i.turned (branch-turn refl (eqb-true _ THEN then.0) then.2 (held_did c.held.ensures.writes a) (list_read b c.list-size.ensures)
          (rw (c.list-size.ensures.same ∙ b) at c.jump_size-leap.ensures) c.add.ensures c.add-in-Some.ensures c.ahead-other.ensures c.jump.ensures.puts (list_did c.list.ensures.writes b)
          (leapt-none c.if-leap-eq3.false));
    }

pub branches-returns-then-is-clause-writes : goal.branches-returns-then-is-clause-writes
branches-returns-then-is-clause-writes t c =
    let i = c.loop-self.invariant in
    let stays = rw i.core at c.in_default.ensures.takes in
    let a = c.next_if.ensures.same ∙ i.core in
    let b = c.read.ensures.same ∙ a in
    let d = turned_done i.turned (else_last (ap (λ c. c.tag) (rw (a, stays.1) at c.read.ensures.gives)) (eqb-true _ ELSE (sym c.is.ensures ∙ c.if-is.true))
    (rw (a, stays.1) at c.read.ensures.moves) (list_did c.list-then-is.ensures.writes b)) in
    record { core = c.list-then-is.ensures.writes.core ∙ b; fine = d.fine; means = d.means }

pub branches-returns-else-is-clause-writes : goal.branches-returns-else-is-clause-writes
branches-returns-else-is-clause-writes t c =
    let i = c.loop-self.invariant in
    let stays = rw i.core at c.in_default.ensures.takes in
    let a = c.next_if.ensures.same ∙ i.core in
    let d = turned_done i.turned (none_last refl (eqb-false _ THEN stays.0) (ap (λ c. c.tag) (rw (a, stays.1) at c.read.ensures.gives))
    (eqb-false _ ELSE (sym c.is.ensures ∙ c.if-is.false)) (rw (a, stays.1) at c.read.ensures.moves)) in
    record { core = c.read.ensures.same ∙ a; fine = d.fine; means = d.means }

-- IF, CASE and loops

pub compound-returns-in-If-clause-writes : goal.compound-returns-in-If-clause-writes
compound-returns-in-If-clause-writes t c =
    let w = c.branches.ensures.writes in
    let d = if_code _ (ap kind_number c.in-If.is) (branches_ahead refl c.branches_ahead-size.ensures) c.ahead-end.ensures (branches_did w refl) in
    record { core = w.core; fine = d.fine; means = d.means }

pub compound-returns-in-Case-clause-writes : goal.compound-returns-in-Case-clause-writes
compound-returns-in-Case-clause-writes t c =
    let h = c.held.ensures.writes in
    let w = c.groups.ensures.writes in
    let d = case-code _ (ap kind_number c.in-Case.is) (held_did h refl) (groups_ahead h.core c.groups_ahead-size.ensures) c.ahead-end-in-Case.ensures (groups_did w h.core) in
    record { core = w.core ∙ h.core; fine = d.fine; means = d.means }

pub compound-returns-in-For-clause-writes : goal.compound-returns-in-For-clause-writes
compound-returns-in-For-clause-writes t c =
    let w = c.for_loop.ensures.writes in
    let d = for_arm _ (ap kind_number c.in-For.is) (record { fine = w.fine; means = w.means }) in
    record { core = w.core; fine = d.fine; means = d.means }

pub compound-returns-in-While-clause-writes : goal.compound-returns-in-While-clause-writes
compound-returns-in-While-clause-writes t c =
    let w = c.while_loop.ensures.writes in
    let d = while_arm _ (ap kind_number c.in-While.is) (record { fine = w.fine; means = w.means }) in
    record { core = w.core; fine = d.fine; means = d.means }

pub compound-returns-in_default-clause-writes : goal.compound-returns-in_default-clause-writes
compound-returns-in_default-clause-writes t c =
    let w = c.repeat_loop.ensures.writes in
    let no = c.in_default in
    let d = repeat-arm _ (λ e. no.not-If (one_kind _ If e)) (λ e. no.not-Case (one_kind _ Case e)) (λ e. no.not-For (one_kind _ For e)) (λ e. no.not-While (one_kind _ While e))
    (record { fine = w.fine; means = w.means }) in
    record { core = w.core; fine = d.fine; means = d.means }

-- FOR

pub for_loop-returns-clause-writes : goal.for_loop-returns-clause-writes
for_loop-returns-clause-writes t c =
    let a = c.held.ensures.writes.core in
    let b = c.held-2.ensures.writes.core ∙ a in
    let e = c.read-by.ensures.same ∙ b in
    let d = for_code _ (held_did c.held.ensures.writes refl) (held_did c.held-2.ensures.writes a) (rw b at c.read-by.ensures.gives) (rw b at c.read-by.ensures.moves) (list_ahead e c.list_ahead-size.ensures)
    c.ahead-top.ensures c.add.ensures c.ahead-end.ensures c.with_slot.ensures.puts c.with_slot-2.ensures.puts c.turn.ensures.puts c.alone.ensures.puts c.saturating_add.ensures
    (list_did c.list.ensures.writes e) c.turn-2.ensures.puts in
    record { core = c.list.ensures.writes.core ∙ e; fine = d.fine; means = d.means }

-- CASE's groups and ELSE

pub groups-loop-tests-init : goal.groups-loop-tests-init
groups-loop-tests-init t c = record { same = refl; core = refl; turned = turned_none _ _ }

pub groups-loop-tests-smaller : goal.groups-loop-tests-smaller
groups-loop-tests-smaller t c =
    let b = c.labels.ensures.writes.core in
    rw (c.list.ensures.writes.core ∙ b) (group_less _ _ _ _ (ap (λ c. c.tag) c.cell.ensures) c.is_label.ensures c.loop-tests-test.true c.labels.ensures.writes.fine (list_did c.list.ensures.writes b).fine)

pub groups-loop-tests-preserved : goal.groups-loop-tests-preserved
groups-loop-tests-preserved t c =
    let i = c.loop-tests.invariant in
    let b = c.labels.ensures.writes.core ∙ i.core in
    record {
      same = c.jump-in-loop-tests.ensures.same ∙ c.list.ensures.same ∙ c.alone.ensures.same ∙ c.jump.ensures.same ∙ c.labels.ensures.same ∙ i.same;
      core = c.list.ensures.writes.core ∙ b;
      turned = turned_on i.turned (group-turn (tag_of i.core _ c.cell.ensures) c.is_label.ensures c.loop-tests-test.true (labels_ahead i.core c.labels_ahead-tests.ensures) c.add.ensures c.ahead-body.ensures
          (labels_did c.labels.ensures.writes i.core) (list_ahead b c.list_ahead-size.ensures) c.add-in-loop-tests.ensures c.ahead-other.ensures c.jump.ensures.puts c.alone.ensures.puts
          (list_did c.list.ensures.writes b) c.jump-in-loop-tests.ensures.puts);
    }

pub groups-returns-clause-writes : goal.groups-returns-clause-writes
groups-returns-clause-writes t c =
    let i = c.loop-tests.invariant in
    let w = c.list-2.ensures.writes in
    let d = turned_done i.turned (other_last (tag_of i.core _ c.cell.ensures) c.is_label.ensures c.loop-tests-test.false c.alone-2.ensures.puts (list_did w i.core)) in
    record { core = w.core ∙ i.core; fine = d.fine; means = d.means }

-- A list of statements

pub list-loop-around-init : goal.list-loop-around-init
list-loop-around-init t c = record { same = refl; core = refl; turned = turned_none _ _ }

pub list-loop-around-smaller : goal.list-loop-around-smaller
list-loop-around-smaller t c =
    let stays = stayed _ _ _ c.next_if.ensures.takes c.is_none.ensures c.loop-around-test.true in
    rw (c.statement.ensures.writes.core ∙ c.next_if.ensures.same)
    (fewer _ _ _ refl (eqb-false _ FINISH stays.0) (rw stays.1 at (statement_did c.statement.ensures.writes c.next_if.ensures.same).fine))

pub list-loop-around-preserved : goal.list-loop-around-preserved
list-loop-around-preserved t c =
    let i = c.loop-around.invariant in
    let stays = rw i.core at (stayed _ _ _ c.next_if.ensures.takes c.is_none.ensures c.loop-around-test.true) in
    let a = c.next_if.ensures.same ∙ i.core in
    record {
      same = c.statement.ensures.same ∙ i.same;
      core = c.statement.ensures.writes.core ∙ a;
      turned = turned_on i.turned (list-turn refl (eqb-false _ FINISH stays.0) (rw stays.1 at (statement_did c.statement.ensures.writes a)));
    }

pub list-returns-clause-writes : goal.list-returns-clause-writes
list-returns-clause-writes t c =
    let i = c.loop-around.invariant in
    let took = rw i.core at (taken _ _ _ c.next_if.ensures.takes c.is_none.ensures c.loop-around-test.false) in
    let d = turned_done i.turned (list_last refl (eqb-true _ FINISH took.0) took.1) in
    record { core = c.next_if.ensures.same ∙ i.core; fine = d.fine; means = d.means }

-- REPEAT

pub repeat_loop-returns-clause-writes : goal.repeat_loop-returns-clause-writes
repeat_loop-returns-clause-writes t c =
    let l = c.list.ensures.writes in
    let h = c.held.ensures.writes in
    let d = repeat-code _ (list_read refl c.list-size.ensures) (held_read c.list-size.ensures.same c.held-test.ensures) c.add.ensures c.add-2.ensures c.ahead-exit.ensures
    (list_did l refl) (held_did h l.core) c.jump.ensures.puts in
    record { core = h.core ∙ l.core; fine = d.fine; means = d.means }

-- A statement

pub statement-returns-in-Assign-clause-writes : goal.statement-returns-in-Assign-clause-writes
statement-returns-in-Assign-clause-writes t c =
    let a = c.read-head.ensures in
    let w = c.held.ensures.writes in
    let d = assign-code a.gives a.moves c.alone.ensures.puts (of_kind c.kind.ensures c.in-Ok.is Assign c.in-Assign.is) (held_did w a.same) c.with_slot.ensures.puts in
    record { core = w.core ∙ a.same; fine = d.fine; means = d.means }

pub statement-returns-in-Exit-clause-writes : goal.statement-returns-in-Exit-clause-writes
statement-returns-in-Exit-clause-writes t c =
    let a = c.read-head.ensures in
    let d = exit-code a.gives a.moves c.alone.ensures.puts (of_kind c.kind.ensures c.in-Ok.is Exit c.in-Exit.is) c.jump.ensures.puts in
    record { core = a.same; fine = d.fine; means = d.means }

pub statement-returns-then-around-gt0-clause-writes : goal.statement-returns-then-around-gt0-clause-writes
statement-returns-then-around-gt0-clause-writes t c =
    let a = c.read-head.ensures in
    let w = c.compound.ensures.writes in
    let other = not_kind c.kind.ensures c.in-Ok.is in
    let no = c.in_default-kind in
    let d = compound-code a.gives a.moves c.alone.ensures.puts (other Assign no.not-Assign) (other Exit no.not-Exit) (λ e. omega arith) refl c.in-Ok.ensures (compound_did _ w a.same) in
    record { core = w.core ∙ a.same; fine = d.fine; means = d.means }

pub statement-returns-else-around-gt0-clause-writes : goal.statement-returns-else-around-gt0-clause-writes
statement-returns-else-around-gt0-clause-writes t c =
    let a = c.read-head.ensures in
    let other = not_kind c.kind.ensures c.in-Ok.is in
    let no = c.in_default-kind in
    let d = deep-code a.gives a.moves c.alone.ensures.puts (other Assign no.not-Assign) (other Exit no.not-Exit) (omega arith) in
    record { core = a.same; fine = d.fine; means = d.means }

pub statement-returns-in_default-clause-writes : goal.statement-returns-in_default-clause-writes
statement-returns-in_default-clause-writes t c =
    let a = c.read-head.ensures in
    let d = unknown-code a.gives a.moves c.alone.ensures.puts (no_kind c.kind.ensures c.in_default.is) in
    record { core = a.same; fine = d.fine; means = d.means }

-- WHILE

pub while_loop-returns-clause-writes : goal.while_loop-returns-clause-writes
while_loop-returns-clause-writes t c =
    let h = c.held.ensures.writes in
    let l = c.list.ensures.writes in
    let d = while_code _ (held_did h refl) (list_ahead h.core c.list_ahead-size.ensures) c.add.ensures c.ahead-exit.ensures c.jump.ensures.puts (list_did l h.core) c.jump-2.ensures.puts in
    record { core = l.core ∙ h.core; fine = d.fine; means = d.means }
