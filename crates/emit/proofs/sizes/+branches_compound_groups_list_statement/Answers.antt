use mathlib.Core.Path.{refl, sym, ap, ◌∙◌}
use native.Mathlib.Omega.{arith}
use Rattle.std.proofs.lemmas.Bool.{eqb-true, eqb-false}
use Rattle.rules.specs.Kinds.{FINISH, ELSE, THEN, ASSIGN, EXIT}
use Rattle.rules.specs.declared.kinds.Kind.TheVariants.{If, Case, For, While}
use Rattle.emit.proofs.KindTests.{of_kind, not_kind, no_kind}
use Rattle.emit.proofs.Readers.{stayed, taken, tag_of, seen, unseen, held_read, labels_read, statement_read, compound_read, list_read, branches_read, groups_read}
use Rattle.emit.proofs.SizeSums.{fewer}
use Rattle.emit.proofs.SizeLists.{list_start, list-turn, list_done, branches_start, branch-moves, branches-turn, branches_else, branches_done, groups_start, label-ahead, group-moves, groups-turn, groups_done}
use Rattle.emit.proofs.SizeStatements.{assign-does, exit-does, none_left, compound-does, if_does, case-does, for_does, while_does, repeat-does, unknown-does}
use Rattle.emit.proofs.sizes.+branches_compound_groups_list_statement.Goals as goal

-- IF's branches

pub branches-loop-from-init : goal.branches-loop-from-init
branches-loop-from-init t c = record { same = refl; reads = branches_start _ _ _ }

pub branches-loop-from-smaller : goal.branches-loop-from-smaller
branches-loop-from-smaller t c =
    let then = c.in-Some.ensures.takes in
    let a = c.next_if.ensures.same in
    let b = c.held.ensures.same ∙ a in
    let k = eqb-true _ THEN then.0 in
    rw (c.list.ensures.same ∙ b) (fewer _ _ _ refl (λ e. omega arith) (branch-moves _ then.2 (held_read a c.held.ensures) (list_read b c.list.ensures)))

pub branches-loop-from-preserved : goal.branches-loop-from-preserved
branches-loop-from-preserved t c =
    let e = c.loop-from.invariant.same in
    let then = rw e at c.in-Some.ensures.takes in
    let a = c.next_if.ensures.same ∙ e in
    let b = c.held.ensures.same ∙ a in
    let d = c.list.ensures.same ∙ b in
    record {
      same = d;
      reads = branches-turn c.loop-from.invariant.reads refl (eqb-true _ THEN then.0) then.2 (held_read a c.held.ensures) (list_read b c.list.ensures)
          c.add.ensures c.add-in-Some.ensures c.add-in-Some-2.ensures (rw d at c.jump_size.ensures) c.add-size.ensures;
    }

pub branches-returns-then-is : goal.branches-returns-then-is
branches-returns-then-is t c =
    let e = c.loop-from.invariant.same in
    let stays = rw e at c.in_default.ensures.takes in
    let a = c.next_if.ensures.same ∙ e in
    let b = c.read.ensures.same ∙ a in
    let d = branches_else c.loop-from.invariant.reads (ap (λ c. c.tag) (rw (a, stays.1) at c.read.ensures.gives)) (eqb-true _ ELSE (sym c.is.ensures ∙ c.if-is.true))
    (rw (a, stays.1) at c.read.ensures.moves) (list_read b c.list-then-is.ensures) c.add-then-is.ensures in
    record { same = c.list-then-is.ensures.same ∙ b; fine = d.fine; means = d.means }

pub branches-returns-else-is : goal.branches-returns-else-is
branches-returns-else-is t c =
    let e = c.loop-from.invariant.same in
    let stays = rw e at c.in_default.ensures.takes in
    let a = c.next_if.ensures.same ∙ e in
    let d = branches_done c.loop-from.invariant.reads refl (eqb-false _ THEN stays.0) (ap (λ c. c.tag) (rw (a, stays.1) at c.read.ensures.gives))
    (eqb-false _ ELSE (sym c.is.ensures ∙ c.if-is.false)) (rw (a, stays.1) at c.read.ensures.moves) in
    record { same = c.read.ensures.same ∙ a; fine = d.fine; means = d.means }

-- IF, CASE and loops

pub compound-returns-in-If : goal.compound-returns-in-If
compound-returns-in-If t c =
    let a = c.read.ensures in
    let d = if_does (ap (λ c. c.tag) a.gives) (of_kind c.kind.ensures c.in-Ok.is If c.in-If.is) a.moves (branches_read a.same c.branches.ensures) c.add.ensures in
    record { same = c.branches.ensures.same ∙ a.same; fine = d.fine; means = d.means }

pub compound-returns-in-Case : goal.compound-returns-in-Case
compound-returns-in-Case t c =
    let a = c.read.ensures in
    let b = c.held.ensures.same ∙ a.same in
    let d = case-does (ap (λ c. c.tag) a.gives) (of_kind c.kind.ensures c.in-Ok.is Case c.in-Case.is) a.moves (held_read a.same c.held.ensures) (groups_read b c.groups.ensures)
    c.add-in-Case.ensures c.add-in-Case-2.ensures in
    record { same = c.groups.ensures.same ∙ b; fine = d.fine; means = d.means }

pub compound-returns-in-For : goal.compound-returns-in-For
compound-returns-in-For t c =
    let a = c.read.ensures in
    let b = c.held-in-For.ensures.same ∙ a.same in
    let e = c.held-in-For-2.ensures.same ∙ b in
    let f = c.read-in-For.ensures.same ∙ e in
    let d = for_does (ap (λ c. c.tag) a.gives) (of_kind c.kind.ensures c.in-Ok.is For c.in-For.is) a.moves (held_read a.same c.held-in-For.ensures) (held_read b c.held-in-For-2.ensures)
    (rw e at c.read-in-For.ensures.moves) (list_read f c.list.ensures) c.add-bounds.ensures c.add-in-For.ensures c.add-in-For-2.ensures in
    record { same = c.list.ensures.same ∙ f; fine = d.fine; means = d.means }

pub compound-returns-in-While : goal.compound-returns-in-While
compound-returns-in-While t c =
    let a = c.read.ensures in
    let b = c.held-in-While.ensures.same ∙ a.same in
    let d = while_does (ap (λ c. c.tag) a.gives) (of_kind c.kind.ensures c.in-Ok.is While c.in-While.is) a.moves (held_read a.same c.held-in-While.ensures) (list_read b c.list-in-While.ensures)
    c.add-in-While.ensures c.add-in-While-2.ensures in
    record { same = c.list-in-While.ensures.same ∙ b; fine = d.fine; means = d.means }

pub compound-returns-in_default-kind : goal.compound-returns-in_default-kind
compound-returns-in_default-kind t c =
    let a = c.read.ensures in
    let b = c.list-in_default-kind.ensures.same ∙ a.same in
    let other = not_kind c.kind.ensures c.in-Ok.is in
    let no = c.in_default-kind in
    let d = repeat-does (ap (λ c. c.tag) a.gives) (other If no.not-If) (other Case no.not-Case) (other For no.not-For) (other While no.not-While) a.moves
    (list_read a.same c.list-in_default-kind.ensures) (held_read b c.held-in_default-kind.ensures) c.add-in_default-kind.ensures c.add-in_default-kind-2.ensures in
    record { same = c.held-in_default-kind.ensures.same ∙ b; fine = d.fine; means = d.means }

pub compound-returns-in_default : goal.compound-returns-in_default
compound-returns-in_default t c =
    let a = c.read.ensures in
    let d = unknown-does (ap (λ c. c.tag) a.gives) (no_kind c.kind.ensures c.in_default.is) a.moves in
    record { same = a.same; fine = d.fine; means = d.means }

-- CASE's groups

pub groups-loop-from-init : goal.groups-loop-from-init
groups-loop-from-init t c = record { same = refl; reads = groups_start _ _ _ }

pub groups-loop-from-smaller : goal.groups-loop-from-smaller
groups-loop-from-smaller t c =
    let a = c.labels.ensures.same in
    rw (c.list.ensures.same ∙ a) (fewer _ _ _ (ap (λ c. c.tag) c.cell.ensures) (label-ahead c.is_label.ensures c.loop-from-test.true)
    (group-moves (labels_read refl c.labels.ensures) (list_read a c.list.ensures)))

pub groups-loop-from-preserved : goal.groups-loop-from-preserved
groups-loop-from-preserved t c =
    let e = c.loop-from.invariant.same in
    let a = c.labels.ensures.same ∙ e in
    record {
      same = c.list.ensures.same ∙ a;
      reads = groups-turn c.loop-from.invariant.reads (tag_of e _ c.cell.ensures) c.is_label.ensures c.loop-from-test.true (labels_read e c.labels.ensures) (list_read a c.list.ensures)
          c.add.ensures c.add-in-loop-from.ensures c.add-in-loop-from-2.ensures c.add-size.ensures;
    }

pub groups-returns : goal.groups-returns
groups-returns t c =
    let e = c.loop-from.invariant.same in
    let d = groups_done c.loop-from.invariant.reads (tag_of e _ c.cell.ensures) c.is_label.ensures c.loop-from-test.false (list_read e c.list-2.ensures) c.add-2.ensures c.add-3.ensures in
    record { same = c.list-2.ensures.same ∙ e; fine = d.fine; means = d.means }

-- A list

pub list-loop-from-init : goal.list-loop-from-init
list-loop-from-init t c = record { same = refl; reads = list_start _ _ _ }

pub list-loop-from-smaller : goal.list-loop-from-smaller
list-loop-from-smaller t c =
    let stays = stayed _ _ _ c.next_if.ensures.takes c.is_none.ensures c.loop-from-test.true in
    rw (c.statement.ensures.same ∙ c.next_if.ensures.same)
    (fewer _ _ _ refl (eqb-false _ FINISH stays.0) (rw stays.1 at (statement_read c.next_if.ensures.same c.statement.ensures).fine))

pub list-loop-from-preserved : goal.list-loop-from-preserved
list-loop-from-preserved t c =
    let e = c.loop-from.invariant.same in
    let stays = rw e at (stayed _ _ _ c.next_if.ensures.takes c.is_none.ensures c.loop-from-test.true) in
    let a = c.next_if.ensures.same ∙ e in
    record {
      same = c.statement.ensures.same ∙ a;
      reads = list-turn c.loop-from.invariant.reads refl (eqb-false _ FINISH stays.0) (rw stays.1 at (statement_read a c.statement.ensures)) c.add-size.ensures;
    }

pub list-returns : goal.list-returns
list-returns t c =
    let e = c.loop-from.invariant.same in
    let took = rw e at (taken _ _ _ c.next_if.ensures.takes c.is_none.ensures c.loop-from-test.false) in
    let d = list_done c.loop-from.invariant.reads refl (eqb-true _ FINISH took.0) took.1 in
    record { same = c.next_if.ensures.same ∙ e; fine = d.fine; means = d.means }

-- A statement

pub statement-returns-then-is_at : goal.statement-returns-then-is_at
statement-returns-then-is_at t c =
    let a = c.read.ensures in
    let d = assign-does refl (seen refl _ ASSIGN c.is_at.ensures c.if-is_at.true) a.moves (held_read a.same c.held.ensures) c.add.ensures in
    record { same = c.held.ensures.same ∙ a.same; fine = d.fine; means = d.means }

pub statement-returns-then-is_at-2 : goal.statement-returns-then-is_at-2
statement-returns-then-is_at-2 t c =
    let a = c.read-then-is_at-2.ensures in
    let d = exit-does refl (seen refl _ EXIT c.is_at-else-is_at.ensures c.if-is_at-2.true) a.moves in
    record { same = a.same; fine = d.fine; means = d.means }

pub statement-returns-then-levels-eq0 : goal.statement-returns-then-levels-eq0
statement-returns-then-levels-eq0 t c =
    let a = c.read-then-levels-eq0.ensures in
    let d = none_left refl (unseen refl _ ASSIGN c.is_at.ensures c.if-is_at.false) (unseen refl _ EXIT c.is_at-else-is_at.ensures c.if-is_at-2.false) c.if-levels-eq0.true a.moves in
    record { same = a.same; fine = d.fine; means = d.means }

pub statement-returns-else-levels-eq0 : goal.statement-returns-else-levels-eq0
statement-returns-else-levels-eq0 t c =
    let d = compound-does refl (unseen refl _ ASSIGN c.is_at.ensures c.if-is_at.false) (unseen refl _ EXIT c.is_at-else-is_at.ensures c.if-is_at-2.false) (omega arith) (compound_read refl c.compound.ensures) in
    record { same = c.compound.ensures.same; fine = d.fine; means = d.means }
