use Rattle.std.proofs.Common.{refl, sym, ap, ◌∙◌, arith}
use Rattle.rules.specs.KindNumbers.{kind_number}
use Rattle.rules.specs.declared.kinds.Kind.TheVariants.{If, Case, For, While, Assign, Exit}
use Rattle.rules.proofs.KindLaws.{one_kind}
use Rattle.std.proofs.lemmas.Bool.{eqb-true, eqb-false}
use Rattle.cells.specs.Runs.{reads_on}
use Rattle.figures.specs.Parts.{part}
use Rattle.figures.proofs.Moving.{past, room, is_tag, is_other}
use Rattle.figures.proofs.Closings.{past_labels}
use Rattle.figures.proofs.Tags.{tagged_as, no_unknown, label-has-tag}
use Rattle.figures.proofs.EachKind.{nested, only_repeat, assign_is, exit_is, if_is, case_is, while_is, repeat_is, for_means, for_is}
use Rattle.figures.proofs.Loops.{list_start, list-turn, list_done, branches_start, branches-turn, branches_last, branches_done, groups_start, groups-turn, groups_done}
use Rattle.figures.proofs.statements.+branches_compound_for_loop_groups_list_statement.Goals as goal

-- IF's branches, and ELSE

pub branches-loop-reader-init : goal.branches-loop-reader-init
branches-loop-reader-init t c = record { same = refl; goes_on = omega arith; means = branches_start c.default-all.ensures.0 c.default-all.ensures.1 }

pub branches-loop-reader-smaller : goal.branches-loop-reader-smaller
branches-loop-reader-smaller t c =
    let s0 = c.loop-reader.invariant.same in
    let s1 = c.read.ensures.same ∙ s0 in
    let s2 = c.held-condition.ensures.same ∙ s1 in
    omega (
      arith,
      room _ _ (is_tag _ s0 c.is_at.ensures c.loop-reader-test.true) (λ z. omega arith),
      past _ _ (rw s0 at c.read.ensures.moves),
      rw s1 at c.held-condition.ensures.fine,
      rw s2 at c.list.ensures.fine,
    )

pub branches-loop-reader-preserved : goal.branches-loop-reader-preserved
branches-loop-reader-preserved t c =
    let s0 = c.loop-reader.invariant.same in
    let s1 = c.read.ensures.same ∙ s0 in
    let s2 = c.held-condition.ensures.same ∙ s1 in
    record {
      same = c.list.ensures.same ∙ s2;
      goes_on = omega (
        arith,
        c.loop-reader.invariant.goes_on,
        past _ _ (rw s0 at c.read.ensures.moves),
        rw s1 at c.held-condition.ensures.fine,
        rw s2 at c.list.ensures.fine,
      );
      means = branches-turn {f = part c.loop-reader.reader.at c.loop-reader.all} refl c.loop-reader.invariant.means (is_tag _ s0 c.is_at.ensures c.loop-reader-test.true)
          (rw s0 at c.read.ensures.moves) (rw s1 at c.held-condition.ensures.means) (rw s2 at c.list.ensures.means) refl
          (ap (part c.list.new.reader.at) (rw c.holding.ensures at c.or-all.ensures));
    }

pub branches-returns-then-is-clause-fine : goal.branches-returns-then-is-clause-fine
branches-returns-then-is-clause-fine t c =
    let s0 = c.loop-reader.invariant.same in
    omega (arith, c.loop-reader.invariant.goes_on, past _ _ (rw s0 at c.read-2.ensures.moves), rw (c.read-2.ensures.same ∙ s0) at c.list-then-is.ensures.fine)

pub branches-returns-then-is-clause-means : goal.branches-returns-then-is-clause-means
branches-returns-then-is-clause-means t c =
    let s0 = c.loop-reader.invariant.same in
    branches_last {f = part c.loop-reader.reader.at c.loop-reader.all} (ap (λ x. x.tag) (rw s0 at c.read-2.ensures.gives)) c.loop-reader.invariant.means
    (eqb-true _ _ (sym c.is.ensures ∙ c.if-is.true)) (rw s0 at c.read-2.ensures.moves) (rw (c.read-2.ensures.same ∙ s0) at c.list-then-is.ensures.means)
    (ap (part c.list-then-is.new.reader.at) c.or-all-then-is.ensures)

pub branches-returns-else-is-clause-fine : goal.branches-returns-else-is-clause-fine
branches-returns-else-is-clause-fine t c = omega (arith, c.loop-reader.invariant.goes_on, past _ _ (rw c.loop-reader.invariant.same at c.read-2.ensures.moves))

pub branches-returns-else-is-clause-means : goal.branches-returns-else-is-clause-means
branches-returns-else-is-clause-means t c =
    let s0 = c.loop-reader.invariant.same in
    let q = ap (λ x. x.tag) (rw s0 at c.read-2.ensures.gives) in
    branches_done {f = part c.loop-reader.reader.at c.loop-reader.all} q c.loop-reader.invariant.means (λ e. is_other _ s0 c.is_at.ensures c.loop-reader-test.false (sym q ∙ e))
    (eqb-false _ _ (sym c.is.ensures ∙ c.if-is.false)) (rw s0 at c.read-2.ensures.moves)

-- IF, CASE and loops

pub compound-returns-in-If-clause-means : goal.compound-returns-in-If-clause-means
compound-returns-in-If-clause-means t c =
    λ at x p q o y n i. rw c.then.ensures (if_is p (tagged_as q (ap kind_number c.in-If.is) x y) c.branches.ensures.means refl y n i)

pub compound-returns-in-Case-clause-means : goal.compound-returns-in-Case-clause-means
compound-returns-in-Case-clause-means t c =
    λ at x p q o y n i. rw (c.then-in-Case.ensures, c.holding.ensures)
    (case_is p (tagged_as q (ap kind_number c.in-Case.is) x y) c.held-selector.ensures.means (rw c.held-selector.ensures.same at c.groups.ensures.means) c.max.ensures refl refl y n i)

pub compound-returns-in-For-clause-means : goal.compound-returns-in-For-clause-means
compound-returns-in-For-clause-means t c = λ at x p q o y n i. for_is p (tagged_as q (ap kind_number c.in-For.is) x y) c.for_loop.ensures.means y n i

pub compound-returns-in-While-clause-means : goal.compound-returns-in-While-clause-means
compound-returns-in-While-clause-means t c =
    λ at x p q o y n i. rw (c.unbounded.ensures, c.holding-in-While.ensures)
    (while_is p (tagged_as q (ap kind_number c.in-While.is) x y) c.held-condition.ensures.means (rw c.held-condition.ensures.same at c.list.ensures.means) refl y n i)

pub compound-returns-in_default : goal.compound-returns-in_default
compound-returns-in_default t c =
    let s = c.list-body.ensures.same in
    record {
      same = c.held.ensures.same ∙ s;
      fine = omega (arith, c.list-body.ensures.fine, rw s at c.held.ensures.fine);
      means = λ at x p q o y n i. rw (c.unbounded-in_default.ensures, c.holding-in_default.ensures)
          (repeat_is p
          (only_repeat (tagged_as q refl x y) o (λ e. c.in_default.not-If (one_kind _ If e)) (λ e. c.in_default.not-Case (one_kind _ Case e))
          (λ e. c.in_default.not-For (one_kind _ For e)) (λ e. c.in_default.not-While (one_kind _ While e)))
          c.list-body.ensures.means (rw s at c.held.ensures.means) refl y n i);
    }

-- FOR

pub for_loop-returns-clause-fine : goal.for_loop-returns-clause-fine
for_loop-returns-clause-fine t c =
    let s1 = c.held-initial.ensures.same in
    let s2 = c.held-end.ensures.same ∙ s1 in
    let s3 = c.read-step.ensures.same ∙ s2 in
    omega (arith, c.held-initial.ensures.fine, rw s1 at c.held-end.ensures.fine, past _ _ (rw s2 at c.read-step.ensures.moves), rw s3 at c.list-body.ensures.fine)

pub for_loop-returns-clause-means : goal.for_loop-returns-clause-means
for_loop-returns-clause-means t c =
    let s1 = c.held-initial.ensures.same in
    let s2 = c.held-end.ensures.same ∙ s1 in
    let s3 = c.read-step.ensures.same ∙ s2 in
    for_means c.literal-first.result c.literal-last.result c.held-initial.ensures.means (rw s1 at c.held-end.ensures.means) (rw s2 at c.read-step.ensures.gives)
    (rw s2 at c.read-step.ensures.moves) (rw s3 at c.list-body.ensures.means) c.literal-first.ensures (rw s1 at c.literal-last.ensures) c.loop_worst.ensures c.max.ensures c.max-2.ensures

-- CASE's groups, and the last list

pub groups-loop-reader-init : goal.groups-loop-reader-init
groups-loop-reader-init t c = record { same = refl; goes_on = omega arith; means = groups_start c.default-all.ensures.0 c.default-all.ensures.1 }

pub groups-loop-reader-smaller : goal.groups-loop-reader-smaller
groups-loop-reader-smaller t c =
    let s0 = c.loop-reader.invariant.same in
    omega (
      arith,
      room _ _ (sym (ap (λ x. x.tag) (rw s0 at c.cell.ensures))) (label-has-tag _ (sym c.is_label.ensures ∙ c.loop-reader-test.true)),
      reads_on (rw s0 at c.read_past.ensures.reads),
      rw (c.read_past.ensures.same ∙ s0) at c.list.ensures.fine,
    )

pub groups-loop-reader-preserved : goal.groups-loop-reader-preserved
groups-loop-reader-preserved t c =
    let s0 = c.loop-reader.invariant.same in
    let s1 = c.read_past.ensures.same ∙ s0 in
    record {
      same = c.list.ensures.same ∙ s1;
      goes_on = omega (arith, c.loop-reader.invariant.goes_on, reads_on (rw s0 at c.read_past.ensures.reads), rw s1 at c.list.ensures.fine);
      means = groups-turn {f = part c.loop-reader.reader.at c.loop-reader.all} (ap (λ x. x.tag) (rw s0 at c.cell.ensures)) c.loop-reader.invariant.means (sym c.is_label.ensures ∙ c.loop-reader-test.true)
          (past_labels (rw s0 at c.read_past.ensures.reads)) (rw s1 at c.list.ensures.means)
          (ap (part c.list.new.reader.at) c.or-all.ensures);
    }

pub groups-returns-clause-means : goal.groups-returns-clause-means
groups-returns-clause-means t c =
    let s0 = c.loop-reader.invariant.same in
    groups_done {f = part c.loop-reader.reader.at c.loop-reader.all} (ap (λ x. x.tag) (rw s0 at c.cell.ensures)) c.loop-reader.invariant.means (sym c.is_label.ensures ∙ c.loop-reader-test.false)
    (rw s0 at c.list-2.ensures.means) (ap (part c.list-2.new.reader.at) c.or.ensures)

-- Lists

pub list-loop-reader-init : goal.list-loop-reader-init
list-loop-reader-init t c = record { same = refl; goes_on = omega arith; means = list_start c.default-all.ensures.0 c.default-all.ensures.1 }

pub list-loop-reader-smaller : goal.list-loop-reader-smaller
list-loop-reader-smaller t c =
    let s0 = c.loop-reader.invariant.same in
    omega (arith, room _ _ refl (is_other _ s0 c.is_at.ensures c.loop-reader-test.true), rw s0 at c.statement.ensures.fine)

pub list-loop-reader-preserved : goal.list-loop-reader-preserved
list-loop-reader-preserved t c =
    let s0 = c.loop-reader.invariant.same in
    record {
      same = c.statement.ensures.same ∙ s0;
      goes_on = omega (arith, c.loop-reader.invariant.goes_on, rw s0 at c.statement.ensures.fine);
      means = list-turn {f = part c.loop-reader.reader.at c.loop-reader.all} refl c.loop-reader.invariant.means (is_other _ s0 c.is_at.ensures c.loop-reader-test.true) (rw s0 at c.statement.ensures.means)
          (ap (part c.statement.new.reader.at) c.then-all.ensures);
    }

pub list-returns-clause-fine : goal.list-returns-clause-fine
list-returns-clause-fine t c = omega (arith, c.loop-reader.invariant.goes_on, past _ _ (rw c.loop-reader.invariant.same at c.read.ensures.moves))

pub list-returns-clause-means : goal.list-returns-clause-means
list-returns-clause-means t c =
    let s0 = c.loop-reader.invariant.same in
    list_done {f = part c.loop-reader.reader.at c.loop-reader.all} refl c.loop-reader.invariant.means (is_tag _ s0 c.is_at.ensures c.loop-reader-test.false) (rw s0 at c.read.ensures.moves)

-- A statement: one level of nesting fewer is left within a compound one

-- what is told of the first cell, by its kind
pub statement-returns-in_default-clause-fine : goal.statement-returns-in_default-clause-fine
statement-returns-in_default-clause-fine t c = past _ _ c.read.ensures.moves

pub statement-returns-in_default-clause-means : goal.statement-returns-in_default-clause-means
statement-returns-in_default-clause-means t c =
    λ x y n i. absurd (no_unknown (tagged_as (ap (λ x. x.tag) c.read.ensures.gives) (sym c.in_default.ensures.0) x y) (omega (arith, c.in_default.ensures.1, c.in_default.ensures.0)))

pub statement-returns-in-Assign-clause-fine : goal.statement-returns-in-Assign-clause-fine
statement-returns-in-Assign-clause-fine t c = omega (arith, past _ _ c.read.ensures.moves, rw c.read.ensures.same at c.held.ensures.fine)

pub statement-returns-in-Assign-clause-means : goal.statement-returns-in-Assign-clause-means
statement-returns-in-Assign-clause-means t c =
    λ x y n i. rw c.holding.ensures (assign_is c.read.ensures.moves (tagged_as (c.in-Ok.ensures ∙ ap (λ x. x.tag) c.read.ensures.gives) (ap kind_number c.in-Assign.is) x y)
    (rw c.read.ensures.same at c.held.ensures.means) y)

pub statement-returns-in-Exit-clause-fine : goal.statement-returns-in-Exit-clause-fine
statement-returns-in-Exit-clause-fine t c = past _ _ c.read.ensures.moves

pub statement-returns-in-Exit-clause-means : goal.statement-returns-in-Exit-clause-means
statement-returns-in-Exit-clause-means t c =
    λ x y n i. exit_is c.read.ensures.moves (tagged_as (c.in-Ok.ensures ∙ ap (λ x. x.tag) c.read.ensures.gives) (ap kind_number c.in-Exit.is) x y) y

pub statement-returns-in_default-kind : goal.statement-returns-in_default-kind
statement-returns-in_default-kind t c = record {
  same = c.read.ensures.same;
  fine = past _ _ c.read.ensures.moves;
  means = λ x y n i. absurd (omega (
    arith,
    nested (tagged_as (c.in-Ok.ensures ∙ ap (λ x. x.tag) c.read.ensures.gives) refl x y) (λ e. c.in_default-kind.not-Assign (one_kind _ Assign e))
        (λ e. c.in_default-kind.not-Exit (one_kind _ Exit e)),
  ));
}

pub statement-returns-in_default-2 : goal.statement-returns-in_default-2
statement-returns-in_default-2 t c =
    let q = c.in-Ok.ensures ∙ ap (λ x. x.tag) c.read.ensures.gives in
    record {
      same = c.compound.ensures.same ∙ c.read.ensures.same;
      fine = omega (arith, past _ _ c.read.ensures.moves, rw c.read.ensures.same at c.compound.ensures.fine);
      means = λ x y n i. (rw c.read.ensures.same at c.compound.ensures.means) _ x c.read.ensures.moves q
          (nested (tagged_as q refl x y) (λ e. c.in_default-2.not-Assign (one_kind _ Assign e)) (λ e. c.in_default-2.not-Exit (one_kind _ Exit e))) y (omega arith) i;
    }
