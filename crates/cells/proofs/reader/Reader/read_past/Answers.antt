use Rattle.std.proofs.Common.{refl, sym, ap, ◌∙◌}
use Rattle.std.proofs.lemmas.Bool.{eqb-true, eqb-false}
use Rattle.cells.specs.Laws.{zero_cell}
use Rattle.cells.specs.Runs.{found, passed, ended}
use Rattle.cells.proofs.reader.Reader.read_past.Goals as goal

pub loop-cell-init : goal.loop-cell-init
loop-cell-init c = record { same = refl; reads = λ x j r. r }

pub loop-cell-preserved : goal.loop-cell-preserved
loop-cell-preserved c =
    let same = c.loop-cell.invariant.same in
    let here = rw same at c.in-Some.ensures.next in
    record {
      same = c.in-Some.ensures.same ∙ same;
      reads = λ x j r. c.loop-cell.invariant.reads x j (passed here.0 (λ e. eqb-false _ _ (sym c.is.ensures ∙ c.if-is.false) (ap (λ y. y.tag) here.1 ∙ e)) (rw (sym here.2) r));
    }

pub returns-then-is : goal.returns-then-is
returns-then-is c =
    let same = c.loop-cell.invariant.same in
    let here = rw same at c.in-Some.ensures.next in
    record {
      reads = rw (here.1, here.2) (c.loop-cell.invariant.reads _ _ (found here.0 (sym (ap (λ y. y.tag) here.1) ∙ eqb-true _ _ (sym c.is.ensures ∙ c.if-is.true))));
      same = c.in-Some.ensures.same ∙ same;
    }

pub returns : goal.returns
returns c =
    let same = c.loop-cell.invariant.same in
    let behind = rw same at c.in_default.ensures.next in
    let z = zero_cell c.default.result c.default.ensures.0 c.default.ensures.1.0 c.default.ensures.1.1 in
    record { reads = rw (z, behind.1) (c.loop-cell.invariant.reads _ _ (ended behind.0)); same = c.in_default.ensures.same ∙ same }
