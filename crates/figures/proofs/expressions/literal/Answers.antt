use mathlib.Core.Path.{refl, sym, ap, ◌∙◌}
use Rattle.std.proofs.lemmas.Bool.{eqb-true, eqb-false}
use Rattle.figures.specs.Parts.{lit_in}
use Rattle.figures.proofs.Literals.{looks, looks_as, none_read, alone_read, signed_read}
use Rattle.figures.proofs.expressions.literal.Goals as goal
use Rattle.figures.proofs.expressions.literal.Goals.{then-sign-eq-NOT-via-then-sign-eq-NOT, then-sign-eq-NOT-via-else-sign-eq-NOT+then-not-is_at}

pub returns-in_err-integer : goal.returns-in_err-integer
unfolding lit_in
returns-in_err-integer c =
    let none = eqb-false _ _ c.in_err-integer.ensures.takes.0 in
    λ more e y f. rw c.from_residual.ensures (none_read (looks more e f y) (λ i. absurd (none i)) (λ i. absurd (none i)))

pub returns-then-is_at : goal.returns-then-is_at
returns-then-is_at c =
    let integer = c.in_ok-integer.ensures.takes in
    let whole = rw c.in_ok-integer.ensures.same at c.is_at.ensures in
    λ more e y f. alone_read (looks_as more e integer.1 integer.2 refl refl refl y f) (ap (λ x. x.tag) integer.1 ∙ eqb-true _ _ integer.0)
    (eqb-true _ _ (sym whole ∙ c.if-is_at.true)) c.signed.ensures

pub returns-in_err-sign : goal.returns-in_err-sign
unfolding lit_in
returns-in_err-sign c =
    let integer = c.in_ok-integer.ensures.takes in
    let whole = rw c.in_ok-integer.ensures.same at c.is_at.ensures in
    let none = eqb-false _ _ (rw c.in_ok-integer.ensures.same at c.in_err-sign.ensures.takes.0) in
    λ more e y f. rw c.from_residual-in_err-sign.ensures (none_read (looks_as more e integer.1 integer.2 refl refl refl y f) (λ _. eqb-false _ _ (sym whole ∙ c.if-is_at.false)) (λ _ u. absurd (none u)))

pub returns-then-sign-eq-NOT : goal.returns-then-sign-eq-NOT
unfolding lit_in
returns-then-sign-eq-NOT c =
    let integer = c.in_ok-integer.ensures.takes in
    let m = c.in_ok-integer.ensures.same in
    let whole = rw m at c.is_at.ensures in
    let sign = rw m at c.in_ok-sign.ensures.takes in
    λ more e y f.
    none_read (looks_as more e integer.1 integer.2 sign.1 sign.2 refl y f)
    (λ _ w. eqb-false _ _ (sym whole ∙ c.if-is_at.false) (sym (ap (λ x. x.tag) sign.1) ∙ w))
    (λ _ _ no_not closed. elim c.then-sign-eq-NOT.branch [
      | then-sign-eq-NOT-via-then-sign-eq-NOT w ↦ no_not w.if-sign-eq-NOT.true
      | then-sign-eq-NOT-via-else-sign-eq-NOT+then-not-is_at w ↦
          eqb-false _ _ (sym (rw (c.in_ok-sign.ensures.same ∙ m) at w.is_at-else-sign-eq-NOT.ensures) ∙ w.if-not-is_at.true) closed
    ])

pub returns : goal.returns
returns c =
    let integer = c.in_ok-integer.ensures.takes in
    let m = c.in_ok-integer.ensures.same in
    let sign = rw m at c.in_ok-sign.ensures.takes in
    let closed = rw (c.in_ok-sign.ensures.same ∙ m) at c.is_at-else-sign-eq-NOT.ensures in
    λ more e y f. signed_read (looks_as more e integer.1 integer.2 sign.1 sign.2 refl y f) (ap (λ x. x.tag) integer.1 ∙ eqb-true _ _ integer.0)
    (ap (λ x. x.tag) sign.1 ∙ eqb-true _ _ sign.0) c.if-sign-eq-NOT.false (eqb-true _ _ (sym closed ∙ c.if-not-is_at.false))
    c.signed-2.ensures
