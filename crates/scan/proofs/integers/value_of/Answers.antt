use Rattle.std.proofs.Common.{◌≡◌, refl, sym, ◌∙◌, rules, arith, []}
use Rattle.scan.proofs.Runs.{run_off, run_past}
use Rattle.scan.proofs.Digits.{rest, begins, under_on, under_bad, digit_on, digit_bad, end_bad, end_large, ends, all}
use Rattle.rules.specs.Tokens.{in_integer}
use Rattle.scan.proofs.integers.value_of.Goals as goal
use Rattle.scan.proofs.integers.value_of.Goals.{then-x-eq95+else-not-after_digit, else-x-eq95+in-Some, else-loop-x-test, then-loop-x-test+else-x-eq95+in_default+else-in_integer}
use Rattle.scan.proofs.integers.value_of.Goals.{else-after_digit-via-then-after_digit+else-value-le-LARGEST, else-after_digit-via-else-after_digit}

pub loop-x-init : goal.loop-x-init
loop-x-init c = (refl, begins)

pub returns-then-not-after_digit : goal.returns-then-not-after_digit
returns-then-not-after_digit c = under_bad c.loop-x.invariant.1 c.loop-x-test.true c.if-x-eq95.true c.if-not-after_digit.true

pub returns-then-in_integer : goal.returns-then-in_integer
returns-then-in_integer c =
    digit_bad c.loop-x.invariant.1 c.loop-x-test.true c.if-x-eq95.false (omega arith) c.requires.1 (sym c.in_integer.ensures ∙ c.if-in_integer.true) (search rules)

pub loop-x-preserved : goal.loop-x-preserved
loop-x-preserved c =
    elim c.if-x-eq95.branch [
      | then-x-eq95+else-not-after_digit w ↦ (
        omega (arith, c.loop-x.invariant.0),
        rw (w.value-is, w.after_digit-is) (under_on c.loop-x.invariant.1 c.loop-x-test.true w.if-x-eq95.true w.if-not-after_digit.false),
      )
      | else-x-eq95+in-Some w ↦ (
        omega (arith, c.loop-x.invariant.0),
        rw (w.value-is, w.after_digit-is)
            (digit_on c.loop-x.invariant.1 c.loop-x-test.true w.if-x-eq95.false (omega arith) c.requires.1 w.in-Some.digit _ (search rules) (search rules) (search rules)),
      )
    ]

pub returns-then-value-le-LARGEST : goal.returns-then-value-le-LARGEST
returns-then-value-le-LARGEST c =
    let e : rest c.args.text.now c.loop-x.x-index ≡ [] = elim c.loop-x-test.branch [
      | else-loop-x-test w ↦ run_past in_integer _ _ w.loop-x-test.false
      | then-loop-x-test+else-x-eq95+in_default+else-in_integer w ↦ run_off in_integer _ _ w.loop-x-test.true (sym w.in_integer.ensures ∙ w.if-in_integer.false)
    ] in
    (ends c.loop-x.invariant.1 e c.if-after_digit.true c.if-value-le-LARGEST.true, all c.loop-x.invariant.1 e ∙ sym c.loop-x.invariant.0)

pub returns-else-after_digit : goal.returns-else-after_digit
returns-else-after_digit c =
    let e : rest c.args.text.now c.loop-x.x-index ≡ [] = elim c.loop-x-test.branch [
      | else-loop-x-test w ↦ run_past in_integer _ _ w.loop-x-test.false
      | then-loop-x-test+else-x-eq95+in_default+else-in_integer w ↦ run_off in_integer _ _ w.loop-x-test.true (sym w.in_integer.ensures ∙ w.if-in_integer.false)
    ] in
    elim c.else-after_digit.branch [
      | else-after_digit-via-then-after_digit+else-value-le-LARGEST w ↦ end_large c.loop-x.invariant.1 e w.if-value-le-LARGEST.false
      | else-after_digit-via-else-after_digit w ↦ end_bad c.loop-x.invariant.1 e w.if-after_digit.false
    ]
