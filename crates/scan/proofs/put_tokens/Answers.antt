use Rattle.std.proofs.Common.{◌∙◌, arith}
use Rattle.scan.proofs.Scanning.{start, ends, passes, puts, stops, scanned_long, scanned-tokens}
use Rattle.scan.proofs.put_tokens.Goals as goal

pub returns-then-text-gt-TEXT-clause-means : goal.returns-then-text-gt-TEXT-clause-means
returns-then-text-gt-TEXT-clause-means c = scanned_long _ _ c.requires c.if-text-gt-TEXT.true

pub loop-place-init : goal.loop-place-init
loop-place-init c = start _ _

pub overflow_add-place : goal.overflow_add-place
overflow_add-place c = let gone = passes c.loop-place.invariant c.loop-place-test.true (rw c.in-Ok-Gap.field-0-is at c.in-Ok-Gap.ensures) in omega (arith, gone)

pub loop-place-smaller-in-Ok-Gap : goal.loop-place-smaller-in-Ok-Gap
loop-place-smaller-in-Ok-Gap c = let gone = passes c.loop-place.invariant c.loop-place-test.true (rw c.in-Ok-Gap.field-0-is at c.in-Ok-Gap.ensures) in omega (arith, gone)

pub loop-place-preserved-in-Ok-Gap : goal.loop-place-preserved-in-Ok-Gap
loop-place-preserved-in-Ok-Gap c = (passes c.loop-place.invariant c.loop-place-test.true (rw c.in-Ok-Gap.field-0-is at c.in-Ok-Gap.ensures)).1

pub overflow_add-place-in-Ok-Token : goal.overflow_add-place-in-Ok-Token
overflow_add-place-in-Ok-Token c = let gone = puts c.loop-place.invariant c.loop-place-test.true (rw c.in-Ok-Token.field-0-is at c.in-Ok-Token.ensures) c.put.ensures in omega (arith, gone)

pub loop-place-smaller : goal.loop-place-smaller
loop-place-smaller c = let gone = puts c.loop-place.invariant c.loop-place-test.true (rw c.in-Ok-Token.field-0-is at c.in-Ok-Token.ensures) c.put.ensures in omega (arith, gone)

pub loop-place-preserved : goal.loop-place-preserved
loop-place-preserved c = (puts c.loop-place.invariant c.loop-place-test.true (rw c.in-Ok-Token.field-0-is at c.in-Ok-Token.ensures) c.put.ensures).1

pub returns-in-Err-clause-means : goal.returns-in-Err-clause-means
returns-in-Err-clause-means c =
    stops c.loop-place.invariant c.loop-place-test.true _ c.in-Err.ensures ∙ scanned-tokens _ _ c.requires c.if-text-gt-TEXT.false

pub returns : goal.returns
returns c =
    rw c.put-2.ensures record {
      means = ends c.loop-place.invariant c.loop-place-test.false ∙ scanned-tokens _ _ c.requires c.if-text-gt-TEXT.false;
      fits = omega arith;
    }
