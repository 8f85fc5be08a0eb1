use native.Mathlib.Omega.{arith}
use borrow.Author.Rules.{rules}
use Rattle.parse.proofs.Follow.{refused, stay}
use Rattle.parse.proofs.Labels.{starts, turns, breaks, ends, labels-read}
use Rattle.parse.proofs.parser.Parser.labels.Goals as goal

pub returns-in_err-label-clause-means : goal.returns-in_err-label-clause-means
returns-in_err-label-clause-means c = λ f h.
    refused _ _ _ c.from_residual.ensures.1 (labels-read (omega arith) (omega arith) c.in_err-label.ensures.means (λ g b. stay) f h)

pub loop-self-init : goal.loop-self-init
loop-self-init c = (search rules, starts _ _)

pub loop-self-preserved : goal.loop-self-preserved
loop-self-preserved c = (
  search rules,
  turns _ _ (omega (arith, c.in_ok-label.ensures)) c.loop-self.invariant.1 (omega arith) c.loop-self-test.ensures.0 c.skip.ensures.means c.in_ok-label-2.ensures.means (omega (arith, c.loop-self-test.ensures.1, c.in_ok-label-2.ensures)),
)

pub returns-in_err-label-2-clause-means : goal.returns-in_err-label-2-clause-means
returns-in_err-label-2-clause-means c =
    let comes = turns _ _ (omega (arith, c.in_ok-label.ensures)) c.loop-self.invariant.1 (omega arith) c.loop-self-test.ensures.0 c.skip.ensures.means c.in_err-label-2.ensures.means (omega (arith, c.loop-self-test.ensures.1)) in
    λ f h. refused _ _ _ c.from_residual-in_err-label-2.ensures.1
    (labels-read (omega arith) (omega (arith, c.in_ok-label.ensures)) c.in_ok-label.ensures.means (breaks _ _ (omega (arith, c.in_ok-label.ensures)) comes) f h)

pub returns-clause-means : goal.returns-clause-means
returns-clause-means c =
    labels-read (omega arith) (omega (arith, c.in_ok-label.ensures)) c.in_ok-label.ensures.means
    (ends _ _ (omega (arith, c.in_ok-label.ensures)) c.loop-self.invariant.1 c.loop-self-test.ensures c.write.ensures.means)
