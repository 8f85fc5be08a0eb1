use mathlib.Core.Path.{refl, ap}
use native.Mathlib.Numerals.{add-one}
use native.Mathlib.Omega.{arith}
use borrow.Author.Rules.{rules}
use Rattle.rules.specs.Answers.{fault_number}
use Rattle.parse.specs.Steps.{Bad}
use Rattle.parse.proofs.Chain.{chain_start, chain_step, chain-refused, chain_end}
use Rattle.parse.proofs.Follow.{refused, stay, stay-written}
use Rattle.parse.proofs.Operands.{reads_word, reads-truth, reads_open, reads_none, reads-unknown, reads-deep, reads-inner, reads-unsigned, reads-signed, reads_right}
use Rattle.parse.proofs.parser.Parser.+expressions.Goals as goal

pub expression-returns-in_err-signed_operand-clause-means : goal.expression-returns-in_err-signed_operand-clause-means
expression-returns-in_err-signed_operand-clause-means t c = λ f h.
    refused _ _ _ c.from_residual.ensures.1
    (chain-refused _ _ _ _ (omega arith) (omega arith) c.in_err-signed_operand.ensures.means (chain_start _ _ _ _) f h)

pub expression-loop-operator-preserved : goal.expression-loop-operator-preserved
expression-loop-operator-preserved t c =
    let ahead = c.in-Some.ensures in
    let high = rw ahead.0.0 at ahead.1 in
    let did = c.in_ok-operation.ensures in
    (search rules, chain_step _ _ _ _ c.loop-operator.invariant.1 high did.means (omega (arith, did.on, ahead.0.3)))

pub expression-returns-in_err-operation-clause-means : goal.expression-returns-in_err-operation-clause-means
expression-returns-in_err-operation-clause-means t c =
    let ahead = c.in-Some.ensures in
    let high = rw ahead.0.0 at ahead.1 in
    let first = c.in_ok-signed_operand.ensures in
    let chain = chain_step _ _ _ _ c.loop-operator.invariant.1 high c.in_err-operation.ensures.means (omega (arith, ahead.0.3)) in
    λ f h. refused _ _ _ c.from_residual-in_err-operation.ensures.1 (chain-refused _ _ _ _ (omega arith) (omega (arith, first)) first.means chain f h)

pub expression-returns-clause-means : goal.expression-returns-clause-means
expression-returns-clause-means t c =
    let first = c.in_ok-signed_operand.ensures in
    chain_end _ _ _ _ (omega arith) (omega (arith, first)) first.means c.loop-operator.invariant.1 c.in_default.ensures

pub operand-returns-in_err-kind-clause-means : goal.operand-returns-in_err-kind-clause-means
operand-returns-in_err-kind-clause-means t c = λ f h.
    refused _ _ _ c.from_residual.ensures.1
    (reads-unknown (omega arith) _ _ c.in_err-kind.ensures.0 (ap (λ e. Bad (fault_number e.fault) e.place) c.in_err-kind.ensures.1))

pub operand-returns-in-Name-clause-means : goal.operand-returns-in-Name-clause-means
operand-returns-in-Name-clause-means t c = λ f h.
    reads_word (omega arith) _ _ _ _ c.token-token.ensures c.in_ok-kind.ensures.0.0 c.in-Name.is c.skip.ensures.means c.write.ensures.means

pub operand-returns-in-True-clause-means : goal.operand-returns-in-True-clause-means
operand-returns-in-True-clause-means t c = λ f h.
    reads-truth (omega arith) _ _ _ _ c.token-token.ensures c.in_ok-kind.ensures.0.0 c.in-True.is c.skip-in-True.ensures.means c.write-in-True.ensures.means

pub operand-returns-in-Open-clause-means : goal.operand-returns-in-Open-clause-means
operand-returns-in-Open-clause-means t c = λ f h.
    reads_open (omega arith) _ _ (rw c.in-Open.is at c.in_ok-kind.ensures.0.0) (c.parentheses.ensures.means f h)

pub operand-returns-in_default-clause-means : goal.operand-returns-in_default-clause-means
operand-returns-in_default-clause-means t c =
    let other = c.in_default in
    λ f h. reads_none (omega arith) _ _ _ c.in_ok-kind.ensures.0.0 other.not-Name other.not-Int other.not-True other.not-False other.not-Open (rw c.refusal.ensures refl)

pub operation-returns-in_err-expression-clause-means : goal.operation-returns-in_err-expression-clause-means
operation-returns-in_err-expression-clause-means t c = λ f h.
    let ahead = c.requires.1 in
    refused _ _ _ c.from_residual.ensures.1
    (reads_right (omega arith) _ f _ _ _ (ap (λ t. t.place) c.token-place.ensures) ahead.0 ahead.1 c.skip.ensures.means
    (c.in_err-expression.ensures.means f (omega arith)) (stay-written _))

pub operation-returns-clause-means : goal.operation-returns-clause-means
operation-returns-clause-means t c = λ f h.
    let ahead = c.requires.1 in
    reads_right (omega arith) _ f _ _ _ (ap (λ t. t.place) c.token-place.ensures) ahead.0 ahead.1 c.skip.ensures.means
    (c.in_ok-expression.ensures.means f (omega arith)) c.write.ensures.means

pub parentheses-returns-then-nesting-ge-DEEPEST-clause-means : goal.parentheses-returns-then-nesting-ge-DEEPEST-clause-means
parentheses-returns-then-nesting-ge-DEEPEST-clause-means t c = λ f h. reads-deep (omega arith) _ _ c.if-nesting-ge-DEEPEST.true (rw c.refusal.ensures refl)

pub parentheses-returns-in_err-expression-clause-means : goal.parentheses-returns-in_err-expression-clause-means
parentheses-returns-in_err-expression-clause-means t c = λ f h.
    refused _ _ _ c.from_residual.ensures.1
    (reads-inner (omega arith) _ _ (ap (λ t. t.place) c.token-place.ensures) c.if-nesting-ge-DEEPEST.false c.skip.ensures.means
    (rw (add-one c.args.nesting) at (c.in_err-expression.ensures.means f (omega arith))) stay (stay-written _))

pub parentheses-returns-in_err-take-clause-means : goal.parentheses-returns-in_err-take-clause-means
parentheses-returns-in_err-take-clause-means t c = λ f h.
    refused _ _ _ c.from_residual-in_err-take.ensures.1
    (reads-inner (omega arith) _ _ (ap (λ t. t.place) c.token-place.ensures) c.if-nesting-ge-DEEPEST.false c.skip.ensures.means
    (rw (add-one c.args.nesting) at (c.in_ok-expression.ensures.means f (omega arith))) c.in_err-take.ensures.means (stay-written _))

pub parentheses-returns-clause-means : goal.parentheses-returns-clause-means
parentheses-returns-clause-means t c = λ f h.
    reads-inner (omega arith) _ _ (ap (λ t. t.place) c.token-place.ensures) c.if-nesting-ge-DEEPEST.false c.skip.ensures.means
    (rw (add-one c.args.nesting) at (c.in_ok-expression.ensures.means f (omega arith))) c.in_ok-take.ensures.means c.write.ensures.means

pub signed_operand-returns-in_default-clause-means : goal.signed_operand-returns-in_default-clause-means
signed_operand-returns-in_default-clause-means t c = λ f h. reads-unsigned (omega arith) _ c.in_default.ensures (c.operand.ensures.means f h)

pub signed_operand-returns-in_err-operand-clause-means : goal.signed_operand-returns-in_err-operand-clause-means
signed_operand-returns-in_err-operand-clause-means t c = λ f h.
    let sign = c.in-Some.ensures in
    refused _ _ _ c.from_residual.ensures.1
    (reads-signed (omega arith) _ _ (ap (λ t. t.place) c.token-place.ensures) (sign.0, sign.1) c.skip.ensures.means
    (c.in_err-operand.ensures.means f (omega arith)) (stay-written _))

pub signed_operand-returns-clause-means : goal.signed_operand-returns-clause-means
signed_operand-returns-clause-means t c = λ f h.
    let sign = c.in-Some.ensures in
    reads-signed (omega arith) _ _ (ap (λ t. t.place) c.token-place.ensures) (sign.0, sign.1) c.skip.ensures.means
    (c.in_ok-operand.ensures.means f (omega arith)) c.write.ensures.means
