use mathlib.Core.Path.{ap}
use native.Mathlib.Omega.{arith}
use Rattle.rules.specs.Answers.{fault_number}
use Rattle.parse.specs.Steps.{Bad}
use Rattle.parse.proofs.Follow.{refused}
use Rattle.parse.proofs.OneConstant.{truth-read, signed-read, unsigned-read, unknown-read}
use Rattle.parse.proofs.parser.Parser.constant.Goals as goal

pub returns-in_err-kind-clause-means : goal.returns-in_err-kind-clause-means
returns-in_err-kind-clause-means c =
    refused _ _ _ c.from_residual.ensures.1
    (unknown-read (omega arith) c.in_err-kind.ensures.0 (ap (λ e. Bad (fault_number e.fault) e.place) c.in_err-kind.ensures.1))

pub returns-in-Minus-clause-means : goal.returns-in-Minus-clause-means
returns-in-Minus-clause-means c =
    signed-read _ (omega arith) (ap (λ t. t.place) c.token-place.ensures) c.in_ok-kind.ensures.0.0 c.in-Minus.is c.skip.ensures.means c.integer.ensures.means

pub returns-in-True-clause-means : goal.returns-in-True-clause-means
returns-in-True-clause-means c =
    truth-read _ (omega arith) (ap (λ t. t.place) c.token-place.ensures) c.in_ok-kind.ensures.0.0 c.in-True.is c.skip-in-True.ensures.means c.write.ensures.means

pub returns-in_default-clause-means : goal.returns-in_default-clause-means
returns-in_default-clause-means c =
    let other = c.in_default in
    unsigned-read _ (omega arith) (ap (λ t. t.place) c.token-place.ensures) c.in_ok-kind.ensures.0.0 other.not-Minus other.not-Plus other.not-True other.not-False
    c.integer-in_default.ensures.means
