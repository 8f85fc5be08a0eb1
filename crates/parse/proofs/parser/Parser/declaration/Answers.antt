use native.Mathlib.Omega.{arith}
use Rattle.parse.proofs.Follow.{refused, stay}
use Rattle.parse.proofs.Programs.{declares}
use Rattle.parse.proofs.parser.Parser.declaration.Goals as goal

pub returns-in_err-take-clause-means : goal.returns-in_err-take-clause-means
returns-in_err-take-clause-means c =
    refused _ _ _ c.from_residual.ensures.1
    (declares (omega arith) c.token-name.ensures c.in_err-take.ensures.means stay stay stay stay)

pub returns-in_err-take-2-clause-means : goal.returns-in_err-take-2-clause-means
returns-in_err-take-2-clause-means c =
    refused _ _ _ c.from_residual-in_err-take-2.ensures.1
    (declares (omega arith) c.token-name.ensures c.in_ok-take.ensures.means c.in_err-take-2.ensures.means stay stay stay)

pub returns-in_err-declared_type-clause-means : goal.returns-in_err-declared_type-clause-means
returns-in_err-declared_type-clause-means c =
    refused _ _ _ c.from_residual-in_err-declared_type.ensures.1
    (declares (omega arith) c.token-name.ensures c.in_ok-take.ensures.means c.in_ok-take-2.ensures.means c.in_err-declared_type.ensures.means stay stay)

pub returns-in_err-maybe_constant-clause-means : goal.returns-in_err-maybe_constant-clause-means
returns-in_err-maybe_constant-clause-means c =
    refused _ _ _ c.from_residual-in_err-maybe_constant.ensures.1
    (declares (omega arith) c.token-name.ensures c.in_ok-take.ensures.means c.in_ok-take-2.ensures.means c.in_ok-declared_type.ensures.means
    c.in_err-maybe_constant.ensures.means stay)

pub returns-clause-means : goal.returns-clause-means
returns-clause-means c =
    declares (omega arith) c.token-name.ensures c.in_ok-take.ensures.means c.in_ok-take-2.ensures.means c.in_ok-declared_type.ensures.means
    c.in_ok-maybe_constant.ensures.means c.take-3.ensures.means
