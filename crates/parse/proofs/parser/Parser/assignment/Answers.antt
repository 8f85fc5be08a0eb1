use native.Mathlib.Omega.{arith}
use Rattle.parse.proofs.Follow.{refused, stay}
use Rattle.parse.proofs.Productions.{assignment-means}
use Rattle.parse.proofs.parser.Parser.assignment.Goals as goal

pub returns-in_err-named-clause-means : goal.returns-in_err-named-clause-means
returns-in_err-named-clause-means c = λ f h.
    refused _ _ _ c.from_residual.ensures.1 (assignment-means (omega arith) c.in_err-named.ensures.means stay stay)

pub returns-in_err-take-clause-means : goal.returns-in_err-take-clause-means
returns-in_err-take-clause-means c = λ f h.
    refused _ _ _ c.from_residual-in_err-take.ensures.1
    (assignment-means (omega arith) c.in_ok-named.ensures.means c.in_err-take.ensures.means stay)

pub returns-clause-means : goal.returns-clause-means
returns-clause-means c = λ f h.
    let name = c.in_ok-named.ensures in
    let word = c.in_ok-take.ensures in
    assignment-means (omega arith) name.means word.means (c.whole.ensures.means f (omega (arith, name, word)))
