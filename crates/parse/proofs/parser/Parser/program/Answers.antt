use native.Mathlib.Omega.{arith}
use Rattle.parse.proofs.Follow.{refused, stay}
use Rattle.parse.proofs.Programs.{programs}
use Rattle.parse.proofs.parser.Parser.program.Goals as goal

pub returns-in_err-take-clause-means : goal.returns-in_err-take-clause-means
returns-in_err-take-clause-means c = λ f h.
    refused _ _ _ c.from_residual.ensures.1
    (programs (omega arith) f c.in_err-take.ensures.means stay stay stay stay stay)

pub returns-in_err-take-2-clause-means : goal.returns-in_err-take-2-clause-means
returns-in_err-take-2-clause-means c = λ f h.
    let word = c.in_ok-take.ensures in
    refused _ _ _ c.from_residual-in_err-take-2.ensures.1
    (programs (omega arith) f word.means c.in_err-take-2.ensures.means stay stay stay stay)

pub returns-in_err-variables-clause-means : goal.returns-in_err-variables-clause-means
returns-in_err-variables-clause-means c = λ f h.
    let word = c.in_ok-take.ensures in
    let name = c.in_ok-take-2.ensures in
    refused _ _ _ c.from_residual-in_err-variables.ensures.1
    (programs (omega arith) f word.means name.means (c.in_err-variables.ensures.means f (omega arith)) stay stay stay)

pub returns-in_err-list-clause-means : goal.returns-in_err-list-clause-means
returns-in_err-list-clause-means c = λ f h.
    let word = c.in_ok-take.ensures in
    let name = c.in_ok-take-2.ensures in
    let declared = c.in_ok-variables.ensures in
    refused _ _ _ c.from_residual-in_err-list.ensures.1
    (programs (omega arith) f word.means name.means (declared.means f (omega arith)) (c.in_err-list.ensures.means f (omega arith)) stay stay)

pub returns-in_err-take-3-clause-means : goal.returns-in_err-take-3-clause-means
returns-in_err-take-3-clause-means c = λ f h.
    let word = c.in_ok-take.ensures in
    let name = c.in_ok-take-2.ensures in
    let declared = c.in_ok-variables.ensures in
    let body = c.in_ok-list.ensures in
    refused _ _ _ c.from_residual-in_err-take-3.ensures.1
    (programs (omega arith) f word.means name.means (declared.means f (omega arith)) (body.means f (omega arith)) c.in_err-take-3.ensures.means stay)

pub returns-clause-means : goal.returns-clause-means
returns-clause-means c = λ f h.
    let word = c.in_ok-take.ensures in
    let name = c.in_ok-take-2.ensures in
    let declared = c.in_ok-variables.ensures in
    let body = c.in_ok-list.ensures in
    let last = c.in_ok-take-3.ensures in
    programs (omega arith) f word.means name.means (declared.means f (omega arith)) (body.means f (omega arith)) last.means c.take-4.ensures.means
