use mathlib.Core.Path.{◌≡◌, sym, ap, ◌∙◌}
use lib.IntN.{ℤ}
use mir.Syntax.{w32}
use mir.Val.{to_z, of_z}
use borrow.Author.Rules.{rules}
use Rattle.rules.specs.Numbers.{is_zero}
use Rattle.machine.specs.Stepping.{view, ahead, popped, taken}
use Rattle.machine.specs.declared.Stop.TheVariants.{Broken}
use Rattle.machine.proofs.Stack.{deep, shallow, ended, moved}
use Rattle.machine.proofs.Moves.{branch_on, branch_not, branch-none, go_on, go_out}
use Rattle.machine.proofs.Machine.branch.Goals as goal

pub returns-in_err-v : goal.returns-in_err-v
returns-in_err-v c = λ Γ b t. rw (ended _ Broken c.from_residual.ensures.1 c.in_err-v.ensures.1) (branch-none Γ c.args.code.now b (view c.args.self) t c.args.zero c.args.target (shallow _ _ _ c.in_err-v.ensures.0))

pub returns-then-not-is_taken : goal.returns-then-not-is_taken
returns-then-not-is_taken c =
    let z = c.in_ok-v.v in
    let v : to_z w32 (of_z w32 z) ≡ z = search rules in
    let tested = c.is_taken.ensures ∙ ap (λ (z : ℤ). taken c.args.zero (is_zero z)) (v ∙ c.in_ok-v.ensures.1) in
    λ Γ b t.
    moved t (c.advance.ensures.view ∙ ap (ahead 3) c.pop.ensures.view)
    ∙ branch_not Γ c.args.code.now b (view c.args.self) t c.args.zero c.args.target (deep _ _ _ c.in_ok-v.ensures.0) (sym tested ∙ c.if-not-is_taken.true)

pub returns-in_err-landed : goal.returns-in_err-landed
returns-in_err-landed c =
    let z = c.in_ok-v.v in
    let v : to_z w32 (of_z w32 z) ≡ z = search rules in
    let tested = c.is_taken.ensures ∙ ap (λ (z : ℤ). taken c.args.zero (is_zero z)) (v ∙ c.in_ok-v.ensures.1) in
    let j = c.in_err-landed.ensures in
    λ Γ b t.
    rw (ended _ Broken c.from_residual-in_err-landed.ensures.1 j.1)
    (go_out Γ c.args.code.now b (view c.args.self) t c.args.target _ t j.0
    ∙ branch_on Γ c.args.code.now b (view c.args.self) t c.args.zero c.args.target (deep _ _ _ c.in_ok-v.ensures.0) (sym tested ∙ c.if-not-is_taken.false))

pub returns : goal.returns
returns c =
    let z = c.in_ok-v.v in
    let v : to_z w32 (of_z w32 z) ≡ z = search rules in
    let tested = c.is_taken.ensures ∙ ap (λ (z : ℤ). taken c.args.zero (is_zero z)) (v ∙ c.in_ok-v.ensures.1) in
    let j = c.in_ok-landed.ensures in
    λ Γ b t.
    moved t (c.pop-2.ensures.view ∙ ap popped j.1)
    ∙ go_on Γ c.args.code.now b (view c.args.self) t c.args.target _ t j.0
    ∙ branch_on Γ c.args.code.now b (view c.args.self) t c.args.zero c.args.target (deep _ _ _ c.in_ok-v.ensures.0) (sym tested ∙ c.if-not-is_taken.false)
