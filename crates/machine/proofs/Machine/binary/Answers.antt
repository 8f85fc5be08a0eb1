use mathlib.Core.Path.{◌≡◌, refl, ap, ◌∙◌}
use mir.Syntax.{w32}
use mir.Val.{to_z, of_z}
use borrow.Author.Rules.{rules}
use Rattle.machine.specs.Stepping.{view, ahead, popped}
use Rattle.machine.proofs.Stack.{deep, shallow, ended, moved, pushed_same, answer_same, binop_same, second}
use Rattle.machine.proofs.Moves.{answer_on, answer_out, binary_on, binary_out}
use Rattle.machine.specs.declared.Stop.TheVariants.{Broken}
use Rattle.machine.proofs.Machine.binary.Goals as goal

pub returns-in_err-left : goal.returns-in_err-left
returns-in_err-left c = λ Γ code b t. rw (ended _ Broken c.from_residual.ensures.1 c.in_err-left.ensures.1) (binary_out Γ code b (view c.args.self) t _ (shallow _ _ _ c.in_err-left.ensures.0))

pub returns-in_err-v : goal.returns-in_err-v
returns-in_err-v c =
    let m = c.args.self in
    let x = c.in_ok-left.left in
    let y = c.in_ok-right.right in
    let left : to_z w32 (of_z w32 x) ≡ x = search rules in
    let right : to_z w32 (of_z w32 y) ≡ y = search rules in
    let same = binop_same _ (left ∙ c.in_ok-left.ensures.1 ∙ second (view m).stack) (right ∙ c.in_ok-right.ensures.1) in
    λ Γ code b t.
    rw (ended _ _ c.from_residual-in_err-v.ensures.1 refl)
    (answer_out Γ code b (view m) t _ _ ∙ answer_same b t (view m) (c.in_err-v.ensures ∙ same) refl ∙ binary_on Γ code b (view m) t _ (deep _ _ _ c.in_ok-left.ensures.0))

pub returns : goal.returns
returns c =
    let m = c.args.self in
    let z = c.in_ok-v.v in
    let v : to_z w32 (of_z w32 z) ≡ z = search rules in
    let x = c.in_ok-left.left in
    let y = c.in_ok-right.right in
    let left : to_z w32 (of_z w32 x) ≡ x = search rules in
    let right : to_z w32 (of_z w32 y) ≡ y = search rules in
    let same = binop_same _ (left ∙ c.in_ok-left.ensures.1 ∙ second (view m).stack) (right ∙ c.in_ok-right.ensures.1) in
    λ Γ code b t.
    moved t (c.advance.ensures.view ∙ ap (ahead 1) (c.push.ensures.view ∙ pushed_same v (c.pop-2.ensures.view ∙ ap popped c.pop.ensures.view)))
    ∙ answer_on Γ code b (view m) t _ _
    ∙ answer_same b t (view m) (c.in_ok-v.ensures ∙ same) refl
    ∙ binary_on Γ code b (view m) t _ (deep _ _ _ c.in_ok-left.ensures.0)
