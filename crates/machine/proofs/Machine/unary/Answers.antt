use mathlib.Core.Path.{◌≡◌, refl, ap, ◌∙◌}
use mir.Syntax.{w32}
use mir.Val.{to_z, of_z}
use borrow.Author.Rules.{rules}
use Rattle.rules.specs.Meaning.{unop}
use Rattle.codes.specs.Table.{un_of}
use Rattle.machine.specs.Stepping.{view, ahead}
use Rattle.machine.proofs.Stack.{deep, shallow, ended, moved, pushed_same, answer_same}
use Rattle.machine.proofs.Moves.{answer_on, answer_out, unary_on, unary-none}
use Rattle.machine.specs.declared.Stop.TheVariants.{Broken}
use Rattle.machine.proofs.Machine.unary.Goals as goal

pub returns-in_err-x : goal.returns-in_err-x
returns-in_err-x c = λ Γ code b t. rw (ended _ Broken c.from_residual.ensures.1 c.in_err-x.ensures.1) (unary-none Γ code b (view c.args.self) t _ (shallow _ _ _ c.in_err-x.ensures.0))

pub returns-in_err-v : goal.returns-in_err-v
returns-in_err-v c =
    let m = c.args.self in
    let o = c.in_ok-x.x in
    let x : to_z w32 (of_z w32 o) ≡ o = search rules in
    let same = ap (unop (un_of c.args.o)) (x ∙ c.in_ok-x.ensures.1) in
    λ Γ code b t.
    rw (ended _ _ c.from_residual-in_err-v.ensures.1 refl)
    (answer_out Γ code b (view m) t _ _ ∙ answer_same b t (view m) (c.in_err-v.ensures ∙ same) refl ∙ unary_on Γ code b (view m) t _ (deep _ _ _ c.in_ok-x.ensures.0))

pub returns : goal.returns
returns c =
    let m = c.args.self in
    let o = c.in_ok-x.x in
    let x : to_z w32 (of_z w32 o) ≡ o = search rules in
    let same = ap (unop (un_of c.args.o)) (x ∙ c.in_ok-x.ensures.1) in
    let z = c.in_ok-v.v in
    let v : to_z w32 (of_z w32 z) ≡ z = search rules in
    λ Γ code b t.
    moved t (c.advance.ensures.view ∙ ap (ahead 1) (c.push.ensures.view ∙ pushed_same v c.pop.ensures.view))
    ∙ answer_on Γ code b (view m) t _ _
    ∙ answer_same b t (view m) (c.in_ok-v.ensures ∙ same) refl
    ∙ unary_on Γ code b (view m) t _ (deep _ _ _ c.in_ok-x.ensures.0)
