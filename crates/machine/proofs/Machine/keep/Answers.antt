use mathlib.Core.Path.{◌≡◌, ap, ◌∙◌}
use lib.ListN.{length}
use mir.Syntax.{w32}
use mir.Val.{to_z, of_z}
use borrow.Author.Rules.{rules}
use Rattle.machine.specs.Stepping.{view, ahead}
use Rattle.machine.proofs.Stack.{deep, shallow, ended, moved, holding_same}
use Rattle.machine.proofs.Moves.{hold_on, hold_out, hold-none}
use Rattle.machine.specs.declared.Stop.TheVariants.{Broken}
use Rattle.machine.proofs.Machine.keep.Goals as goal

pub returns-in_err-v : goal.returns-in_err-v
returns-in_err-v c = λ Γ code b t. rw (ended _ Broken c.from_residual.ensures.1 c.in_err-v.ensures.1) (hold-none Γ code b (view c.args.self) t _ (shallow _ _ _ c.in_err-v.ensures.0))

pub returns-then-level-ge-HELD : goal.returns-then-level-ge-HELD
returns-then-level-ge-HELD c =
    let eight : length c.args.self.held ≡ 8 = search rules in
    λ Γ code b t. hold_out Γ code b (view c.args.self) t _ (deep _ _ _ c.in_ok-v.ensures.0) (rw eight c.if-level-ge-HELD.true)

pub returns : goal.returns
returns c =
    let eight : length c.args.self.held ≡ 8 = search rules in
    let z = c.in_ok-v.v in
    let v : to_z w32 (of_z w32 z) ≡ z = search rules in
    λ Γ code b t.
    moved t (c.advance.ensures.view ∙ ap (ahead 2) (c.hold.ensures.view ∙ holding_same _ (v ∙ c.in_ok-v.ensures.1) c.pop.ensures.view))
    ∙ hold_on Γ code b (view c.args.self) t _ (deep _ _ _ c.in_ok-v.ensures.0) (rw eight c.if-level-ge-HELD.false)
