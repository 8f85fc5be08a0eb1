use mathlib.Core.Path.{refl, ap, ◌∙◌}
use mir.Facts.{to_z-of_z}
use Rattle.machine.specs.Stepping.{view, ahead}
use Rattle.machine.proofs.Stack.{down_length, pushed_same, moved}
use Rattle.machine.proofs.Moves.{put_on, put_out}
use Rattle.machine.proofs.Machine.put.Goals as goal

pub returns-then-self-ge-STACK : goal.returns-then-self-ge-STACK
returns-then-self-ge-STACK c =
    let m = c.args.self in
    λ Γ code b t. put_out Γ code b (view m) t _ _ (rw (down_length m.stack m.height) c.if-self-ge-STACK.true)

pub returns : goal.returns
returns c =
    let m = c.args.self in
    λ Γ code b t.
    moved t (c.advance.ensures.view ∙ ap (ahead c.args.n) (c.push.ensures.view ∙ pushed_same (to_z-of_z c.ranges.v) refl))
    ∙ put_on Γ code b (view m) t _ _ (rw (down_length m.stack m.height) c.if-self-ge-STACK.false)
