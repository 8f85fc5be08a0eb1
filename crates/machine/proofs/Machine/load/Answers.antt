use mathlib.Core.Path.{◌≡◌, refl, ap, ◌∙◌}
use lib.ListN.{get_or}
use lib.IntN.{pos}
use mir.Syntax.{w32}
use mir.Val.{to_z, of_z}
use borrow.Author.Rules.{rules}
use Rattle.machine.specs.Stepping.{view, ahead}
use Rattle.machine.proofs.Stack.{down_length, pushed_same, moved}
use Rattle.machine.proofs.Moves.{put_on, put_out, load_on, load_out}
use Rattle.machine.proofs.Machine.load.Goals.{then-table-slot-via-then-table-slot, then-table-slot-via-else-table-slot+then-self-ge-STACK}
use Rattle.machine.proofs.Machine.load.Goals as goal

pub returns-then-table-slot : goal.returns-then-table-slot
returns-then-table-slot c =
    let m = c.args.self in
    λ Γ code b.
    elim c.then-table-slot.branch [
      | then-table-slot-via-then-table-slot w ↦ load_out Γ code b (view m) _ _ w.if-table-slot.true
      | then-table-slot-via-else-table-slot+then-self-ge-STACK w ↦
          put_out Γ code b (view m) _ 2 _ (rw (down_length m.stack m.height) w.if-self-ge-STACK.true) ∙ load_on Γ code b (view m) _ _ w.if-table-slot.false
    ]

pub returns : goal.returns
returns c =
    let m = c.args.self in
    let v = get_or c.args.table.now c.args.slot (pos 0) in
    let w : to_z w32 (of_z w32 v) ≡ v = search rules in
    λ Γ code b.
    moved _ (c.advance.ensures.view ∙ ap (ahead 2) (c.push.ensures.view ∙ pushed_same w refl))
    ∙ put_on Γ code b (view m) _ 2 _ (rw (down_length m.stack m.height) c.if-self-ge-STACK.false)
    ∙ load_on Γ code b (view m) _ _ c.if-table-slot.false
