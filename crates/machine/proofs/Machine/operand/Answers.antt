use mathlib.Core.Path.{◌∙◌}
use Prim.Native.Nat.{◌-◌}
use lib.ListN.{get_or}
use lib.IntN.{pos}
use mir.Syntax.{w32}
use mir.Val.{SFits}
use mir.Facts.{to_z-of_z}
use borrow.Author.Rules.{rules}
use Rattle.machine.proofs.Stack.{down_at}
use Rattle.machine.proofs.Machine.operand.Goals as goal

pub returns : goal.returns
returns c =
    let s = c.args.self.now in
    let f : SFits w32 (get_or s.stack (s.height - 1 - c.args.depth) (pos 0)) = search rules in
    (c.if-self-depth.false, to_z-of_z f ∙ down_at _ _ _ c.if-self-depth.false)
