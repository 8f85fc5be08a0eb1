use mathlib.Core.Path.{◌≡◌, sym, ◌∙◌}
use lib.ListN.{get_or}
use lib.IntN.{pos}
use mir.Syntax.{w32}
use mir.Val.{to_z, of_z}
use borrow.Author.Rules.{rules}
use Rattle.machine.proofs.Counting.{allowed}
use Rattle.machine.proofs.Machine.counted.Goals as goal

pub returns : goal.returns
returns c =
    let v = get_or c.args.table.now c.args.l.slot (pos 0) in
    let h = get_or c.args.self.now.held c.args.l.level (pos 0) in
    let x : to_z w32 (of_z w32 v) ≡ v = search rules in
    let z : to_z w32 (of_z w32 h) ≡ h = search rules in
    let may = sym c.may_count.ensures ∙ c.if-not-may_count.false in
    record { may = may; slot = (allowed _ _ _ _ _ may).slot; value = x; final = z }
