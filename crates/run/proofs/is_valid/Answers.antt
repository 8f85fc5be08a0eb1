use mathlib.Core.Path.{◌≡◌, sym, ap, ◌∙◌}
use native.Mathlib.Omega.{arith}
use lib.ListN.{get_or}
use lib.IntN.{pos}
use mir.Syntax.{w32}
use mir.Val.{to_z, of_z}
use borrow.Author.Rules.{rules}
use Rattle.rules.specs.Numbers.{dint, holds}
use Rattle.variables.specs.Slots.{types_in}
use Rattle.run.proofs.Tables.{valid_off, valid_is, hold_on, hold_off, hold_end}
use Rattle.run.proofs.is_valid.Goals as goal

pub returns-then-table-count : goal.returns-then-table-count
returns-then-table-count c = valid_off _ _ (λ e. c.if-table-count.true (e ∙ sym c.count.ensures))

pub returns-then-not-may_hold : goal.returns-then-not-may_hold
returns-then-not-may_hold c =
    let k = c.loop-k.k in
    let i = c.loop-k.invariant in
    let z = get_or c.args.table.now k (pos 0) in
    let w : to_z w32 (of_z w32 z) ≡ z = search rules in
    let held = c.may_hold.ensures ∙ ap (holds (get_or (types_in c.args.vars.now) k dint)) w in
    valid_is _ _ i.0 (sym (i.1 ∙ hold_off _ _ _ i.0 c.loop-k-test.true (sym held ∙ c.if-not-may_hold.true)))

pub loop-k-preserved : goal.loop-k-preserved
loop-k-preserved c =
    let k = c.loop-k.k in
    let i = c.loop-k.invariant in
    let z = get_or c.args.table.now k (pos 0) in
    let w : to_z w32 (of_z w32 z) ≡ z = search rules in
    let held = c.may_hold.ensures ∙ ap (holds (get_or (types_in c.args.vars.now) k dint)) w in
    (i.0, i.1 ∙ hold_on _ _ _ i.0 c.loop-k-test.true (sym held ∙ c.if-not-may_hold.false))

pub returns : goal.returns
returns c =
    let i = c.loop-k.invariant in
    valid_is _ _ i.0 (sym (i.1 ∙ hold_end _ _ c.loop-k.k i.0 (omega arith)))
