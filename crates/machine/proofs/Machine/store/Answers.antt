use mathlib.Core.Path.{◌≡◌, sym, ap, ◌∙◌}
use lib.ListN.{get_or}
use mir.Syntax.{w32}
use mir.Val.{to_z, of_z}
use borrow.Author.Rules.{rules}
use Rattle.rules.specs.Numbers.{dint, holds}
use Rattle.variables.specs.Slots.{types_in}
use Rattle.machine.specs.Stepping.{view, ahead}
use Rattle.machine.proofs.Stack.{deep, shallow, ended, moved}
use Rattle.machine.proofs.Moves.{store_on, store_not, store_out, store-none}
use Rattle.machine.specs.declared.Stop.TheVariants.{Broken}
use Rattle.machine.proofs.Machine.store.Goals as goal

pub returns-in_err-v : goal.returns-in_err-v
returns-in_err-v c = λ code b. rw (ended _ Broken c.from_residual.ensures.1 c.in_err-v.ensures.1) (store-none (types_in c.args.vars.now) code b (view c.args.self) _ _ (shallow _ _ _ c.in_err-v.ensures.0))

pub returns-then-table-slot : goal.returns-then-table-slot
returns-then-table-slot c = λ code b. store_out (types_in c.args.vars.now) code b (view c.args.self) _ _ (deep _ _ _ c.in_ok-v.ensures.0) c.if-table-slot.true

pub returns-then-not-may_hold : goal.returns-then-not-may_hold
returns-then-not-may_hold c =
    let z = c.in_ok-v.v in
    let v : to_z w32 (of_z w32 z) ≡ z = search rules in
    let held = ap (holds (get_or (types_in c.args.vars.now) c.args.slot dint)) (v ∙ c.in_ok-v.ensures.1) in
    λ code b. store_not (types_in c.args.vars.now) code b (view c.args.self) _ _ (deep _ _ _ c.in_ok-v.ensures.0) c.if-table-slot.false (sym (c.may_hold.ensures ∙ held) ∙ c.if-not-may_hold.true)

pub returns : goal.returns
returns c =
    let z = c.in_ok-v.v in
    let v : to_z w32 (of_z w32 z) ≡ z = search rules in
    let held = ap (holds (get_or (types_in c.args.vars.now) c.args.slot dint)) (v ∙ c.in_ok-v.ensures.1) in
    λ code b.
    moved _ (c.advance.ensures.view ∙ ap (ahead 2) c.pop.ensures.view)
    ∙ rw (v ∙ c.in_ok-v.ensures.1) (store_on (types_in c.args.vars.now) code b (view c.args.self) c.args.table.now c.args.slot (deep _ _ _ c.in_ok-v.ensures.0) c.if-table-slot.false (sym (c.may_hold.ensures ∙ held) ∙ c.if-not-may_hold.false))
