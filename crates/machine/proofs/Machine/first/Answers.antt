use mathlib.Core.Path.{◌≡◌, sym, ◌∙◌}
use lib.ListN.{length}
use mir.Syntax.{w32}
use mir.Val.{to_z, of_z}
use borrow.Author.Rules.{rules}
use Rattle.rules.specs.Limits.{for_limit}
use Rattle.variables.specs.Slots.{types_in}
use Rattle.machine.specs.Stepping.{view}
use Rattle.machine.specs.declared.Stop.TheVariants.{Broken}
use Rattle.rules.specs.Meaning.{passes}
use Rattle.machine.proofs.Stack.{ended, moved}
use Rattle.machine.proofs.Counting.{same3}
use Rattle.machine.proofs.Moves.{jumps, first_bad, first_go, first_on_lem}
use Rattle.machine.proofs.Machine.first.Goals as goal

pub returns-in_err-v : goal.returns-in_err-v
returns-in_err-v c =
    let eight : length c.args.self.held ≡ for_limit = search rules in
    λ b. rw (ended _ Broken c.from_residual.ensures.1 c.in_err-v.ensures.1) (first_bad (types_in c.args.vars.now) c.args.code.now b (view c.args.self) c.args.table.now c.args.l eight c.in_err-v.ensures.0)

pub returns-then-passes : goal.returns-then-passes
returns-then-passes c =
    let eight : length c.args.self.held ≡ for_limit = search rules in
    let n = c.in_ok-v.ensures in
    let v : to_z w32 (of_z w32 c.in_ok-v.v) ≡ c.in_ok-v.v = search rules in
    let last : to_z w32 (of_z w32 c.in_ok-v.last) ≡ c.in_ok-v.last = search rules in
    let step : to_z w32 (of_z w32 c.args.l.step) ≡ c.args.l.step = search rules in
    let tested = c.passes.ensures ∙ same3 passes step (v ∙ n.value) (last ∙ n.final) in
    λ b.
    jumps c.args.code.now c.args.self c.jump.result c.args.l.to c.jump.ensures (types_in c.args.vars.now) b c.args.table.now
    ∙ first_go (types_in c.args.vars.now) c.args.code.now b (view c.args.self) c.args.table.now c.args.l eight n.may (sym tested ∙ c.if-passes.true)

pub returns : goal.returns
returns c =
    let eight : length c.args.self.held ≡ for_limit = search rules in
    let n = c.in_ok-v.ensures in
    let v : to_z w32 (of_z w32 c.in_ok-v.v) ≡ c.in_ok-v.v = search rules in
    let last : to_z w32 (of_z w32 c.in_ok-v.last) ≡ c.in_ok-v.last = search rules in
    let step : to_z w32 (of_z w32 c.args.l.step) ≡ c.args.l.step = search rules in
    let tested = c.passes.ensures ∙ same3 passes step (v ∙ n.value) (last ∙ n.final) in
    λ b.
    moved _ c.advance.ensures.view
    ∙ first_on_lem (types_in c.args.vars.now) c.args.code.now b (view c.args.self) c.args.table.now c.args.l eight n.may (sym tested ∙ c.if-passes.false)
