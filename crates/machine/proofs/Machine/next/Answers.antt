use mathlib.Core.Path.{◌≡◌, sym, ◌∙◌}
use lib.ListN.{length}
use mir.Syntax.{w32}
use mir.Val.{to_z, of_z}
use borrow.Author.Rules.{rules}
use Rattle.rules.specs.Limits.{for_limit}
use Rattle.variables.specs.Slots.{types_in}
use Rattle.machine.specs.Stepping.{view}
use Rattle.machine.specs.declared.Stop.TheVariants.{Broken}
use Rattle.compare.specs.Advancing.{advance_of}
use Rattle.machine.proofs.Stack.{ended, moved}
use Rattle.machine.proofs.Counting.{same3, ends_is, steps_is}
use Rattle.machine.proofs.Moves.{go_on, go_out, next_bad, next_go, next_on_lem}
use Rattle.machine.proofs.Machine.next.Goals as goal

pub returns-in_err-v : goal.returns-in_err-v
returns-in_err-v c =
    let eight : length c.args.self.held ≡ for_limit = search rules in
    λ b. rw (ended _ Broken c.from_residual.ensures.1 c.in_err-v.ensures.1) (next_bad (types_in c.args.vars.now) c.args.code.now b (view c.args.self) c.args.table.now c.args.l eight c.in_err-v.ensures.0)

pub returns-in_default : goal.returns-in_default
returns-in_default c =
    let eight : length c.args.self.held ≡ for_limit = search rules in
    let n = c.in_ok-v.ensures in
    let v : to_z w32 (of_z w32 c.in_ok-v.v) ≡ c.in_ok-v.v = search rules in
    let last : to_z w32 (of_z w32 c.in_ok-v.last) ≡ c.in_ok-v.last = search rules in
    let step : to_z w32 (of_z w32 c.args.l.step) ≡ c.args.l.step = search rules in
    let answered = sym (c.advanced.ensures ∙ same3 advance_of (v ∙ n.value) step (last ∙ n.final)) in
    λ b.
    moved _ c.advance.ensures.view
    ∙ next_on_lem (types_in c.args.vars.now) c.args.code.now b (view c.args.self) c.args.table.now c.args.l eight n.may (ends_is _ _ _ (answered ∙ c.in_default.is))

pub returns-in_err-landed : goal.returns-in_err-landed
returns-in_err-landed c =
    let eight : length c.args.self.held ≡ for_limit = search rules in
    let n = c.in_ok-v.ensures in
    let v : to_z w32 (of_z w32 c.in_ok-v.v) ≡ c.in_ok-v.v = search rules in
    let last : to_z w32 (of_z w32 c.in_ok-v.last) ≡ c.in_ok-v.last = search rules in
    let step : to_z w32 (of_z w32 c.args.l.step) ≡ c.args.l.step = search rules in
    let answered = sym (c.advanced.ensures ∙ same3 advance_of (v ∙ n.value) step (last ∙ n.final)) in
    let p = steps_is _ _ _ _ (answered ∙ c.in-Some.is) in
    let j = c.in_err-landed.ensures in
    λ b.
    rw (ended _ Broken c.from_residual-in_err-landed.ensures.1 j.1)
    (go_out (types_in c.args.vars.now) c.args.code.now b (view c.args.self) c.args.table.now _ _ _ j.0
    ∙ next_go (types_in c.args.vars.now) c.args.code.now b (view c.args.self) c.args.table.now c.args.l eight _ n.may p.0 p.1)

pub returns : goal.returns
returns c =
    let eight : length c.args.self.held ≡ for_limit = search rules in
    let n = c.in_ok-v.ensures in
    let v : to_z w32 (of_z w32 c.in_ok-v.v) ≡ c.in_ok-v.v = search rules in
    let last : to_z w32 (of_z w32 c.in_ok-v.last) ≡ c.in_ok-v.last = search rules in
    let step : to_z w32 (of_z w32 c.args.l.step) ≡ c.args.l.step = search rules in
    let answered = sym (c.advanced.ensures ∙ same3 advance_of (v ∙ n.value) step (last ∙ n.final)) in
    let p = steps_is _ _ _ _ (answered ∙ c.in-Some.is) in
    let j = c.in_ok-landed.ensures in
    let next = c.in-Some.next in
    let back : to_z w32 (of_z w32 next) ≡ next = search rules in
    λ b.
    rw back
    (moved _ j.1
    ∙ go_on (types_in c.args.vars.now) c.args.code.now b (view c.args.self) c.args.table.now _ _ _ j.0
    ∙ next_go (types_in c.args.vars.now) c.args.code.now b (view c.args.self) c.args.table.now c.args.l eight _ n.may p.0 p.1)
