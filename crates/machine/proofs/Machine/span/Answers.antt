use mathlib.Core.Path.{◌≡◌, ap, ◌∙◌}
use Prim.Native.Nat.{◌+◌}
use lib.IntN.{ℤ}
use mir.Facts.{to_z-of_z}
use mir.Syntax.{w32}
use mir.Val.{to_z, of_z}
use borrow.Author.Rules.{rules}
use Rattle.rules.specs.Limits.{stack_limit}
use Rattle.rules.specs.Numbers.{of_bool}
use Rattle.rules.specs.Machine.{push, code_in}
use Rattle.machine.specs.Stepping.{view, after}
use Rattle.machine.proofs.Stack.{back, deep, shallow, ended, spans_same}
use Rattle.machine.proofs.Moves.{span_is, span_none}
use Rattle.machine.specs.declared.Stop.TheVariants.{Broken}
use Rattle.machine.proofs.Machine.span.Goals as goal

pub returns-in_err-v : goal.returns-in_err-v
returns-in_err-v c = λ Γ code b t. rw (ended _ Broken c.from_residual.ensures.1 c.in_err-v.ensures.1) (span_none Γ code b (view c.args.self) t _ _ (shallow _ _ _ c.in_err-v.ensures.0))

pub returns : goal.returns
returns c =
    let m = c.args.self in
    let z = c.in_ok-v.v in
    let v : to_z w32 (of_z w32 z) ≡ z = search rules in
    let inside = c.within.ensures ∙ spans_same (to_z-of_z c.ranges.lowest) (v ∙ c.in_ok-v.ensures.1) (to_z-of_z c.ranges.highest) in
    λ Γ code b t.
    c.put.ensures Γ code b t
    ∙ ap (λ (z : ℤ). after b (view m) t (push (code_in Γ code stack_limit) z (m.at + 9) (view m).stack m.held t)) (back c.flag.type_inv ∙ c.flag.ensures ∙ ap of_bool inside)
    ∙ span_is Γ code b (view m) t _ _ (deep _ _ _ c.in_ok-v.ensures.0)
