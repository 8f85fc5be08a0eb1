use mathlib.Core.Path.{ap, ◌∙◌}
use Rattle.machine.specs.Stepping.{view, ahead}
use Rattle.machine.proofs.Stack.{deep, shallow, ended, moved}
use Rattle.machine.proofs.Moves.{drop_on, drop-none}
use Rattle.machine.specs.declared.Stop.TheVariants.{Broken}
use Rattle.machine.proofs.Machine.discard.Goals as goal

pub returns-in_err-operand : goal.returns-in_err-operand
returns-in_err-operand c = λ Γ code b t. rw (ended _ Broken c.from_residual.ensures.1 c.in_err-operand.ensures.1) (drop-none Γ code b (view c.args.self) t (shallow _ _ _ c.in_err-operand.ensures.0))

pub returns : goal.returns
returns c =
    λ Γ code b t.
    moved t (c.advance.ensures.view ∙ ap (ahead 1) c.pop.ensures.view)
    ∙ drop_on Γ code b (view c.args.self) t (deep _ _ _ c.in_ok-operand.ensures.0)
