use mathlib.Core.Path.{◌∙◌}
use Rattle.machine.specs.Stepping.{view}
use Rattle.machine.proofs.Stack.{moved}
use Rattle.machine.proofs.Moves.{tick_on, tick_out}
use Rattle.machine.proofs.Machine.tick.Goals as goal

pub returns-then-budget-self : goal.returns-then-budget-self
returns-then-budget-self c = λ Γ code t. tick_out Γ code c.args.budget (view c.args.self) t c.if-budget-self.true

pub returns : goal.returns
returns c = λ Γ code t. moved t c.advance.ensures.view ∙ tick_on Γ code c.args.budget (view c.args.self) t c.if-budget-self.false
