use mathlib.Core.Path.{refl}
use mir.Facts.{to_z-of_z}
use borrow.Author.Rules.{rules}
use Rattle.machine.proofs.Stack.{down_push}
use Rattle.machine.proofs.Machine.push.Goals as goal

pub returns-clause-view : goal.returns-clause-view
returns-clause-view c = rw (to_z-of_z c.ranges.v, down_push c.args.self.stack c.args.self.height c.args.v (search rules)) refl
