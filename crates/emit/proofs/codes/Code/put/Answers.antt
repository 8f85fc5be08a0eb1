use mathlib.Core.Path.{sym, ◌∙◌}
use native.Mathlib.Omega.{arith}
use Rattle.emit.proofs.PutSteps.{room, put_done, put_none}
use Rattle.emit.proofs.codes.Code.put.Goals as goal

pub overflow_cast-self-then-has_room : goal.overflow_cast-self-then-has_room
overflow_cast-self-then-has_room c = let r = room _ _ _ (sym c.has_room.ensures ∙ c.if-has_room.true) in omega arith

pub overflow_add-self : goal.overflow_add-self
overflow_add-self c = let r = room _ _ _ (sym c.has_room.ensures ∙ c.if-has_room.true) in omega arith

pub returns-then-has_room-clause-puts : goal.returns-then-has_room-clause-puts
returns-then-has_room-clause-puts c = put_done _ _ _ _ (sym c.has_room.ensures ∙ c.if-has_room.true) c.put.ensures.1

pub returns-else-has_room-clause-puts : goal.returns-else-has_room-clause-puts
returns-else-has_room-clause-puts c = put_none _ _ _ (sym c.has_room.ensures ∙ c.if-has_room.false)
