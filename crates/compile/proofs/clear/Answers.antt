use mathlib.Core.Path.{sym, ◌∙◌}
use Rattle.compile.proofs.Clearing.{kept, cleared, cleared-accepted}
use Rattle.compile.proofs.clear.Goals as goal
use Rattle.compile.proofs.clear.Goals.{in_default-via-in-Err+else-eq, in_default-via-in_default}

pub returns-in-Err : goal.returns-in-Err
returns-in-Err c = kept _ _ _ c.in-Err.is (rw c.in-Err.refusal-is at (sym c.eq.ensures ∙ c.if-eq.true))

pub returns-in_default : goal.returns-in_default
returns-in_default c = elim c.in_default.branch [
  | in_default-via-in-Err+else-eq w ↦ cleared _ _ _ _ w.in-Err.is (rw w.in-Err.refusal-is at (sym w.eq.ensures ∙ w.if-eq.false)) c.clear.ensures
  | in_default-via-in_default w ↦ cleared-accepted _ _ _ _ w.in_default.is c.clear.ensures
]
