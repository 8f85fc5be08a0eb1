use mathlib.Core.Path.{sym}
use native.Mathlib.Omega.{arith}
use lib.Seq.{length-take-le}
use Rattle.walk.proofs.Clears.{around}
use Rattle.walk.proofs.clear_around.Goals as goal

pub slice_bounds-clear-end-2 : goal.slice_bounds-clear-end-2
slice_bounds-clear-end-2 c = sym (length-take-le 49155 c.args.memory.now (omega arith))

pub returns : goal.returns
returns c = λ h. around c.args.memory.now 49155 c.args.free h.0 h.1 c.clear.ensures c.clear-2.ensures
