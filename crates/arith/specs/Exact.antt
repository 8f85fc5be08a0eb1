-- Exact arithmetic on signed 32-bit numbers: the answers, over ℤ.
use Rattle.std.specs.Prelude.{ℤ, Result, Ok, Err}
use Rattle.rules.specs.Meaning.{Stop, Ev, val, stop, range, divide, ill}
use Rattle.arith.specs.declared.Trap.{Trap}
use Rattle.arith.specs.declared.Trap.TheVariants.{Range, Divide, Bad}

-- the rules' stop
abbrev pub stop_of : Trap → Stop
stop_of Range = range
stop_of Divide = divide
stop_of Bad = ill

-- what an answer stands for
abbrev pub ev_of : Result ℤ Trap → Ev
ev_of (Ok v) = val v
ev_of (Err e) = stop (stop_of e)
