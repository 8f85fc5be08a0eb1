-- The codes of the instructions that are no operators.
use Rattle.std.specs.Prelude.{ℕ}
use Rattle.emit.specs.declared.codes.Op.{Op}
use Rattle.emit.specs.declared.codes.Op.TheVariants.{Tick, Const, Load, Store, Jump, JumpZero, Span, JumpNot, Drop, Hold, First, Next, Halt}

abbrev pub op_number : Op → ℕ
op_number Tick = 1
op_number Const = 2
op_number Load = 3
op_number Store = 4
op_number Jump = 21
op_number JumpZero = 22
op_number Span = 23
op_number JumpNot = 24
op_number Drop = 25
op_number Hold = 26
op_number First = 27
op_number Next = 28
op_number Halt = 29
