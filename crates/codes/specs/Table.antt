-- The table of operand lengths, and what the code's instructions stand for in the rules.
use Rattle.std.specs.Prelude.{List, [], ◌∷◌, ℕ, ◌+◌, ℤ, get_or, Option, None, Some}
use Rattle.rules.specs.Bytes.{of2, of4}
use Rattle.rules.specs.Core as Core
use Rattle.rules.specs.Codes.{Instr, TICK, CONST, LOAD, STORE, UN, BIN, JUMP, JZ, JNZ, SPAN, DROP, HOLD, FIRST, NEXT, HALT, BAD}
use Rattle.codes.specs.declared.Prefix.{Prefix}
use Rattle.codes.specs.declared.Prefix.TheVariants.{Neg, Not}
use Rattle.codes.specs.declared.Operator.{Operator}
use Rattle.codes.specs.declared.Operator.TheVariants.{Mul, Div, Mod, Add, Sub, Lt, Gt, Le, Ge, Eq, Ne, And, Xor, Or}
use Rattle.codes.specs.declared.Instruction.{Instruction}
use Rattle.codes.specs.declared.Instruction.TheVariants.{Tick, Const, Load, Store, Unary, Binary, Jump, JumpZero, JumpNot, Span, Drop, Hold, First, Next, Halt}

-- how many operand bytes follow each code, 0 to 29
abbrev pub lengths : List ℕ
lengths =
    0 ∷ 0 ∷ 4 ∷ 1 ∷ 1 ∷ 0 ∷ 0 ∷ 0 ∷ 0 ∷ 0 ∷ 0 ∷ 0 ∷ 0 ∷ 0 ∷ 0 ∷ 0 ∷ 0 ∷ 0 ∷ 0 ∷ 0 ∷ 0 ∷ 2 ∷ 2 ∷ 8 ∷ 2 ∷ 0 ∷ 1 ∷ 8 ∷ 8 ∷ 0 ∷ []

-- the numbers of the two and the four bytes at an offset
abbrev pub word_at : List ℕ → ℕ → ℕ
word_at s at = of2 (get_or s at 0) (get_or s (at + 1) 0)

abbrev pub value_at : List ℕ → ℕ → ℤ
value_at s at = of4 (get_or s at 0) (get_or s (at + 1) 0) (get_or s (at + 2) 0) (get_or s (at + 3) 0)

-- the operators of the rules
abbrev pub un_of : Prefix → Core.Un
un_of Neg = Core.Neg
un_of Not = Core.Not

abbrev pub bin_of : Operator → Core.Bin
bin_of Mul = Core.Mul
bin_of Div = Core.Div
bin_of Mod = Core.Mod
bin_of Add = Core.Add
bin_of Sub = Core.Sub
bin_of Lt = Core.Lt
bin_of Gt = Core.Gt
bin_of Le = Core.Le
bin_of Ge = Core.Ge
bin_of Eq = Core.Eq
bin_of Ne = Core.Ne
bin_of And = Core.And
bin_of Xor = Core.Xor
bin_of Or = Core.Or

-- the instructions of the rules
abbrev pub instr_of : Instruction → Instr
instr_of Tick = TICK
instr_of (Const v) = CONST v
instr_of (Load slot) = LOAD slot
instr_of (Store slot) = STORE slot
instr_of (Unary o) = UN (un_of o)
instr_of (Binary o) = BIN (bin_of o)
instr_of (Jump to) = JUMP to
instr_of (JumpZero to) = JZ to
instr_of (JumpNot to) = JNZ to
instr_of (Span low high) = SPAN low high
instr_of Drop = DROP
instr_of (Hold level) = HOLD level
instr_of (First l) = FIRST l.level l.slot l.step l.to
instr_of (Next l) = NEXT l.level l.slot l.step l.to
instr_of Halt = HALT

-- what stands in the code: an instruction, or none
abbrev pub decoded : Option Instruction → Instr
decoded None = BAD
decoded (Some i) = instr_of i
