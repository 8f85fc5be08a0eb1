-- The machine that the code holds, seen as a state of the rules; and what a step of the rules makes of it.
use Rattle.std.specs.Prelude.{◌≡◌, Bool, true, false, not, ◌&&◌, ◌||◌, Option, None, Some, Result, Ok, Err, List, [], ◌∷◌, ℕ, zero, suc, ◌+◌, ◌≤◌, ◌<◌, ltb, leb, ℤ, pos, length, get_or, set, drop, replicate}
use Rattle.rules.specs.Limits.{stack_limit, for_limit}
use Rattle.rules.specs.Base.{pick}
use Rattle.rules.specs.Numbers.{Ty, dint, is_dint, is_zero}
use Rattle.rules.specs.Codes.{Instr, TICK, STORE, JZ, JNZ, decode}
use Rattle.rules.specs.Meaning.{Table, Stop as End, done, spent, range, divide, ill}
use Rattle.rules.specs.Machine.{state, Step as Deed, on as goOn, tk, end, Code, is_tick, push, act, step, code_in}
use Rattle.arith.specs.declared.Trap.{Trap}
use Rattle.arith.specs.declared.Trap.TheVariants.{Range as TrapRange, Divide as TrapDivide, Bad}
use Rattle.variables.specs.Slots.{types_in}
use Rattle.codes.specs.declared.Loop.{Loop}
use Rattle.machine.specs.declared.Machine.{Machine}
use Rattle.machine.specs.declared.Stop.{Stop}
use Rattle.machine.specs.declared.Stop.TheVariants.{Done, Spent, Range, Divide, Broken}

-- a machine's offset, its stack with the top first, its held final values, and the ticks it has taken
pub record View : Type 0 where
  pub at : ℕ
  pub stack : List ℤ
  pub held : List ℤ
  pub ticks : ℕ

-- the first n values, the last of them first
abbrev pub down : List ℤ → ℕ → List ℤ
down xs zero = []
down xs (suc n) = get_or xs n (pos 0) ∷ down xs n

abbrev pub view : Machine → View
view m = record { at = m.at; stack = down m.stack m.height; held = m.held; ticks = m.ticks }

-- what an instruction makes of a machine: the machine afterwards, and the stop if the run ends
pub record Move : Type 0 where
  pub next : View
  pub stop : Option Stop

-- a stop leaves the machine as it was
abbrev pub move : Machine → Result Machine Stop → Move
move m (Ok n) = record { next = view n; stop = None }
move m (Err k) = record { next = view m; stop = Some k }

-- and of the table
pub record After : Type 0 where
  pub move : Move
  pub table : Table

abbrev pub only : Table → Move → After
only t m = record { move = m; table = t }

-- Changes of a view

-- another stack; one tick more
abbrev pub over : List ℤ → View → View
over s v = record { at = v.at; stack = s; held = v.held; ticks = v.ticks }

abbrev pub ticked : View → View
ticked v = record { at = v.at; stack = v.stack; held = v.held; ticks = v.ticks + 1 }

abbrev pub holding : ℕ → ℤ → View → View
holding level z v = record { at = v.at; stack = v.stack; held = set v.held level z; ticks = v.ticks }

abbrev pub pushed : ℤ → View → View
pushed z v = over (z ∷ v.stack) v

-- the value on top, and what is below it
abbrev pub top_of : List ℤ → ℤ
top_of s = get_or s 0 (pos 0)

abbrev pub below : List ℤ → List ℤ
below [] = []
below (z ∷ s) = s

abbrev pub popped : View → View
popped v = over (below v.stack) v

-- Moves

-- the instruction does nothing, and the run ends
abbrev pub halted : Stop → View → Move
halted k v = record { next = v; stop = Some k }

-- it is done: the machine is at p next; n bytes on
abbrev pub leapt : ℕ → View → View
leapt p v = record { at = p; stack = v.stack; held = v.held; ticks = v.ticks }

abbrev pub ahead : ℕ → View → View
ahead n v = leapt (v.at + n) v

abbrev pub going : View → Move
going v = record { next = v; stop = None }

abbrev pub off : ℕ → View → Move
off p v = going (leapt p v)

abbrev pub on : ℕ → View → Move
on n v = going (ahead n v)

-- The rules' step

abbrev pub stop_of : End → Stop
stop_of done = Done
stop_of spent = Spent
stop_of range = Range
stop_of divide = Divide
stop_of ill = Broken

-- the stop of an operator without a value
abbrev pub stop_for : Trap → Stop
stop_for TrapRange = Range
stop_for TrapDivide = Divide
stop_for Bad = Broken

-- what the rules' step leaves, with the ticks: one is taken if the budget has it, else the run is spent
unfoldable pub after : ℕ → View → Table → Deed → After
after budget v t (goOn (state p s h u)) = only u (off p (record { at = p; stack = s; held = h; ticks = v.ticks }))
after budget v t tk = only t (pick (ltb v.ticks budget) (λ _. on 1 (ticked v)) (λ _. halted Spent v))
after budget v t (end o) = only t (halted (stop_of o) v)

unfoldable pub does : Code → ℕ → Instr → View → Table → After
does c budget i v t = after budget v t (act c i v.at v.stack v.held t)

-- a machine whose stack is over the limit is no state of the rules: it is stopped as bad code
unfoldable pub stepped : Code → ℕ → Machine → Table → After
stepped c budget m t =
    pick (leb m.height stack_limit)
    (λ _. after budget (view m) t (step c (state m.at (view m).stack m.held t)))
    (λ _. only t (halted Broken (view m)))

-- The promises of the parts, each of what it needs and of everything else whatever it is: m is the machine before, r the answer

-- what the instruction i does: whatever code and table; in this code; on this table; TICK, STORE; FIRST and NEXT
abbrev pub Does : Result Machine Stop → Instr → Machine → Type 0
Does r i m = (Γ : List Ty) (code : List ℕ) (budget : ℕ) (t : Table) → only t (move m r) ≡ does (code_in Γ code stack_limit) budget i (view m) t

abbrev pub DoesIn : List ℕ → Result Machine Stop → Instr → Machine → Type 0
DoesIn code r i m = (Γ : List Ty) (budget : ℕ) (t : Table) → only t (move m r) ≡ does (code_in Γ code stack_limit) budget i (view m) t

abbrev pub DoesOn : Table → Result Machine Stop → Instr → Machine → Type 0
DoesOn t r i m = (Γ : List Ty) (code : List ℕ) (budget : ℕ) → only t (move m r) ≡ does (code_in Γ code stack_limit) budget i (view m) t

abbrev pub Ticks : ℕ → Result Machine Stop → Machine → Type 0
Ticks budget r m = (Γ : List Ty) (code : List ℕ) (t : Table) → only t (move m r) ≡ does (code_in Γ code stack_limit) budget TICK (view m) t

abbrev pub Stores : List ℕ → Table → Table → Result Machine Stop → ℕ → Machine → Type 0
Stores vars t u r slot m = (code : List ℕ) (budget : ℕ) → only u (move m r) ≡ does (code_in (types_in vars) code stack_limit) budget (STORE slot) (view m) t

abbrev pub Turns : List ℕ → List ℕ → Table → Table → Result Machine Stop → Instr → Machine → Type 0
Turns vars code t u r i m = (budget : ℕ) → only u (move m r) ≡ does (code_in (types_in vars) code stack_limit) budget i (view m) t

-- a push, if there is room
abbrev pub Puts : Result Machine Stop → ℕ → ℤ → Machine → Type 0
Puts r bytes z m =
    (Γ : List Ty) (code : List ℕ) (budget : ℕ) (t : Table) →
    only t (move m r) ≡ after budget (view m) t (push (code_in Γ code stack_limit) z (m.at + bytes) (view m).stack m.held t)

-- a jump, if it may land there
abbrev pub may_land : List ℕ → ℕ → ℕ → Bool
may_land code at target = ltb at target || is_tick (decode (drop target code))

abbrev pub Jumps : List ℕ → Result Machine Stop → ℕ → Machine → Type 0
Jumps code (Ok n) a m = (may_land code m.at a ≡ true) × (view n ≡ leapt a (view m)) × (n.height ≡ m.height)
Jumps code (Err k) a m = (may_land code m.at a ≡ false) × (k ≡ Broken)

-- the value so many below the top, or nothing is there
abbrev pub Shows : Result ℤ Stop → ℕ → Machine → Type 0
Shows (Ok v) depth m = (depth < m.height) × (v ≡ get_or (view m).stack depth (pos 0))
Shows (Err k) depth m = (m.height ≤ depth) × (k ≡ Broken)

-- the two branches, and whether one is taken at a value that is zero or not
abbrev pub branch_of : Bool → ℕ → Instr
branch_of true a = JZ a
branch_of false a = JNZ a

abbrev pub taken : Bool → Bool → Bool
taken true z = z
taken false z = not z

-- what FIRST and NEXT ask: a level and a slot that are there, a DINT, and a step that is not 0
unfoldable pub may_count : List Ty → Table → ℕ → ℕ → ℤ → Bool
may_count Γ t level slot step = ltb level for_limit && (ltb slot (length t) && (is_dint (get_or Γ slot dint) && not (is_zero step)))

-- at the start: an empty stack, and held final values of 0
abbrev pub fresh : View
fresh = record { at = 0; stack = []; held = replicate for_limit (pos 0); ticks = 0 }

-- what a machine must be for n bytes to be carried out: its stack is within the limit, and the offset behind them is a number
pub record Ready (n : ℕ) (m : Machine) : Type 0 where
  pub height : m.height ≤ stack_limit
  pub at : m.at + n < 18446744073709551616

-- the variable and the final value of a loop, or there are none
pub record Counted (Γ : List Ty) (t : Table) (l : Loop) (m : Machine) (v last : ℤ) : Type 0 where
  pub may : may_count Γ t l.level l.slot l.step ≡ true
  pub slot : l.slot < length t
  pub value : v ≡ get_or t l.slot (pos 0)
  pub final : last ≡ get_or m.held l.level (pos 0)

abbrev pub Counts : List ℕ → Table → Result (ℤ × ℤ) Stop → Loop → Machine → Type 0
Counts vars t (Ok p) l m = Counted (types_in vars) t l m p.0 p.1
Counts vars t (Err k) l m = (may_count (types_in vars) t l.level l.slot l.step ≡ false) × (k ≡ Broken)
