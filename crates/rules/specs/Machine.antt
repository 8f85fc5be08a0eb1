-- The machine: one instruction, and a whole run. Over any code and any stack limit; `end ill` is number 25.
use mathlib.Core.List as L
use Rattle.std.specs.Prelude.{Bool, true, false, ◌||◌, [], ◌∷◌, ℕ, zero, suc, ◌+◌, ℤ, pos, ◌+ℤ◌, ltb, length, get_or, set, drop, replicate}
use Rattle.rules.specs.Limits.{for_limit}
use Rattle.rules.specs.Numbers.{Ty, between, of_bool, is_zero}
use Rattle.rules.specs.Codes.{Instr, TICK, CONST, LOAD, STORE, UN, BIN, JUMP, JZ, JNZ, SPAN, DROP, HOLD, FIRST, NEXT, HALT, BAD, decode}
use Rattle.rules.specs.Meaning.{Table, Stop, done, spent, range, divide, ill, Ev, val, stop, unop, binop, load, load_d, storable, passes, Ans, ans}

-- the offset, the stack with its top first, the held final values, the table
pub data State : Type 0 where
  state : ℕ → L.List ℤ → L.List ℤ → Table → State

-- what an instruction does: on to a next state; a tick; or the end
pub data Step : Type 0 where
  on : State → Step
  tk : Step
  end : Stop → Step

-- what a run reports: outcome, table, ticks left, offset, instructions completed
pub record Ran : Type 0 where
  pub out : Stop
  pub tab : Table
  pub left : ℕ
  pub offset : ℕ
  pub count : ℕ

-- one instruction more is completed
unfoldable pub bump : Ran → Ran
bump r = record { out = r.out; tab = r.tab; left = r.left; offset = r.offset; count = suc r.count }

-- what is seen of it in terms of the meaning
unfoldable pub view : Ran → Ans
view r = ans r.out r.tab r.left

-- a TICK stands there
unfoldable pub is_tick : Instr → Bool
is_tick TICK = true
is_tick (CONST z) = false
is_tick (LOAD i) = false
is_tick (STORE i) = false
is_tick (UN o) = false
is_tick (BIN o) = false
is_tick (JUMP a) = false
is_tick (JZ a) = false
is_tick (JNZ a) = false
is_tick (SPAN a b) = false
is_tick DROP = false
is_tick (HOLD l) = false
is_tick (FIRST l v s a) = false
is_tick (NEXT l v s a) = false
is_tick HALT = false
is_tick BAD = false

-- the value on the stack, or a stop
unfoldable pub push_e : Ev → ℕ → L.List ℤ → L.List ℤ → Table → Step
push_e (val v) p s h t = on (state p (v ∷ s) h t)
push_e (stop o) p s h t = end o

-- the code, as the machine sees it: what stands at an offset, its length, the stack's limit, the variables' types
pub record Code : Type 0 where
  pub fetch : ℕ → Instr
  pub len : ℕ
  pub cap : ℕ
  pub types : L.List Ty

module _ (c : Code) where
  -- a jump from p to a is done if it goes forward, or to a TICK
  unfoldable pub ok_jump : ℕ → ℕ → Bool
  ok_jump p a = ltb p a || is_tick (c.fetch a)

  unfoldable pub jump_to : ℕ → ℕ → L.List ℤ → L.List ℤ → Table → Step
  jump_to p a s h t = elim (ok_jump p a) [ true ↦ on (state a s h t) | false ↦ end ill ]

  -- a value on the stack, if there is room
  unfoldable pub push : ℤ → ℕ → L.List ℤ → L.List ℤ → Table → Step
  push v p s h t = elim (ltb (length s) c.cap) [ true ↦ on (state p (v ∷ s) h t) | false ↦ end ill ]

  -- what was read, on the stack, if there is room
  unfoldable pub push_r : Ev → ℕ → L.List ℤ → L.List ℤ → Table → Step
  push_r e p s h t = elim (ltb (length s) c.cap) [ true ↦ push_e e p s h t | false ↦ end ill ]

  -- FIRST and NEXT, from the variable's value
  unfoldable pub first_on : Ev → ℕ → ℤ → ℤ → ℕ → L.List ℤ → L.List ℤ → Table → Step
  first_on (stop o) p step e a s h t = end o
  first_on (val x) p step e a s h t = elim (passes step x e) [ true ↦ jump_to p a s h t | false ↦ on (state (p + 9) s h t) ]

  unfoldable pub next_on : Ev → ℕ → ℕ → ℤ → ℤ → ℕ → L.List ℤ → L.List ℤ → Table → Step
  next_on (stop o) p v step e a s h t = end o
  next_on (val x) p v step e a s h t = elim (passes step (x +ℤ step) e) [ true ↦ on (state (p + 9) s h t) | false ↦ jump_to p a s h (set t v (x +ℤ step)) ]

  -- what an instruction does at offset p; an instruction that is bad does nothing
  unfoldable pub act : Instr → ℕ → L.List ℤ → L.List ℤ → Table → Step
  act TICK p s h t = tk
  act (CONST z) p s h t = push z (p + 5) s h t
  act (LOAD i) p s h t = push_r (load t i) (p + 2) s h t
  act (STORE i) p [] h t = end ill
  act (STORE i) p (v ∷ s) h t = elim (storable c.types t i v) [ true ↦ on (state (p + 2) s h (set t i v)) | false ↦ end ill ]
  act (UN o) p [] h t = end ill
  act (UN o) p (a ∷ s) h t = push_e (unop o a) (p + 1) s h t
  act (BIN o) p [] h t = end ill
  act (BIN o) p (b ∷ []) h t = end ill
  act (BIN o) p (b ∷ a ∷ s) h t = push_e (binop o a b) (p + 1) s h t
  act (JUMP a) p s h t = jump_to p a s h t
  act (JZ a) p [] h t = end ill
  act (JZ a) p (v ∷ s) h t = elim (is_zero v) [ true ↦ jump_to p a s h t | false ↦ on (state (p + 3) s h t) ]
  act (JNZ a) p [] h t = end ill
  act (JNZ a) p (v ∷ s) h t = elim (is_zero v) [ true ↦ on (state (p + 3) s h t) | false ↦ jump_to p a s h t ]
  act (SPAN lo hi) p [] h t = end ill
  act (SPAN lo hi) p (v ∷ s) h t = push (of_bool (between lo hi v)) (p + 9) (v ∷ s) h t
  act DROP p [] h t = end ill
  act DROP p (v ∷ s) h t = on (state (p + 1) s h t)
  act (HOLD l) p [] h t = end ill
  act (HOLD l) p (v ∷ s) h t = elim (ltb l (length h)) [ true ↦ on (state (p + 2) s (set h l v) t) | false ↦ end ill ]
  act (FIRST l v step a) p s h t = elim (ltb l (length h)) [ true ↦ first_on (load_d c.types t v step) p step (get_or h l (pos 0)) a s h t | false ↦ end ill ]
  act (NEXT l v step a) p s h t = elim (ltb l (length h)) [ true ↦ next_on (load_d c.types t v step) p v step (get_or h l (pos 0)) a s h t | false ↦ end ill ]
  act HALT p s h t = end done
  act BAD p s h t = end ill

  -- an offset at or past the end is bad
  unfoldable pub step : State → Step
  step (state p s h t) = elim (ltb p c.len) [ true ↦ act (c.fetch p) p s h t | false ↦ end ill ]

  -- the end of a run: HALT counts, an instruction that stops it does not
  unfoldable pub finish : Stop → State → ℕ → Ran
  finish done (state p s h t) k = record { out = done; tab = t; left = k; offset = p; count = 1 }
  finish spent (state p s h t) k = record { out = spent; tab = t; left = k; offset = p; count = 0 }
  finish range (state p s h t) k = record { out = range; tab = t; left = k; offset = p; count = 0 }
  finish divide (state p s h t) k = record { out = divide; tab = t; left = k; offset = p; count = 0 }
  finish ill (state p s h t) k = record { out = ill; tab = t; left = k; offset = p; count = 0 }

  -- behind a TICK
  unfoldable pub adv : State → State
  adv (state p s h t) = state (p + 1) s h t

  -- to the next tick, at most n instructions on; k ticks left; `next`: the tick and all after it
  unfoldable pub seg : ℕ → (State → Ran) → ℕ → State → Ran
  seg k next zero x = elim (step x) [ on y ↦ finish ill x k | tk ↦ next x | end o ↦ finish o x k ]
  seg k next (suc n) x = elim (step x) [ on y ↦ bump (seg k next n y) | tk ↦ next x | end o ↦ finish o x k ]

  -- with k ticks left
  unfoldable pub run : ℕ → State → Ran
  run zero x = seg zero (λ y. finish spent y zero) c.len x
  run (suc k) x = seg (suc k) (λ y. bump (run k (adv y))) c.len x

-- the code that stands in bytes, for variables of these types, with a stack of at most n values
unfoldable pub code_in : L.List Ty → L.List ℕ → ℕ → Code
code_in Γ b n = record { fetch = λ p. decode (drop p b); len = length b; cap = n; types = Γ }

-- at first the stack is empty and the held final values are 0
unfoldable pub start : Table → State
start t = state 0 [] (replicate for_limit (pos 0)) t
