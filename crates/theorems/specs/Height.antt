-- A step keeps the stack within its limit.
use Rattle.std.specs.Prelude.{◌≡◌, refl, Bool, true, false, ℕ, ◌+◌, ◌≤◌, ◌<◌, ltb, ℤ, pos, ◌+ℤ◌, length, get_or, set}
use mathlib.Core.List as L
use mathlib.Core.List.{[], ◌∷◌}
use Rattle.std.proofs.Common.{arith}
use Rattle.rules.specs.Numbers.{is_zero}
use Rattle.rules.specs.Meaning.{Table, Stop, Ev, val, stop, unop, binop, load, load_d, storable, passes}
use Rattle.rules.specs.Codes.{Instr, TICK, CONST, LOAD, STORE, UN, BIN, JUMP, JZ, JNZ, SPAN, DROP, HOLD, FIRST, NEXT, HALT, BAD}
use Rattle.rules.specs.Machine.{State, state, Step, on, tk, end, push_e, Code, ok_jump, jump_to, push, push_r, first_on, next_on, act, step}
use Rattle.theorems.specs.Tests.{ltb-t}

abbrev pub stack_of : State → L.List ℤ
stack_of (state p s h t) = s

module _ (c : Code) where
  data Low : Step → Type 0 where
    l_on : {y : State} → length (stack_of y) ≤ c.cap → Low (on y)
    l_tk : Low tk
    l_end : {o : Stop} → Low (end o)

  ite : (b : Bool) {x y : Step} → (b ≡ true → Low x) → Low y → Low (elim b [ true ↦ x | false ↦ y ])
  ite true f g = f refl
  ite false f g = g

  to : (p : ℕ) (s h : L.List ℤ) (t : Table) → length s ≤ c.cap → Low (on (state p s h t))
  to p s h t b = l_on {y = state p s h t} b

  push_e_low : (e : Ev) (p : ℕ) (s h : L.List ℤ) (t : Table) → length s < c.cap → Low (push_e e p s h t)
  unfolding push_e
  push_e_low (val v) p s h t b = to p (v ∷ s) h t b
  push_e_low (stop o) p s h t b = l_end

  jump_low : (p a : ℕ) (s h : L.List ℤ) (t : Table) → length s ≤ c.cap → Low (jump_to c p a s h t)
  unfolding jump_to
  jump_low p a s h t b = ite (ok_jump c p a) (λ e. to a s h t b) l_end

  first_low : (x : Ev) (p : ℕ) (d e : ℤ) (a : ℕ) (s h : L.List ℤ) (t : Table) → length s ≤ c.cap → Low (first_on c x p d e a s h t)
  unfolding first_on
  first_low (stop o) p d e a s h t b = l_end
  first_low (val x) p d e a s h t b = ite (passes d x e) (λ q. jump_low p a s h t b) (to (p + 9) s h t b)

  next_low : (x : Ev) (p v : ℕ) (d e : ℤ) (a : ℕ) (s h : L.List ℤ) (t : Table) → length s ≤ c.cap → Low (next_on c x p v d e a s h t)
  unfolding next_on
  next_low (stop o) p v d e a s h t b = l_end
  next_low (val x) p v d e a s h t b = ite (passes d (x +ℤ d) e) (λ q. to (p + 9) s h t b) (jump_low p a s h (set t v (x +ℤ d)) b)

  act_low : (i : Instr) (p : ℕ) (s h : L.List ℤ) (t : Table) → length s ≤ c.cap → Low (act c i p s h t)
  unfolding act push push_r
  act_low TICK p s h t b = l_tk
  act_low (CONST z) p s h t b = ite (ltb (length s) c.cap) (λ e. to (p + 5) (z ∷ s) h t (ltb-t (length s) c.cap e)) l_end
  act_low (LOAD i) p s h t b = ite (ltb (length s) c.cap) (λ e. push_e_low (load t i) (p + 2) s h t (ltb-t (length s) c.cap e)) l_end
  act_low (STORE i) p [] h t b = l_end
  act_low (STORE i) p (v ∷ s) h t b = ite (storable c.types t i v) (λ e. to (p + 2) s h (set t i v) (omega arith)) l_end
  act_low (UN o) p [] h t b = l_end
  act_low (UN o) p (a ∷ s) h t b = push_e_low (unop o a) (p + 1) s h t (omega arith)
  act_low (BIN o) p [] h t b = l_end
  act_low (BIN o) p (y ∷ []) h t b = l_end
  act_low (BIN o) p (y ∷ x ∷ s) h t b = push_e_low (binop o x y) (p + 1) s h t (omega arith)
  act_low (JUMP a) p s h t b = jump_low p a s h t b
  act_low (JZ a) p [] h t b = l_end
  act_low (JZ a) p (v ∷ s) h t b = ite (is_zero v) (λ e. jump_low p a s h t (omega arith)) (to (p + 3) s h t (omega arith))
  act_low (JNZ a) p [] h t b = l_end
  act_low (JNZ a) p (v ∷ s) h t b = ite (is_zero v) (λ e. to (p + 3) s h t (omega arith)) (jump_low p a s h t (omega arith))
  act_low (SPAN lo hi) p [] h t b = l_end
  act_low (SPAN lo hi) p (v ∷ s) h t b = ite (ltb (length (v ∷ s)) c.cap) (λ e. l_on (ltb-t (length (v ∷ s)) c.cap e)) l_end
  act_low DROP p [] h t b = l_end
  act_low DROP p (v ∷ s) h t b = to (p + 1) s h t (omega arith)
  act_low (HOLD l) p [] h t b = l_end
  act_low (HOLD l) p (v ∷ s) h t b = ite (ltb l (length h)) (λ e. to (p + 2) s (set h l v) t (omega arith)) l_end
  act_low (FIRST l v d a) p s h t b = ite (ltb l (length h)) (λ e. first_low (load_d c.types t v d) p d (get_or h l (pos 0)) a s h t b) l_end
  act_low (NEXT l v d a) p s h t b = ite (ltb l (length h)) (λ e. next_low (load_d c.types t v d) p v d (get_or h l (pos 0)) a s h t b) l_end
  act_low HALT p s h t b = l_end
  act_low BAD p s h t b = l_end

  out : {y : State} → Low (on y) → length (stack_of y) ≤ c.cap
  out (l_on b) = b

  step_low : (x : State) → length (stack_of x) ≤ c.cap → Low (step c x)
  unfolding step
  step_low (state p s h t) b = ite (ltb p c.len) (λ e. act_low (c.fetch p) p s h t b) l_end

  pub keeps : (x y : State) → length (stack_of x) ≤ c.cap → step c x ≡ on y → length (stack_of y) ≤ c.cap
  keeps x y b e = out (rw e at (step_low x b))
