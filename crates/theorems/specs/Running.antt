-- What proofs use of `run`: one law for each step. The fuel is never seen again.
use mathlib.Core.List as L
use Rattle.std.specs.Prelude.{◌≡◌, Bool, ◌||◌ as or, ℤ, pos, ◌+ℤ◌, length, get_or, set}
use Rattle.std.proofs.Math.Path.{refl}
use Rattle.std.proofs.Common.{ap, arith}
use Rattle.std.proofs.Math.Bool.{true, false}
use mathlib.Core.List.{[], ◌∷◌}
use Prim.Native.Nat.{ℕ, zero, suc, ◌+◌, ◌≤◌, ◌<◌}
use Rattle.std.proofs.Math.Dec.{ltb}
use Rattle.rules.specs.Meaning.{Table, Stop, spent, ill, Ev, val, stop, unop, binop, load, load_d, storable, passes}
use Rattle.rules.specs.Numbers.{of_bool, is_zero, between}
use Rattle.rules.specs.Codes.{Instr, TICK, CONST, LOAD, STORE, UN, BIN, JUMP, JZ, JNZ, SPAN, DROP, HOLD, FIRST, NEXT, HALT, BAD}
use Rattle.rules.specs.Machine.{State, state, Step, on, tk, end, Ran, bump, is_tick, push_e, Code, ok_jump, jump_to, push, push_r, first_on, next_on, act, step, finish, adv, seg, run}
use Rattle.theorems.specs.Tests.{ltb-t, lt-ltb, ltb-f}

abbrev pub pc_of : State → ℕ
pc_of (state p s h t) = p

module _ (c : Code) where
  -- where a step leads: on, or back to a TICK
  pub data Fwd (p : ℕ) (y : State) : Type 0 where
    ahead : p < pc_of y → Fwd p y
    back : pc_of y ≤ p → is_tick (c.fetch (pc_of y)) ≡ true → Fwd p y

  data Fine (p : ℕ) : Step → Type 0 where
    f_on : {y : State} → Fwd p y → Fine p (on y)
    f_tk : Fine p tk
    f_end : {o : Stop} → Fine p (end o)

  ite : {p : ℕ} (b : Bool) {x y : Step} → Fine p x → Fine p y → Fine p (elim b [ true ↦ x | false ↦ y ])
  ite true f g = f
  ite false f g = g

  plus : (p n : ℕ) (s h : L.List ℤ) (t : Table) → Fine p (on (state (p + suc n) s h t))
  plus p n s h t = f_on {y = state (p + suc n) s h t} (ahead (omega arith))

  push_e_fine : (p n : ℕ) (e : Ev) (s h : L.List ℤ) (t : Table) → Fine p (push_e e (p + suc n) s h t)
  unfolding push_e
  push_e_fine p n (val v) s h t = plus p n (v ∷ s) h t
  push_e_fine p n (stop o) s h t = f_end

  jump_fine : (p a : ℕ) (s h : L.List ℤ) (t : Table) → Fine p (jump_to c p a s h t)
  unfolding jump_to ok_jump
  jump_fine p a s h t = go (ltb p a) refl (is_tick (c.fetch a)) refl
    where
      go : (b : Bool) → ltb p a ≡ b → (d : Bool) → is_tick (c.fetch a) ≡ d → Fine p (elim (or b d) [ true ↦ on (state a s h t) | false ↦ end ill ])
      go true e d f = f_on (ahead (ltb-t p a e))
      go false e true f = f_on (back (ltb-f p a e) f)
      go false e false f = f_end

  first_fine : (p : ℕ) (x : Ev) (d e : ℤ) (a : ℕ) (s h : L.List ℤ) (t : Table) → Fine p (first_on c x p d e a s h t)
  unfolding first_on
  first_fine p (stop o) d e a s h t = f_end
  first_fine p (val x) d e a s h t = ite (passes d x e) (jump_fine p a s h t) (plus p 8 s h t)

  next_fine : (p v : ℕ) (x : Ev) (d e : ℤ) (a : ℕ) (s h : L.List ℤ) (t : Table) → Fine p (next_on c x p v d e a s h t)
  unfolding next_on
  next_fine p v (stop o) d e a s h t = f_end
  next_fine p v (val x) d e a s h t = ite (passes d (x +ℤ d) e) (plus p 8 s h t) (jump_fine p a s h (set t v (x +ℤ d)))

  act_fine : (i : Instr) (p : ℕ) (s h : L.List ℤ) (t : Table) → Fine p (act c i p s h t)
  unfolding act push push_r
  act_fine TICK p s h t = f_tk
  act_fine (CONST z) p s h t = ite (ltb (length s) c.cap) (plus p 4 (z ∷ s) h t) f_end
  act_fine (LOAD i) p s h t = ite (ltb (length s) c.cap) (push_e_fine p 1 (load t i) s h t) f_end
  act_fine (STORE i) p [] h t = f_end
  act_fine (STORE i) p (v ∷ s) h t = ite (storable c.types t i v) (plus p 1 s h (set t i v)) f_end
  act_fine (UN o) p [] h t = f_end
  act_fine (UN o) p (a ∷ s) h t = push_e_fine p 0 (unop o a) s h t
  act_fine (BIN o) p [] h t = f_end
  act_fine (BIN o) p (b ∷ []) h t = f_end
  act_fine (BIN o) p (b ∷ a ∷ s) h t = push_e_fine p 0 (binop o a b) s h t
  act_fine (JUMP a) p s h t = jump_fine p a s h t
  act_fine (JZ a) p [] h t = f_end
  act_fine (JZ a) p (v ∷ s) h t = ite (is_zero v) (jump_fine p a s h t) (plus p 2 s h t)
  act_fine (JNZ a) p [] h t = f_end
  act_fine (JNZ a) p (v ∷ s) h t = ite (is_zero v) (plus p 2 s h t) (jump_fine p a s h t)
  act_fine (SPAN lo hi) p [] h t = f_end
  act_fine (SPAN lo hi) p (v ∷ s) h t = ite (ltb (length (v ∷ s)) c.cap) (plus p 8 (of_bool (between lo hi v) ∷ v ∷ s) h t) f_end
  act_fine DROP p [] h t = f_end
  act_fine DROP p (v ∷ s) h t = plus p 0 s h t
  act_fine (HOLD l) p [] h t = f_end
  act_fine (HOLD l) p (v ∷ s) h t = ite (ltb l (length h)) (plus p 1 s (set h l v) t) f_end
  act_fine (FIRST l v d a) p s h t = ite (ltb l (length h)) (first_fine p (load_d c.types t v d) d (get_or h l (pos 0)) a s h t) f_end
  act_fine (NEXT l v d a) p s h t = ite (ltb l (length h)) (next_fine p v (load_d c.types t v d) d (get_or h l (pos 0)) a s h t) f_end
  act_fine HALT p s h t = f_end
  act_fine BAD p s h t = f_end

  -- a step on starts within the code, and leads on or to a TICK
  pub step_fine : (x y : State) → step c x ≡ on y → (pc_of x < c.len) × Fwd (pc_of x) y
  unfolding step
  step_fine (state p s h t) y e = go (ltb p c.len) refl e
    where
      out : Fine p (on y) → Fwd p y
      out (f_on f) = f

      go : (b : Bool) → ltb p c.len ≡ b → (elim b [ true ↦ act c (c.fetch p) p s h t | false ↦ end ill ]) ≡ on y → (p < c.len) × Fwd p y
      go true d q = (ltb-t p c.len d, out (rw q at (act_fine (c.fetch p) p s h t)))
      go false d q = let z : ◌≡◌ {A = ℕ} 0 1 = cc in absurd (omega arith)

  -- at a TICK inside the code the next step is a tick
  pub is_tick→ : (i : Instr) → is_tick i ≡ true → i ≡ TICK
  unfolding is_tick
  is_tick→ TICK e = refl
  is_tick→ (CONST z) e = cc
  is_tick→ (LOAD i) e = cc
  is_tick→ (STORE i) e = cc
  is_tick→ (UN o) e = cc
  is_tick→ (BIN o) e = cc
  is_tick→ (JUMP a) e = cc
  is_tick→ (JZ a) e = cc
  is_tick→ (JNZ a) e = cc
  is_tick→ (SPAN lo hi) e = cc
  is_tick→ DROP e = cc
  is_tick→ (HOLD l) e = cc
  is_tick→ (FIRST l v d a) e = cc
  is_tick→ (NEXT l v d a) e = cc
  is_tick→ HALT e = cc
  is_tick→ BAD e = cc

  pub step_at : (i : Instr) (p : ℕ) (s h : L.List ℤ) (t : Table) → p < c.len → c.fetch p ≡ i → step c (state p s h t) ≡ act c i p s h t
  unfolding step
  step_at i p s h t b e = rw (lt-ltb p c.len b, step) (ap (λ j. act c j p s h t) e)

  pub step_tk : (x : State) → pc_of x < c.len → c.fetch (pc_of x) ≡ TICK → step c x ≡ tk
  unfolding act
  step_tk (state p s h t) h1 e = step_at TICK p s h t h1 e

  pub data Enough (n : ℕ) (x : State) : Type 0 where
    far : c.len ≤ pc_of x + n → Enough n x
    at_tick : step c x ≡ tk → Enough n x

  pub all : (x : State) → Enough c.len x
  all x = far (omega arith)

  pub enough-zero : (x y : State) → Enough 0 x → step c x ≡ on y → ⊥
  enough-zero x y (far h) e = let q = (step_fine x y e).0 in omega arith
  enough-zero x y (at_tick f) e = let z : ◌≡◌ {A = ℕ} 0 1 = cc in omega arith

  pub enough-suc : (n : ℕ) (x y : State) → Enough (suc n) x → step c x ≡ on y → Enough n y
  enough-suc n x y (far h) e = go (step_fine x y e).1
    where
      go : Fwd (pc_of x) y → Enough n y
      go (ahead f) = far (omega arith)
      go (back f t) = let q = (step_fine x y e).0 in at_tick (step_tk y (omega arith) (is_tick→ (c.fetch (pc_of y)) t))
  enough-suc n x y (at_tick f) e = let z : ◌≡◌ {A = ℕ} 0 1 = cc in absurd (omega arith)

  pub seg_eq : (k : ℕ) (nx : State → Ran) (n m : ℕ) (x : State) → Enough n x → Enough m x → seg c k nx n x ≡ seg c k nx m x
  unfolding seg
  seg_eq k nx zero zero x a b = refl
  seg_eq k nx zero (suc m) x a b = go (step c x) refl
    where
      go : (r : Step) → step c x ≡ r → seg c k nx zero x ≡ seg c k nx (suc m) x
      go (on y) e = absurd (enough-zero x y a e)
      go tk e = rw (e, seg)
      go (end o) e = rw (e, seg)
  seg_eq k nx (suc n) zero x a b = go (step c x) refl
    where
      go : (r : Step) → step c x ≡ r → seg c k nx (suc n) x ≡ seg c k nx zero x
      go (on y) e = absurd (enough-zero x y b e)
      go tk e = rw (e, seg)
      go (end o) e = rw (e, seg)
  seg_eq k nx (suc n) (suc m) x a b = go (step c x) refl (λ y. seg_eq k nx n m y)
    where
      go : (r : Step) → step c x ≡ r → ((y : State) → Enough n y → Enough m y → seg c k nx n y ≡ seg c k nx m y) → seg c k nx (suc n) x ≡ seg c k nx (suc m) x
      go (on y) e ih = rw (e, seg) (ap (bump) (ih y (enough-suc n x y a e) (enough-suc m x y b e)))
      go tk e ih = rw (e, seg)
      go (end o) e ih = rw (e, seg)

  seg_on : (k : ℕ) (nx : State → Ran) (n : ℕ) (x y : State) → Enough n x → step c x ≡ on y → seg c k nx n x ≡ bump (seg c k nx c.len y)
  unfolding seg
  seg_on k nx zero x y a e = absurd (enough-zero x y a e)
  seg_on k nx (suc n) x y a e = rw (e, seg) (ap bump (seg_eq k nx n c.len y (enough-suc n x y a e) (all y)))

  seg-tk : (k : ℕ) (nx : State → Ran) (n : ℕ) (x : State) → step c x ≡ tk → seg c k nx n x ≡ nx x
  unfolding seg
  seg-tk k nx zero x e = rw (e, seg)
  seg-tk k nx (suc n) x e = rw (e, seg)

  seg_end : (k : ℕ) (nx : State → Ran) (n : ℕ) (x : State) (o : Stop) → step c x ≡ end o → seg c k nx n x ≡ finish c o x k
  unfolding seg
  seg_end k nx zero x o e = rw (e, seg)
  seg_end k nx (suc n) x o e = rw (e, seg)

  -- the laws of `run`
  pub run_on : (k : ℕ) (x y : State) → step c x ≡ on y → run c k x ≡ bump (run c k y)
  unfolding run
  run_on zero x y e = seg_on zero _ c.len x y (all x) e
  run_on (suc k) x y e = seg_on (suc k) _ c.len x y (all x) e

  pub run-spent : (x : State) → step c x ≡ tk → run c zero x ≡ finish c spent x zero
  unfolding run
  run-spent x e = seg-tk zero _ c.len x e

  pub run-tick : (k : ℕ) (x : State) → step c x ≡ tk → run c (suc k) x ≡ bump (run c k (adv c x))
  unfolding run
  run-tick k x e = seg-tk (suc k) _ c.len x e

  pub run_end : (k : ℕ) (x : State) (o : Stop) → step c x ≡ end o → run c k x ≡ finish c o x k
  unfolding run
  run_end zero x o e = seg_end zero _ c.len x o e
  run_end (suc k) x o e = seg_end (suc k) _ c.len x o e
