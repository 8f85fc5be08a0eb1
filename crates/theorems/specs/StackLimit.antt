-- The stack limit does not matter where it is not met; the measure of a run; the bounds as they are stated.
use mathlib.Core.List as L
use Rattle.std.specs.Prelude.{◌≢◌, Bool, ℤ, pos, length, get_or}
use Rattle.std.proofs.Math.Path.{◌≡◌, refl, ap}
use Rattle.std.proofs.Common.{sym, ◌∙◌, arith}
use Rattle.std.proofs.Math.Bool.{true, false}
use mathlib.Core.List.{[], ◌∷◌}
use Prim.Native.Nat.{ℕ, zero, suc, ◌+◌, ◌-◌, ◌*◌, ◌≤◌, ◌<◌}
use Rattle.std.proofs.Math.Dec.{ltb}
use Rattle.rules.specs.Meaning.{Table, Stop, done, spent, range, divide, ill, Ev, val, stop, load, load_d}
use Rattle.rules.specs.Codes.{Instr, TICK, CONST, LOAD, STORE, UN, BIN, JUMP, JZ, JNZ, SPAN, DROP, HOLD, FIRST, NEXT, HALT, BAD}
use Rattle.rules.specs.Machine.{State, state, Step, on, tk, end, Ran, bump, is_tick, Code, ok_jump, jump_to, push, push_r, first_on, next_on, act, step, finish, adv, run, seg}
use Rattle.theorems.specs.Running.{step_tk, step_fine, Fwd, ahead, back, is_tick→, pc_of}
use Rattle.theorems.specs.Instructions.{step_in}
use Rattle.theorems.specs.Tests.{ltb-t, lt-ltb}

-- the same code under another stack limit
abbrev pub under : Code → ℕ → Code
under c m = record { fetch = c.fetch; len = c.len; cap = m; types = c.types }

module _ (c : Code) (m : ℕ) (roomy : c.cap ≤ m) where
  data Alike (x y : Step) : Type 0 where
    alike : x ≡ y → Alike x y
    ends : x ≡ end ill → Alike x y

  push_like : (v : ℤ) (p : ℕ) (s h : L.List ℤ) (t : Table) → Alike (push c v p s h t) (push (under c m) v p s h t)
  unfolding push
  push_like v p s h t = by (ltb (length s) c.cap) refl
    where
      by : (d : Bool) → ltb (length s) c.cap ≡ d → Alike (push c v p s h t) (push (under c m) v p s h t)
      by true e = let q = ltb-t (length s) c.cap e in alike (rw (e, lt-ltb (length s) m (omega arith), push))
      by false e = ends (rw (e, push))

  push_r_like : (v : Ev) (p : ℕ) (s h : L.List ℤ) (t : Table) → Alike (push_r c v p s h t) (push_r (under c m) v p s h t)
  unfolding push_r
  push_r_like v p s h t = by (ltb (length s) c.cap) refl
    where
      by : (d : Bool) → ltb (length s) c.cap ≡ d → Alike (push_r c v p s h t) (push_r (under c m) v p s h t)
      by true e = let q = ltb-t (length s) c.cap e in alike (rw (e, lt-ltb (length s) m (omega arith), push_r))
      by false e = ends (rw (e, push_r))

  act_like : (i : Instr) (p : ℕ) (s h : L.List ℤ) (t : Table) → Alike (act c i p s h t) (act (under c m) i p s h t)
  unfolding act jump_to ok_jump first_on next_on
  act_like TICK p s h t = alike refl
  act_like (CONST z) p s h t = push_like z (p + 5) s h t
  act_like (LOAD i) p s h t = push_r_like (load t i) (p + 2) s h t
  act_like (STORE i) p [] h t = alike refl
  act_like (STORE i) p (v ∷ s) h t = alike refl
  act_like (UN o) p [] h t = alike refl
  act_like (UN o) p (a ∷ s) h t = alike refl
  act_like (BIN o) p [] h t = alike refl
  act_like (BIN o) p (b ∷ []) h t = alike refl
  act_like (BIN o) p (b ∷ a ∷ s) h t = alike refl
  act_like (JUMP a) p s h t = alike refl
  act_like (JZ a) p [] h t = alike refl
  act_like (JZ a) p (v ∷ s) h t = alike refl
  act_like (JNZ a) p [] h t = alike refl
  act_like (JNZ a) p (v ∷ s) h t = alike refl
  act_like (SPAN lo hi) p [] h t = alike refl
  act_like (SPAN lo hi) p (v ∷ s) h t = push_like _ (p + 9) (v ∷ s) h t
  act_like DROP p [] h t = alike refl
  act_like DROP p (v ∷ s) h t = alike refl
  act_like (HOLD l) p [] h t = alike refl
  act_like (HOLD l) p (v ∷ s) h t = alike refl
  act_like (FIRST l v d a) p s h t = alike (by (load_d c.types t v d))
    where
      by : (z : Ev) → ◌≡◌ {A = Step} (elim (ltb l (length h)) [ true ↦ first_on c z p d (get_or h l (pos 0)) a s h t | false ↦ end ill ]) (elim (ltb l (length h)) [ true ↦ first_on (under c m) z p d (get_or h l (pos 0)) a s h t | false ↦ end ill ])
      by (val z) = refl
      by (stop o) = refl
  act_like (NEXT l v d a) p s h t = alike (by (load_d c.types t v d))
    where
      by : (z : Ev) → ◌≡◌ {A = Step} (elim (ltb l (length h)) [ true ↦ next_on c z p v d (get_or h l (pos 0)) a s h t | false ↦ end ill ]) (elim (ltb l (length h)) [ true ↦ next_on (under c m) z p v d (get_or h l (pos 0)) a s h t | false ↦ end ill ])
      by (val z) = refl
      by (stop o) = refl
  act_like HALT p s h t = alike refl
  act_like BAD p s h t = alike refl

  step_like : (x : State) → Alike (step c x) (step (under c m) x)
  unfolding step
  step_like (state p s h t) = by (ltb p c.len) (act_like (c.fetch p) p s h t)
    where
      by : (d : Bool) {a b : Step} → Alike a b → Alike (elim d [ true ↦ a | false ↦ end ill ]) (elim d [ true ↦ b | false ↦ end ill ])
      by true l = l
      by false l = alike refl

  fin_like : (o : Stop) (x : State) (k : ℕ) → finish (under c m) o x k ≡ finish c o x k
  unfolding finish
  fin_like done (state p s h t) k = refl
  fin_like spent (state p s h t) k = refl
  fin_like range (state p s h t) k = refl
  fin_like divide (state p s h t) k = refl
  fin_like ill (state p s h t) k = refl

  ill_out : (x : State) (k : ℕ) → (finish c ill x k).out ≡ ill
  unfolding finish
  ill_out (state p s h t) k = refl

  module _ (k : ℕ) (nx nx' : State → Ran) (hn : (x : State) → (nx x).out ≢ ill → nx' x ≡ nx x) where
    seg_like : (n : ℕ) (x : State) → (seg c k nx n x).out ≢ ill → seg (under c m) k nx' n x ≡ seg c k nx n x
    unfolding seg bump
    seg_like zero x ne = by (step_like x) (step c x) refl
      where
        by : Alike (step c x) (step (under c m) x) → (r : Step) → step c x ≡ r → seg (under c m) k nx' zero x ≡ seg c k nx zero x
        by (ends e) r q = absurd (ne (rw (e, seg) (ill_out x k)))
        by (alike e) (on y) q = absurd (ne (rw (q, seg) (ill_out x k)))
        by (alike e) tk q = rw (sym e ∙ q, q, seg) (hn x (rw (q, seg) at ne))
        by (alike e) (end o) q = rw (sym e ∙ q, q, seg) (fin_like o x k)
    seg_like (suc n) x ne = by (step_like x) (step c x) refl (λ y. seg_like n y)
      where
        by : Alike (step c x) (step (under c m) x) → (r : Step) → step c x ≡ r → ((y : State) → (seg c k nx n y).out ≢ ill → seg (under c m) k nx' n y ≡ seg c k nx n y)
            → seg (under c m) k nx' (suc n) x ≡ seg c k nx (suc n) x
        by (ends e) r q ih = absurd (ne (rw (e, seg) (ill_out x k)))
        by (alike e) (on y) q ih = rw (sym e ∙ q, q, seg) (ap bump (ih y (rw (q, seg) at ne)))
        by (alike e) tk q ih = rw (sym e ∙ q, q, seg) (hn x (rw (q, seg) at ne))
        by (alike e) (end o) q ih = rw (sym e ∙ q, q, seg) (fin_like o x k)

  -- a run that is not ill under the smaller limit is the same, whole, under the larger
  pub run_like : (k : ℕ) (x : State) → (run c k x).out ≢ ill → run (under c m) k x ≡ run c k x
  unfolding run adv bump
  run_like zero x ne = seg_like zero _ _ (λ y f. fin_like spent y zero) c.len x ne
  run_like (suc k) x ne = seg_like (suc k) _ _ (λ y f. next y (λ z g. run_like k z g) f) c.len x ne
    where
      next : (y : State) → ((z : State) → (run c k z).out ≢ ill → run (under c m) k z ≡ run c k z) → (bump (run c k (adv c y))).out ≢ ill → bump (run (under c m) k (adv (under c m) y)) ≡ bump (run c k (adv c y))
      next (state p s h t) ih f = ap bump (ih (state (p + 1) s h t) f)

module _ (c : Code) where
  -- what falls at each step: for the loop that carries out a run
  unfoldable pub left_over : ℕ → State → ℕ
  left_over k x = elim (is_tick (c.fetch (pc_of x))) [ true ↦ k * (c.len + 1) | false ↦ k * (c.len + 1) + (c.len - pc_of x) ]

  pub falls : (k : ℕ) (x y : State) → step c x ≡ on y → left_over k y < left_over k x
  unfolding left_over
  falls k x y e = by (is_tick (c.fetch (pc_of x))) refl (is_tick (c.fetch (pc_of y))) refl (step_fine c x y e).1
    where
      b : pc_of x < c.len
      b = (step_fine c x y e).0

      by : (d : Bool) → is_tick (c.fetch (pc_of x)) ≡ d → (g : Bool) → is_tick (c.fetch (pc_of y)) ≡ g → Fwd c (pc_of x) y
          → (elim g [ true ↦ k * (c.len + 1) | false ↦ k * (c.len + 1) + (c.len - pc_of y) ]) < (elim d [ true ↦ k * (c.len + 1) | false ↦ k * (c.len + 1) + (c.len - pc_of x) ])
      by true d g w f = let z : ◌≡◌ {A = ℕ} 0 1 = cc (step_tk c x b (is_tick→ c (c.fetch (pc_of x)) d)) in absurd (omega arith)
      by false d true w f = omega (arith, b)
      by false d false w (ahead f) = omega (arith, b)
      by false d false w (back f h) = let z : ◌≡◌ {A = ℕ} 0 1 = cc in absurd (omega arith)

  pub falls-tick : (k : ℕ) (x : State) → step c x ≡ tk → left_over k (adv c x) < left_over (suc k) x
  unfolding left_over adv
  falls-tick k (state p s h t) e = by (is_tick (c.fetch p)) (is_tick (c.fetch (p + 1)))
    where
      b : p < c.len
      b = step_in c (state p s h t) e

      by : (d g : Bool) → (elim g [ true ↦ k * (c.len + 1) | false ↦ k * (c.len + 1) + (c.len - (p + 1)) ]) < (elim d [ true ↦ suc k * (c.len + 1) | false ↦ suc k * (c.len + 1) + (c.len - p) ])
      by true true = omega arith
      by true false = omega (arith, b)
      by false true = omega arith
      by false false = omega (arith, b)
