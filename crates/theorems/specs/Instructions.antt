-- Instructions completed: at most (ticks + 1) times the bytes, for any code at all.
use Rattle.std.proofs.Math.Path.{◌≡◌, refl}
use Rattle.std.proofs.Common.{subst}
use Rattle.std.specs.Prelude.{Bool}
use Rattle.std.proofs.Math.Bool.{true, false}
use Prim.Native.Nat.{ℕ, zero, suc, ◌+◌, ◌-◌, ◌*◌, ◌≤◌, ◌<◌}
use native.Mathlib.Omega.{arith}
use Rattle.std.proofs.Math.Dec.{ltb}
use Rattle.rules.specs.Meaning.{Stop, done, spent, range, divide, ill}
use Rattle.rules.specs.Machine.{State, state, Step, on, tk, end, Ran, bump, Code, step, finish, adv, run, seg}
use Rattle.theorems.specs.Running.{pc_of, Enough, far, at_tick, enough-zero, enough-suc, seg_eq, all}
use Rattle.theorems.specs.Tests.{ltb-t, ltb-f}

module _ (c : Code) where
  -- counted, with `len` for each tick left
  abbrev cost : Ran → ℕ
  cost r = r.count + r.left * c.len

  step_out : (x : State) → c.len ≤ pc_of x → step c x ≡ end ill
  unfolding step
  step_out (state p s h t) b = by (ltb p c.len) refl
    where
      by : (d : Bool) → ltb p c.len ≡ d → step c (state p s h t) ≡ end ill
      by true e = let q = ltb-t p c.len e in absurd (omega arith)
      by false e = rw (e, step)

  pub step_in : (x : State) → step c x ≡ tk → pc_of x < c.len
  unfolding step
  step_in (state p s h t) b = by (ltb p c.len) refl
    where
      by : (d : Bool) → ltb p c.len ≡ d → p < c.len
      by true e = ltb-t p c.len e
      by false e = let z : ◌≡◌ {A = ℕ} 0 1 = cc (step_out (state p s h t) (ltb-f p c.len e)) in absurd (omega arith)

  finish-cost : (o : Stop) (x : State) (k : ℕ) → cost (finish c o x k) ≤ k * c.len + 1
  unfolding finish
  finish-cost done (state p s h t) k = omega arith
  finish-cost spent (state p s h t) k = omega arith
  finish-cost range (state p s h t) k = omega arith
  finish-cost divide (state p s h t) k = omega arith
  finish-cost ill (state p s h t) k = omega arith

  ill-cost : (x : State) (k : ℕ) → cost (finish c ill x k) ≡ k * c.len
  unfolding finish
  ill-cost (state p s h t) k = omega arith

  module _ (k : ℕ) (nx : State → Ran) (hn : (x : State) → step c x ≡ tk → cost (nx x) ≤ k * c.len) where
    seg-cost : (n : ℕ) (x : State) → Enough c n x → cost (seg c k nx n x) ≤ k * c.len + n
    unfolding seg bump
    seg-cost zero x a = by (step c x) refl a
      where
        by : (r : Step) → step c x ≡ r → Enough c 0 x → cost (seg c k nx zero x) ≤ k * c.len + 0
        by (on y) e a = absurd (enough-zero c x y a e)
        by tk e a = rw (e, seg) (omega (arith, hn x e))
        by (end o) e (far b) = rw (step_out x (omega arith), seg) (omega (arith, ill-cost x k))
        by (end o) e (at_tick b) = let z : ◌≡◌ {A = ℕ} 0 1 = cc in absurd (omega arith)
    seg-cost (suc n) x a = by (step c x) refl (λ y. seg-cost n y)
      where
        by : (r : Step) → step c x ≡ r → ((y : State) → Enough c n y → cost (seg c k nx n y) ≤ k * c.len + n) → cost (seg c k nx (suc n) x) ≤ k * c.len + suc n
        by (on y) e ih = rw (e, seg) (omega (arith, ih y (enough-suc c n x y a e)))
        by tk e ih = rw (e, seg) (omega (arith, hn x e))
        by (end o) e ih = rw (e, seg) (omega (arith, finish-cost o x k))

  spent-cost : (x : State) → cost (finish c spent x 0) ≤ 0 * c.len
  unfolding finish
  spent-cost (state p s h t) = omega arith

  tick-cost : (k : ℕ) → ((n : ℕ) (x : State) → Enough c n x → cost (run c k x) ≤ k * c.len + n) → (x : State) → step c x ≡ tk → cost (bump (run c k (adv c x))) ≤ suc k * c.len
  unfolding bump adv
  tick-cost k ih (state p s h t) e =
      let b = step_in (state p s h t) e in
      let q = ih (c.len - (p + 1)) (state (p + 1) s h t) (far (omega arith)) in
      omega arith

  run-cost : (k n : ℕ) (x : State) → Enough c n x → cost (run c k x) ≤ k * c.len + n
  unfolding run
  run-cost zero n x a = rw (seg_eq c 0 _ c.len n x (all c x) a) (seg-cost 0 _ (λ y e. spent-cost y) n x a)
  run-cost (suc k) n x a = rw (seg_eq c (suc k) _ c.len n x (all c x) a) (seg-cost (suc k) _ (tick-cost k (λ m y. run-cost k m y)) n x a)

  -- the bound, for any code, state and budget
  pub bound : (k : ℕ) (x : State) → (run c k x).count + (run c k x).left * c.len ≤ (k + 1) * c.len
  bound k x = let q = run-cost k c.len x (all c x) in omega arith

  finish_left : (o : Stop) (x : State) (k : ℕ) → (finish c o x k).left ≡ k
  unfolding finish
  finish_left done (state p s h t) k = refl
  finish_left spent (state p s h t) k = refl
  finish_left range (state p s h t) k = refl
  finish_left divide (state p s h t) k = refl
  finish_left ill (state p s h t) k = refl

  seg_left : (k : ℕ) (nx : State → Ran) → ((x : State) → (nx x).left ≤ k) → (n : ℕ) (x : State) → (seg c k nx n x).left ≤ k
  unfolding seg bump
  seg_left k nx hn zero x = by (step c x) refl
    where
      by : (r : Step) → step c x ≡ r → (seg c k nx zero x).left ≤ k
      by (on y) e = rw (e, seg) (omega (arith, finish_left ill x k))
      by tk e = rw (e, seg) (hn x)
      by (end o) e = rw (e, seg) (omega (arith, finish_left o x k))
  seg_left k nx hn (suc n) x = by (step c x) refl (λ y. seg_left k nx hn n y)
    where
      by : (r : Step) → step c x ≡ r → ((y : State) → (seg c k nx n y).left ≤ k) → (seg c k nx (suc n) x).left ≤ k
      by (on y) e ih = rw (e, seg) (ih y)
      by tk e ih = rw (e, seg) (hn x)
      by (end o) e ih = rw (e, seg) (omega (arith, finish_left o x k))

  pub run_left : (k : ℕ) (x : State) → (run c k x).left ≤ k
  unfolding run bump
  run_left zero x = seg_left zero _ (λ y. omega (arith, finish_left spent y 0)) c.len x
  run_left (suc k) x = seg_left (suc k) _ (λ y. omega (arith, run_left k (adv c y))) c.len x

  -- for any code, state and budget: instructions completed are at most (ticks + 1) times the bytes
  pub instructions-bound : (k : ℕ) (x : State) → (run c k x).count ≤ (k - (run c k x).left + 1) * c.len
  instructions-bound k x = per k (run c k x) (run_left k x) (bound k x)
    where
      mul_out : (n l u d : ℕ) → d + l * n ≤ (u + l + 1) * n → d ≤ (u + 1) * n
      mul_out n l u d h = omega arith

      per : (k : ℕ) (r : Ran) → r.left ≤ k → r.count + r.left * c.len ≤ (k + 1) * c.len → r.count ≤ (k - r.left + 1) * c.len
      per k r h b = let e : k ≡ k - r.left + r.left = omega arith in mul_out c.len r.left (k - r.left) r.count (subst (λ z. r.count + r.left * c.len ≤ (z + 1) * c.len) e b)
