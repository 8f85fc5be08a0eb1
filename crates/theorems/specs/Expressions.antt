-- The machine on compiled code does what the text means.
use mathlib.Core.List as L
use Rattle.std.specs.Prelude.{◌≡◌, [], ◌∷◌, ℕ, ◌+◌, ◌≤◌, ◌<◌, ℤ, length}
use Rattle.std.proofs.Math.Path.{refl, ap, subst}
use Rattle.std.proofs.Common.{◌∙◌}
use native.Mathlib.Omega.{arith}
use Rattle.rules.specs.Core.{Expr, num, flag, var, un, bin, pls, par}
use Rattle.rules.specs.Meaning.{Table, Stop, done, spent, range, divide, ill, Ev, val, stop, unop, binop, load, bind_e, eval, Ans, ans}
use Rattle.rules.specs.Numbers.{of_bool}
use Rattle.rules.specs.Codes.{Instr, CONST, LOAD, UN, BIN, length_of}
use Rattle.rules.specs.Machine.{State, state, on, end, bump, view, push_e, Code, push, push_r, act, step, finish, run}
use Rattle.rules.specs.Translation.{size_e, code_e}
use Rattle.rules.specs.Depth.{height}
use Rattle.theorems.specs.Running.{step_at, run_on, run_end}
use Rattle.theorems.specs.Tests.{lt-ltb}

-- the instructions stand in the code from p on
abbrev pub At : Code → ℕ → L.List Instr → Type 0
At c p [] = Unit {0}
At c p (i ∷ r) = (c.fetch p ≡ i) × (p < c.len) × At c (p + length_of i) r

-- what is seen after an expression
abbrev pub on_a : Ev → (ℤ → Ans) → Table → ℕ → Ans
on_a (val v) g t k = g v
on_a (stop o) g t k = ans o t k

module _ (c : Code) where
  abbrev pub see : ℕ → ℕ → L.List ℤ → L.List ℤ → Table → Ans
  see k p s h t = view (run c k (state p s h t))

  pub see_on : (k p : ℕ) (s h : L.List ℤ) (t : Table) (y : State) → step c (state p s h t) ≡ on y → see k p s h t ≡ view (run c k y)
  unfolding view bump
  see_on k p s h t y e = ap view (run_on c k (state p s h t) y e)

  pub see_end : (k p : ℕ) (s h : L.List ℤ) (t : Table) (o : Stop) → step c (state p s h t) ≡ end o → see k p s h t ≡ ans o t k
  unfolding view finish
  see_end k p s h t o e = ap view (run_end c k (state p s h t) o e) ∙ fin o
    where
      fin : (o : Stop) → view (finish c o (state p s h t) k) ≡ ans o t k
      fin done = refl
      fin spent = refl
      fin range = refl
      fin divide = refl
      fin ill = refl

  -- an instruction whose effect is known
  pub see_act : (i : Instr) (k p : ℕ) (s h : L.List ℤ) (t : Table) (y : State) → (c.fetch p ≡ i) → p < c.len → act c i p s h t ≡ on y → see k p s h t ≡ view (run c k y)
  see_act i k p s h t y e b a = see_on k p s h t y (step_at c i p s h t b e ∙ a)

  pub see_push_e : (i : Instr) (k p q : ℕ) (s s' h : L.List ℤ) (t : Table) (v : Ev) → (c.fetch p ≡ i) → p < c.len → act c i p s h t ≡ push_e v q s' h t
      → see k p s h t ≡ on_a v (λ x. see k q (x ∷ s') h t) t k
  unfolding push_e
  see_push_e i k p q s s' h t (val x) e b a = see_act i k p s h t _ e b a
  see_push_e i k p q s s' h t (stop o) e b a = see_end k p s h t o (step_at c i p s h t b e ∙ a)

  pub rest_e : (e : Expr) (p : ℕ) (r : L.List Instr) → At c p (code_e e r) → At c (p + size_e e) r
  unfolding code_e size_e
  rest_e (num z) p r a = a.2
  rest_e (flag b) p r a = a.2
  rest_e (var i) p r a = a.2
  rest_e (pls e) p r a = rest_e e p r a
  rest_e (par e) p r a = rest_e e p r a
  rest_e (un ι o e) p r a = subst (λ q. At c q r) (omega arith) (rest_e e p (UN o ∷ r) a).2
  rest_e (bin ι o e f) p r a = subst (λ q. At c q r) (omega arith) (rest_e f (p + size_e e) (BIN o ∷ r) (rest_e e p (code_e f (BIN o ∷ r)) a)).2

  pub push_ok : (v : ℤ) (p : ℕ) (s h : L.List ℤ) (t : Table) → length s < c.cap → push c v p s h t ≡ on (state p (v ∷ s) h t)
  unfolding push
  push_ok v p s h t b = rw (lt-ltb (length s) c.cap b, push)

  pub push_r_ok : (v : Ev) (p : ℕ) (s h : L.List ℤ) (t : Table) → length s < c.cap → push_r c v p s h t ≡ push_e v p s h t
  unfolding push_r
  push_r_ok v p s h t b = rw (lt-ltb (length s) c.cap b, push_r)

  pub sim_e : (e : Expr) (k p : ℕ) (s h : L.List ℤ) (t : Table) (r : L.List Instr) → At c p (code_e e r) → length s + height e ≤ c.cap
      → see k p s h t ≡ on_a (eval e t) (λ v. see k (p + size_e e) (v ∷ s) h t) t k
  unfolding code_e size_e height eval act bind_e
  sim_e (num z) k p s h t r a b = see_act (CONST z) k p s h t _ a.0 a.1 (push_ok z (p + 5) s h t (omega arith))
  sim_e (flag d) k p s h t r a b = see_act (CONST (of_bool d)) k p s h t _ a.0 a.1 (push_ok (of_bool d) (p + 5) s h t (omega arith))
  sim_e (pls e) k p s h t r a b = sim_e e k p s h t r a b
  sim_e (par e) k p s h t r a b = sim_e e k p s h t r a b
  sim_e (var i) k p s h t r a b = see_push_e (LOAD i) k p (p + 2) s s h t (load t i) a.0 a.1 (push_r_ok (load t i) (p + 2) s h t (omega arith))
  sim_e (un ι o e) k p s h t r a b = go (eval e t) (sim_e e k p s h t (UN o ∷ r) a b)
    where
      go : (x : Ev) → see k p s h t ≡ on_a x (λ v. see k (p + size_e e) (v ∷ s) h t) t k
          → see k p s h t ≡ on_a (bind_e x (λ y. unop o y)) (λ v. see k (p + (size_e e + 1)) (v ∷ s) h t) t k
      go (val x) q =
          let z : p + (size_e e + 1) ≡ p + size_e e + 1 = omega arith in
          let n = rest_e e p (UN o ∷ r) a in
          rw z (q ∙ see_push_e (UN o) k (p + size_e e) (p + size_e e + 1) (x ∷ s) s h t (unop o x) n.0 n.1 refl)
      go (stop w) q = q
  sim_e (bin ι o e f) k p s h t r a b = go (eval e t) (sim_e e k p s h t _ a (omega arith)) (eval f t) (λ x. sim_e f k (p + size_e e) (x ∷ s) h t _ (rest_e e p _ a) (omega arith))
    where
      go : (x : Ev) → see k p s h t ≡ on_a x (λ v. see k (p + size_e e) (v ∷ s) h t) t k
          → (y : Ev) → ((v : ℤ) → see k (p + size_e e) (v ∷ s) h t ≡ on_a y (λ w. see k (p + size_e e + size_e f) (w ∷ v ∷ s) h t) t k)
          → see k p s h t ≡ on_a (bind_e x (λ v. bind_e y (λ w. binop o v w))) (λ v. see k (p + (size_e e + size_e f + 1)) (v ∷ s) h t) t k
      go (val x) q (val y) q' =
          let z : p + (size_e e + size_e f + 1) ≡ p + size_e e + size_e f + 1 = omega arith in
          let n = rest_e f (p + size_e e) (BIN o ∷ r) (rest_e e p (code_e f (BIN o ∷ r)) a) in
          rw z (q ∙ q' x ∙ see_push_e (BIN o) k (p + size_e e + size_e f) (p + size_e e + size_e f + 1) (y ∷ x ∷ s) s h t (binop o x y) n.0 n.1 refl)
      go (val x) q (stop w) q' = q ∙ q' x
      go (stop w) q y q' = q
