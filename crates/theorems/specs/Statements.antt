-- Statements: continuation style. `Fin R q x n h o` says: whatever runs on from where the outcome o leaves the code sees R
use mathlib.Core.List as L
use Rattle.std.proofs.Math.Path.{◌≡◌, refl, sym, ap, subst}
use Rattle.std.proofs.Common.{◌∙◌, length-set, get_or-set_same, get_or-set_other}
use Rattle.std.specs.Prelude.{Bool, not, ℤ, pos, ◌+ℤ◌, ltb, get_or, set}
use Rattle.std.proofs.Math.Bool.{true, false, ◌||◌ as or}
use mathlib.Core.List.{[], ◌∷◌}
use Prim.Native.Nat.{ℕ, zero, suc, ◌+◌, ◌≤◌, ◌<◌, max}
use native.Mathlib.Omega.{arith}
use Rattle.std.proofs.Math.ListN.{length}
use Rattle.rules.specs.Core.{Expr, Labels, lnil, lab, Stmt, List, Brs, Grps, assign, if, case, for, while, repeat, exit, nil, cons, none, els, elsif, other, grp}
use Rattle.rules.specs.Meaning.{Table, Stop, spent, ill, Ev, val, stop, load_d, storable, eval, passes, Ans, ans, Out, go, left, halt, tick, on_e, on_go, store, in_labels, on_pass, loop_w, loop_r, loop_f, exec, exec_l, exec_b, exec_g}
use Rattle.rules.specs.Numbers.{of_bool, is_zero, between}
use Rattle.rules.specs.Codes.{Instr, TICK, STORE, JUMP, JZ, JNZ, SPAN, DROP, HOLD, FIRST, NEXT}
use Rattle.rules.specs.Machine.{state, on, end, bump, view, is_tick, Code, ok_jump, jump_to, first_on, next_on, act, step, finish, adv}
use Rattle.rules.specs.Translation.{size_e, code_e, size_lb, code_lb, jlen, jmp, size_s, size_l, size_b, size_g, code_s, code_l, code_b, code_g}
use Rattle.rules.specs.Depth.{height, depth_s, depth_l, depth_b, depth_g}
use Rattle.theorems.specs.Running.{step_at, step_tk, run-spent, run-tick}
use Rattle.theorems.specs.Levels.{levels_s, fors_s, fors_l, fors_b, fors_g}
use Rattle.theorems.specs.Expressions.{At, on_a, see, see_on, see_end, see_act, rest_e, sim_e, push_ok}
use Rattle.theorems.specs.TicksFall.{AtMost, exec_l-le}
use Rattle.theorems.specs.Tests.{lt-ltb}

-- two lists of held finals agree below level n
pub record Agree (n : ℕ) (h h' : L.List ℤ) : Type 0 where
  pub long : length h ≡ length h'
  pub same : (j : ℕ) → j < n → get_or h j (pos 0) ≡ get_or h' j (pos 0)

agree_refl : {n : ℕ} (h : L.List ℤ) → Agree n h h
agree_refl h = record { long = refl; same = λ j b. refl }

agree_trans : {n : ℕ} {a b d : L.List ℤ} → Agree n a b → Agree n b d → Agree n a d
agree_trans u v = record { long = u.long ∙ v.long; same = λ j b. u.same j b ∙ v.same j b }

agree_down : {n : ℕ} {a b : L.List ℤ} → Agree (suc n) a b → Agree n a b
agree_down u = record { long = u.long; same = λ j b. u.same j (omega arith) }

agree-set : (n : ℕ) (h : L.List ℤ) (v : ℤ) → Agree n h (set h n v)
agree-set n h v = record { long = sym (length-set h n v); same = λ j b. sym (get_or-set_other h n j v (pos 0) (omega arith)) }

module _ (c : Code) where
  abbrev pub Good : Ans → ℕ → ℕ → L.List ℤ → Table → ℕ → Type 0
  Good R q n h t k = (h' : L.List ℤ) → Agree n h h' → see c k q [] h' t ≡ R

  pub data Fin (R : Ans) (q x n : ℕ) (h : L.List ℤ) : Out → Type 0 where
    f_go : {t : Table} {k : ℕ} → Good R q n h t k → Fin R q x n h (go t k)
    f_left : {t : Table} {k : ℕ} → Good R x n h t k → Fin R q x n h (left t k)
    f_halt : {o : Stop} {t : Table} {k : ℕ} → ans o t k ≡ R → Fin R q x n h (halt o t k)

  out_go : {R : Ans} {q x n : ℕ} {h : L.List ℤ} {t : Table} {k : ℕ} → Fin R q x n h (go t k) → Good R q n h t k
  out_go (f_go g) = g

  out_left : {R : Ans} {q x n : ℕ} {h : L.List ℤ} {t : Table} {k : ℕ} → Fin R q x n h (left t k) → Good R x n h t k
  out_left (f_left g) = g

  out_halt : {R : Ans} {q x n : ℕ} {h : L.List ℤ} {o : Stop} {t : Table} {k : ℕ} → Fin R q x n h (halt o t k) → ans o t k ≡ R
  out_halt (f_halt g) = g

  -- the held finals may move on
  fin-agree : {R : Ans} {q x n : ℕ} {h h' : L.List ℤ} (o : Out) → Agree n h h' → Fin R q x n h o → Fin R q x n h' o
  fin-agree (go t k) a f = f_go (λ h'' b. out_go f h'' (agree_trans a b))
  fin-agree (left t k) a f = f_left (λ h'' b. out_left f h'' (agree_trans a b))
  fin-agree (halt o t k) a f = f_halt (out_halt f)

  -- the end of a fragment, at its offset
  here : {R : Ans} {q x n : ℕ} {h : L.List ℤ} {t : Table} {k : ℕ} (p : ℕ) → p ≡ q → Fin R q x n h (go t k) → see c k p [] h t ≡ R
  here {h} p e f = rw e (out_go f h (agree_refl h))

  jump_ok : (p a : ℕ) (s h : L.List ℤ) (t : Table) → ok_jump c p a ≡ true → jump_to c p a s h t ≡ on (state a s h t)
  unfolding jump_to
  jump_ok p a s h t e = rw (e, jump_to)

  ok_ahead : (p a : ℕ) → p < a → ok_jump c p a ≡ true
  unfolding ok_jump
  ok_ahead p a b = rw (lt-ltb p a b)

  ok_back : (p a : ℕ) → c.fetch a ≡ TICK → ok_jump c p a ≡ true
  unfolding ok_jump is_tick
  ok_back p a e = rw e (by (ltb p a))
    where
      by : (d : Bool) → or d true ≡ true
      by true = refl
      by false = refl

  see_jump : (a k p : ℕ) (s h : L.List ℤ) (t : Table) → c.fetch p ≡ JUMP a → p < c.len → ok_jump c p a ≡ true → see c k p s h t ≡ see c k a s h t
  unfolding act
  see_jump a k p s h t e b j = see_act c (JUMP a) k p s h t _ e b (jump_ok p a s h t j)

  module _ {R : Ans} {q x n : ℕ} {h₀ : L.List ℤ} where
    tick_then : (k p : ℕ) (s h : L.List ℤ) (t : Table) {g : ℕ → Out} → c.fetch p ≡ TICK → p < c.len
        → Fin R q x n h₀ (tick t k g) → ((j : ℕ) → j < k → Fin R q x n h₀ (g j) → see c j (p + 1) s h t ≡ R) → see c k p s h t ≡ R
    unfolding tick view bump finish adv
    tick_then zero p s h t e b f K = ap view (run-spent c (state p s h t) (step_tk c (state p s h t) b e)) ∙ out_halt f
    tick_then (suc k) p s h t e b f K = ap view (run-tick c k (state p s h t) (step_tk c (state p s h t) b e)) ∙ K k (omega arith) f

    eval_then : (e : Expr) (k p : ℕ) (s h : L.List ℤ) (t : Table) (r : L.List Instr) {g : ℤ → Out} → At c p (code_e e r) → length s + height e ≤ c.cap
        → Fin R q x n h₀ (on_e (eval e t) t k g) → ((v : ℤ) → Fin R q x n h₀ (g v) → see c k (p + size_e e) (v ∷ s) h t ≡ R) → see c k p s h t ≡ R
    unfolding on_e
    eval_then e k p s h t r {g} a b f K = run_ev (eval e t) (sim_e c e k p s h t r a b) f
      where
        run_ev : (v : Ev) → see c k p s h t ≡ on_a v (λ y. see c k (p + size_e e) (y ∷ s) h t) t k → Fin R q x n h₀ (on_e v t k g) → see c k p s h t ≡ R
        run_ev (val v) z f = z ∙ K v f
        run_ev (stop o) z f = z ∙ out_halt f

    store_then : (i : ℕ) (v : ℤ) (k p : ℕ) (s h : L.List ℤ) (t : Table) {g : Table → Out} → c.fetch p ≡ STORE i → p < c.len
        → Fin R q x n h₀ (store c.types i v t k g) → ((u : Table) → Fin R q x n h₀ (g u) → see c k (p + 2) s h u ≡ R) → see c k p (v ∷ s) h t ≡ R
    unfolding store act
    store_then i v k p s h t {g} e b f K = by (storable c.types t i v) (step_at c (STORE i) p (v ∷ s) h t b e) f
      where
        by : (d : Bool) → step c (state p (v ∷ s) h t) ≡ (elim d [ true ↦ on (state (p + 2) s h (set t i v)) | false ↦ end ill ])
            → Fin R q x n h₀ (elim d [ true ↦ g (set t i v) | false ↦ halt ill t k ]) → see c k p (v ∷ s) h t ≡ R
        by true w f = see_on c k p (v ∷ s) h t _ w ∙ K (set t i v) f
        by false w f = see_end c k p (v ∷ s) h t ill w ∙ out_halt f

    jz_then : (a : ℕ) (v : ℤ) (k p : ℕ) (s h : L.List ℤ) (t : Table) {A B : Out} → c.fetch p ≡ JZ a → p < c.len → ok_jump c p a ≡ true
        → Fin R q x n h₀ (elim (is_zero v) [ true ↦ A | false ↦ B ])
        → (Fin R q x n h₀ A → see c k a s h t ≡ R) → (Fin R q x n h₀ B → see c k (p + 3) s h t ≡ R) → see c k p (v ∷ s) h t ≡ R
    unfolding act
    jz_then a v k p s h t {A} {B} e b j f K K' = by (is_zero v) (step_at c (JZ a) p (v ∷ s) h t b e) f
      where
        by : (d : Bool) → step c (state p (v ∷ s) h t) ≡ (elim d [ true ↦ jump_to c p a s h t | false ↦ on (state (p + 3) s h t) ])
            → Fin R q x n h₀ (elim d [ true ↦ A | false ↦ B ]) → see c k p (v ∷ s) h t ≡ R
        by true w f = see_on c k p (v ∷ s) h t _ (w ∙ jump_ok p a s h t j) ∙ K f
        by false w f = see_on c k p (v ∷ s) h t _ w ∙ K' f

    -- a statement, then the rest
    on_go_then : (m : ℕ) (o : Out) {g : Table → ℕ → Out} → Fin R q x n h₀ (on_go o g)
        → ((u : Table) (j : ℕ) (h : L.List ℤ) → Agree n h₀ h → Fin R q x n h (g u j) → see c j m [] h u ≡ R) → Fin R m x n h₀ o
    unfolding on_go
    on_go_then m (go t k) {g} f K = f_go (λ h a. K t k h a (fin-agree (g t k) a f))
    on_go_then m (left t k) f K = f_left (out_left f)
    on_go_then m (halt o t k) f K = f_halt (out_halt f)

    -- a loop's body, then the loop again: EXIT inside the body leads to q
    on_pass_then : (m : ℕ) (o : Out) (i : ℕ) {g : Table → ℕ → Out} → AtMost i o → Fin R q x n h₀ (on_pass o g)
        → ((u : Table) (j : ℕ) (h : L.List ℤ) → j ≤ i → Agree n h₀ h → Fin R q x n h (g u j) → see c j m [] h u ≡ R) → Fin R m q n h₀ o
    unfolding on_pass
    on_pass_then m (go t k) i {g} l f K = f_go (λ h a. K t k h l.le a (fin-agree (g t k) a f))
    on_pass_then m (left t k) i l f K = f_left (out_go f)
    on_pass_then m (halt o t k) i l f K = f_halt (out_halt f)

  -- what stands after a fragment
  rest_j : (b : Brs) (p z : ℕ) (r : L.List Instr) → At c p (jmp b z r) → At c (p + jlen b) r
  unfolding jmp jlen
  rest_j none p z r a = subst (λ m. At c m r) (omega arith) a
  rest_j (els l) p z r a = a.2
  rest_j (elsif e l b) p z r a = a.2

  rest_lb : (ls : Labels) (p b : ℕ) (r : L.List Instr) → At c p (code_lb ls b r) → At c (p + size_lb ls) r
  unfolding code_lb size_lb
  rest_lb lnil p b r a = subst (λ m. At c m r) (omega arith) a
  rest_lb (lab lo hi ls) p b r a = subst (λ m. At c m r) (omega arith) (rest_lb ls (p + 9 + 3) b r a.2.2)

  mutual
    unfolding code_s size_s

    rest_s : (s : Stmt) (p x n : ℕ) (r : L.List Instr) → At c p (code_s s p x n r) → At c (p + size_s s) r
    rest_s (assign i e) p x n r a = subst (λ m. At c m r) (omega arith) (rest_e c e (p + 1) _ a.2).2
    rest_s (if b) p x n r a = subst (λ m. At c m r) (omega arith) (rest_b b (p + 1) x n r a.2)
    rest_s (case e g) p x n r a = subst (λ m. At c m r) (omega arith) (rest_g g (p + 1 + size_e e) _ x n r (rest_e c e (p + 1) _ a.2))
    rest_s (for v i e s l) p x n r a =
        let u = rest_e c e (p + 1 + size_e i) _ (rest_e c i (p + 1) _ a.2) in
        let w = rest_l l (p + 1 + size_e i + size_e e + 2 + 2 + 9 + 1) _ (suc n) _ u.2.2.2.2 in
        subst (λ m. At c m r) (omega arith) w.2
    rest_s (while e l) p x n r a = subst (λ m. At c m r) (omega arith) (rest_l l (p + 1 + size_e e + 3) _ n _ (rest_e c e (p + 1) _ a.2).2).2
    rest_s (repeat l e) p x n r a = subst (λ m. At c m r) (omega arith) (rest_e c e (p + 1 + size_l l) _ (rest_l l (p + 1) _ n _ a.2)).2
    rest_s exit p x n r a = subst (λ m. At c m r) (omega arith) a.2.2

    pub rest_l : (l : List) (p x n : ℕ) (r : L.List Instr) → At c p (code_l l p x n r) → At c (p + size_l l) r
    rest_l nil p x n r a = subst (λ m. At c m r) (omega arith) a
    rest_l (cons s l) p x n r a = subst (λ m. At c m r) (omega arith) (rest_l l (p + size_s s) x n r (rest_s s p x n _ a))

    rest_b : (b : Brs) (p x n : ℕ) (r : L.List Instr) → At c p (code_b b p x n r) → At c (p + size_b b) r
    rest_b none p x n r a = subst (λ m. At c m r) (omega arith) a
    rest_b (els l) p x n r a = rest_l l p x n r a
    rest_b (elsif e l b) p x n r a =
        let m = p + size_e e + 3 + size_l l in
        let u = rest_l l (p + size_e e + 3) _ n _ (rest_e c e p _ a).2 in
        subst (λ m. At c m r) (omega arith) (rest_b b (m + jlen b) x n r (rest_j b m _ _ u))

    rest_g : (g : Grps) (p z x n : ℕ) (r : L.List Instr) → At c p (code_g g p z x n r) → At c (p + size_g g) r
    rest_g (other l) p z x n r a = subst (λ m. At c m r) (omega arith) (rest_l l (p + 1) x n r a.2)
    rest_g (grp ls l g) p z x n r a =
        let b = p + size_lb ls + 3 in
        let u = rest_l l (b + 1) x n _ (rest_lb ls p b _ a).2.2 in
        subst (λ m. At c m r) (omega arith) (rest_g g (b + 1 + size_l l + 3) z x n r u.2)

  -- the end of a fragment seen elsewhere
  redirect : {R : Ans} {q m x n : ℕ} {h : L.List ℤ} (o : Out) → ((k : ℕ) (h' : L.List ℤ) (t : Table) → see c k m [] h' t ≡ see c k q [] h' t) → Fin R q x n h o → Fin R m x n h o
  redirect (go t k) K f = f_go (λ h a. K k h t ∙ out_go f h a)
  redirect (left t k) K f = f_left (out_left f)
  redirect (halt o t k) K f = f_halt (out_halt f)

  moved : {R : Ans} {q m x n : ℕ} {h : L.List ℤ} {o : Out} → q ≡ m → Fin R q x n h o → Fin R m x n h o
  moved {R} {x} {n} {h} {o} e f = subst (λ z. Fin R z x n h o) e f

  -- with no tick left, at a TICK
  at_spent : (k p : ℕ) (h : L.List ℤ) (t : Table) → c.fetch p ≡ TICK → p < c.len → k ≤ 0 → see c k p [] h t ≡ ans spent t k
  unfolding view finish
  at_spent zero p h t e b z = ap view (run-spent c (state p [] h t) (step_tk c (state p [] h t) b e))
  at_spent (suc k) p h t e b z = absurd (omega arith)

  module _ (R : Ans) (e : Expr) (B : Table → ℕ → Out) (hB : (t : Table) (k : ℕ) → AtMost k (B t k)) (p q x n N m : ℕ) (r : L.List Instr)
      (tickAt : c.fetch p ≡ TICK) (inside : p < c.len) (room : height e ≤ c.cap) where
    module _ (cond_at : At c (p + 1) (code_e e (JZ q ∷ r))) (back : c.fetch m ≡ JUMP p) (in2 : m < c.len) (fwd : p + 1 + size_e e < q)
        (body : (k : ℕ) (h : L.List ℤ) (t : Table) → N ≤ length h → Fin R m q n h (B t k) → see c k (p + 1 + size_e e + 3) [] h t ≡ R) where
      while_sim : (f k : ℕ) (h : L.List ℤ) (t : Table) → k ≤ f → N ≤ length h → Fin R q x n h (loop_w e B f t k) → see c k p [] h t ≡ R
      unfolding loop_w
      while_sim zero k h t b l fin = at_spent k p h t tickAt inside b ∙ out_halt fin
      while_sim (suc f) k h t b l fin =
          let z = rest_e c e (p + 1) _ cond_at in
          tick_then k p [] h t tickAt inside fin (λ j lt f1.
          eval_then e j (p + 1) [] h t _ cond_at (omega arith) f1 (λ v f2.
          jz_then q v j (p + 1 + size_e e) [] h t z.0 z.1 (ok_ahead _ _ fwd) f2
          (λ f3. out_go f3 h (agree_refl h))
          (λ f3. body j h t l (on_pass_then m (B t j) j (hB t j) f3 (λ u i h' le a f4.
          see_jump p i m [] h' u back in2 (ok_back m p tickAt) ∙ while_sim f i h' u (omega arith) (rw a.long at l) f4)))))

    module _ (cond_at : At c m (code_e e (JZ p ∷ r))) (ends : m + size_e e + 3 ≡ q)
        (body : (k : ℕ) (h : L.List ℤ) (t : Table) → N ≤ length h → Fin R m q n h (B t k) → see c k (p + 1) [] h t ≡ R) where
      rep_sim : (f k : ℕ) (h : L.List ℤ) (t : Table) → k ≤ f → N ≤ length h → Fin R q x n h (loop_r e B f t k) → see c k p [] h t ≡ R
      unfolding loop_r
      rep_sim zero k h t b l fin = at_spent k p h t tickAt inside b ∙ out_halt fin
      rep_sim (suc f) k h t b l fin =
          let z = rest_e c e m _ cond_at in
          tick_then k p [] h t tickAt inside fin (λ j lt f1.
          body j h t l (on_pass_then m (B t j) j (hB t j) f1 (λ u i h' le a f2.
          eval_then e i m [] h' u _ cond_at (omega arith) f2 (λ v f3.
          jz_then p v i (m + size_e e) [] h' u z.0 z.1 (ok_back _ p tickAt) f3
          (λ f4. rep_sim f i h' u (omega arith) (rw a.long at l) f4)
          (λ f4. here (m + size_e e + 3) ends f4)))))

  -- FOR
  see_hold : (n k p : ℕ) (y : ℤ) (s h : L.List ℤ) (t : Table) → c.fetch p ≡ HOLD n → p < c.len → n < length h → see c k p (y ∷ s) h t ≡ see c k (p + 2) s (set h n y) t
  unfolding act
  see_hold n k p y s h t e b l = see_act c (HOLD n) k p (y ∷ s) h t _ e b (rw (lt-ltb n (length h) l, act))

  see_drop : (k p : ℕ) (y : ℤ) (s h : L.List ℤ) (t : Table) → c.fetch p ≡ DROP → p < c.len → see c k p (y ∷ s) h t ≡ see c k (p + 1) s h t
  unfolding act
  see_drop k p y s h t e b = see_act c DROP k p (y ∷ s) h t _ e b refl

  step_first : (n v a p : ℕ) (d : ℤ) (s h : L.List ℤ) (t : Table) → c.fetch p ≡ FIRST n v d a → p < c.len → n < length h
      → step c (state p s h t) ≡ first_on c (load_d c.types t v d) p d (get_or h n (pos 0)) a s h t
  unfolding act
  step_first n v a p d s h t e b l = step_at c (FIRST n v d a) p s h t b e ∙ rw (lt-ltb n (length h) l, act)

  step_next : (n v a p : ℕ) (d : ℤ) (s h : L.List ℤ) (t : Table) → c.fetch p ≡ NEXT n v d a → p < c.len → n < length h
      → step c (state p s h t) ≡ next_on c (load_d c.types t v d) p v d (get_or h n (pos 0)) a s h t
  unfolding act
  step_next n v a p d s h t e b l = step_at c (NEXT n v d a) p s h t b e ∙ rw (lt-ltb n (length h) l, act)

  module _ {R : Ans} {q x n : ℕ} {h₀ : L.List ℤ} where
    first_then : (v a k p : ℕ) (d y : ℤ) (h : L.List ℤ) (t : Table) {A B : Out} → c.fetch p ≡ FIRST n v d a → p < c.len → n < length h → p < a
        → get_or h n (pos 0) ≡ y → Fin R q x n h₀ (on_e (load_d c.types t v d) t k (λ z. elim (passes d z y) [ true ↦ A | false ↦ B ]))
        → (Fin R q x n h₀ A → see c k a [] h t ≡ R) → (Fin R q x n h₀ B → see c k (p + 9) [] h t ≡ R) → see c k p [] h t ≡ R
    unfolding first_on on_e
    first_then v a k p d y h t {A} {B} e b l j g f K K' = by (load_d c.types t v d) (rw g at (step_first n v a p d [] h t e b l)) f
      where
        two : (o : Bool) → step c (state p [] h t) ≡ (elim o [ true ↦ jump_to c p a [] h t | false ↦ on (state (p + 9) [] h t) ])
            → Fin R q x n h₀ (elim o [ true ↦ A | false ↦ B ]) → see c k p [] h t ≡ R
        two true w f = see_on c k p [] h t _ (w ∙ jump_ok p a [] h t (ok_ahead p a j)) ∙ K f
        two false w f = see_on c k p [] h t _ w ∙ K' f

        by : (z : Ev) → step c (state p [] h t) ≡ first_on c z p d y a [] h t → Fin R q x n h₀ (on_e z t k (λ z. elim (passes d z y) [ true ↦ A | false ↦ B ])) → see c k p [] h t ≡ R
        by (val z) w f = two (passes d z y) w f
        by (stop o) w f = see_end c k p [] h t o w ∙ out_halt f

    next_then : (v a k p : ℕ) (d y : ℤ) (h : L.List ℤ) (t : Table) {A : Out} {g : Table → Out} → c.fetch p ≡ NEXT n v d a → p < c.len → n < length h → c.fetch a ≡ TICK
        → get_or h n (pos 0) ≡ y → Fin R q x n h₀ (on_e (load_d c.types t v d) t k (λ z. elim (passes d (z +ℤ d) y) [ true ↦ A | false ↦ g (set t v (z +ℤ d)) ]))
        → (Fin R q x n h₀ A → see c k (p + 9) [] h t ≡ R) → ((u : Table) → Fin R q x n h₀ (g u) → see c k a [] h u ≡ R) → see c k p [] h t ≡ R
    unfolding next_on on_e
    next_then v a k p d y h t {A} {g} e b l tk' w f K K' = by (load_d c.types t v d) (rw w at (step_next n v a p d [] h t e b l)) f
      where
        two : (u : Table) (o : Bool) → step c (state p [] h t) ≡ (elim o [ true ↦ on (state (p + 9) [] h t) | false ↦ jump_to c p a [] h u ])
            → Fin R q x n h₀ (elim o [ true ↦ A | false ↦ g u ]) → see c k p [] h t ≡ R
        two u true w f = see_on c k p [] h t _ w ∙ K f
        two u false w f = see_on c k p [] h t _ (w ∙ jump_ok p a [] h u (ok_back p a tk')) ∙ K' u f

        by : (z : Ev) → step c (state p [] h t) ≡ next_on c z p v d y a [] h t → Fin R q x n h₀ (on_e z t k (λ z. elim (passes d (z +ℤ d) y) [ true ↦ A | false ↦ g (set t v (z +ℤ d)) ])) → see c k p [] h t ≡ R
        by (val z) w f = two (set t v (z +ℤ d)) (passes d (z +ℤ d) y) w f
        by (stop o) w f = see_end c k p [] h t o w ∙ out_halt f

    -- a FOR's body, one level deeper
    on_pass_deep : (m : ℕ) (o : Out) (i : ℕ) (h : L.List ℤ) {g : Table → ℕ → Out} → AtMost i o → Agree n h₀ h → Fin R q x n h₀ (on_pass o g)
        → ((u : Table) (j : ℕ) (h' : L.List ℤ) → j ≤ i → Agree (suc n) h h' → Fin R q x n h₀ (g u j) → see c j m [] h' u ≡ R) → Fin R m q (suc n) h o
    unfolding on_pass
    on_pass_deep m (go t k) i h l a f K = f_go (λ h' b. K t k h' l.le b f)
    on_pass_deep m (left t k) i h l a f K = f_left (λ h' b. out_go f h' (agree_trans a (agree_down b)))
    on_pass_deep m (halt o t k) i h l a f K = f_halt (out_halt f)

  module _ (R : Ans) (v : ℕ) (d y : ℤ) (B : Table → ℕ → Out) (hB : (t : Table) (k : ℕ) → AtMost k (B t k)) (top q x n N m : ℕ) (h₀ : L.List ℤ)
      (tickAt : c.fetch top ≡ TICK) (inside : top < c.len) (next_at : c.fetch m ≡ NEXT n v d top) (in2 : m < c.len) (ends : m + 9 ≡ q) (lev : n < N)
      (body : (k : ℕ) (h : L.List ℤ) (t : Table) → N ≤ length h → Fin R m q (suc n) h (B t k) → see c k (top + 1) [] h t ≡ R) where
    for_sim : (f k : ℕ) (h : L.List ℤ) (t : Table) → k ≤ f → N ≤ length h → Agree n h₀ h → get_or h n (pos 0) ≡ y → Fin R q x n h₀ (loop_f c.types v d y B f t k) → see c k top [] h t ≡ R
    unfolding loop_f
    for_sim zero k h t b l a w fin = at_spent k top h t tickAt inside b ∙ out_halt fin
    for_sim (suc f) k h t b l a w fin =
        tick_then k top [] h t tickAt inside fin (λ j lt f1.
        body j h t l (on_pass_deep m (B t j) j h (hB t j) a f1 (λ u i h' le s f2.
        let l' : N ≤ length h' = rw s.long at l in
        let a' = agree_trans a (agree_down s) in
        let w' = sym (s.same n (omega arith)) ∙ w in
        next_then v top i m d y h' u next_at in2 (omega arith) tickAt w' f2
        (λ f3. rw ends (out_go f3 h' a'))
        (λ u' f3. for_sim f i h' u' (omega arith) l' a' w' f3))))

  -- CASE
  is_zero-of_bool : (b : Bool) → is_zero (of_bool b) ≡ not b
  unfolding is_zero of_bool
  is_zero-of_bool true = refl
  is_zero-of_bool false = refl

  see_jnz : (a k p : ℕ) (v : Bool) (s h : L.List ℤ) (t : Table) → c.fetch p ≡ JNZ a → p < c.len → p < a
      → see c k p (of_bool v ∷ s) h t ≡ (elim v [ true ↦ see c k a s h t | false ↦ see c k (p + 3) s h t ])
  unfolding act is_zero of_bool
  see_jnz a k p true s h t e b j = see_act c (JNZ a) k p (pos 1 ∷ s) h t _ e b (jump_ok p a s h t (ok_ahead p a j))
  see_jnz a k p false s h t e b j = see_act c (JNZ a) k p (pos 0 ∷ s) h t _ e b refl

  sim_lb : (ls : Labels) (b k p : ℕ) (v : ℤ) (h : L.List ℤ) (t : Table) (r : L.List Instr) → At c p (code_lb ls b r) → p + size_lb ls < b → 2 ≤ c.cap
      → see c k p (v ∷ []) h t ≡ (elim (in_labels ls v) [ true ↦ see c k b (v ∷ []) h t | false ↦ see c k (p + size_lb ls) (v ∷ []) h t ])
  unfolding code_lb size_lb in_labels act
  sim_lb lnil b k p v h t r a l m = let z : p + 0 ≡ p = omega arith in rw z
  sim_lb (lab lo hi ls) b k p v h t r a l m =
      see_act c (SPAN lo hi) k p (v ∷ []) h t _ a.0 a.1 (push_ok c (of_bool (between lo hi v)) (p + 9) (v ∷ []) h t (omega arith))
      ∙ see_jnz b k (p + 9) (between lo hi v) (v ∷ []) h t a.2.0 a.2.1 (omega arith)
      ∙ by (between lo hi v) (sim_lb ls b k (p + 9 + 3) v h t r a.2.2 (omega arith) m)
    where
      by : (d : Bool) → see c k (p + 9 + 3) (v ∷ []) h t ≡ (elim (in_labels ls v) [ true ↦ see c k b (v ∷ []) h t | false ↦ see c k (p + 9 + 3 + size_lb ls) (v ∷ []) h t ])
          → ◌≡◌ {A = Ans} (elim d [ true ↦ see c k b (v ∷ []) h t | false ↦ see c k (p + 9 + 3) (v ∷ []) h t ])
          (elim (or d (in_labels ls v)) [ true ↦ see c k b (v ∷ []) h t | false ↦ see c k (p + (12 + size_lb ls)) (v ∷ []) h t ])
      by true w = refl
      by false w = subst (λ q. see c k (p + 9 + 3) (v ∷ []) h t ≡ (elim (in_labels ls v) [ true ↦ see c k b (v ∷ []) h t | false ↦ see c k q (v ∷ []) h t ])) (omega arith) w

  jmp_then : (b : Brs) (j k : ℕ) (h : L.List ℤ) (t : Table) (r : L.List Instr) → At c j (jmp b (j + jlen b + size_b b) r) → see c k j [] h t ≡ see c k (j + jlen b + size_b b) [] h t
  unfolding jmp jlen size_b
  jmp_then none j k h t r a = let z : j + 0 + 0 ≡ j = omega arith in rw z
  jmp_then (els l) j k h t r a = see_jump _ k j [] h t a.0 a.1 (ok_ahead _ _ (omega arith))
  jmp_then (elsif e l b) j k h t r a = see_jump _ k j [] h t a.0 a.1 (ok_ahead _ _ (omega arith))

  lab_then : {R : Ans} {q x n : ℕ} {h₀ : L.List ℤ} {A B : Out} (ls : Labels) (v : ℤ) (k p b : ℕ) (h : L.List ℤ) (t : Table) (r : L.List Instr) → At c p (code_lb ls b r) → p + size_lb ls < b → 2 ≤ c.cap
      → Fin R q x n h₀ (elim (in_labels ls v) [ true ↦ A | false ↦ B ]) → (Fin R q x n h₀ A → see c k b (v ∷ []) h t ≡ R) → (Fin R q x n h₀ B → see c k (p + size_lb ls) (v ∷ []) h t ≡ R)
      → see c k p (v ∷ []) h t ≡ R
  lab_then {R} {q} {x} {n} {h₀} {A} {B} ls v k p b h t r a l m f K K' = by (in_labels ls v) (sim_lb ls b k p v h t r a l m) f
    where
      by : (d : Bool) → see c k p (v ∷ []) h t ≡ (elim d [ true ↦ see c k b (v ∷ []) h t | false ↦ see c k (p + size_lb ls) (v ∷ []) h t ])
          → Fin R q x n h₀ (elim d [ true ↦ A | false ↦ B ]) → see c k p (v ∷ []) h t ≡ R
      by true w f = w ∙ K f
      by false w f = w ∙ K' f

  mutual
    unfolding code_s size_s depth_s levels_s exec

    pub sim_s : (s : Stmt) (R : Ans) (k p x n : ℕ) (h : L.List ℤ) (t : Table) (r : L.List Instr) → At c p (code_s s p x n r) → p + size_s s ≤ x
        → depth_s s ≤ c.cap → n + fors_s s ≤ length h → Fin R (p + size_s s) x n h (exec c.types s t k) → see c k p [] h t ≡ R
    sim_s (assign i e) R k p x n h t r a b d l f =
        let z = rest_e c e (p + 1) _ a.2 in
        tick_then k p [] h t a.0 a.1 f (λ j lt f1. eval_then e j (p + 1) [] h t _ a.2 (omega arith) f1 (λ v f2.
        store_then i v j (p + 1 + size_e e) [] h t z.0 z.1 f2 (λ u f3. here (p + 1 + size_e e + 2) (omega arith) f3)))
    sim_s (if b) R k p x n h t r a g d l f = tick_then k p [] h t a.0 a.1 f (λ j lt f1.
        sim_b b R j (p + 1) x n h t r a.2 (omega arith) d l (moved (omega arith) f1))
    sim_s (case e g) R k p x n h t r a b d l f =
        let z = rest_e c e (p + 1) _ a.2 in
        tick_then k p [] h t a.0 a.1 f (λ j lt f1. eval_then e j (p + 1) [] h t _ a.2 (omega arith) f1 (λ v f2.
        sim_g g R v j (p + 1 + size_e e) (p + 1 + size_e e + size_g g) x n h t r z refl (omega arith) (omega arith) (omega arith) l (moved (omega arith) f2)))
    sim_s (for v i e s l) R k p x n h t r a b d w f =
        let top = p + 1 + size_e i + size_e e + 2 + 2 + 9 in
        let z = top + 1 + size_l l + 9 in
        let u = rest_e c i (p + 1) _ a.2 in
        let g = rest_e c e (p + 1 + size_e i) _ u in
        let j = rest_l l (top + 1) z (suc n) _ g.2.2.2.2 in
        tick_then k p [] h t a.0 a.1 f (λ k' lt f1.
        eval_then i k' (p + 1) [] h t _ a.2 (omega arith) f1 (λ x₀ f2.
        eval_then e k' (p + 1 + size_e i) (x₀ ∷ []) h t _ u (omega arith) f2 (λ y f3.
        see_hold n k' (p + 1 + size_e i + size_e e) y (x₀ ∷ []) h t g.0 g.1 (omega arith)
        ∙ store_then v x₀ k' (p + 1 + size_e i + size_e e + 2) [] (set h n y) t g.2.0 g.2.1 f3 (λ t' f4.
        let long = length-set h n y in
        let held = get_or-set_same h n y (pos 0) (omega arith) in
        first_then v z k' (p + 1 + size_e i + size_e e + 2 + 2) s y (set h n y) t' g.2.2.0 g.2.2.1 (omega arith) (omega arith)
        held (moved (omega arith) f4)
        (λ f5. out_go f5 (set h n y) (agree-set n h y))
        (λ f5. for_sim R v s y (λ t k. exec_l c.types l t k) (λ t k. exec_l-le c.types l t k) top z x n (n + suc (fors_l l)) (top + 1 + size_l l) h
        g.2.2.2.0 g.2.2.2.1 j.0 j.1 refl (omega arith)
        (λ k h t w f. sim_l l R k (top + 1) z (suc n) h t _ g.2.2.2.2 (omega arith) (omega arith) (omega arith) f)
        k' k' (set h n y) t' (omega arith) (omega arith) (agree-set n h y) held f5)))))
    sim_s (while e l) R k p x n h t r a b d w f =
        let z = p + 1 + size_e e + 3 + size_l l + 3 in
        let u = rest_e c e (p + 1) _ a.2 in
        let j = rest_l l (p + 1 + size_e e + 3) z n _ u.2 in
        while_sim R e (λ t k. exec_l c.types l t k) (λ t k. exec_l-le c.types l t k) p z x n (n + fors_l l) (p + 1 + size_e e + 3 + size_l l) _ a.0 a.1 (omega arith)
        a.2 j.0 j.1 (omega arith)
        (λ k h t w f. sim_l l R k (p + 1 + size_e e + 3) z n h t _ u.2 (omega arith) (omega arith) w f)
        k k h t (omega arith) w (moved (omega arith) f)
    sim_s (repeat l e) R k p x n h t r a b d w f =
        let z = p + 1 + size_l l + size_e e + 3 in
        let u = rest_l l (p + 1) z n _ a.2 in
        rep_sim R e (λ t k. exec_l c.types l t k) (λ t k. exec_l-le c.types l t k) p z x n (n + fors_l l) (p + 1 + size_l l) _ a.0 a.1 (omega arith)
        u refl
        (λ k h t w f. sim_l l R k (p + 1) z n h t _ a.2 (omega arith) (omega arith) w f)
        k k h t (omega arith) w (moved (omega arith) f)
    sim_s exit R k p x n h t r a b d w f =
        tick_then k p [] h t a.0 a.1 f (λ j lt f1. see_jump x j (p + 1) [] h t a.2.0 a.2.1 (ok_ahead _ _ (omega arith)) ∙ out_left f1 h (agree_refl h))

    pub sim_l : (l : List) (R : Ans) (k p x n : ℕ) (h : L.List ℤ) (t : Table) (r : L.List Instr) → At c p (code_l l p x n r) → p + size_l l ≤ x
        → depth_l l ≤ c.cap → n + fors_l l ≤ length h → Fin R (p + size_l l) x n h (exec_l c.types l t k) → see c k p [] h t ≡ R
    sim_l nil R k p x n h t r a b d w f = here p (omega arith) f
    sim_l (cons s l) R k p x n h t r a b d w f =
        sim_s s R k p x n h t _ a (omega arith) (omega arith) (omega arith) (on_go_then (p + size_s s) (exec c.types s t k) f (λ u j h' ag f1.
        sim_l l R j (p + size_s s) x n h' u r (rest_s s p x n _ a) (omega arith) (omega arith) (rw ag.long at (fits l w)) (moved (omega arith) f1)))
      where
        fits : (l : List) → n + max (fors_s s) (fors_l l) ≤ length h → n + fors_l l ≤ length h
        fits l w = omega arith

    pub sim_b : (b : Brs) (R : Ans) (k p x n : ℕ) (h : L.List ℤ) (t : Table) (r : L.List Instr) → At c p (code_b b p x n r) → p + size_b b ≤ x
        → depth_b b ≤ c.cap → n + fors_b b ≤ length h → Fin R (p + size_b b) x n h (exec_b c.types b t k) → see c k p [] h t ≡ R
    sim_b none R k p x n h t r a b d w f = here p (omega arith) f
    sim_b (els l) R k p x n h t r a b d w f = sim_l l R k p x n h t r a b d w f
    sim_b (elsif e l b) R k p x n h t r a g d w f =
        let u = rest_e c e p _ a in
        let m = p + size_e e + 3 + size_l l + jlen b in
        let j = rest_l l (p + size_e e + 3) x n _ u.2 in
        eval_then e k p [] h t _ a (omega arith) f (λ v f1.
        jz_then m v k (p + size_e e) [] h t u.0 u.1 (ok_ahead _ _ (omega arith)) f1
        (λ f2. sim_b b R k m x n h t r (rest_j b _ _ _ j) (omega arith) (omega arith) (omega arith) (moved (omega arith) f2))
        (λ f2. sim_l l R k (p + size_e e + 3) x n h t _ u.2 (omega arith) (omega arith) (omega arith)
        (redirect (exec_l c.types l t k) (λ k' h' t'. jmp_then b (p + size_e e + 3 + size_l l) k' h' t' _ j) (moved (omega arith) f2))))

    pub sim_g : (g : Grps) (R : Ans) (v : ℤ) (k p z x n : ℕ) (h : L.List ℤ) (t : Table) (r : L.List Instr) → At c p (code_g g p z x n r) → p + size_g g ≡ z → z ≤ x
        → depth_g g ≤ c.cap → 2 ≤ c.cap → n + fors_g g ≤ length h → Fin R z x n h (exec_g c.types g v t k) → see c k p (v ∷ []) h t ≡ R
    sim_g (other l) R v k p z x n h t r a e b d m w f = see_drop k p v [] h t a.0 a.1 ∙ sim_l l R k (p + 1) x n h t r a.2 (omega arith) d w (moved (omega arith) f)
    sim_g (grp ls l g) R v k p z x n h t r a e b d m w f =
        let y = p + size_lb ls + 3 in
        let u = rest_lb ls p y _ a in
        let j = rest_l l (y + 1) x n _ u.2.2 in
        lab_then ls v k p y h t _ a (omega arith) m f
        (λ f1. see_drop k y v [] h t u.2.0 u.2.1 ∙ sim_l l R k (y + 1) x n h t _ u.2.2 (omega arith) (omega arith) (omega arith)
        (redirect (exec_l c.types l t k) (λ k' h' t'. see_jump z k' (y + 1 + size_l l) [] h' t' j.0 j.1 (ok_ahead _ _ (omega arith))) f1))
        (λ f1. see_jump _ k (p + size_lb ls) (v ∷ []) h t u.0 u.1 (ok_ahead _ _ (omega arith))
        ∙ sim_g g R v k (y + 1 + size_l l + 3) z x n h t r j.2 (omega arith) b (omega arith) m (omega arith) f1)
