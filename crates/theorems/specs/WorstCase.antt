-- The worst case bounds the ticks.
use mathlib.Core.List as L
use Rattle.std.specs.Prelude.{◌≡◌, refl, ◌≢◌, Bool, true, false, not, ◌&&◌, ℤ, pos, neg_ℤ, ◌+ℤ◌, ltb, length, get_or, set}
use Rattle.std.proofs.Math.Path.{sym}
use Rattle.std.proofs.Common.{ap, ◌∙◌, length-set, get_or-set_same, get_or-set_other}
use Prim.Native.Nat.{ℕ, zero, suc, ◌+◌, ◌*◌, ◌≤◌, ◌<◌, max}
use native.Mathlib.Omega.{arith}
use Rattle.rules.specs.Numbers.{Ty, dint, is_zero, is_dint, holds}
use Rattle.rules.specs.Core.{Neg, Not, Expr, num, flag, var, un, bin, pls, par, Stmt, List, Brs, Grps, assign, if, case, for, while, repeat, exit, nil, cons, none, els, elsif, other, grp}
use Rattle.rules.specs.Meaning.{Table, Stop, range, Ev, val, stop, load, load_d, storable, eval, bind_e, unop, fit, passes, Out, go, left, halt, tick, on_e, on_go, store, in_labels, on_pass, loop_f, exec, exec_l, exec_b, exec_g}
use Rattle.theorems.specs.TicksFall.{k_of}
use Rattle.theorems.specs.Keeping.{tab_of, StoresL, exec_l-i}
use Rattle.rules.specs.Worst.{Bound, fin, pass_count, con_of, neg_lit, lit_of, add_w, max_w, for_w, worst_s, unb, lit, nolit, Lit, worst_b, worst_g, worst_l}
use Rattle.theorems.specs.Tests.{ltb-t, and_l}
use Rattle.theorems.specs.Passes.{count_one, count_more}

-- rules 11 and 15: a FOR's variable is not stored to in its body; its step is not 0
abbrev mutual
  pub WfS : Stmt → Type 0
  WfS (assign i e) = Unit {0}
  WfS (if b) = WfB b
  WfS (case e g) = WfG g
  WfS (for v a e s l) = StoresL (λ i. i ≢ v) l × (s ≢ pos 0) × WfL l
  WfS (while c l) = WfL l
  WfS (repeat l c) = WfL l
  WfS exit = Unit {0}

  pub WfL : List → Type 0
  WfL nil = Unit {0}
  WfL (cons s l) = WfS s × WfL l

  pub WfB : Brs → Type 0
  WfB none = Unit {0}
  WfB (els l) = WfL l
  WfB (elsif c l b) = WfL l × WfB b

  pub WfG : Grps → Type 0
  WfG (other l) = WfL l
  WfG (grp ls l g) = WfL l × WfG g

-- at most w of the k ticks are used
pub record Within (w k : ℕ) (o : Out) : Type 0 where
  pub within : k ≤ k_of o + w

pub data Ok (k : ℕ) (o : Out) : Bound → Type 0 where
  ok_fin : {w : ℕ} → Within w k o → Ok k o (fin w)
  ok_unb : Ok k o unb

pub un_fin : {k w : ℕ} {o : Out} → Ok k o (fin w) → Within w k o
un_fin (ok_fin h) = h

wide : {a b k : ℕ} {o : Out} → a ≤ b → Within a k o → Within b k o
wide h i = let q = i.within in record { within = omega arith }

ite-w : {w k : ℕ} (b : Bool) {x y : Out} → (b ≡ true → Within w k x) → (b ≡ false → Within w k y) → Within w k (elim b [ true ↦ x | false ↦ y ])
ite-w true f g = f refl
ite-w false f g = g refl

tick-w : {w : ℕ} (t : Table) (k : ℕ) {g : ℕ → Out} → ((j : ℕ) → Within w j (g j)) → Within (suc w) k (tick t k g)
unfolding tick
tick-w t zero f = record { within = omega arith }
tick-w t (suc k) f = let q = (f k).within in record { within = omega arith }

on_e-w : {w : ℕ} (v : Ev) (t : Table) (k : ℕ) {g : ℤ → Out} → ((x : ℤ) → v ≡ val x → Within w k (g x)) → Within w k (on_e v t k g)
unfolding on_e
on_e-w (val x) t k f = f x refl
on_e-w (stop o) t k f = record { within = omega arith }

store-w : {w : ℕ} (Γ : L.List Ty) (i : ℕ) (v : ℤ) (t : Table) (k : ℕ) {g : Table → Out} → ((u : Table) → i < length t → u ≡ set t i v → Within w k (g u)) → Within w k (store Γ i v t k g)
unfolding store storable
store-w Γ i v t k f = ite-w (storable Γ t i v) (λ e. f (set t i v) (ltb-t i (length t) (and_l (ltb i (length t)) (holds (get_or Γ i dint) v) e)) refl) (λ e. record { within = omega arith })

on_go-w : {a b k : ℕ} (o : Out) {g : Table → ℕ → Out} → Within a k o → ((u : Table) (j : ℕ) → Within b j (g u j)) → Within (a + b) k (on_go o g)
unfolding on_go
on_go-w (go t k) h f = let p = h.within in let q = (f t k).within in record { within = omega arith }
on_go-w (left t k) h f = let p = h.within in record { within = omega arith }
on_go-w (halt o t k) h f = let p = h.within in record { within = omega arith }

-- a table in which the slot v is as before
pub record Kept (v : ℕ) (t : Table) (k : ℕ) (u : Table) (j : ℕ) : Type 0 where
  pub long : length u ≡ length t
  pub same : get_or u v (pos 0) ≡ get_or t v (pos 0)

kept : (Γ : L.List Ty) (v : ℕ) (l : List) → StoresL (λ i. i ≢ v) l → (t : Table) (k : ℕ) → Kept v t k (tab_of (exec_l Γ l t k)) (k_of (exec_l Γ l t k))
kept Γ v l p t k =
    (exec_l-i Γ (Kept v) (λ i. i ≢ v) (λ t k. record { long = refl; same = refl })
    (λ a i b j d k f g. record { long = g.long ∙ f.long; same = g.same ∙ f.same })
    (λ t k. record { long = refl; same = refl })
    (λ i z t k n. record { long = length-set t i z; same = get_or-set_other t i v z (pos 0) (λ e. n (sym e)) }) l p t k).inv

on_pass-w : {a b k : ℕ} (v : ℕ) (t : Table) (o : Out) {g : Table → ℕ → Out} → Within a k o → Kept v t k (tab_of o) (k_of o)
    → ((u : Table) (j : ℕ) → Kept v t k u j → Within b j (g u j)) → Within (a + b) k (on_pass o g)
unfolding on_pass
on_pass-w v t (go u k) h s f = let p = h.within in let q = (f u k s).within in record { within = omega arith }
on_pass-w v t (left u k) h s f = let p = h.within in record { within = omega arith }
on_pass-w v t (halt o u k) h s f = let p = h.within in record { within = omega arith }

load-val : (Γ : L.List Ty) (t : Table) (v : ℕ) (s x : ℤ) → load_d Γ t v s ≡ val x → (get_or t v (pos 0) ≡ x) × (v < length t)
unfolding load load_d
load-val Γ t v s x e = by (◌&&◌ (is_dint (get_or Γ v dint)) (not (is_zero s))) (ltb v (length t)) refl e
  where
    by : (d g : Bool) → ltb v (length t) ≡ g → (elim d [ true ↦ (elim g [ true ↦ val (get_or t v (pos 0)) | false ↦ stop Stop.ill ]) | false ↦ stop Stop.ill ]) ≡ val x → (get_or t v (pos 0) ≡ x) × (v < length t)
    by true true g e = (cc, ltb-t v (length t) g)
    by true false g e = let z : ◌≡◌ {A = ℕ} 0 1 = cc in absurd (omega arith)
    by false g h e = let z : ◌≡◌ {A = ℕ} 0 1 = cc in absurd (omega arith)

module _ (Γ : L.List Ty) (v : ℕ) (d y : ℤ) (w : ℕ) (B : Table → ℕ → Out) (hB : (t : Table) (k : ℕ) → Within w k (B t k))
    (hK : (t : Table) (k : ℕ) → Kept v t k (tab_of (B t k)) (k_of (B t k)))
    (N : ℤ → ℕ) (one : (x : ℤ) → passes d x y ≡ false → 1 ≤ N x) (more : (x : ℤ) → passes d (x +ℤ d) y ≡ false → suc (N (x +ℤ d)) ≤ N x) where
  -- from a table in which the variable is x
  loop_f-w : (f : ℕ) (t : Table) (k : ℕ) (x : ℤ) (n : ℕ) → get_or t v (pos 0) ≡ x → 1 ≤ n → N x ≤ n → Within (n * suc w) k (loop_f Γ v d y B f t k)
  unfolding loop_f
  loop_f-w zero t k x n e b h = record { within = omega arith }
  loop_f-w (suc f) t k x zero e b h = absurd (omega arith)
  loop_f-w (suc f) t k x (suc n) e b h = wide {a = suc (w + n * suc w)} (omega arith)
      (tick-w t k (λ j. on_pass-w v t (B t j) (hB t j) (hK t j) (λ u i s. on_e-w (load_d Γ u v d) u i (λ z q.
      let lv = load-val Γ u v d z q in
      let zx : z ≡ x = sym lv.0 ∙ s.same ∙ e in
      ite-w (passes d (z +ℤ d) y) (λ c. record { within = omega arith }) (λ c.
      let m = rw zx at (more z c) in
      let o = rw zx at (one (z +ℤ d) c) in
      loop_f-w f (set u v (z +ℤ d)) i (z +ℤ d) n (get_or-set_same u v (z +ℤ d) (pos 0) lv.1) (omega arith) (rw zx (omega arith)))))))

-- a literal bound has its value, if any
con-val : (e : Expr) (z x : ℤ) (t : Table) → con_of e ≡ lit z → eval e t ≡ val x → x ≡ z
unfolding con_of eval
con-val (num y) z x t e v = cc
con-val (flag b) z x t e v = cc
con-val (var i) z x t e v = cc
con-val (un ι o a) z x t e v = cc
con-val (bin ι o a b) z x t e v = cc
con-val (pls a) z x t e v = cc
con-val (par a) z x t e v = cc

fit-val : (τ : Ty) (z x : ℤ) → fit τ z ≡ val x → x ≡ z
unfolding fit
fit-val τ z x v = by (holds τ z) v
  where
    by : (d : Bool) → (elim d [ true ↦ val z | false ↦ stop range ]) ≡ val x → x ≡ z
    by true v = cc
    by false v = cc

neg-val : (a : Ev) (l : Lit) (z x : ℤ) → ((y w : ℤ) → l ≡ lit w → a ≡ val y → y ≡ w) → neg_lit Neg l ≡ lit z → bind_e a (λ y. unop Neg y) ≡ val x → x ≡ z
unfolding neg_lit bind_e unop
neg-val (val y) (lit w) z x h e v = let q = h y w refl refl in fit-val dint (neg_ℤ y) x v ∙ ap neg_ℤ q ∙ cc
neg-val (val y) nolit z x h e v = cc
neg-val (stop o) l z x h e v = cc

lit-val : (e : Expr) (z x : ℤ) (t : Table) → lit_of e ≡ lit z → eval e t ≡ val x → x ≡ z
unfolding lit_of eval neg_lit
lit-val (num y) z x t e v = cc
lit-val (flag b) z x t e v = cc
lit-val (var i) z x t e v = cc
lit-val (un ι Neg a) z x t e v = neg-val (eval a t) (con_of a) z x (λ y w p q. con-val a w y t p q) e v
lit-val (un ι Not a) z x t e v = cc
lit-val (bin ι o a b) z x t e v = cc
lit-val (pls a) z x t e v = con-val a z x t e v
lit-val (par a) z x t e v = cc

ok_add1 : (b : Bound) (t : Table) (k : ℕ) {g : ℕ → Out} → ((j : ℕ) → Ok j (g j) b) → Ok k (tick t k g) (add_w (fin 1) b)
unfolding add_w
ok_add1 (fin w) t k f = ok_fin {w = 1 + w} (wide (omega arith) (tick-w t k (λ j. un_fin (f j))))
ok_add1 unb t k f = ok_unb

ok_seq : (a b : Bound) (k : ℕ) (o : Out) {g : Table → ℕ → Out} → Ok k o a → ((u : Table) (j : ℕ) → Ok j (g u j) b) → Ok k (on_go o g) (add_w a b)
unfolding add_w
ok_seq (fin a) (fin b) k o h f = ok_fin (on_go-w o (un_fin h) (λ u j. un_fin (f u j)))
ok_seq (fin a) unb k o h f = ok_unb
ok_seq unb b k o h f = ok_unb

ok_on_e : (w : Bound) (v : Ev) (t : Table) (k : ℕ) {g : ℤ → Out} → ((x : ℤ) → Ok k (g x) w) → Ok k (on_e v t k g) w
ok_on_e (fin w) v t k f = ok_fin (on_e-w v t k (λ x e. un_fin (f x)))
ok_on_e unb v t k f = ok_unb

ok_max : (a b : Bound) (k : ℕ) (d : Bool) {x y : Out} → Ok k x a → Ok k y b → Ok k (elim d [ true ↦ x | false ↦ y ]) (max_w a b)
unfolding max_w
ok_max (fin a) (fin b) k d f g = ok_fin {w = max a b} (ite-w d (λ e. wide (omega arith) (un_fin f)) (λ e. wide (omega arith) (un_fin g)))
ok_max (fin a) unb k d f g = ok_unb
ok_max unb b k d f g = ok_unb

ok_max' : (a b : Bound) (k : ℕ) (d : Bool) {x y : Out} → Ok k x a → Ok k y b → Ok k (elim d [ true ↦ y | false ↦ x ]) (max_w a b)
unfolding max_w
ok_max' (fin a) (fin b) k d f g = ok_fin {w = max a b} (ite-w d (λ e. wide (omega arith) (un_fin g)) (λ e. wide (omega arith) (un_fin f)))
ok_max' (fin a) unb k d f g = ok_unb
ok_max' unb b k d f g = ok_unb

ok_for : (Γ : L.List Ty) (v : ℕ) (a e : Expr) (s : ℤ) (l : List) (la le : Lit) (b : Bound) → lit_of a ≡ la → lit_of e ≡ le → StoresL (λ i. i ≢ v) l → s ≢ pos 0
    → ((t : Table) (k : ℕ) → Ok k (exec_l Γ l t k) b) → (t : Table) (k : ℕ) → Ok k (exec Γ (for v a e s l) t k) (for_w la le s b)
unfolding for_w exec
ok_for Γ v a e s l (lit p) (lit q) (fin w) ea ee st nz h t k = ok_fin {w = 1 + pass_count p q s * (1 + w)} (wide {a = suc (pass_count p q s * suc w)} (omega arith)
    (tick-w t k (λ j. on_e-w (eval a t) t j (λ x ex. on_e-w (eval e t) t j (λ y ey.
    let xp = lit-val a p x t ea ex in
    let yq = lit-val e q y t ee ey in
    store-w Γ v x t j (λ u b g. on_e-w (load_d Γ u v s) u j (λ z ez.
    let now : get_or u v (pos 0) ≡ x = ap (λ t. get_or t v (pos 0)) g ∙ get_or-set_same t v x (pos 0) b in
    let zx : z ≡ x = sym (load-val Γ u v s z ez).0 ∙ now in
    ite-w (passes s z y) (λ c. record { within = omega arith }) (λ c.
    let one = count_one s y x (rw zx at c) in
    rw (← xp, ← yq) (loop_f-w Γ v s y w (λ t k. exec_l Γ l t k) (λ t k. un_fin (h t k)) (kept Γ v l st) (λ z. pass_count z y s) (λ z. count_one s y z) (λ z e. let q = count_more s y z nz e in omega arith)
    j u j x (pass_count x y s) now one (omega arith))))))))))
ok_for Γ v a e s l (lit p) (lit q) unb ea ee st nz h t k = ok_unb
ok_for Γ v a e s l (lit p) nolit b ea ee st nz h t k = ok_unb
ok_for Γ v a e s l nolit le b ea ee st nz h t k = ok_unb

module _ (Γ : L.List Ty) where
  mutual
    unfolding exec worst_s

    pub ok_s : (s : Stmt) → WfS s → (t : Table) (k : ℕ) → Ok k (exec Γ s t k) (worst_s s)
    ok_s (assign i e) f t k = ok_fin {w = 1} (tick-w {w = 0} t k (λ j. on_e-w (eval e t) t j (λ v q. store-w Γ i v t j (λ u l g. record { within = omega arith }))))
    ok_s (if b) f t k = ok_add1 (worst_b b) t k (λ j. ok_b b f t j)
    ok_s (case e g) f t k = ok_add1 (worst_g g) t k (λ j. ok_on_e (worst_g g) (eval e t) t j (λ v. ok_g g f v t j))
    ok_s (for v a e s l) f t k = ok_for Γ v a e s l (lit_of a) (lit_of e) (worst_l l) refl refl f.0 f.1 (λ u j. ok_l l f.2 u j) t k
    ok_s (while c l) f t k = ok_unb
    ok_s (repeat l c) f t k = ok_unb
    ok_s exit f t k = ok_fin {w = 1} (tick-w {w = 0} t k (λ j. record { within = omega arith }))

    pub ok_l : (l : List) → WfL l → (t : Table) (k : ℕ) → Ok k (exec_l Γ l t k) (worst_l l)
    ok_l nil f t k = ok_fin {w = 0} (record { within = omega arith })
    ok_l (cons s l) f t k = ok_seq (worst_s s) (worst_l l) k (exec Γ s t k) (ok_s s f.0 t k) (λ u j. ok_l l f.1 u j)

    pub ok_b : (b : Brs) → WfB b → (t : Table) (k : ℕ) → Ok k (exec_b Γ b t k) (worst_b b)
    ok_b none f t k = ok_fin {w = 0} (record { within = omega arith })
    ok_b (els l) f t k = ok_l l f t k
    ok_b (elsif c l b) f t k = ok_on_e (max_w (worst_l l) (worst_b b)) (eval c t) t k (λ v. ok_max' (worst_l l) (worst_b b) k (is_zero v) (ok_l l f.0 t k) (ok_b b f.1 t k))

    pub ok_g : (g : Grps) → WfG g → (v : ℤ) (t : Table) (k : ℕ) → Ok k (exec_g Γ g v t k) (worst_g g)
    ok_g (other l) f v t k = ok_l l f t k
    ok_g (grp ls l g) f v t k = ok_max (worst_l l) (worst_g g) k (in_labels ls v) (ok_l l f.0 t k) (ok_g g f.1 v t k)
