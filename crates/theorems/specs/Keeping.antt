-- One induction for whatever a text keeps: a relation between the tables and ticks before and after.
use mathlib.Core.List as L
use Rattle.std.specs.Prelude.{Bool, true, false, ℤ, ◌+ℤ◌, set}
use Prim.Native.Nat.{ℕ, zero, suc}
use Rattle.rules.specs.Numbers.{Ty, is_zero}
use Rattle.rules.specs.Core.{Expr, Stmt, List, Brs, Grps, assign, if, case, for, while, repeat, exit, nil, cons, none, els, elsif, other, grp}
use Rattle.rules.specs.Meaning.{Table, Ev, val, stop, load_d, storable, eval, passes, Out, go, left, halt, tick, on_e, on_go, store, in_labels, on_pass, loop_w, loop_r, loop_f, exec, exec_l, exec_b, exec_g}
use Rattle.theorems.specs.TicksFall.{k_of}

abbrev pub tab_of : Out → Table
tab_of (go t k) = t
tab_of (left t k) = t
tab_of (halt o t k) = t

-- the slots that a text may store to
abbrev mutual
  pub StoresS : (ℕ → Type 0) → Stmt → Type 0
  StoresS P (assign i e) = P i
  StoresS P (if b) = StoresB P b
  StoresS P (case e g) = StoresG P g
  StoresS P (for v a e s l) = P v × StoresL P l
  StoresS P (while c l) = StoresL P l
  StoresS P (repeat l c) = StoresL P l
  StoresS P exit = Unit {0}

  pub StoresL : (ℕ → Type 0) → List → Type 0
  StoresL P nil = Unit {0}
  StoresL P (cons s l) = StoresS P s × StoresL P l

  pub StoresB : (ℕ → Type 0) → Brs → Type 0
  StoresB P none = Unit {0}
  StoresB P (els l) = StoresL P l
  StoresB P (elsif c l b) = StoresL P l × StoresB P b

  pub StoresG : (ℕ → Type 0) → Grps → Type 0
  StoresG P (other l) = StoresL P l
  StoresG P (grp ls l g) = StoresL P l × StoresG P g

module _ (Γ : L.List Ty) (Rel : Table → ℕ → Table → ℕ → Type 0) (P : ℕ → Type 0) (rf : (t : Table) (k : ℕ) → Rel t k t k)
    (tr : (a : Table) (i : ℕ) (b : Table) (j : ℕ) (d : Table) (k : ℕ) → Rel a i b j → Rel b j d k → Rel a i d k)
    (tick-ok : (t : Table) (k : ℕ) → Rel t (suc k) t k) (store_ok : (i : ℕ) (v : ℤ) (t : Table) (k : ℕ) → P i → Rel t k (set t i v) k) where
  pub record Inv (t : Table) (k : ℕ) (o : Out) : Type 0 where
    pub inv : Rel t k (tab_of o) (k_of o)

  then : {t u : Table} {k j : ℕ} {o : Out} → Rel t k u j → Inv u j o → Inv t k o
  then r i = record { inv = tr _ _ _ _ _ _ r i.inv }

  ite-i : {t : Table} {k : ℕ} (b : Bool) {x y : Out} → Inv t k x → Inv t k y → Inv t k (elim b [ true ↦ x | false ↦ y ])
  ite-i true f g = f
  ite-i false f g = g

  tick-i : (t : Table) (k : ℕ) {g : ℕ → Out} → ((j : ℕ) → Inv t j (g j)) → Inv t k (tick t k g)
  unfolding tick
  tick-i t zero f = record { inv = rf t zero }
  tick-i t (suc k) f = then (tick-ok t k) (f k)

  on_e-i : (v : Ev) (t : Table) (k : ℕ) {g : ℤ → Out} → ((x : ℤ) → Inv t k (g x)) → Inv t k (on_e v t k g)
  unfolding on_e
  on_e-i (val x) t k f = f x
  on_e-i (stop o) t k f = record { inv = rf t k }

  store-i : (i : ℕ) (v : ℤ) (t : Table) (k : ℕ) {g : Table → Out} → P i → ((u : Table) → Inv u k (g u)) → Inv t k (store Γ i v t k g)
  unfolding store
  store-i i v t k {g} p f = ite-i (storable Γ t i v) (then (store_ok i v t k p) (f (set t i v))) (record { inv = rf t k })

  on_go-i : {t : Table} {k : ℕ} (o : Out) {g : Table → ℕ → Out} → Inv t k o → ((u : Table) (j : ℕ) → Inv u j (g u j)) → Inv t k (on_go o g)
  unfolding on_go
  on_go-i (go t k) h f = then h.inv (f t k)
  on_go-i (left t k) h f = record { inv = h.inv }
  on_go-i (halt o t k) h f = record { inv = h.inv }

  on_pass-i : {t : Table} {k : ℕ} (o : Out) {g : Table → ℕ → Out} → Inv t k o → ((u : Table) (j : ℕ) → Inv u j (g u j)) → Inv t k (on_pass o g)
  unfolding on_pass
  on_pass-i (go t k) h f = then h.inv (f t k)
  on_pass-i (left t k) h f = record { inv = h.inv }
  on_pass-i (halt o t k) h f = record { inv = h.inv }

  module _ (b : Table → ℕ → Out) (hb : (t : Table) (k : ℕ) → Inv t k (b t k)) where
    loop_w-i : (c : Expr) (f : ℕ) (t : Table) (k : ℕ) → Inv t k (loop_w c b f t k)
    unfolding loop_w
    loop_w-i c zero t k = record { inv = rf t k }
    loop_w-i c (suc f) t k =
        tick-i t k (λ j. on_e-i (eval c t) t j (λ v. ite-i (is_zero v) (record { inv = rf t j }) (on_pass-i (b t j) (hb t j) (λ u i. loop_w-i c f u i))))

    loop_r-i : (c : Expr) (f : ℕ) (t : Table) (k : ℕ) → Inv t k (loop_r c b f t k)
    unfolding loop_r
    loop_r-i c zero t k = record { inv = rf t k }
    loop_r-i c (suc f) t k =
        tick-i t k (λ j. on_pass-i (b t j) (hb t j) (λ u i. on_e-i (eval c u) u i (λ v. ite-i (is_zero v) (loop_r-i c f u i) (record { inv = rf u i }))))

    loop_f-i : (v : ℕ) → P v → (s e : ℤ) (f : ℕ) (t : Table) (k : ℕ) → Inv t k (loop_f Γ v s e b f t k)
    unfolding loop_f
    loop_f-i v p s e zero t k = record { inv = rf t k }
    loop_f-i v p s e (suc f) t k =
        tick-i t k (λ j. on_pass-i (b t j) (hb t j) (λ u i. on_e-i (load_d Γ u v s) u i (λ x. ite-i (passes s (x +ℤ s) e) (record { inv = rf u i })
        (then (store_ok v (x +ℤ s) u i p) (loop_f-i v p s e f _ i)))))

  mutual
    unfolding exec

    pub exec-i : (s : Stmt) → StoresS P s → (t : Table) (k : ℕ) → Inv t k (exec Γ s t k)
    exec-i (assign i e) p t k = tick-i t k (λ j. on_e-i (eval e t) t j (λ v. store-i i v t j p (λ u. record { inv = rf u j })))
    exec-i (if b) p t k = tick-i t k (λ j. exec_b-i b p t j)
    exec-i (case e g) p t k = tick-i t k (λ j. on_e-i (eval e t) t j (λ v. exec_g-i g p v t j))
    exec-i (for v a e s l) p t k =
        tick-i t k (λ j. on_e-i (eval a t) t j (λ x. on_e-i (eval e t) t j (λ y. store-i v x t j p.0 (λ u. on_e-i (load_d Γ u v s) u j (λ z. ite-i (passes s z y) (record { inv = rf u j })
        (loop_f-i (λ w n. exec_l Γ l w n) (λ w n. exec_l-i l p.1 w n) v p.0 s y j u j))))))
    exec-i (while c l) p t k = loop_w-i (λ w n. exec_l Γ l w n) (λ w n. exec_l-i l p w n) c k t k
    exec-i (repeat l c) p t k = loop_r-i (λ w n. exec_l Γ l w n) (λ w n. exec_l-i l p w n) c k t k
    exec-i exit p t k = tick-i t k (λ j. record { inv = rf t j })

    pub exec_l-i : (l : List) → StoresL P l → (t : Table) (k : ℕ) → Inv t k (exec_l Γ l t k)
    exec_l-i nil p t k = record { inv = rf t k }
    exec_l-i (cons s l) p t k = on_go-i (exec Γ s t k) (exec-i s p.0 t k) (λ u j. exec_l-i l p.1 u j)

    pub exec_b-i : (b : Brs) → StoresB P b → (t : Table) (k : ℕ) → Inv t k (exec_b Γ b t k)
    exec_b-i none p t k = record { inv = rf t k }
    exec_b-i (els l) p t k = exec_l-i l p t k
    exec_b-i (elsif c l b) p t k = on_e-i (eval c t) t k (λ v. ite-i (is_zero v) (exec_b-i b p.1 t k) (exec_l-i l p.0 t k))

    pub exec_g-i : (g : Grps) → StoresG P g → (v : ℤ) (t : Table) (k : ℕ) → Inv t k (exec_g Γ g v t k)
    exec_g-i (other l) p v t k = exec_l-i l p t k
    exec_g-i (grp ls l g) p v t k = ite-i (in_labels ls v) (exec_l-i l p.0 t k) (exec_g-i g p.1 v t k)
