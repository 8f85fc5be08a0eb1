-- Ticks only fall.
use mathlib.Core.List as L
use Rattle.std.specs.Prelude.{Bool, true, false, ℤ, ◌+ℤ◌}
use Prim.Native.Nat.{ℕ, zero, suc, ◌≤◌}
use native.Mathlib.Omega.{arith}
use Rattle.rules.specs.Numbers.{Ty, is_zero}
use Rattle.rules.specs.Core.{Expr, Stmt, List, Brs, Grps, assign, if, case, for, while, repeat, exit, nil, cons, none, els, elsif, other, grp}
use Rattle.rules.specs.Meaning.{Table, Ev, val, stop, load_d, storable, eval, passes, Out, go, left, halt, tick, on_e, on_go, store, in_labels, on_pass, loop_w, loop_r, loop_f, exec, exec_l, exec_b, exec_g}

abbrev pub k_of : Out → ℕ
k_of (go t k) = k
k_of (left t k) = k
k_of (halt o t k) = k

pub record AtMost (n : ℕ) (o : Out) : Type 0 where
  pub le : k_of o ≤ n

up : {n m : ℕ} {o : Out} → n ≤ m → AtMost n o → AtMost m o
up h l = let q = l.le in record { le = omega arith }

ite-le : {n : ℕ} (b : Bool) {x y : Out} → AtMost n x → AtMost n y → AtMost n (elim b [ true ↦ x | false ↦ y ])
ite-le true f g = f
ite-le false f g = g

tick-le : (t : Table) (k : ℕ) {g : ℕ → Out} → ((j : ℕ) → AtMost j (g j)) → AtMost k (tick t k g)
unfolding tick
tick-le t zero f = record { le = omega arith }
tick-le t (suc k) f = up (omega arith) (f k)

on_e-le : (v : Ev) (t : Table) (k : ℕ) {g : ℤ → Out} → ((x : ℤ) → AtMost k (g x)) → AtMost k (on_e v t k g)
unfolding on_e
on_e-le (val x) t k f = f x
on_e-le (stop o) t k f = record { le = omega arith }

store-le : (Γ : L.List Ty) (i : ℕ) (v : ℤ) (t : Table) (k : ℕ) {g : Table → Out} → ((u : Table) → AtMost k (g u)) → AtMost k (store Γ i v t k g)
unfolding store
store-le Γ i v t k f = ite-le (storable Γ t i v) (f _) (record { le = omega arith })

on_go-le : {n : ℕ} (o : Out) {g : Table → ℕ → Out} → AtMost n o → ((u : Table) (j : ℕ) → AtMost j (g u j)) → AtMost n (on_go o g)
unfolding on_go
on_go-le (go t k) h f = up h.le (f t k)
on_go-le (left t k) h f = record { le = h.le }
on_go-le (halt o t k) h f = record { le = h.le }

on_pass-le : {n : ℕ} (o : Out) {g : Table → ℕ → Out} → AtMost n o → ((u : Table) (j : ℕ) → AtMost j (g u j)) → AtMost n (on_pass o g)
unfolding on_pass
on_pass-le (go t k) h f = up h.le (f t k)
on_pass-le (left t k) h f = record { le = h.le }
on_pass-le (halt o t k) h f = record { le = h.le }

module _ (b : Table → ℕ → Out) (hb : (t : Table) (k : ℕ) → AtMost k (b t k)) where
  loop_w-le : (c : Expr) (f : ℕ) (t : Table) (k : ℕ) → AtMost k (loop_w c b f t k)
  unfolding loop_w
  loop_w-le c zero t k = record { le = omega arith }
  loop_w-le c (suc f) t k =
      tick-le t k (λ j. on_e-le (eval c t) t j (λ v. ite-le (is_zero v) (record { le = omega arith }) (on_pass-le (b t j) (hb t j) (λ u i. loop_w-le c f u i))))

  loop_r-le : (c : Expr) (f : ℕ) (t : Table) (k : ℕ) → AtMost k (loop_r c b f t k)
  unfolding loop_r
  loop_r-le c zero t k = record { le = omega arith }
  loop_r-le c (suc f) t k =
      tick-le t k (λ j. on_pass-le (b t j) (hb t j) (λ u i. on_e-le (eval c u) u i (λ v. ite-le (is_zero v) (loop_r-le c f u i) (record { le = omega arith }))))

  loop_f-le : (Γ : L.List Ty) (v : ℕ) (s e : ℤ) (f : ℕ) (t : Table) (k : ℕ) → AtMost k (loop_f Γ v s e b f t k)
  unfolding loop_f
  loop_f-le Γ v s e zero t k = record { le = omega arith }
  loop_f-le Γ v s e (suc f) t k =
      tick-le t k (λ j. on_pass-le (b t j) (hb t j) (λ u i. on_e-le (load_d Γ u v s) u i (λ x. ite-le (passes s (x +ℤ s) e) (record { le = omega arith })
      (loop_f-le Γ v s e f _ i))))

module _ (Γ : L.List Ty) where
  mutual
    unfolding exec

    pub exec-le : (s : Stmt) (t : Table) (k : ℕ) → AtMost k (exec Γ s t k)
    exec-le (assign i e) t k = tick-le t k (λ j. on_e-le (eval e t) t j (λ v. store-le Γ i v t j (λ u. record { le = omega arith })))
    exec-le (if b) t k = tick-le t k (λ j. exec_b-le b t j)
    exec-le (case e g) t k = tick-le t k (λ j. on_e-le (eval e t) t j (λ v. exec_g-le g v t j))
    exec-le (for v a e s l) t k =
        tick-le t k (λ j. on_e-le (eval a t) t j (λ x. on_e-le (eval e t) t j (λ y. store-le Γ v x t j (λ u. on_e-le (load_d Γ u v s) u j (λ z. ite-le (passes s z y) (record { le = omega arith })
        (loop_f-le (λ w n. exec_l Γ l w n) (λ w n. exec_l-le l w n) Γ v s y j u j))))))
    exec-le (while c l) t k = loop_w-le (λ w n. exec_l Γ l w n) (λ w n. exec_l-le l w n) c k t k
    exec-le (repeat l c) t k = loop_r-le (λ w n. exec_l Γ l w n) (λ w n. exec_l-le l w n) c k t k
    exec-le exit t k = tick-le t k (λ j. record { le = omega arith })

    pub exec_l-le : (l : List) (t : Table) (k : ℕ) → AtMost k (exec_l Γ l t k)
    exec_l-le nil t k = record { le = omega arith }
    exec_l-le (cons s l) t k = on_go-le (exec Γ s t k) (exec-le s t k) (λ u j. exec_l-le l u j)

    pub exec_b-le : (b : Brs) (t : Table) (k : ℕ) → AtMost k (exec_b Γ b t k)
    exec_b-le none t k = record { le = omega arith }
    exec_b-le (els l) t k = exec_l-le l t k
    exec_b-le (elsif c l b) t k = on_e-le (eval c t) t k (λ v. ite-le (is_zero v) (exec_b-le b t k) (exec_l-le l t k))

    pub exec_g-le : (g : Grps) (v : ℤ) (t : Table) (k : ℕ) → AtMost k (exec_g Γ g v t k)
    exec_g-le (other l) v t k = exec_l-le l t k
    exec_g-le (grp ls l g) v t k = ite-le (in_labels ls v) (exec_l-le l t k) (exec_g-le g v t k)
