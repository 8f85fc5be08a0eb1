-- A loop's meaning does not depend on its fuel: the ticks left are enough, and more of it changes nothing.
use Rattle.std.specs.Prelude.{◌≡◌, Bool, true, false, ℤ, ◌+ℤ◌, set}
use Rattle.std.proofs.Math.Path.{refl}
use mathlib.Core.List as L
use Prim.Native.Nat.{ℕ, zero, suc, ◌≤◌}
use Rattle.std.proofs.Common.{arith}
use Rattle.rules.specs.Numbers.{Ty, is_zero}
use Rattle.rules.specs.Core.{Expr}
use Rattle.rules.specs.Meaning.{Table, Ev, val, stop, eval, load_d, passes, Out, go, left, halt, tick, on_e, on_pass, loop_w, loop_r, loop_f}
use Rattle.theorems.specs.TicksFall.{AtMost}

either : (d : Bool) {x y x' y' : Out} → x ≡ x' → y ≡ y' → ◌≡◌ {A = Out} (elim d [ true ↦ x | false ↦ y ]) (elim d [ true ↦ x' | false ↦ y' ])
either true p q = p
either false p q = q

on_e_same : (e : Ev) (t : Table) (k : ℕ) (F G : ℤ → Out) → ((v : ℤ) → F v ≡ G v) → on_e e t k F ≡ on_e e t k G
unfolding on_e
on_e_same (val v) t k F G h = h v
on_e_same (stop o) t k F G h = refl

on_pass_same : (o : Out) (n : ℕ) (F G : Table → ℕ → Out) → AtMost n o → ((t : Table) (k : ℕ) → k ≤ n → F t k ≡ G t k) → on_pass o F ≡ on_pass o G
unfolding on_pass
on_pass_same (go t k) n F G a h = h t k a.le
on_pass_same (left t k) n F G a h = refl
on_pass_same (halt o t k) n F G a h = refl

module _ (b : Table → ℕ → Out) (hb : (t : Table) (k : ℕ) → AtMost k (b t k)) where
  pub while_fuel : (c : Expr) (f g : ℕ) (t : Table) (k : ℕ) → k ≤ f → k ≤ g → loop_w c b f t k ≡ loop_w c b g t k
  unfolding loop_w tick
  while_fuel c zero zero t k p q = refl
  while_fuel c zero (suc g) t zero p q = refl
  while_fuel c zero (suc g) t (suc k) p q = absurd (omega arith)
  while_fuel c (suc f) zero t zero p q = refl
  while_fuel c (suc f) zero t (suc k) p q = absurd (omega arith)
  while_fuel c (suc f) (suc g) t zero p q = refl
  while_fuel c (suc f) (suc g) t (suc k) p q =
      on_e_same (eval c t) t k _ _ (λ v. either (is_zero v) refl (on_pass_same (b t k) k _ _ (hb t k) (λ u j h. while_fuel c f g u j (omega arith) (omega arith))))

  pub repeat-fuel : (c : Expr) (f g : ℕ) (t : Table) (k : ℕ) → k ≤ f → k ≤ g → loop_r c b f t k ≡ loop_r c b g t k
  unfolding loop_r tick
  repeat-fuel c zero zero t k p q = refl
  repeat-fuel c zero (suc g) t zero p q = refl
  repeat-fuel c zero (suc g) t (suc k) p q = absurd (omega arith)
  repeat-fuel c (suc f) zero t zero p q = refl
  repeat-fuel c (suc f) zero t (suc k) p q = absurd (omega arith)
  repeat-fuel c (suc f) (suc g) t zero p q = refl
  repeat-fuel c (suc f) (suc g) t (suc k) p q =
      on_pass_same (b t k) k _ _ (hb t k) (λ u j h. on_e_same (eval c u) u j _ _ (λ v. either (is_zero v) (repeat-fuel c f g u j (omega arith) (omega arith)) refl))

  pub for_fuel : (Γ : L.List Ty) (v : ℕ) (s e : ℤ) (f g : ℕ) (t : Table) (k : ℕ) → k ≤ f → k ≤ g → loop_f Γ v s e b f t k ≡ loop_f Γ v s e b g t k
  unfolding loop_f tick
  for_fuel Γ v s e zero zero t k p q = refl
  for_fuel Γ v s e zero (suc g) t zero p q = refl
  for_fuel Γ v s e zero (suc g) t (suc k) p q = absurd (omega arith)
  for_fuel Γ v s e (suc f) zero t zero p q = refl
  for_fuel Γ v s e (suc f) zero t (suc k) p q = absurd (omega arith)
  for_fuel Γ v s e (suc f) (suc g) t zero p q = refl
  for_fuel Γ v s e (suc f) (suc g) t (suc k) p q =
      on_pass_same (b t k) k _ _ (hb t k) (λ u j h. on_e_same (load_d Γ u v s) u j _ _ (λ x. either (passes s (x +ℤ s) e) refl
      (for_fuel Γ v s e f g (set u v (x +ℤ s)) j (omega arith) (omega arith))))
