-- A well-typed text on a valid table never ends as ill: rule 25 is never met by accepted texts.
use mathlib.Core.List as L
use Rattle.std.specs.Prelude.{◌≡◌, refl, Bool, true, false, not, ◌&&◌ as and, ◌||◌ as or, ℤ, pos, negsuc, neg_ℤ, ◌+ℤ◌, ◌-ℤ◌, ◌*ℤ◌, ltb, length, get_or, set}
use Rattle.std.proofs.Common.{ap, ◌∙◌, arith, leb→le, le→leb, length-set, get_or-set_same, get_or-set_other}
use Prim.Native.Nat.{ℕ, zero, suc, ◌+◌, ◌<◌}
use Rattle.std.proofs.Math.IntN.{+ℤ_assoc, -ℤ-+ℤ_cancel}
use Rattle.std.specs.Int.Signed.{lt_z, le_z, quot_z, rem_z}
use Rattle.rules.specs.Numbers.{Ty, bool, dint, holds, of_bool, eq_z, is_zero, is_dint, between, low, high}
use Rattle.rules.specs.Core.{Un, Neg, Not, Bin, Mul, Div, Mod, Add, Sub, Lt, Gt, Le, Ge, Eq, Ne, And, Xor, Or, Expr, num, flag, var, un, bin, pls, par, Stmt, List, Brs, Grps, assign, if, case, for, while, repeat, exit, nil, cons, none, els, elsif, other, grp, result}
use Rattle.rules.specs.Meaning.{Table, Stop, spent, range, divide, binop, Ev, val, stop, load, load_d, storable, eval, bind_e, unop, fit, passes, Out, go, left, halt, tick, on_e, on_go, store, in_labels, on_pass, loop_w, loop_r, loop_f, exec, exec_l, exec_b, exec_g, logic}
use Rattle.theorems.specs.Passes.{le-diff, not_lt}
use Rattle.theorems.specs.Tests.{ltb_no, T_true, and_l, and_r, lt-ltb, ltb-t, ltb-f}

abbrev pub InTy : Bin → Ty → Type 0
InTy Mul s = s ≡ dint
InTy Div s = s ≡ dint
InTy Mod s = s ≡ dint
InTy Add s = s ≡ dint
InTy Sub s = s ≡ dint
InTy Lt s = s ≡ dint
InTy Gt s = s ≡ dint
InTy Le s = s ≡ dint
InTy Ge s = s ≡ dint
InTy Ne s = Unit {0}
InTy Eq s = Unit {0}
InTy Xor s = s ≡ bool
InTy Or s = s ≡ bool
InTy And s = s ≡ bool

abbrev pub UnTy : Un → Ty
UnTy Neg = dint
UnTy Not = bool

pub data Real : Stop → Type 0 where
  r_spent : Real spent
  r_range : Real range
  r_divide : Real divide

module _ (Γ : L.List Ty) where
  pub record Valid (t : Table) : Type 0 where
    pub long : length t ≡ length Γ
    pub each : (i : ℕ) → i < length Γ → holds (get_or Γ i dint) (get_or t i (pos 0)) ≡ true

  abbrev pub HasTy : Expr → Ty → Type 0
  HasTy (num z) s = (dint ≡ s) × (holds dint z ≡ true)
  HasTy (flag b) s = bool ≡ s
  HasTy (pls a) s = (dint ≡ s) × HasTy a dint
  HasTy (par a) s = HasTy a s
  HasTy (var i) s = (i < length Γ) × (get_or Γ i dint ≡ s)
  HasTy (un ι o a) s = (UnTy o ≡ s) × HasTy a (UnTy o)
  HasTy (bin ι o a b) s = (result o ≡ s) × ((r : Ty) × InTy o r × HasTy a r × HasTy b r)

data EvOk (s : Ty) : Ev → Type 0 where
  e_val : {v : ℤ} → holds s v ≡ true → EvOk s (val v)
  e_stop : {o : Stop} → Real o → EvOk s (stop o)

fit_ok : (τ : Ty) (z : ℤ) → EvOk τ (fit τ z)
unfolding fit
fit_ok τ z = by (holds τ z) refl
  where
    by : (d : Bool) → holds τ z ≡ d → EvOk τ (elim d [ true ↦ val z | false ↦ stop range ])
    by true e = e_val e
    by false e = e_stop r_range

of_bool_ok : (b : Bool) → holds bool (of_bool b) ≡ true
unfolding holds between low high of_bool
of_bool_ok true = refl
of_bool_ok false = refl

div_ok : (τ : Ty) (b z : ℤ) → EvOk τ (elim (is_zero b) [ true ↦ stop divide | false ↦ fit τ z ])
div_ok τ b z = by (is_zero b)
  where
    by : (d : Bool) → EvOk τ (elim d [ true ↦ stop divide | false ↦ fit τ z ])
    by true = e_stop r_divide
    by false = fit_ok τ z

unop_ok : (o : Un) (a : ℤ) → holds (UnTy o) a ≡ true → EvOk (UnTy o) (unop o a)
unfolding unop
unop_ok Neg a h = fit_ok dint (neg_ℤ a)
unop_ok Not a h = rw (h, unop) (e_val (of_bool_ok (is_zero a)))

logic_ok : (a b : ℤ) (r : Bool) → holds bool a ≡ true → holds bool b ≡ true → EvOk bool (logic a b r)
unfolding logic
logic_ok a b r p q = rw (p, q, logic) (e_val (of_bool_ok r))

binop_ok : (o : Bin) (s : Ty) (a b : ℤ) → InTy o s → holds s a ≡ true → holds s b ≡ true → EvOk (result o) (binop o a b)
unfolding binop result
binop_ok Mul s a b i p q = fit_ok dint (a *ℤ b)
binop_ok Div s a b i p q = div_ok dint b (quot_z a b)
binop_ok Mod s a b i p q = div_ok dint b (rem_z a b)
binop_ok Add s a b i p q = fit_ok dint (a +ℤ b)
binop_ok Sub s a b i p q = fit_ok dint (a -ℤ b)
binop_ok Lt s a b i p q = e_val (of_bool_ok (lt_z a b))
binop_ok Gt s a b i p q = e_val (of_bool_ok (lt_z b a))
binop_ok Le s a b i p q = e_val (of_bool_ok (le_z a b))
binop_ok Ge s a b i p q = e_val (of_bool_ok (le_z b a))
binop_ok Ne s a b i p q = e_val (of_bool_ok (not (eq_z a b)))
binop_ok Eq s a b i p q = e_val (of_bool_ok (eq_z a b))
binop_ok And s a b i p q = logic_ok a b (not (or (is_zero a) (is_zero b))) (rw i at p) (rw i at q)
binop_ok Xor s a b i p q = logic_ok a b (not (eq_z a b)) (rw i at p) (rw i at q)
binop_ok Or s a b i p q = logic_ok a b (not (and (is_zero a) (is_zero b))) (rw i at p) (rw i at q)

bind_e_ok : {s r : Ty} {v : Ev} {g : ℤ → Ev} → EvOk s v → ((x : ℤ) → holds s x ≡ true → EvOk r (g x)) → EvOk r (bind_e v g)
unfolding bind_e
bind_e_ok (e_val {v = x} h) f = f x h
bind_e_ok (e_stop r) f = e_stop r

-- the order of ℤ, as far as a FOR's step needs it
le_no_lt : (a b : ℤ) → le_z a b ≡ true → lt_z b a ≡ false
le_no_lt (pos a) (pos b) e = ltb_no b a (leb→le a b (rw e tt))
le_no_lt (pos a) (negsuc b) e = cc
le_no_lt (negsuc a) (pos b) e = refl
le_no_lt (negsuc a) (negsuc b) e = ltb_no a b (leb→le b a (rw e tt))

no_lt_le : (a b : ℤ) → lt_z b a ≡ false → le_z a b ≡ true
no_lt_le (pos a) (pos b) e = T_true _ (le→leb a b (ltb-f b a e))
no_lt_le (pos a) (negsuc b) e = cc
no_lt_le (negsuc a) (pos b) e = refl
no_lt_le (negsuc a) (negsuc b) e = T_true _ (le→leb b a (ltb-f a b e))

le-plus : (a : ℤ) (m : ℕ) → le_z a (a +ℤ pos m) ≡ true
le-plus a m = no_lt_le a (a +ℤ pos m) (not_lt a m)

le_z_trans : (a b d : ℤ) → le_z a b ≡ true → le_z b d ≡ true → le_z a d ≡ true
le_z_trans a b d p q =
    let x = le-diff a b (le_no_lt a b p) in
    let y = le-diff b d (le_no_lt b d q) in
    joined x.0 y.0 x.1 y.1
  where
    joined : (m n : ℕ) → b ≡ a +ℤ pos m → d ≡ b +ℤ pos n → le_z a d ≡ true
    joined m n e f =
        let g : d ≡ a +ℤ pos (m + n) = f ∙ ap (λ j. j +ℤ pos n) e ∙ +ℤ_assoc a (pos m) (pos n) in
        rw g (le-plus a (m + n))

range_mk : (τ : Ty) (z : ℤ) → le_z (low τ) z ≡ true → le_z z (high τ) ≡ true → holds τ z ≡ true
unfolding holds between
range_mk τ z a b = rw (a, b)

range_low : (τ : Ty) (z : ℤ) → holds τ z ≡ true → le_z (low τ) z ≡ true
unfolding holds between
range_low τ z e = and_l (le_z (low τ) z) (le_z z (high τ)) e

range_high : (τ : Ty) (z : ℤ) → holds τ z ≡ true → le_z z (high τ) ≡ true
unfolding holds between
range_high τ z e = and_r (le_z (low τ) z) (le_z z (high τ)) e

le-minus : (x : ℤ) (r : ℕ) → le_z (x +ℤ negsuc r) x ≡ true
le-minus x r = let e = -ℤ-+ℤ_cancel x (pos (suc r)) in rw e at (le-plus (x +ℤ negsuc r) (suc r))

-- a step that does not pass the final value stays in range
stepped : (τ : Ty) (s x y : ℤ) → holds τ x ≡ true → holds τ y ≡ true → passes s (x +ℤ s) y ≡ false → holds τ (x +ℤ s) ≡ true
unfolding passes
stepped τ (pos n) x y a b e = range_mk τ (x +ℤ pos n) (le_z_trans (low τ) x (x +ℤ pos n) (range_low τ x a) (le-plus x n))
    (le_z_trans (x +ℤ pos n) y (high τ) (no_lt_le (x +ℤ pos n) y e) (range_high τ y b))
stepped τ (negsuc r) x y a b e = range_mk τ (x +ℤ negsuc r) (le_z_trans (low τ) y (x +ℤ negsuc r) (range_low τ y b) (no_lt_le y (x +ℤ negsuc r) e))
    (le_z_trans (x +ℤ negsuc r) x (high τ) (le-minus x r) (range_high τ x a))

module _ (Γ : L.List Ty) where
  load_ok : (t : Table) (i : ℕ) → Valid Γ t → i < length Γ → EvOk (get_or Γ i dint) (load t i)
  unfolding load
  load_ok t i v b = let l = v.long in rw (lt-ltb i (length t) (omega arith), load) (e_val (v.each i b))

  eval_ok : (e : Expr) (s : Ty) (t : Table) → HasTy Γ e s → Valid Γ t → EvOk s (eval e t)
  unfolding eval
  eval_ok (num z) s t h v = e_val (rw h.0 at h.1)
  eval_ok (flag b) s t h v = e_val (rw h at (of_bool_ok b))
  eval_ok (pls a) s t h v = rw h.0 at (eval_ok a dint t h.1 v)
  eval_ok (par a) s t h v = eval_ok a s t h v
  eval_ok (var i) s t h v = rw h.1 at (load_ok t i v h.0)
  eval_ok (un ι o a) s t h v = rw h.0 at (bind_e_ok (eval_ok a (UnTy o) t h.1 v) (λ x p. unop_ok o x p))
  eval_ok (bin ι o a b) s t h v =
      let k = h.1 in
      rw h.0 at (bind_e_ok (eval_ok a k.0 t k.2 v) (λ x p. bind_e_ok (eval_ok b k.0 t k.3 v) (λ y q. binop_ok o k.0 x y k.1 p q)))

  abbrev mutual
    pub TyS : Stmt → Type 0
    TyS (assign i e) = (i < length Γ) × HasTy Γ e (get_or Γ i dint)
    TyS (if b) = TyB b
    TyS (case e g) = HasTy Γ e dint × TyG g
    TyS (for v a e s l) = (v < length Γ) × (get_or Γ v dint ≡ dint) × (is_zero s ≡ false) × HasTy Γ a dint × HasTy Γ e dint × TyL l
    TyS (while c l) = HasTy Γ c bool × TyL l
    TyS (repeat l c) = TyL l × HasTy Γ c bool
    TyS exit = Unit {0}

    pub TyL : List → Type 0
    TyL nil = Unit {0}
    TyL (cons s l) = TyS s × TyL l

    pub TyB : Brs → Type 0
    TyB none = Unit {0}
    TyB (els l) = TyL l
    TyB (elsif c l b) = HasTy Γ c bool × TyL l × TyB b

    pub TyG : Grps → Type 0
    TyG (other l) = TyL l
    TyG (grp ls l g) = TyL l × TyG g

  pub data Snd : Out → Type 0 where
    s_go : {t : Table} {k : ℕ} → Valid Γ t → Snd (go t k)
    s_left : {t : Table} {k : ℕ} → Valid Γ t → Snd (left t k)
    s_halt : {o : Stop} {t : Table} {k : ℕ} → Real o → Valid Γ t → Snd (halt o t k)

  ite-s : (b : Bool) {x y : Out} → (b ≡ true → Snd x) → (b ≡ false → Snd y) → Snd (elim b [ true ↦ x | false ↦ y ])
  ite-s true f g = f refl
  ite-s false f g = g refl

  tick-s : (t : Table) (k : ℕ) {g : ℕ → Out} → Valid Γ t → ((j : ℕ) → Snd (g j)) → Snd (tick t k g)
  unfolding tick
  tick-s t zero v f = s_halt r_spent v
  tick-s t (suc k) v f = f k

  on_e-s : {s : Ty} {e : Ev} (t : Table) (k : ℕ) {g : ℤ → Out} → EvOk s e → Valid Γ t → ((x : ℤ) → holds s x ≡ true → Snd (g x)) → Snd (on_e e t k g)
  unfolding on_e
  on_e-s t k (e_val {v = x} h) v f = f x h
  on_e-s t k (e_stop r) v f = s_halt r v

  set-valid : (i : ℕ) (z : ℤ) (t : Table) → Valid Γ t → i < length Γ → holds (get_or Γ i dint) z ≡ true → Valid Γ (set t i z)
  set-valid i z t v b h = record { long = length-set t i z ∙ v.long; each = λ j p. by j p (ltb j i) refl (ltb i j) refl }
    where
      by : (j : ℕ) → j < length Γ → (d : Bool) → ltb j i ≡ d → (f : Bool) → ltb i j ≡ f → holds (get_or Γ j dint) (get_or (set t i z) j (pos 0)) ≡ true
      by j p true d f e = let q = ltb-t j i d in rw (get_or-set_other t i j z (pos 0) (omega arith)) (v.each j p)
      by j p false d true e = let q = ltb-t i j e in rw (get_or-set_other t i j z (pos 0) (omega arith)) (v.each j p)
      by j p false d false e =
          let q : j ≡ i = omega (arith, ltb-f j i d, ltb-f i j e) in
          let l = v.long in
          rw (q, get_or-set_same t i z (pos 0) (omega arith)) h

  store-s : (i : ℕ) (z : ℤ) (t : Table) (k : ℕ) {g : Table → Out} → Valid Γ t → i < length Γ → holds (get_or Γ i dint) z ≡ true → ((u : Table) → Valid Γ u → Snd (g u)) → Snd (store Γ i z t k g)
  unfolding store storable
  store-s i z t k v b h f = let l = v.long in rw (lt-ltb i (length t) (omega arith), h, store) (f (set t i z) (set-valid i z t v b h))

  load_d_ok : (t : Table) (x : ℕ) (s : ℤ) → Valid Γ t → x < length Γ → get_or Γ x dint ≡ dint → is_zero s ≡ false → EvOk dint (load_d Γ t x s)
  unfolding load_d is_dint
  load_d_ok t x s v h d z = rw (d, z, load_d) (rw d at (load_ok t x v h))

  on_go-s : (o : Out) {g : Table → ℕ → Out} → Snd o → ((u : Table) (j : ℕ) → Valid Γ u → Snd (g u j)) → Snd (on_go o g)
  unfolding on_go
  on_go-s (go t k) (s_go v) f = f t k v
  on_go-s (left t k) (s_left v) f = s_left v
  on_go-s (halt o t k) (s_halt r v) f = s_halt r v

  on_pass-s : (o : Out) {g : Table → ℕ → Out} → Snd o → ((u : Table) (j : ℕ) → Valid Γ u → Snd (g u j)) → Snd (on_pass o g)
  unfolding on_pass
  on_pass-s (go t k) (s_go v) f = f t k v
  on_pass-s (left t k) (s_left v) f = s_go v
  on_pass-s (halt o t k) (s_halt r v) f = s_halt r v

  module _ (b : Table → ℕ → Out) (hb : (t : Table) (k : ℕ) → Valid Γ t → Snd (b t k)) where
    -- at the end of the fuel: SPENT
    loop_w-s : (c : Expr) → HasTy Γ c bool → (f : ℕ) (t : Table) (k : ℕ) → Valid Γ t → Snd (loop_w c b f t k)
    unfolding loop_w
    loop_w-s c h zero t k v = s_halt r_spent v
    loop_w-s c h (suc f) t k v =
        tick-s t k v (λ j. on_e-s t j (eval_ok c bool t h v) v (λ x p. ite-s (is_zero x) (λ e. s_go v) (λ e. on_pass-s (b t j) (hb t j v) (λ u i w. loop_w-s c h f u i w))))

    loop_r-s : (c : Expr) → HasTy Γ c bool → (f : ℕ) (t : Table) (k : ℕ) → Valid Γ t → Snd (loop_r c b f t k)
    unfolding loop_r
    loop_r-s c h zero t k v = s_halt r_spent v
    loop_r-s c h (suc f) t k v =
        tick-s t k v (λ j. on_pass-s (b t j) (hb t j v) (λ u i w. on_e-s u i (eval_ok c bool u h w) w (λ x p. ite-s (is_zero x) (λ e. loop_r-s c h f u i w) (λ e. s_go w))))

    loop_f-s : (x : ℕ) (s y : ℤ) → x < length Γ → get_or Γ x dint ≡ dint → is_zero s ≡ false → holds dint y ≡ true → (f : ℕ) (t : Table) (k : ℕ) → Valid Γ t → Snd (loop_f Γ x s y b f t k)
    unfolding loop_f
    loop_f-s x s y h d nz q zero t k v = s_halt r_spent v
    loop_f-s x s y h d nz q (suc f) t k v =
        tick-s t k v (λ j. on_pass-s (b t j) (hb t j v) (λ u i w. on_e-s u i (load_d_ok u x s w h d nz) w (λ z p. ite-s (passes s (z +ℤ s) y) (λ e. s_go w) (λ e.
        loop_f-s x s y h d nz q f _ i (set-valid x (z +ℤ s) u w h (rw d (stepped dint s z y p q e)))))))

  mutual
    unfolding exec

    pub snd_s : (s : Stmt) → TyS s → (t : Table) (k : ℕ) → Valid Γ t → Snd (exec Γ s t k)
    snd_s (assign i e) h t k v = tick-s t k v (λ j. on_e-s t j (eval_ok e _ t h.1 v) v (λ x p. store-s i x t j v h.0 p (λ u w. s_go w)))
    snd_s (if b) h t k v = tick-s t k v (λ j. snd_b b h t j v)
    snd_s (case e g) h t k v = tick-s t k v (λ j. on_e-s t j (eval_ok e dint t h.0 v) v (λ x p. snd_g g h.1 x t j v))
    snd_s (for x a e s l) h t k v =
        tick-s t k v (λ j. on_e-s t j (eval_ok a dint t h.3 v) v (λ z p. on_e-s t j (eval_ok e dint t h.4 v) v (λ y q.
        store-s x z t j v h.0 (rw h.1 p) (λ u w. on_e-s u j (load_d_ok u x s w h.0 h.1 h.2) w (λ z' p'. ite-s (passes s z' y) (λ e. s_go w) (λ e. loop_f-s (λ w n. exec_l Γ l w n) (λ w n g. snd_l l h.5 w n g) x s y h.0 h.1 h.2 q j u j w))))))
    snd_s (while c l) h t k v = loop_w-s (λ w n. exec_l Γ l w n) (λ w n g. snd_l l h.1 w n g) c h.0 k t k v
    snd_s (repeat l c) h t k v = loop_r-s (λ w n. exec_l Γ l w n) (λ w n g. snd_l l h.0 w n g) c h.1 k t k v
    snd_s exit h t k v = tick-s t k v (λ j. s_left v)

    pub snd_l : (l : List) → TyL l → (t : Table) (k : ℕ) → Valid Γ t → Snd (exec_l Γ l t k)
    snd_l nil h t k v = s_go v
    snd_l (cons s l) h t k v = on_go-s (exec Γ s t k) (snd_s s h.0 t k v) (λ u j w. snd_l l h.1 u j w)

    pub snd_b : (b : Brs) → TyB b → (t : Table) (k : ℕ) → Valid Γ t → Snd (exec_b Γ b t k)
    snd_b none h t k v = s_go v
    snd_b (els l) h t k v = snd_l l h t k v
    snd_b (elsif c l b) h t k v = on_e-s t k (eval_ok c bool t h.0 v) v (λ x p. ite-s (is_zero x) (λ e. snd_b b h.2 t k v) (λ e. snd_l l h.1 t k v))

    pub snd_g : (g : Grps) → TyG g → (x : ℤ) (t : Table) (k : ℕ) → Valid Γ t → Snd (exec_g Γ g x t k)
    snd_g (other l) h x t k v = snd_l l h t k v
    snd_g (grp ls l g) h x t k v = ite-s (in_labels ls x) (λ e. snd_l l h.0 t k v) (λ e. snd_g g h.1 x t k v)
