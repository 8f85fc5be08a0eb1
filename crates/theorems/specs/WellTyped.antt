-- What the walk accepts is well typed (a first part of: what the compiler accepts is what the theorems assume).
use mathlib.Core.List as L
use Rattle.std.proofs.Math.Path.{◌≡◌, refl, sym, ap, subst}
use Rattle.std.proofs.Common.{◌∙◌}
use Rattle.std.specs.Prelude.{Bool, true, false, ◌&&◌, [], ◌∷◌, ℕ, zero, suc, ◌+◌, ◌<◌, pos, leb, get_or}
use Rattle.std.proofs.Math.Option.{Option, none, some}
use native.Mathlib.Omega.{arith}
use Rattle.std.proofs.Math.ListN.{length}
use Rattle.rules.specs.Numbers.{Ty, bool, dint, holds, same_ty, between, low, high}
use Rattle.rules.specs.Core.{Bin, Mul, Div, Mod, Add, Sub, Lt, Gt, Le, Ge, Eq, Ne, And, Xor, Or, Expr}
use Rattle.rules.specs.Base.{Res, ok, refuse, ◌>>=◌, need, same}
use Rattle.rules.specs.Syntax.{Name, Sign, minus, plus, inverse, Exp, named, whole, truth, paren, unary, binary}
use Rattle.rules.specs.Walk.{Slot, find, known, known_at, Typed, typed, takes, sign_ty, sign_core, expression, largest, Var, nameless}
use Rattle.rules.specs.Core.{types}
use Rattle.theorems.specs.Typing.{HasTy, InTy}
use Rattle.theorems.specs.Tests.{and_l, and_r}

-- an answer of two steps has both
pub inv : {A B : Type 0} (m : Res A) (f : A → Res B) {b : B} → ◌>>=◌ m f ≡ ok b → (a : A) × (m ≡ ok a) × (f a ≡ ok b)
unfolding ◌>>=◌
inv (ok a) f e = (a, refl, e)
inv (refuse n p) f e = let z : ◌≡◌ {A = ℕ} 0 1 = cc in absurd (omega arith)

pub ok_inj : {A : Type 0} {a b : A} → ok a ≡ ok b → a ≡ b
ok_inj e = cc

pub needed : (t : Bool) (n p : ℕ) (u : Unit {0}) → need t n p ≡ ok u → t ≡ true
unfolding need
needed true n p u e = refl
needed false n p u e = let z : ◌≡◌ {A = ℕ} 0 1 = cc in absurd (omega arith)

pub same-ty : (s t : Ty) → same_ty s t ≡ true → s ≡ t
unfolding same_ty
same-ty bool bool e = refl
same-ty bool dint e = let z : ◌≡◌ {A = ℕ} 0 1 = cc in absurd (omega arith)
same-ty dint bool e = let z : ◌≡◌ {A = ℕ} 0 1 = cc in absurd (omega arith)
same-ty dint dint e = refl

-- a name that is found has its slot among the variables
record At (vs : L.List Var) (i : ℕ) (s : Slot) : Type 0 where
  from : i < suc s.slot
  inside : s.slot < i + length (types (nameless vs))
  typed : (j : ℕ) → s.slot ≡ i + j → get_or (types (nameless vs)) j dint ≡ s.type

found : (l : L.List ℕ) (i : ℕ) (vs : L.List Var) (s : Slot) → find l i vs ≡ some s → At vs i s
unfolding find types nameless
found l i [] s e = let z : ◌≡◌ {A = ℕ} 0 1 = cc in absurd (omega arith)
found l i (v ∷ vs) s e = by (λ h. found l (suc i) vs s h) (same l v.letters) refl
  where
    here : some (record { slot = i; type = v.type }) ≡ some s → At (v ∷ vs) i s
    here q =
        let a : s.slot ≡ i = cc in
        let b : s.type ≡ v.type = cc in
        record { from = omega arith; inside = omega arith; typed = λ j h. first j h b }
      where
        first : (j : ℕ) → s.slot ≡ i + j → s.type ≡ v.type → get_or (types (nameless (v ∷ vs))) j dint ≡ s.type
        first zero h b = sym b
        first (suc j) h b = let a : s.slot ≡ i = cc in absurd (omega arith)

    there : At vs (suc i) s → At (v ∷ vs) i s
    there r = let f = r.from in let n = r.inside in record { from = omega arith; inside = omega arith; typed = later }
      where
        later : (j : ℕ) → s.slot ≡ i + j → get_or (types (nameless (v ∷ vs))) j dint ≡ s.type
        later zero h = let f = r.from in absurd (omega arith)
        later (suc j) h = r.typed j (omega arith)

    by : (find l (suc i) vs ≡ some s → At vs (suc i) s) → (d : Bool) → same l v.letters ≡ d → At (v ∷ vs) i s
    by again true w = here (simp w at e)
    by again false w = there (again (simp w at e))

module _ (vs : L.List Var) where
  abbrev pub Good : Typed → Type 0
  Good x = HasTy (types (nameless vs)) x.core x.type

  pub known_in : (v : Name) (s : Slot) → known vs v ≡ ok s → (s.slot < length (types (nameless vs))) × (get_or (types (nameless vs)) s.slot dint ≡ s.type)
  unfolding known known_at
  known_in v s e = by (find v.letters 0 vs) refl e
    where
      by : (o : Option Slot) → find v.letters 0 vs ≡ o → known_at v.place o ≡ ok s → (s.slot < length (types (nameless vs))) × (get_or (types (nameless vs)) s.slot dint ≡ s.type)
      by none w q = let z : ◌≡◌ {A = ℕ} 0 1 = cc in absurd (omega arith)
      by (some r) w q =
          let h : r ≡ s = ok_inj q in
          let a = found v.letters 0 vs s (w ∙ ap some h) in
          let n = a.inside in
          (omega arith, a.typed s.slot (omega arith))

  -- the operators take what they are given
  takes_in : (o : Bin) (t : Ty) → t ≡ takes o t → InTy o t
  unfolding takes
  takes_in Mul t e = e
  takes_in Div t e = e
  takes_in Mod t e = e
  takes_in Add t e = e
  takes_in Sub t e = e
  takes_in Lt t e = e
  takes_in Gt t e = e
  takes_in Le t e = e
  takes_in Ge t e = e
  takes_in Eq t e = tt
  takes_in Ne t e = tt
  takes_in And t e = e
  takes_in Xor t e = e
  takes_in Or t e = e

  sign_in_lem : (p : ℕ) (s : Sign) (c : Expr) → HasTy (types (nameless vs)) c (sign_ty s) → HasTy (types (nameless vs)) (sign_core p s c) (sign_ty s)
  unfolding sign_ty sign_core
  sign_in_lem p minus c h = (refl, h)
  sign_in_lem p plus c h = (refl, h)
  sign_in_lem p inverse c h = (refl, h)

  in_range : (v : ℕ) → leb v (largest false) ≡ true → holds dint (pos v) ≡ true
  unfolding holds between low high largest
  in_range v e = e

  -- what the walk gives for an expression has the type that it says
  pub well : (e : Exp) (x : Typed) → expression vs e ≡ ok x → Good x
  unfolding expression typed
  well (named v) x e =
      let a = inv (known vs v) _ e in
      let k = known_in v a.0 a.1 in
      subst (λ y. Good y) (ok_inj a.2) (k.0, k.1)
  well (whole p v) x e =
      let a = inv (need (leb v (largest false)) 4 p) _ e in
      subst (λ y. Good y) (ok_inj a.2) (refl, in_range v (needed _ _ _ _ a.1))
  well (truth p b) x e = subst (λ y. Good y) (ok_inj e) refl
  well (paren p c) x e =
      let a = inv (expression vs c) _ e in
      subst (λ y. Good y) (ok_inj a.2) (well c a.0 a.1)
  well (unary p s c) x e =
      let a = inv (expression vs c) _ e in
      let b = inv (need (same_ty a.0.type (sign_ty s)) 8 p) _ a.2 in
      let q = same-ty a.0.type (sign_ty s) (needed _ _ _ _ b.1) in
      subst (λ y. Good y) (ok_inj b.2) (sign_in_lem p s a.0.core (rw q at (well c a.0 a.1)))
  well (binary p o c d) x e =
      let a = inv (expression vs c) _ e in
      let b = inv (expression vs d) _ a.2 in
      let t = takes o a.0.type in
      let l = same_ty a.0.type t in
      let r = same_ty b.0.type t in
      let g = inv (need (l && r) 8 p) _ b.2 in
      let h = needed (l && r) 8 p g.0 g.1 in
      let q = same-ty a.0.type t (and_l l r h) in
      let u = same-ty b.0.type t (and_r l r h) in
      subst (λ y. Good y) (ok_inj g.2) (refl, (a.0.type, takes_in o a.0.type q, well c a.0 a.1, rw (u ∙ sym q) at (well d b.0 b.1)))
