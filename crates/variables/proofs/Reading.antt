-- The variables of a payload of kind 1, read one after the other. Assumes nothing.
use mathlib.Core.Path.{◌≡◌, refl, sym, ap}
use mathlib.Core.Bool.{Bool, true, false}
use mathlib.Core.List.{List, [], ◌∷◌}
use mathlib.Core.Option.{Option, none, some}
use Prim.Native.Nat.{ℕ, ◌*◌}
use native.Mathlib.Omega.{arith}
use lib.Dec.{eqb}
use lib.IntN.{ℤ}
use lib.ListN.{length}
use Rattle.rules.specs.Base.{pick}
use Rattle.rules.specs.Numbers.{Ty, bool, dint, holds}
use Rattle.rules.specs.Bytes.{of4}
use Rattle.rules.specs.Core.{Variable, types, initials}
use Rattle.rules.specs.Image.{type_in, variable_in, before, variables_in}
use Rattle.variables.specs.Slots.{type_of, types_in, values_in}
use Rattle.variables.proofs.Options.{clash, chosen}

-- one variable: its type and its initial value
held : (τ : Ty) (z : ℤ) (v : Variable) → variable_in (some τ) z ≡ some v → (v.type ≡ τ) × (v.init ≡ z)
unfolding variable_in
held τ z v e =
    let r : Variable = record { type = τ; init = z } in
    let f = chosen (holds τ z) (some r) e in
    let g : r ≡ v = cc in
    (ap (λ (w : Variable). w.type) (sym g), ap (λ (w : Variable). w.init) (sym g))

variable_is : (k : ℕ) (z : ℤ) (v : Variable) → variable_in (type_in k) z ≡ some v → (v.type ≡ type_of k) × (v.init ≡ z)
unfolding type_in type_of variable_in
variable_is k z v e = go (eqb k 1) (eqb k 2) e
  where
    go : (t u : Bool) → variable_in (pick t (λ _. some bool) (λ _. pick u (λ _. some dint) (λ _. none))) z ≡ some v →
        (v.type ≡ pick t (λ _. bool) (λ _. dint)) × (v.init ≡ z)
    go true u e = held bool z v e
    go false true e = held dint z v e
    go false false e = clash (cc)

-- the variables of a payload: five bytes each, with these types and these initial values
pub record Read (p : List ℕ) (vs : List Variable) : Type 0 where
  pub long : length p ≡ 5 * length vs
  pub kinds : types vs ≡ types_in p
  pub inits : initials vs ≡ values_in p

-- a variable before the others
one_more_lem : {k a b c d : ℕ} {r : List ℕ} {vs : List Variable} (o : Option Variable) (os : Option (List Variable)) →
    ((v : Variable) → o ≡ some v → (v.type ≡ type_of k) × (v.init ≡ of4 a b c d)) → ((ws : List Variable) → os ≡ some ws → Read r ws) →
    before o os ≡ some vs → Read (k ∷ a ∷ b ∷ c ∷ d ∷ r) vs
unfolding before types_in values_in types initials
one_more_lem none os f g e = clash (cc)
one_more_lem (some v) none f g e = clash (cc)
one_more_lem {k} {a} {b} {c} {d} {r} {vs} (some v) (some ws) f g e =
    let l : v ∷ ws ≡ vs = cc in
    let h = g ws refl in
    rw (← l) (record { long = omega arith; kinds = rw ((f v refl).0, h.kinds); inits = rw ((f v refl).1, h.inits) })

pub read : (p : List ℕ) (vs : List Variable) → variables_in p ≡ some vs → Read p vs
unfolding variables_in types_in values_in types initials
read [] vs e = let f : [] ≡ vs = cc in rw (← f) (record { long = refl; kinds = refl; inits = refl })
read (k ∷ []) vs e = clash (cc)
read (k ∷ a ∷ []) vs e = clash (cc)
read (k ∷ a ∷ b ∷ []) vs e = clash (cc)
read (k ∷ a ∷ b ∷ c ∷ []) vs e = clash (cc)
read (k ∷ a ∷ b ∷ c ∷ d ∷ r) vs e = one_more_lem _ _ (variable_is k (of4 a b c d)) (read r) e
