-- What FIRST and NEXT ask, part by part. Assumes nothing.
use mathlib.Core.Path.{◌≡◌, refl}
use mathlib.Core.Bool.{Bool, true, false, not, ◌&&◌}
use mathlib.Core.List.{List}
use Prim.Native.Nat.{ℕ, ◌<◌}
use lib.Dec.{ltb}
use lib.IntN.{ℤ, pos, ◌+ℤ◌}
use lib.ListN.{length, get_or}
use borrow.Author.Tests.{ltb-true, lt-ltb}
use Rattle.rules.specs.Limits.{for_limit}
use Rattle.rules.specs.Numbers.{Ty, dint, is_dint, is_zero}
use Rattle.std.specs.Prelude.{cond, None, Some}
use Rattle.rules.specs.Meaning.{Table, val, stop, ill, load, load_d, passes}
use Rattle.compare.specs.Advancing.{advance_of}
use Rattle.variables.proofs.Options.{clash, both}
use Rattle.machine.specs.Stepping.{may_count}

module _ (Γ : List Ty) (t : Table) (l v : ℕ) (d : ℤ) where
  abbrev fine : Bool
  fine = is_dint (get_or Γ v dint) && not (is_zero d)

  pub record Allowed : Type 0 where
    pub level : l < for_limit
    pub slot : v < length t
    pub counts : fine ≡ true

  pub allowed : may_count Γ t l v d ≡ true → Allowed
  unfolding may_count
  allowed e =
      let p = both _ _ e in
      let q = both _ _ p.1 in
      record { level = ltb-true _ _ p.0; slot = ltb-true _ _ q.0; counts = q.1 }

  -- the variable's value
  pub loaded : Allowed → load_d Γ t v d ≡ val (get_or t v (pos 0))
  unfolding load_d load
  loaded g = rw (g.counts, lt-ltb v (length t) g.slot, load_d, load)

  -- it has none, though the level is there
  pub unloaded : l < for_limit → may_count Γ t l v d ≡ false → load_d Γ t v d ≡ stop ill
  unfolding may_count load_d load
  unloaded h e = by (ltb v (length t)) fine refl refl (rw (lt-ltb l for_limit h) at e)
    where
      by : (y z : Bool) → ltb v (length t) ≡ y → fine ≡ z → (y && z) ≡ false → load_d Γ t v d ≡ stop ill
      by y false q r e = rw (r, load_d)
      by false true q r e = rw (r, q, load_d, load)
      by true true q r e = clash (cc)

-- ---- what a FOR's step does, from the code's answer
pub ends_is : (v step last : ℤ) → advance_of v step last ≡ None → passes step (v +ℤ step) last ≡ true
unfolding advance_of
ends_is v step last e = by (passes step (v +ℤ step) last) e
  where
    by : (d : Bool) → cond d None (Some (v +ℤ step)) ≡ None → d ≡ true
    by true e = refl
    by false e = clash (cc)

pub steps_is : (v step last x : ℤ) → advance_of v step last ≡ Some x → (passes step (v +ℤ step) last ≡ false) × (v +ℤ step ≡ x)
unfolding advance_of
steps_is v step last x e = by (passes step (v +ℤ step) last) e
  where
    by : (d : Bool) → cond d None (Some (v +ℤ step)) ≡ Some x → (d ≡ false) × (v +ℤ step ≡ x)
    by true e = clash (cc)
    by false e = (refl, cc)

-- what is asked of three numbers is asked of the same
pub same3 : {A : Type 0} (f : ℤ → ℤ → ℤ → A) {x y z u v w : ℤ} → x ≡ u → y ≡ v → z ≡ w → f x y z ≡ f u v w
same3 f p q r = rw (p, q, r)
