-- What the walk declares: at most 64 variables, each with an initial value that its type holds.
use Rattle.std.specs.Prelude.{◌≡◌, refl, true, false, List, [], ◌∷◌, ◌++◌, zero, suc, ◌≤◌, ℤ, pos, ltb, length}
use Rattle.std.proofs.Common.{ap, subst, arith, length-append}
use Rattle.std.proofs.Math.Option.{Option, none, some}
use Rattle.rules.specs.Limits.{variable_limit}
use Rattle.rules.specs.Base.{ok, need}
use Rattle.rules.specs.Numbers.{Ty, bool, dint, low, high, between, holds, same_ty, of_bool}
use Rattle.rules.specs.Syntax.{Con, con_bool, con_int, Decl}
use Rattle.rules.specs.Walk.{Var, nameless, find, is_none, con_type, con_value, largest, exact, initial, declare, declare_all}
use Rattle.theorems.specs.WellTyped.{inv, ok_inj, needed, same-ty}
use Rattle.theorems.specs.Tests.{leb-t, le-leb}
use Rattle.rules.specs.Core.{Variable}

-- every type holds its variable's initial value
abbrev pub Held : List Variable → Type 0
Held [] = Unit {0}
Held (v ∷ vs) = (holds v.type v.init ≡ true) × Held vs

zero_held : (τ : Ty) → holds τ (pos 0) ≡ true
unfolding holds between low high
zero_held bool = refl
zero_held dint = refl

constant_held : (c : Con) (u : Unit {0}) → exact c ≡ ok u → holds (con_type c) (con_value c) ≡ true
unfolding exact con_type con_value of_bool largest holds between low high
constant_held (con_bool p true) u e = refl
constant_held (con_bool p false) u e = refl
constant_held (con_int p true q zero) u e = refl
constant_held (con_int p true q (suc n)) u e =
    let k = leb-t (suc n) 2147483648 (needed _ _ _ _ e) in
    rw (le-leb n 2147483647 (omega arith))
constant_held (con_int p false q n) u e = needed _ _ _ _ e

initial_held : (d : Decl) (c : Option Con) (z : ℤ) → initial d c ≡ ok z → holds d.type z ≡ true
unfolding initial
initial_held d none z e = subst (λ y. holds d.type y ≡ true) (ok_inj e) (zero_held d.type)
initial_held d (some c) z e =
    let a = inv (exact c) _ e in
    let b = inv (need (same_ty (con_type c) d.type) 8 d.name.place) _ a.2 in
    let s = same-ty (con_type c) d.type (needed _ _ _ _ b.1) in
    subst (λ y. holds d.type y ≡ true) (ok_inj b.2) (rw s at (constant_held c a.0 a.1))

last_held : (vs : List Var) (v : Var) → Held (nameless vs) → holds v.type v.init ≡ true → Held (nameless (vs ++ (v ∷ [])))
unfolding nameless
last_held [] v h k = (k, tt)
last_held (w ∷ vs) v h k = (h.0, last_held vs v h.1 k)

-- without their letters they are as many
nameless-length : (vs : List Var) → length (nameless vs) ≡ length vs
unfolding nameless
nameless-length [] = refl
nameless-length (v ∷ vs) = ap suc (nameless-length vs)

-- at most 64 variables, each with a value that its type holds
pub record Declared (vs : List Variable) : Type 0 where
  pub few : length vs ≤ variable_limit
  pub held : Held vs

declare_one : (vs ws : List Var) (d : Decl) → Held (nameless vs) → declare vs d ≡ ok ws → Declared (nameless ws)
unfolding declare
declare_one vs ws d h e =
    let a = inv (need (is_none (find d.name.letters 0 vs)) 6 d.name.place) _ e in
    let b = inv (need (ltb (length vs) variable_limit) 9 d.name.place) _ a.2 in
    let c = inv (initial d d.init) _ b.2 in
    let k = leb-t (suc (length vs)) variable_limit (needed _ _ _ _ b.1) in
    subst (λ y. Declared (nameless y)) (ok_inj c.2) record {
      few = rw (nameless-length, length-append) (omega arith);
      held = last_held vs _ h (initial_held d d.init c.0 c.1);
    }

pub declare_all_lem : (ds : List Decl) (vs ws : List Var) → Declared (nameless vs) → declare_all vs ds ≡ ok ws → Declared (nameless ws)
unfolding declare_all
declare_all_lem [] vs ws h e = subst (λ y. Declared (nameless y)) (ok_inj e) h
declare_all_lem (d ∷ ds) vs ws h e =
    let a = inv (declare vs d) _ e in
    declare_all_lem ds a.0 ws (declare_one vs a.0 d h.held a.1) a.2
