-- The marks of the slots that FORs take. Assumes nothing.
use mathlib.Core.Path.{◌≡◌, refl, ap, ◌∙◌}
use mathlib.Core.Bool.{Bool, true, false}
use mathlib.Core.List.{List, [], ◌∷◌}
use Prim.Native.Nat.{ℕ, zero, suc, ◌≤◌, ◌<◌}
use native.Mathlib.Omega.{arith}
use lib.Dec.{eqb}
use lib.ListN.{length, get_or, set}
use lib.Seq.{get_or-set_same, get_or-set_other}
use borrow.Author.Tests.{eqb-true, eqb-false}
use Rattle.rules.specs.Base.{pick, member}
use Rattle.walk.specs.Promises.{Marks}

-- behind the last element nothing is stored
pub set_behind : {A : Type 0} (l : List A) (i : ℕ) (x : A) → length l ≤ i → l ≡ set l i x
set_behind [] i x h = refl
set_behind (y ∷ l) zero x h = absurd (omega arith)
set_behind (y ∷ l) (suc i) x h = ap (λ w. y ∷ w) (set_behind l i x (omega arith))

-- one more slot is taken
pub one_more_lem : {taken : List Bool} {slots : List ℕ} (slot : ℕ) → slot < length taken → Marks taken slots → Marks (set taken slot true) (slot ∷ slots)
unfolding member
one_more_lem {taken} {slots} slot fits m = record { marks = λ i h. go i (eqb i slot) refl (m.marks i h) }
  where
    go : (i : ℕ) (b : Bool) → eqb i slot ≡ b → get_or taken i false ≡ member i slots → get_or (set taken slot true) i false ≡ pick b (λ _. true) (λ _. member i slots)
    go i true e q = rw (eqb-true i slot e) (get_or-set_same taken slot true false fits)
    go i false e q = get_or-set_other taken slot i true false (eqb-false i slot e) ∙ q
