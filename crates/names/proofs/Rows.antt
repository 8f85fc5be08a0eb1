-- A name is looked for row by row.
use Rattle.std.proofs.Common.{◌≡◌, refl, Bool, true, false, List, ℕ, suc, zero, Option, add-one}
use Rattle.std.specs.Prelude.{cond, Some}
use Rattle.std.specs.List as L
use Rattle.std.proofs.Math.Option as O
use Rattle.rules.specs.Base.{pick, same}
use Rattle.rules.specs.Walk.{Slot, find}
use Rattle.names.specs.Rows.{row_at, rows_from, slot_of}

-- the row that has letters l is the first whose test says so
pub first_row : (l text m : List ℕ) (j n : ℕ) → slot_of (find l j (rows_from text m j n)) ≡ L.find (λ i. same l (row_at text m i).letters) (L.range_with_len j n)
unfolding find rows_from
first_row l text m j zero = refl
first_row l text m j (suc n) = rw (add-one j) (either (same l (row_at text m j).letters) _ _ (first_row l text m (suc j) n))
  where
    either : (d : Bool) (s : Slot) (o : O.Option Slot) {r : Option ℕ} → slot_of o ≡ r → slot_of (pick d (λ _. O.some s) (λ _. o)) ≡ cond d (Some s.slot) r
    either true s o e = refl
    either false s o e = e
