-- What `item` of `expressions` puts, tag by tag: the bytes that a cell stands for. Assumes nothing.
use mathlib.Core.Path.{◌≡◌, refl, sym}
use mathlib.Core.List.{List, [], ◌∷◌}
use mathlib.Core.Logic.{◌⊎◌, inl, inr}
use Prim.Native.Nat.{ℕ, ◌%◌}
use native.Mathlib.Nat.{add-zero}
use native.Mathlib.Omega.{arith}
use borrow.Author.Tests.{ne_eqb}
use Rattle.rules.specs.Bytes.{put4}
use Rattle.rules.specs.Kinds.{NAME, INT, TRUE, FALSE}
use Rattle.rules.specs.Cells.{UNARY, BINARY}
use Rattle.emit.specs.Items.{item_bytes}
use Rattle.emit.specs.Places.{Put, Writes}
use Rattle.emit.proofs.Writing.{puts}

-- a cell that gives nothing
nothing : (code : List ℕ) (at : ℕ) → Put [] code code at at
nothing code at = record { puts = λ most room. (sym (add-zero at), refl) }

module _ (k d : ℕ) {code code' : List ℕ} {at r : ℕ} where
  pub item-value : (k ≡ INT) ⊎ ((k ≡ TRUE) ⊎ (k ≡ FALSE)) → Writes code code' at (2 ∷ put4 d []) r → Put (item_bytes k d) code code' at r
  unfolding item_bytes put4
  item-value (inl e) w = rw e (puts (2 ∷ put4 d []) (omega arith) w)
  item-value (inr (inl e)) w = rw e (puts (2 ∷ put4 d []) (omega arith) w)
  item-value (inr (inr e)) w = rw e (puts (2 ∷ put4 d []) (omega arith) w)

  pub item-slot : k ≡ NAME → Writes code code' at (3 ∷ (d % 256) ∷ []) r → Put (item_bytes k d) code code' at r
  unfolding item_bytes
  item-slot e w = rw e (puts (3 ∷ (d % 256) ∷ []) (omega arith) w)

  pub item-binary : k ≡ BINARY → Writes code code' at ((d % 256) ∷ []) r → Put (item_bytes k d) code code' at r
  unfolding item_bytes
  item-binary e w = rw e (puts ((d % 256) ∷ []) (omega arith) w)

  pub item-unary : k ≡ UNARY → (d ≡ 0 → ⊥) → Writes code code' at ((d % 256) ∷ []) r → Put (item_bytes k d) code code' at r
  unfolding item_bytes
  item-unary e n w = rw (e, ne_eqb d 0 n) (puts ((d % 256) ∷ []) (omega arith) w)

module _ (k d : ℕ) (code : List ℕ) (at : ℕ) where
  pub item-plus : k ≡ UNARY → d ≡ 0 → Put (item_bytes k d) code code at at
  unfolding item_bytes
  item-plus e z = rw (e, z) (nothing code at)

  pub item-none : (k ≡ INT → ⊥) → (k ≡ TRUE → ⊥) → (k ≡ FALSE → ⊥) → (k ≡ NAME → ⊥) → (k ≡ BINARY → ⊥) → (k ≡ UNARY → ⊥) → Put (item_bytes k d) code code at at
  unfolding item_bytes
  item-none i t f n b u =
      rw (ne_eqb k INT i, ne_eqb k TRUE t, ne_eqb k FALSE f, ne_eqb k NAME n, ne_eqb k BINARY b, ne_eqb k UNARY u) (nothing code at)
