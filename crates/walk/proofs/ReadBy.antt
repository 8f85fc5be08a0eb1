-- Reading BY follows the rules. Assumes nothing.
use mathlib.Core.Path.{◌≡◌, refl, sym, ap, ◌∙◌}
use mathlib.Core.Bool.{not}
use mathlib.Core.List.{List, [], append-nil}
use mathlib.Core.Option.{none, some}
use Prim.Native.Nat.{ℕ}
use native.Mathlib.Omega.{arith}
use lib.Dec.{eqb}
use lib.IntN.{pos}
use Rattle.rules.specs.Numbers.{dint, same_ty, is_zero}
use Rattle.rules.specs.Bytes.{to_u}
use Rattle.rules.specs.Kinds.{FINISH, DINT, BY}
use Rattle.rules.specs.Walk.{con_first, con_type, con_value, step}
use Rattle.rules.specs.Cells.{cell, end_cell, con_cells, maybe_cells}
use Rattle.walk.specs.Steps.{cell_at, tag_at, skipped, checked, extended, written}
use Rattle.walk.specs.Constants.{is_constant}
use Rattle.walk.specs.Promises.{ConstantIs, ConstantMeans, ByMeans}
use Rattle.walk.specs.Places.{Step, Literal}
use Rattle.walk.proofs.Follow.{begin, gives, bind, checks, looks, skips, writes, still_checked}
use Rattle.walk.proofs.Knowing.{whenever, regrouped, barred, skipped-stays, extended-stays}
use Rattle.walk.proofs.ConstantValues.{dint-kind, exact-zero}
use Rattle.walk.proofs.ConstantAhead.{constant-ahead}

module _ {m m' : List ℕ} {s s₁ r : Step} where
  -- none is given
  pub by_missing : tag_at m s ≡ FINISH → s₁ ≡ skipped m s → (r ≡ extended m s₁) × (m' ≡ written m s₁ (cell BY 0 1)) → ByMeans m m' s r
  unfolding maybe_cells end_cell cell step to_u is_constant
  by_missing tag past w σ none = begin (λ _. skips FINISH 0 0 past (writes {slack = 0} BY 0 1 w (λ at free e. refl) (gives (pos 1) (λ at free e. tt) refl (omega arith))))
  by_missing tag past w σ (some c) =
      begin (λ _. constant-ahead c [] (sym (append-nil (con_cells c))) (λ starts.
      barred (λ n p e. extended-stays m w.0 (skipped-stays m past e)) (whenever (λ h. let z = ap is_constant (sym tag) ∙ h in let y : ◌≡◌ {A = ℕ} 0 1 = cc in omega arith) starts)))

  -- one is
  pub by_given : {s₂ : Step} {l : Literal} → (tag_at m s ≡ FINISH → ⊥) → ConstantMeans m s l → s₁ ≡ checked (eqb l.kind DINT) 8 l.first l.step
      → s₂ ≡ checked (not (eqb l.bits 0)) 15 l.first s₁ → (r ≡ extended m s₂) × (m' ≡ written m s₂ (cell BY 0 l.bits)) → ByMeans m m' s r
  unfolding maybe_cells end_cell cell step tag_at cell_at
  by_given tag means typed moving w σ none =
      begin (λ _. looks FINISH 0 0 [] (λ seen.
      barred (λ n p e. absurd (tag (ap (λ x. (cell_at m x).tag) e))) (whenever (λ e. tag (ap (λ c. c.tag) e)) seen)))
  by_given {s₂} {l} tag means typed moving w σ (some c) =
      regrouped (append-nil (con_cells c))
      (begin (λ _. bind tt (means σ c) (λ at free e. tt) (λ _ is.
      let is₁ = still_checked _ _ _ typed is in
      checks (eqb l.kind DINT) (same_ty (con_type c) dint) 8 l.first (con_first c) typed (whenever kinds is)
      (checks (not (eqb l.bits 0)) (not (is_zero (con_value c))) 15 l.first (con_first c) moving (whenever zeros is₁)
      (writes {slack = 0} BY 0 (to_u (con_value c)) w (whenever (λ i. ap (cell BY 0) i.bits) (still_checked _ _ _ moving is₁))
      (gives (con_value c) (λ at free e. tt) refl (omega arith)))))))
    where
      kinds : ConstantIs c l → (eqb l.kind DINT ≡ same_ty (con_type c) dint) × (l.first ≡ con_first c)
      kinds i = (ap (λ k. eqb k DINT) i.kind ∙ dint-kind (con_type c), i.first)

      zeros : ConstantIs c l → (not (eqb l.bits 0) ≡ not (is_zero (con_value c))) × (l.first ≡ con_first c)
      zeros i = (ap not (ap (λ b. eqb b 0) i.bits ∙ exact-zero c i.allowed), i.first)
