-- Reading a constant follows the rules. Assumes nothing.
use mathlib.Core.Path.{◌≡◌, refl, sym, ap, ◌∙◌}
use mathlib.Core.Bool.{Bool, true, false}
use mathlib.Core.List.{List, []}
use Prim.Native.Nat.{ℕ}
use native.Mathlib.Omega.{arith}
use lib.Dec.{eqb, leb}
use Rattle.rules.specs.Base.{need}
use Rattle.rules.specs.Numbers.{of_bool}
use Rattle.rules.specs.Bytes.{to_u}
use Rattle.rules.specs.Kinds.{INT, BOOL, DINT, MINUS}
use Rattle.rules.specs.Syntax.{con_bool, con_int}
use Rattle.rules.specs.Walk.{largest, con_first, con_type, con_value, exact}
use Rattle.rules.specs.Cells.{cell, truth_kind, sign_kind, type_kind, con_cells}
use Rattle.walk.specs.Steps.{cell_at, skipped, checked}
use Rattle.walk.specs.Promises.{ConstantIs, ConstantMeans}
use Rattle.walk.specs.Places.{Step, Bad, Literal}
use Rattle.cells.specs.declared.cell.Cell.{Cell}
use Rattle.walk.proofs.Follow.{begin, gives, checks, looks, skips, still_checked, still_skipped}
use Rattle.walk.proofs.Refusals.{any_answer}
use Rattle.walk.proofs.Knowing.{passed, need-alone, whenever, both, likewise, barred, skipped-stays, checked-stays}

-- TRUE and FALSE are two, and no signs
truth_same : (b d : Bool) → truth_kind b ≡ truth_kind d → b ≡ d
unfolding truth_kind
truth_same true true e = refl
truth_same true false e = absurd (omega arith)
truth_same false true e = absurd (omega arith)
truth_same false false e = refl

truth_no_sign : (b d : Bool) → truth_kind b ≡ sign_kind d → ⊥
unfolding truth_kind sign_kind
truth_no_sign true true e = omega arith
truth_no_sign true false e = omega arith
truth_no_sign false true e = omega arith
truth_no_sign false false e = omega arith

-- which sign it is
sign_is : (d : Bool) (k : ℕ) → k ≡ sign_kind d → eqb k MINUS ≡ d
unfolding sign_kind
sign_is true k e = rw e
sign_is false k e = rw e

module _ {m : List ℕ} {s : Step} {t : Cell} (sees : t ≡ cell_at m s) where
  -- TRUE or FALSE is ahead
  pub truth-read : {r : Literal} (b : Bool) → t.tag ≡ truth_kind b → r.step ≡ skipped m s → r.first ≡ t.place → r.kind ≡ BOOL → r.bits ≡ to_u (of_bool b) → ConstantMeans m s r
  unfolding con_cells cell exact con_first con_type con_value type_kind
  truth-read {r} b tag past first kind bits σ (con_bool p d) = begin (λ _. looks (truth_kind d) p 0 [] (λ seen. skips _ _ _ past (gives tt (still_skipped m past (whenever is seen)) refl (omega arith))))
    where
      is : cell_at m s ≡ record { tag = truth_kind d; place = p; datum = 0 } → ConstantIs (con_bool p d) r
      is e =
          let same : truth_kind b ≡ truth_kind d = sym tag ∙ ap (λ c. c.tag) (sees ∙ e) in
          record { allowed = refl; first = first ∙ ap (λ c. c.place) (sees ∙ e); kind = kind; bits = bits ∙ ap (λ x. to_u (of_bool x)) (truth_same b d same) }
  truth-read {r} b tag past first kind bits σ (con_int p below q v) =
      begin (λ _. looks (sign_kind below) p 0 (cell INT q v) (λ seen.
      barred (λ n o e. skipped-stays m past e) (whenever (λ e. truth_no_sign b below (sym tag ∙ ap (λ c. c.tag) (sees ∙ e))) seen)))

  -- an integer is ahead, behind its sign
  pub integer-read : {r : Literal} {s₁ s₂ : Step} {u : Cell} (below : Bool) → below ≡ eqb t.tag MINUS → ((b : Bool) → t.tag ≡ truth_kind b → ⊥) → s₁ ≡ skipped m s → u ≡ cell_at m s₁ → s₂ ≡ skipped m s₁
      → r.step ≡ checked (leb u.datum (largest below)) 4 u.place s₂ → r.first ≡ t.place → r.kind ≡ DINT → r.bits ≡ to_u (con_value (con_int 0 below 0 u.datum)) → ConstantMeans m s r
  unfolding con_cells cell exact need con_first con_type con_value type_kind
  integer-read {r} {s₁} {s₂} {u} below sign other past sees₂ past₂ check first kind bits σ (con_bool p d) =
      begin (λ _. looks (truth_kind d) p 0 [] (λ seen.
      barred (λ n o e. checked-stays _ _ _ check (skipped-stays m past₂ (skipped-stays m past e))) (whenever (λ e. other d (ap (λ c. c.tag) (sees ∙ e))) seen)))
  integer-read {r} {s₁} {s₂} {u} below sign other past sees₂ past₂ check first kind bits σ (con_int p d q v) =
      begin (λ _. looks (sign_kind d) p 0 (cell INT q v) (λ seen. skips _ _ _ past (looks INT q v [] (λ seen₂. skips _ _ _ past₂
      (let known = still_skipped m past₂ (both (still_skipped m past seen) seen₂) in
      likewise (λ at free e. need-alone (leb v (largest d)) 4 q)
      (checks (leb u.datum (largest below)) (leb v (largest d)) 4 u.place q check (whenever tests known)
      (gives tt (whenever is (both (still_checked _ _ _ check known) (passed _ _ _ s₂ check))) refl (omega arith))))))))
    where
      Known : Type 0
      Known = (cell_at m s ≡ record { tag = sign_kind d; place = p; datum = 0 }) × (cell_at m s₁ ≡ record { tag = INT; place = q; datum = v })

      same : Known → below ≡ d
      same k = sign ∙ sign_is d t.tag (ap (λ c. c.tag) (sees ∙ k.0))

      value : Known → u.datum ≡ v
      value k = ap (λ c. c.datum) (sees₂ ∙ k.1)

      tests : Known → (leb u.datum (largest below) ≡ leb v (largest d)) × (u.place ≡ q)
      tests k = (rw (value k, same k), ap (λ c. c.place) (sees₂ ∙ k.1))

      is : Known × (leb u.datum (largest below) ≡ true) → ConstantIs (con_int p d q v) r
      is h = record {
        allowed = ap (λ b. need b 4 q) (sym (tests h.0).0 ∙ h.1);
        first = first ∙ ap (λ c. c.place) (sees ∙ h.0.0);
        kind = kind;
        bits = bits ∙ rw (value h.0, same h.0);
      }

  -- the integer is too large
  pub integer-refused : {r : Literal} {n p : ℕ} {s₁ s₂ : Step} {u : Cell} (below : Bool) → below ≡ eqb t.tag MINUS → ((b : Bool) → t.tag ≡ truth_kind b → ⊥) → s₁ ≡ skipped m s → u ≡ cell_at m s₁ → s₂ ≡ skipped m s₁
      → Bad n p ≡ checked (leb u.datum (largest below)) 4 u.place s₂ → r.step ≡ Bad n p → ConstantMeans m s r
  integer-refused {n} {p} {u = u} below sign other past sees₂ past₂ check is σ c =
      rw is (any_answer (integer-read {r = record { step = Bad n p; first = t.place; kind = DINT; bits = to_u (con_value (con_int 0 below 0 u.datum)) }} below sign other past sees₂ past₂ check refl refl refl σ c))
