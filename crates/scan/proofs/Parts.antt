-- The parts of a name: no two underscores run, and none is last.
use Rattle.std.proofs.Common.{◌≡◌, refl, sym, ◌∙◌, ap, Bool, true, false, not, ◌&&◌, ◌||◌, List, [], ◌∷◌, ℕ, suc, ◌-◌, length, eqb, nat_eq, arith}
use Rattle.std.proofs.lemmas.Bool.{eqb-true, eqb-false, ne_eqb}
use Rattle.std.proofs.lemmas.Iterator.{YieldsList}
use Rattle.std.specs.Iterator.{AlwaysYields}
use Rattle.std.specs.List.{list_any, ends_with}
use Rattle.std.specs.Cmp.Lexicographic.{pointwise}
use Rattle.std.specs.Slice.Iter.{windows_rest, windows_size, windows_steps}
use Rattle.std.specs.declared.slice.Windows.{Windows}
use Rattle.rules.specs.Tokens.{is_under, parts_well}

-- the windows of two
abbrev pub pairs : List ℕ → List (List ℕ)
pairs [] = []
pairs (x ∷ []) = []
pairs (x ∷ y ∷ s) = (x ∷ y ∷ []) ∷ pairs (y ∷ s)

always : (it : Windows ℕ) (s : List ℕ) → windows_rest it ≡ s → windows_size it ≡ 2 → AlwaysYields windows_steps (λ w. w.now) it (pairs s)
always it [] e n = λ w j p. absurd (omega (arith, p.1.0, n, ap length e))
always it (x ∷ []) e n = λ w j p. absurd (omega (arith, p.1.0, n, ap length e))
always it (x ∷ y ∷ s) e n = (
  (λ j p. absurd (omega (arith, p.1.0, n, ap length e))),
  λ w j p. (p.1.1 ∙ rw (n, e), always j (y ∷ s) (p.1.2 ∙ rw e) (p.0 ∙ n)),
)

pub YieldsList-from_pairs : {it : Windows ℕ} (s : List ℕ) → windows_rest it ≡ s → windows_size it ≡ 2 → YieldsList windows_steps (λ w. w.now) it (pairs s)
YieldsList-from_pairs {it} s e n = record { runs = always it s e n }

-- two underscores
abbrev pub doubled : List ℕ → Bool
doubled w = pointwise nat_eq w (95 ∷ 95 ∷ [])

last : (x y : ℕ) (s : List ℕ) → ends_with nat_eq (x ∷ y ∷ s) (95 ∷ []) ≡ ends_with nat_eq (y ∷ s) (95 ∷ [])
last x y s = let e : length (x ∷ y ∷ s) - 1 ≡ suc (length (y ∷ s) - 1) = omega arith in rw e

-- a is the first of two, b the second one; e: one is last, d: two run behind
parts : (a b e d : Bool) → (not (a && b) && (not e && not d)) ≡ (not e && not ((a && (b && true)) || d))
parts true true true d = refl
parts true true false d = refl
parts true false e d = refl
parts false b e d = refl

pub parted : (w : List ℕ) → (not (ends_with nat_eq w (95 ∷ [])) && not (list_any doubled (pairs w))) ≡ parts_well w
unfolding parts_well is_under
parted [] = refl
parted (x ∷ []) = by (eqb x 95) refl
  where
    by : (d : Bool) → eqb x 95 ≡ d → (not (eqb 95 x && true) && true) ≡ not d
    by true e = rw (eqb-true x 95 e)
    by false e = rw (ne_eqb 95 x (λ q. eqb-false x 95 e (sym q)))
parted (x ∷ y ∷ s) = rw (last x y s, ← parted (y ∷ s)) (sym (parts (eqb x 95) (eqb y 95) _ _))
