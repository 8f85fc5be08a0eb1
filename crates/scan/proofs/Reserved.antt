-- The table of reserved words against the rules' list, and a word looked up in it. Assumes nothing.
use Rattle.std.proofs.Common.{◌≡◌, refl, sym, ◌∙◌, ap, Bool, true, false, ◌&&◌, cond, List, [], ◌∷◌, ℕ, ◌<◌, map, eqb, ltb, IsTrue, ◌↔◌, Some, Bor, arith}
use Rattle.std.proofs.lemmas.Grind.{common_steps}
use Rattle.std.proofs.lemmas.Bool.{eqb-true, ltb-true}
use Rattle.std.specs.Char.{to_ascii_lowercase}
use Rattle.std.specs.List.{find}
use Rattle.std.specs.Option.{option_map}
use Rattle.theorems.specs.Tests.{and_l, and_r}
use Rattle.rules.specs.Base.{pick, same}
use Rattle.rules.specs.Kinds.{NAME}
use Rattle.rules.specs.Tokens.{is_small, within, upper, fold, Entry, lookup}
use Rattle.rules.specs.KindNumbers.{kind_number}
use Rattle.rules.specs.declared.kinds.Kind.{Kind}
use Rattle.scan.specs.Pieces.{Finds, kind_in}

-- the row has the entry's word, in capitals, and its kind, which is that of no name
abbrev pub agrees : Bor (List ℕ) × Kind → Entry → Bool
agrees row e = same (fold row.0.now) e.text && eqb (kind_number row.1) e.kind && ltb NAME e.kind

abbrev pub agree : List (Bor (List ℕ) × Kind) → List Entry → Bool
agree [] [] = true
agree [] (e ∷ es) = false
agree (row ∷ rows) [] = false
agree (row ∷ rows) (e ∷ es) = agrees row e && agree rows es

-- ---- letter case means nothing

upper_lower : (x : ℕ) → upper (to_ascii_lowercase x) ≡ upper x
unfolding upper is_small within
upper_lower x = grind (arith, common_steps)

lower_upper : (x : ℕ) → to_ascii_lowercase (upper x) ≡ to_ascii_lowercase x
unfolding upper is_small within
lower_upper x = grind (arith, common_steps)

fold_lower : (w : List ℕ) → fold (map to_ascii_lowercase w) ≡ fold w
unfolding fold
fold_lower [] = refl
fold_lower (x ∷ w) = rw (upper_lower x, fold_lower w)

lower_fold : (w : List ℕ) → map to_ascii_lowercase (fold w) ≡ map to_ascii_lowercase w
unfolding fold
lower_fold [] = refl
lower_fold (x ∷ w) = rw (lower_upper x, lower_fold w)

same_true : (a b : List ℕ) → same a b ≡ true → a ≡ b
unfolding same
same_true [] [] e = refl
same_true [] (y ∷ b) e = cc
same_true (x ∷ a) [] e = cc
same_true (x ∷ a) (y ∷ b) e = by (eqb x y) refl e (same_true a b)
  where
    by : (d : Bool) → eqb x y ≡ d → pick d (λ _. same a b) (λ _. false) ≡ true → (same a b ≡ true → a ≡ b) → x ∷ a ≡ y ∷ b
    by true p q r = rw (eqb-true x y p, r q)
    by false p q r = cc

same_refl : (a : List ℕ) → same a a ≡ true
unfolding same
same_refl [] = refl
same_refl (x ∷ a) = grind (arith, common_steps, same_refl a)

-- words that differ in letter case alone are the same, folded
pub alike : (b : Bool) (w s : List ℕ) → (IsTrue b ↔ (map to_ascii_lowercase w ≡ map to_ascii_lowercase s)) → b ≡ same (fold w) (fold s)
alike true w s h =
    let e : fold w ≡ fold s = sym (fold_lower w) ∙ ap fold (h.0 refl) ∙ fold_lower s in
    rw (e, same_refl)
alike false w s h = by (same (fold w) (fold s)) refl
  where
    by : (d : Bool) → same (fold w) (fold s) ≡ d → false ≡ d
    by true e = (h.1 (sym (lower_fold w) ∙ ap (map to_ascii_lowercase) (same_true (fold w) (fold s) e) ∙ lower_fold s))
    by false e = refl

-- ---- so a word is found in the table as in the rules' list

module _ (w : List ℕ) where
  pub found : (rows : List (Bor (List ℕ) × Kind)) (es : List Entry) → agree rows es ≡ true → Finds NAME (kind_in rows w) (lookup (fold w) es)
  unfolding lookup kind_in
  found [] [] t = refl
  found [] (e ∷ es) t = cc
  found (row ∷ rows) [] t = cc
  found (row ∷ rows) (e ∷ es) t =
      let here = and_l (agrees row e) (agree rows es) t in
      let long = and_r _ (ltb NAME e.kind) here in
      let both = and_l (same (fold row.0.now) e.text && eqb (kind_number row.1) e.kind) (ltb NAME e.kind) here in
      let text = same_true (fold row.0.now) e.text (and_l (same (fold row.0.now) e.text) (eqb (kind_number row.1) e.kind) both) in
      let kind = eqb-true (kind_number row.1) e.kind (and_r (same (fold row.0.now) e.text) (eqb (kind_number row.1) e.kind) both) in
      rw text (by (same (fold w) e.text) (found rows es (and_r (agrees row e) (agree rows es) t)) kind (ltb-true NAME e.kind long))
    where
      by : (d : Bool) → Finds NAME (kind_in rows w) (lookup (fold w) es) → kind_number row.1 ≡ e.kind → NAME < e.kind
          → Finds NAME (option_map (λ r. r.1) (cond d (Some row) (find (λ r. same (fold w) (fold r.0.now)) rows))) (pick d (λ _. e.kind) (λ _. lookup (fold w) es))
      by true f k l = (k, l)
      by false f k l = f
