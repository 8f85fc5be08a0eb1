-- Which expressions are one integer with an optional sign: told from the first three cells. Assumes nothing.
use mathlib.Core.Path.{◌≡◌, refl, sym, ap, ◌∙◌}
use mathlib.Core.Bool.{Bool, true, false}
use mathlib.Core.List.{List, ◌∷◌, ◌++◌}
use Rattle.std.specs.Prelude.{Option, Some}
use Prim.Native.Nat.{ℕ, ◌+◌, ◌≤◌, ◌<◌}
use native.Mathlib.Omega.{arith}
use lib.Dec.{eqb}
use Rattle.std.proofs.lemmas.Bool.{eqb-false}
use lib.IntN.{ℤ, pos, negsuc}
use lib.ListN.{length, length-append}
use Rattle.rules.specs.Bytes.{to_u}
use Rattle.rules.specs.Codes.{un_code, bin_code}
use Rattle.rules.specs.Kinds.{NAME, INT, TRUE, FALSE, OPEN}
use Rattle.rules.specs.Cells.{cell, truth_kind, UNARY, BINARY, WHOLE}
use Rattle.rules.specs.Core.{Un, Neg, Not, Expr, num, flag, var, un, bin, pls, par}
use Rattle.rules.specs.CoreCells.{expr_cells, held_cells}
use Rattle.rules.specs.Worst.{Lit, lit, nolit, con_of, neg_lit, lit_of}
use Rattle.theorems.specs.Fields.{FitE}
use Rattle.cells.specs.Reading.{cell_in, behind, Lies}
use Rattle.cells.specs.Runs.{Without, none, next, without_both}
use Rattle.cells.specs.declared.cell.Cell.{Cell}
use Rattle.figures.specs.Parts.{signed_of, lit_in}
use Rattle.figures.proofs.Heads.{head, tail}
use Rattle.figures.proofs.Closings.{expr_run}

-- the first two cells and the third one's tag, and what they are read as
pub data Looks (a b : Cell) (t : ℕ) : Lit → Type 0 where
  alone : (n : ℕ) → n < 2147483648 → a.tag ≡ INT → a.datum ≡ n → b.tag ≡ WHOLE → Looks a b t (lit (pos n))
  signed : (minus : Bool) (n : ℕ) → n < 2147483648 → a.tag ≡ INT → a.datum ≡ n → b.tag ≡ UNARY → eqb b.datum 5 ≡ minus → (b.datum ≡ 6 → ⊥) → t ≡ WHOLE
      → Looks a b t (lit (signed_of minus n))
  other : (a.tag ≡ INT → b.tag ≡ WHOLE → ⊥) → (a.tag ≡ INT → b.tag ≡ UNARY → t ≡ WHOLE → b.datum ≡ 6) → Looks a b t nolit

-- the cells at i as the code reads them
abbrev pub LooksAt : List ℕ → ℕ → Lit → Type 0
LooksAt m i l = Looks (cell_in m i) (cell_in m (behind m i)) (cell_in m (behind m (behind m i))).tag l

module _ {m : List ℕ} {i : ℕ} where
  -- the cells behind the first
  second : {t p d u q e : ℕ} {w : List ℕ} → Lies m i (t ∷ p ∷ d ∷ u ∷ q ∷ e ∷ w) → cell_in m (behind m i) ≡ record { tag = u; place = q; datum = e }
  second y = head (tail refl y).1

  third : {t p d u q e v s f : ℕ} {w : List ℕ} → Lies m i (t ∷ p ∷ d ∷ u ∷ q ∷ e ∷ v ∷ s ∷ f ∷ w) → (cell_in m (behind m (behind m i))).tag ≡ v
  third y = ap (λ x. x.tag) (head (tail refl (tail refl y).1).1)

  -- one integer
  one : {n p q e : ℕ} {w : List ℕ} → n < 2147483648 → Lies m i (INT ∷ p ∷ n ∷ WHOLE ∷ q ∷ e ∷ w) → LooksAt m i (lit (pos n))
  one {n} h y = alone n h (ap (λ x. x.tag) (head y)) (ap (λ x. x.datum) (head y)) (ap (λ x. x.tag) (second y))

  -- one integer and a sign
  two : {n p q e s f : ℕ} {w : List ℕ} → n < 2147483648 → (e ≡ 6 → ⊥) → Lies m i (INT ∷ p ∷ n ∷ UNARY ∷ q ∷ e ∷ WHOLE ∷ s ∷ f ∷ w) → LooksAt m i (lit (signed_of (eqb e 5) n))
  two {n} {e = e} h g y =
      let a = head y in
      let b = second y in
      signed (eqb e 5) n h (ap (λ x. x.tag) a) (ap (λ x. x.datum) a) (ap (λ x. x.tag) b) (ap (λ x. eqb x.datum 5) b) (λ k. g (sym (ap (λ x. x.datum) b) ∙ k)) (third y)

  -- the first cell is no integer's
  no_integer : {t p d : ℕ} {w : List ℕ} → (t ≡ INT → ⊥) → Lies m i (t ∷ p ∷ d ∷ w) → LooksAt m i nolit
  no_integer h y =
      let n : (cell_in m i).tag ≡ INT → ⊥ = λ e. h (sym (ap (λ x. x.tag) (head y)) ∙ e) in
      other (λ e. absurd (n e)) (λ e. absurd (n e))

  -- the second cell is not the closing one, and no sign's but NOT's
  no_sign : {t p d u q e : ℕ} {w : List ℕ} → (u ≡ WHOLE → ⊥) → (u ≡ UNARY → e ≡ 6) → Lies m i (t ∷ p ∷ d ∷ u ∷ q ∷ e ∷ w) → LooksAt m i nolit
  no_sign h g y =
      let b = second y in
      other (λ _ k. h (sym (ap (λ x. x.tag) b) ∙ k)) (λ _ k _. ap (λ x. x.datum) b ∙ g (sym (ap (λ x. x.tag) b) ∙ k))

  -- three items: neither the second nor the third is the closing cell
  three : {xs : List ℕ} (w : List ℕ) → Without WHOLE xs → 9 ≤ length xs → Lies m i (xs ++ w) → LooksAt m i nolit
  three w none l y = absurd (omega arith)
  three w (next a none) l y = absurd (omega arith)
  three w (next a (next b none)) l y = absurd (omega arith)
  three w (next a (next b (next c r))) l y =
      other
      (λ _ k. eqb-false _ _ b (sym (ap (λ x. x.tag) (second y)) ∙ k))
      (λ _ _ k. absurd (eqb-false _ _ c (sym (third y) ∙ k)))

-- how long the cells of an expression are

ended : (xs : List ℕ) (t p d : ℕ) → length (xs ++ cell t p d) ≡ length xs + 3
unfolding cell
ended xs t p d = length-append xs (cell t p d)

-- at least one cell
least : (e : Expr) → 3 ≤ length (expr_cells e)
unfolding expr_cells cell
least (num z) = omega arith
least (flag b) = omega arith
least (var j) = omega arith
least (un ι o a) = omega (arith, ended (expr_cells a) UNARY ι (un_code o))
least (bin ι o a b) = omega (arith, ended (expr_cells a ++ expr_cells b) BINARY ι (bin_code o))
least (pls a) = omega (arith, ended (expr_cells a) UNARY 0 0)
least (par a) = omega (arith, ended (expr_cells a) OPEN 0 0)

-- two expressions: at least two cells
both : (a b : Expr) → 6 ≤ length (expr_cells a ++ expr_cells b)
both a b = omega (arith, length-append (expr_cells a) (expr_cells b), least a, least b)

-- What a sign or parentheses stand around: an integer, or what is none for them

-- whatever cell of an operator or a parenthesis stands behind these, they are read as no literal
abbrev Apart : List ℕ → Type 0
Apart xs = (m : List ℕ) (i t p d : ℕ) (w : List ℕ) → eqb t WHOLE ≡ false → Lies m i ((xs ++ cell t p d) ++ w) → LooksAt m i nolit

data Inner : Expr → Type 0 where
  integer : {n : ℕ} → n < 2147483648 → Inner (num (pos n))
  apart : {a : Expr} → con_of a ≡ nolit → Apart (expr_cells a) → Inner a

-- TRUE, FALSE or a name
leaf : (t d : ℕ) → (t ≡ INT → ⊥) → Apart (cell t 0 d)
unfolding cell
leaf t d h m i u p e w k y = no_integer h y

-- two cells or more
large : (xs : List ℕ) → Without WHOLE xs → 6 ≤ length xs → Apart xs
unfolding cell
large xs r l m i t p d w k y = three w (without_both r (next k none)) (omega (arith, ended xs t p d)) y

-- an expression with an operator or parentheses
longer : (xs : List ℕ) (t p d : ℕ) → Without WHOLE (xs ++ cell t p d) → 3 ≤ length xs → Apart (xs ++ cell t p d)
longer xs t p d r l = large (xs ++ cell t p d) r (omega (arith, ended xs t p d))

-- every expression is one or the other
inner : (a : Expr) → FitE a → Inner a
unfolding expr_cells truth_kind con_of
inner (num (pos n)) f = integer f
inner (num (negsuc n)) f = absurd f
inner (flag true) f = apart refl (leaf TRUE _ (λ e. omega arith))
inner (flag false) f = apart refl (leaf FALSE _ (λ e. omega arith))
inner (var j) f = apart refl (leaf NAME j (λ e. omega arith))
inner (un ι o a) f = apart refl (longer (expr_cells a) UNARY ι (un_code o) (expr_run (un ι o a)) (least a))
inner (bin ι o a b) f = apart refl (longer (expr_cells a ++ expr_cells b) BINARY ι (bin_code o) (expr_run (bin ι o a b)) (omega (arith, both a b)))
inner (pls a) f = apart refl (longer (expr_cells a) UNARY 0 0 (expr_run (pls a)) (least a))
inner (par a) f = apart refl (longer (expr_cells a) OPEN 0 0 (expr_run (par a)) (least a))

-- a sign before what is no integer
no_literal : (o : Un) → neg_lit o nolit ≡ nolit
unfolding neg_lit
no_literal Neg = refl
no_literal Not = refl

module _ {m : List ℕ} {i : ℕ} (more : ℕ) where
  -- `-` or NOT
  with_sign : (ι : ℕ) (o : Un) {a : Expr} → Inner a → Lies m i (held_cells more (un ι o a)) → LooksAt m i (neg_lit o (con_of a))
  unfolding held_cells expr_cells cell to_u un_code neg_lit con_of signed_of
  with_sign ι Neg (integer h) y = two h (λ e. omega arith) y
  with_sign ι Not (integer h) y = no_sign (λ e. omega arith) (λ _. refl) y
  with_sign ι o (apart c k) y = rw (c, no_literal o) (k m i UNARY ι (un_code o) _ refl y)

  -- unary plus
  with_plus : {a : Expr} → Inner a → Lies m i (held_cells more (pls a)) → LooksAt m i (con_of a)
  unfolding held_cells expr_cells cell to_u con_of signed_of
  with_plus (integer h) y = two h (λ e. omega arith) y
  with_plus (apart c k) y = rw c (k m i UNARY 0 0 _ refl y)

  -- parentheses
  enclosed : {a : Expr} → Inner a → Lies m i (held_cells more (par a)) → LooksAt m i nolit
  unfolding held_cells expr_cells cell to_u
  enclosed (integer h) y = no_sign (λ e. omega arith) (λ e. absurd (omega arith)) y
  enclosed (apart c k) y = k m i OPEN 0 0 _ refl y

  -- every expression is read as what it is
  pub looks : (e : Expr) → FitE e → Lies m i (held_cells more e) → LooksAt m i (lit_of e)
  unfolding held_cells expr_cells cell to_u truth_kind lit_of
  looks (num (pos n)) f y = one f y
  looks (num (negsuc n)) f y = absurd f
  looks (flag true) f y = no_integer (λ e. omega arith) y
  looks (flag false) f y = no_integer (λ e. omega arith) y
  looks (var j) f y = no_integer (λ e. omega arith) y
  looks (un ι o a) f y = with_sign ι o (inner a f) y
  looks (bin ι o a b) f y = large (expr_cells a ++ expr_cells b) (without_both (expr_run a) (expr_run b)) (both a b) m i BINARY ι (bin_code o) _ refl y
  looks (pls a) f y = with_plus (inner a f) y
  looks (par a) f y = enclosed (inner a f) y

-- What the code answers

module _ {a b : Cell} {t : ℕ} where
  -- no value
  pub none_read : {l : Lit} → Looks a b t l → (a.tag ≡ INT → b.tag ≡ WHOLE → ⊥) → (a.tag ≡ INT → b.tag ≡ UNARY → (b.datum ≡ 6 → ⊥) → t ≡ WHOLE → ⊥) → nolit ≡ l
  none_read (alone n h i d w) g k = absurd (g i w)
  none_read (signed minus n h i d u e f w) g k = absurd (k i u f w)
  none_read (other p q) g k = refl

  -- an integer alone
  pub alone_read : {l : Lit} {z : Option ℤ} → Looks a b t l → a.tag ≡ INT → b.tag ≡ WHOLE → (a.datum < 2147483648 → z ≡ Some (signed_of false a.datum)) → lit_in z ≡ l
  unfolding signed_of lit_in
  alone_read (alone n h i d w) ti tw k = rw (k (omega arith), d)
  alone_read (signed minus n h i d u e f w) ti tw k = absurd (omega arith)
  alone_read (other p q) ti tw k = absurd (p ti tw)

  -- an integer and a sign
  pub signed_read : {l : Lit} {z : Option ℤ} → Looks a b t l → a.tag ≡ INT → b.tag ≡ UNARY → (b.datum ≡ 6 → ⊥) → t ≡ WHOLE
      → (a.datum < 2147483648 → z ≡ Some (signed_of (eqb b.datum 5) a.datum)) → lit_in z ≡ l
  unfolding lit_in
  signed_read (alone n h i d w) ti tu f tw k = absurd (omega arith)
  signed_read (signed minus n h i d u e g w) ti tu f tw k = rw (k (omega arith), d, e)
  signed_read (other p q) ti tu f tw k = absurd (f (q ti tu tw))

-- as the code reads the cells, one after another
pub looks_as : {m : List ℕ} {i j k t : ℕ} {a b : Cell} (more : ℕ) (e : Expr) → a ≡ cell_in m i → j ≡ behind m i → b ≡ cell_in m j → k ≡ behind m j → t ≡ (cell_in m k).tag
    → Lies m i (held_cells more e) → FitE e → Looks a b t (lit_of e)
looks_as more e p q r s u y f = rw (p, u, s, r, q) (looks more e f y)
