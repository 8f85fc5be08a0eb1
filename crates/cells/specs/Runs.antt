-- The first cell with a certain tag. Assumes nothing.
use Rattle.std.specs.Prelude.{◌≡◌, false, List, [], ◌∷◌, ◌++◌, ℕ, ◌+◌, ◌≤◌, ◌<◌, eqb, length}
use Rattle.std.proofs.Common.{sym, ap, ◌∙◌, arith, length-append}
use Rattle.std.proofs.lemmas.Bool.{eqb-false}
use Rattle.rules.specs.Cells.{cell}
use Rattle.cells.specs.declared.cell.Cell.{Cell}
use Rattle.cells.specs.Reading.{cell_in, Lies, Moves}
use Rattle.cells.specs.Laws.{cell_lies, behind_cell, lies_end}

-- c is the first cell with the tag from i on, and j is behind it; zeros, and the end, where none comes
pub data Reads (m : List ℕ) (tag : ℕ) : ℕ → Cell → ℕ → Type 0 where
  found : {i : ℕ} → i + 3 ≤ length m → (cell_in m i).tag ≡ tag → Reads m tag i (cell_in m i) (i + 3)
  passed : {i j : ℕ} {c : Cell} → i + 3 ≤ length m → ((cell_in m i).tag ≡ tag → ⊥) → Reads m tag (i + 3) c j → Reads m tag i c j
  ended : {i : ℕ} → length m < i + 3 → Reads m tag i (record { tag = 0; place = 0; datum = 0 }) (length m)

pub reads_on : {m : List ℕ} {tag i j : ℕ} {c : Cell} → Reads m tag i c j → Moves m i j
reads_on (found h e) = omega arith
reads_on (passed h e r) = omega (arith, reads_on r)
reads_on (ended h) = omega arith

-- whole cells, none with this tag
pub data Without (tag : ℕ) : List ℕ → Type 0 where
  none : Without tag []
  next : {t p d : ℕ} {xs : List ℕ} → eqb t tag ≡ false → Without tag xs → Without tag (t ∷ p ∷ d ∷ xs)

pub without_both : {tag : ℕ} {xs ys : List ℕ} → Without tag xs → Without tag ys → Without tag (xs ++ ys)
without_both none s = s
without_both (next h r) s = next h (without_both r s)

-- whatever such cells lie there and then one with the tag: c is that one, and j is behind it
abbrev pub Closes : List ℕ → ℕ → ℕ → Cell → ℕ → Type 0
Closes m tag i c j =
    (xs : List ℕ) (p d : ℕ) → Without tag xs → Lies m i (xs ++ cell tag p d) → (c ≡ record { tag = tag; place = p; datum = d }) × (j ≡ i + length (xs ++ cell tag p d))

pub reads_closing : {m : List ℕ} {tag i j : ℕ} {c : Cell} → Reads m tag i c j → Closes m tag i c j
unfolding cell
reads_closing {tag = tag} (found h e) xs p d none y = (cell_lies tag p d [] y, omega arith)
reads_closing {tag = tag} (found h e) xs p d (next {t = t} {p = a} {d = b} {xs = rest} other w) y =
    absurd (eqb-false _ _ other (sym (ap (λ x. x.tag) (cell_lies t a b (rest ++ cell tag p d) y)) ∙ e))
reads_closing {tag = tag} (passed h e r) xs p d none y = absurd (e (ap (λ x. x.tag) (cell_lies tag p d [] y)))
reads_closing {tag = tag} (passed h e r) xs p d (next {t = t} {p = a} {d = b} {xs = rest} other w) y =
    let k = reads_closing r rest p d w (behind_cell t a b (rest ++ cell tag p d) y).1 in
    (k.0, let n = k.1 in omega arith)
reads_closing {tag = tag} (ended h) xs p d w y = absurd (let e = lies_end _ y in omega (arith, length-append xs (cell tag p d)))
