-- What lies in lent numbers, taken apart. Assumes nothing.
use Rattle.std.specs.Prelude.{◌≡◌, refl, Bool, true, false, List, [], ◌∷◌, ◌++◌, ℕ, ◌+◌, ◌-◌, ◌≤◌, ◌<◌, leb, length, get_or, drop}
use Rattle.std.proofs.Common.{sym, ap, ◌∙◌, append_assoc, add-zero, arith, length-append, length-drop, get_or-drop, drop-drop, le-leb, leb-true}
use Rattle.std.proofs.lemmas.Bool.{lt-leb}
use Rattle.rules.specs.Base.{pick}
use Rattle.rules.specs.Cells.{cell}
use Rattle.cells.specs.Reading.{cell_in, behind, Lies}
use Rattle.cells.specs.declared.cell.Cell.{Cell}

-- a cell whose numbers are 0 is the cell of zeros
pub zero_cell : (c : Cell) → c.tag ≡ 0 → c.place ≡ 0 → c.datum ≡ 0 → c ≡ record { tag = 0; place = 0; datum = 0 }
zero_cell c = go c.tag c.place c.datum
  where
    go : (t p d : ℕ) → t ≡ 0 → p ≡ 0 → d ≡ 0 → ◌≡◌ {A = Cell} (record { tag = t; place = p; datum = d }) (record { tag = 0; place = 0; datum = 0 })
    go t p d a b c = rw (a, b, c)

-- what the code finds ahead of a place

pub cell_none : (m : List ℕ) (i : ℕ) → length m < i + 3 → cell_in m i ≡ record { tag = 0; place = 0; datum = 0 }
unfolding cell_in
cell_none m i h = rw (lt-leb (i + 3) (length m) h)

pub behind_some : (m : List ℕ) (i : ℕ) → i + 3 ≤ length m → behind m i ≡ i + 3
unfolding behind
behind_some m i h = rw (le-leb (i + 3) (length m) h)

pub behind_none : (m : List ℕ) (i : ℕ) → length m < i + 3 → behind m i ≡ length m
unfolding behind
behind_none m i h = rw (lt-leb (i + 3) (length m) h)

drop_front : (xs ys : List ℕ) → drop (length xs) (xs ++ ys) ≡ ys
drop_front [] ys = refl
drop_front (x ∷ xs) ys = drop_front xs ys

-- the first part
pub lies_first : {m : List ℕ} {i : ℕ} (a w : List ℕ) → Lies m i (a ++ w) → Lies m i a
lies_first a w y = record { rest = w ++ y.rest; lie = y.lie ∙ append_assoc a w y.rest; within = y.within }

-- what lies there ends before the end
pub lies_end : {m : List ℕ} {i : ℕ} (a : List ℕ) → Lies m i a → i + length a ≤ length m
lies_end {m} {i} a y =
    let d = ap (λ (l : List ℕ). length l) y.lie in
    let n = length-drop i m in
    let j = length-append a y.rest in
    let o = y.within in
    omega arith

-- the part behind it
pub lies_rest : {m : List ℕ} {i : ℕ} (a w : List ℕ) → Lies m i (a ++ w) → Lies m (i + length a) w
lies_rest {m} {i} a w y = record {
  rest = y.rest;
  lie = sym (drop-drop (length a) i m) ∙ ap (drop (length a)) (y.lie ∙ append_assoc a w y.rest) ∙ drop_front a (w ++ y.rest);
  within = lies_end a (lies_first a w y);
}

-- a cell that lies there
room : {m : List ℕ} {i : ℕ} (t p d : ℕ) (w : List ℕ) → Lies m i (cell t p d ++ w) → leb (i + 3) (length m) ≡ true
unfolding cell
room {m} {i} t p d w y = let k = lies_end (cell t p d) (lies_first (cell t p d) w y) in le-leb (i + 3) (length m) (omega arith)

pub cell_lies : {m : List ℕ} {i : ℕ} (t p d : ℕ) (w : List ℕ) → Lies m i (cell t p d ++ w) → cell_in m i ≡ record { tag = t; place = p; datum = d }
unfolding cell_in cell
cell_lies {m} {i} t p d w y =
    let a : get_or m i 0 ≡ t = rw (← (add-zero i), ← (get_or-drop i m 0 0), y.lie) in
    let b : get_or m (i + 1) 0 ≡ p = rw (← (get_or-drop i m 1 0), y.lie) in
    let c : get_or m (i + 2) 0 ≡ d = rw (← (get_or-drop i m 2 0), y.lie) in
    rw (room t p d w y, a, b, c)

pub behind_cell : {m : List ℕ} {i : ℕ} (t p d : ℕ) (w : List ℕ) → Lies m i (cell t p d ++ w) → (behind m i ≡ i + 3) × Lies m (i + 3) w
unfolding behind cell
behind_cell t p d w y = (rw (room t p d w y), lies_rest (cell t p d) w y)

-- past a cell fewer numbers are left
pub behind_moves : (m : List ℕ) (i : ℕ) → length m - behind m i ≤ length m - i - 3
unfolding behind
behind_moves m i = go (leb (i + 3) (length m))
  where
    go : (b : Bool) → length m - pick b (λ _. i + 3) (λ _. length m) ≤ length m - i - 3
    go true = omega arith
    go false = omega arith

-- where the tag is not 0, a cell lies there
pub tag_moves : (m : List ℕ) (i : ℕ) → ((cell_in m i).tag ≡ 0 → ⊥) → 3 ≤ length m - i
unfolding cell_in
tag_moves m i h = go (leb (i + 3) (length m)) refl
  where
    go : (b : Bool) → leb (i + 3) (length m) ≡ b → 3 ≤ length m - i
    go true e = let k = leb-true (i + 3) (length m) e in omega arith
    go false e = absurd (h (rw (e, cell_in)))
