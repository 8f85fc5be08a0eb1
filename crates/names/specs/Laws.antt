-- What holds of the declared names in lent numbers: rows stay, one is added, and what is found stands in its row.
use Rattle.std.proofs.Math.Path.{◌≡◌, refl}
use Rattle.std.proofs.Common.{sym, ap, ◌∙◌, zero-add, le_refl, arith, length-take, length-drop, length-take-le, drop-cons, get_or-append-add, get_or-take, take_at}
use Rattle.std.specs.Prelude.{Bool, pos, length, take, drop}
use Rattle.std.proofs.Math.Bool.{true, false}
use mathlib.Core.List.{List, [], ◌∷◌, ◌++◌, append_assoc}
use Rattle.std.proofs.Math.Option.{some}
use Prim.Native.Nat.{ℕ, zero, suc, ◌+◌, ◌*◌, ◌-◌, ◌≤◌, ◌<◌}
use Rattle.std.proofs.Math.Nat.{add-zero}
use Rattle.std.proofs.Math.ListN.{get_or, get_or-append}
use Rattle.std.proofs.lemmas.List.Edits.{sets, sets-eq}
use Rattle.rules.specs.Base.{pick, same}
use Rattle.rules.specs.Tokens.{fold}
use Rattle.rules.specs.Walk.{Var, Slot, find}
use Rattle.names.specs.Rows.{spelling, type_of, row_at, rows_from}

-- Rows

-- there are as many as were asked for
pub length_rows : (text m : List ℕ) (i n : ℕ) → length (rows_from text m i n) ≡ n
unfolding rows_from
length_rows text m i zero = refl
length_rows text m i (suc n) = ap suc (length_rows text m (suc i) n)

-- two memories with the same first k numbers
module _ (text m m' : List ℕ) (k : ℕ) (e : take k m ≡ take k m') where
  -- each of them is the same
  number_stays : (j : ℕ) → j < k → get_or m j 0 ≡ get_or m' j 0
  number_stays j h = sym (get_or-take k m j 0 h) ∙ ap (λ (w : List ℕ). get_or w j 0) e ∙ get_or-take k m' j 0 h

  -- what stands in one row there
  row_stays : (i : ℕ) → 3 * i + 3 ≤ k → row_at text m i ≡ row_at text m' i
  unfolding row_at
  row_stays i h =
      rw (number_stays (3 * i) (omega arith), number_stays (3 * i + 1) (omega arith), number_stays (3 * i + 2) (omega arith))

  -- what stands in several
  rows_from_stay : (i n : ℕ) → 3 * (i + n) ≤ k → rows_from text m i n ≡ rows_from text m' i n
  unfolding rows_from
  rows_from_stay i zero h = refl
  rows_from_stay i (suc n) h = rw (row_stays i (omega arith), rows_from_stay (suc i) n (omega arith))

  -- the first rows are the same if they lie there
  pub rows_stay : (n : ℕ) → 3 * n ≤ k → rows_from text m 0 n ≡ rows_from text m' 0 n
  rows_stay n h = rows_from_stay 0 n (omega arith)

-- the last row by itself
rows_last : (text m : List ℕ) (i n : ℕ) → rows_from text m i (suc n) ≡ rows_from text m i n ++ (row_at text m (i + n) ∷ [])
unfolding rows_from
rows_last text m i zero = rw (add-zero i)
rows_last text m i (suc n) = let e : i + suc n ≡ suc i + n = omega arith in rw (e, rows_last text m (suc i) n)

-- the numbers of a list behind another
behind : (p q : List ℕ) (n j : ℕ) → length p ≡ n → get_or (p ++ q) (n + j) 0 ≡ get_or q j 0
behind p q n j e = rw (← e) (get_or-append-add p q j 0)

-- a row entered behind n others
module _ (text m : List ℕ) (n kind place len : ℕ) (fits : 3 * n + 3 ≤ length m) where
  abbrev row : List ℕ
  row = kind ∷ place ∷ len ∷ []

  -- the numbers of the others
  abbrev before : List ℕ
  before = take (3 * n) m

  -- the others are all there
  before_length : length before ≡ 3 * n
  before_length = length-take-le (3 * n) m (omega arith)

  -- the row stands behind them
  split : sets m (3 * n) row ≡ before ++ (row ++ drop (3 * n + 3) m)
  split = sets-eq row m (3 * n) fits ∙ append_assoc before row (drop (3 * n + 3) m)

  -- each of its numbers does
  number_entered : (j : ℕ) → j < 3 → get_or (sets m (3 * n) row) (3 * n + j) 0 ≡ get_or row j 0
  number_entered j h =
      rw (split, behind before (row ++ drop (3 * n + 3) m) (3 * n) j before_length) (get_or-append row (drop (3 * n + 3) m) 0 j h)

  -- so it is the variable that was entered
  row_entered : row_at text (sets m (3 * n) row) n ≡ record { letters = spelling text place len; type = type_of kind; init = pos 0 }
  unfolding row_at
  row_entered =
      let first : get_or (sets m (3 * n) row) (3 * n) 0 ≡ kind = rw add-zero at (number_entered 0 (omega arith)) in
      rw (first, number_entered 1 (omega arith), number_entered 2 (omega arith))

  -- and the rows are one more
  pub one_row_more : rows_from text (sets m (3 * n) (kind ∷ place ∷ len ∷ [])) 0 (suc n)
      ≡ rows_from text m 0 n ++ (record { letters = spelling text place len; type = type_of kind; init = pos 0 } ∷ [])
  one_row_more =
      rows_last text (sets m (3 * n) row) 0 n
      ∙ rw (zero-add n, row_entered, rows_stay text (sets m (3 * n) row) m (3 * n) (rw split (take_at before _ (3 * n) before_length)) n (le_refl _))

-- Letters

-- folding keeps the length
length_fold : (w : List ℕ) → length (fold w) ≡ length w
unfolding fold
length_fold [] = refl
length_fold (x ∷ w) = ap suc (length_fold w)

-- what the text has folded is spelled there
fold_spells : (text : List ℕ) (place n : ℕ) → place + n ≤ length text → fold (take n (drop place text)) ≡ spelling text place n
unfolding fold spelling
fold_spells text place zero h = refl
fold_spells text place (suc n) h =
    let q : place < length text = omega arith in
    rw (drop-cons text place 0 q, fold_spells text (suc place) n (omega arith))

-- letters that stand in the text are spelled there
pub stands_spelled : (text : List ℕ) (place : ℕ) (l : List ℕ) → l ≡ fold (take (length l) (drop place text)) → l ≡ spelling text place (length l)
unfolding spelling
stands_spelled text place [] e = refl
stands_spelled text place (x ∷ l) e = e ∙ fold_spells text place (length (x ∷ l)) (omega (arith, simp (length_fold, length-take, length-drop) at (ap length e)))

-- Finding

-- variables without their initial values, at which finding does not look
unfoldable pub plainly : List Var → List Var
plainly [] = []
plainly (v ∷ vs) = record { letters = v.letters; type = v.type; init = pos 0 } ∷ plainly vs

-- they are as many
pub length_plainly : (vs : List Var) → length (plainly vs) ≡ length vs
unfolding plainly
length_plainly [] = refl
length_plainly (v ∷ vs) = ap suc (length_plainly vs)

-- those of two lists are those of the first, then those of the second
pub plainly_append : (vs ws : List Var) → plainly (vs ++ ws) ≡ plainly vs ++ plainly ws
unfolding plainly
plainly_append [] ws = refl
plainly_append (v ∷ vs) ws = rw (plainly_append vs ws)

-- the same is found among them
pub find_plainly : (l : List ℕ) (i : ℕ) (vs : List Var) → find l i (plainly vs) ≡ find l i vs
unfolding plainly find
find_plainly l i [] = refl
find_plainly l i (v ∷ vs) = rw (find_plainly l (suc i) vs)

-- what is found
module _ (l : List ℕ) (s : Slot) where
  -- its slot is among variables that start at slot i, and its type is that of the variable there
  abbrev At : ℕ → List Var → Type 0
  At i vs = (i ≤ s.slot) × (s.slot < i + length vs) × ((d : Var) → (get_or vs (s.slot - i) d).type ≡ s.type)

  -- it is the first of them
  at_first : (i : ℕ) (v : Var) (vs : List Var) → some (record { slot = i; type = v.type }) ≡ some s → At i (v ∷ vs)
  at_first i v vs e =
      let p : i ≡ s.slot = cc in
      let q : s.slot - i ≡ 0 = omega arith in
      (omega arith, omega arith, λ d. rw q (cc))

  -- it is one of the others
  at_later : (i : ℕ) (v : Var) (vs : List Var) → At (suc i) vs → At i (v ∷ vs)
  at_later i v vs h =
      let q : s.slot - i ≡ suc (s.slot - suc i) = omega arith in
      (omega arith, omega arith, λ d. rw q (h.2 d))

  -- it is one or the other
  found_at : (i : ℕ) (vs : List Var) → find l i vs ≡ some s → At i vs
  unfolding find
  found_at i [] e = let z : ◌≡◌ {A = ℕ} 0 1 = cc in absurd (omega arith)
  found_at i (v ∷ vs) e = by (same l v.letters) (λ q. found_at (suc i) vs q) e
    where
      by : (b : Bool) → (find l (suc i) vs ≡ some s → At (suc i) vs)
          → pick b (λ _. some (record { slot = i; type = v.type })) (λ _. find l (suc i) vs) ≡ some s → At i (v ∷ vs)
      by true k q = at_first i v vs q
      by false k q = at_later i v vs (k q)

-- its slot is among the variables
pub found_slot : (l : List ℕ) (vs : List Var) (s : Slot) → find l 0 vs ≡ some s → s.slot < length vs
found_slot l vs s e = omega (arith, (found_at l s 0 vs e).1)

-- each of the rows by itself
row_of : (text m : List ℕ) (i n j : ℕ) (d : Var) → j < n → get_or (rows_from text m i n) j d ≡ row_at text m (i + j)
unfolding rows_from
row_of text m i zero j d h = absurd (omega arith)
row_of text m i (suc n) zero d h = rw (add-zero i)
row_of text m i (suc n) (suc j) d h = let e : i + suc j ≡ suc i + j = omega arith in rw e (row_of text m (suc i) n j d (omega arith))

-- among rows its type is that of its row
pub found_row : (l text m : List ℕ) (i n : ℕ) (s : Slot) → find l i (rows_from text m i n) ≡ some s
    → (i ≤ s.slot) × (s.slot < i + n) × (type_of (get_or m (3 * s.slot) 0) ≡ s.type)
unfolding row_at
found_row l text m i n s e =
    let h = found_at l s i (rows_from text m i n) e in
    let k : s.slot < i + n = omega (arith, h.1, length_rows text m i n) in
    let p : i + (s.slot - i) ≡ s.slot = omega (arith, h.0) in
    let d = row_at text m i in
    (h.0, k, (rw (row_of text m i n (s.slot - i) d (omega (arith, h.0)), p) at (h.2 d)))

-- also where the rows are those of variables that have initial values
pub found_type : (l text m : List ℕ) (n : ℕ) (vs : List Var) (s : Slot) → rows_from text m 0 n ≡ plainly vs → find l 0 vs ≡ some s
    → type_of (get_or m (3 * s.slot) 0) ≡ s.type
found_type l text m n vs s r e = (found_row l text m 0 n s (rw r (find_plainly l 0 vs ∙ e))).2
