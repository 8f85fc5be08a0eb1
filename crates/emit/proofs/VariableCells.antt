-- The variables of the core program, cell by cell: counted, and put into an image. Assumes nothing.
use mathlib.Core.Path.{◌≡◌, refl, sym, ap, ◌∙◌, subst}
use mathlib.Core.Bool.{Bool, true, false, not}
use Rattle.std.proofs.lemmas.Bool.{eqb-true}
use mathlib.Core.List.{List, [], ◌∷◌, ◌++◌}
use Prim.Native.Nat.{ℕ, ◌+◌, ◌*◌, ◌≤◌, ◌<◌, min}
use native.Mathlib.Omega.{arith}
use lib.Dec.{eqb}
use lib.IntN.{ℤ}
use lib.ListN.{length}
use lib.Seq.{sets}
use Rattle.rules.specs.Limits.{token_numbers}
use Rattle.rules.specs.Numbers.{Ty, bool, dint}
use Rattle.rules.specs.Bytes.{of_u, to_u, put4}
use Rattle.rules.specs.Kinds.{FINISH}
use Rattle.rules.specs.Cells.{cell, end_cell, type_kind}
use Rattle.rules.specs.Core.{Variable}
use Rattle.rules.specs.CoreCells.{variable_cell, variable_cells}
use Rattle.rules.specs.Image.{var_bytes}
use Rattle.theorems.specs.Declarations.{Held, Declared}
use Rattle.theorems.specs.Decoding.{of_u-to_u}
use Rattle.theorems.specs.Records.{held_small}
use Rattle.cells.specs.Reading.{cell_in, behind, Lies}
use Rattle.cells.specs.Laws.{cell_lies, behind_cell}
use Rattle.cells.specs.declared.cell.Cell.{Cell}
use Rattle.writing.specs.Puts.{put_at}
use Rattle.writing.proofs.Buffers.{sets_append, put_in}
use Rattle.emit.specs.Records.{type_told}

-- whether a cell is another than the one that ends them
pub goes_on : (t : ℕ) → not (eqb t FINISH) ≡ true → t ≡ FINISH → ⊥
goes_on t h e = let z : not (eqb FINISH FINISH) ≡ true = rw e at h in cc

pub at_end : (t : ℕ) → not (eqb t FINISH) ≡ false → t ≡ FINISH
at_end t h = eqb-true t FINISH (is_true (eqb t FINISH) h)
  where
    is_true : (b : Bool) → not b ≡ false → b ≡ true
    is_true true e = refl
    is_true false e = cc

-- The cells

-- no type is the end
type-tag : (τ : Ty) → type_kind τ ≡ FINISH → ⊥
unfolding type_kind
type-tag bool e = omega arith
type-tag dint e = omega arith

-- a variable's cell is three numbers
numbers : (v : Variable) (vs : List Variable) → length (variable_cells (v ∷ vs)) ≡ 3 + length (variable_cells vs)
unfolding variable_cells variable_cell cell
numbers v vs = omega arith

module _ {m : List ℕ} {i : ℕ} where
  -- the first variable's cell
  first_cell : (v : Variable) (vs : List Variable) → Lies m i (variable_cells (v ∷ vs)) → cell_in m i ≡ record { tag = type_kind v.type; place = 0; datum = to_u v.init }
  unfolding variable_cells variable_cell
  first_cell v vs l = cell_lies (type_kind v.type) 0 (to_u v.init) (variable_cells vs) l

  -- behind it the others lie
  others : (v : Variable) (vs : List Variable) {j : ℕ} → j ≡ behind m i → Lies m i (variable_cells (v ∷ vs)) → (j ≡ i + 3) × Lies m j (variable_cells vs)
  unfolding variable_cells variable_cell
  others v vs e l = let b = behind_cell (type_kind v.type) 0 (to_u v.init) (variable_cells vs) l in rw (e, b.0) (refl, b.1)

  -- the cell behind the last variable
  last_tag : Lies m i (variable_cells []) → (cell_in m i).tag ≡ FINISH
  unfolding variable_cells end_cell cell
  last_tag l = ap (λ (c : Cell). c.tag) (cell_lies FINISH 0 0 [] l)

  last_passed : Lies m i (variable_cells []) → behind m i ≡ i + length (variable_cells [])
  unfolding variable_cells end_cell cell
  last_passed l = (behind_cell FINISH 0 0 [] l).0

  module _ {tag : ℕ} (sees : tag ≡ (cell_in m i).tag) where
    -- at the end no variable is left
    none_left : tag ≡ FINISH → (left : List Variable) → Lies m i (variable_cells left) → left ≡ []
    none_left e [] l = refl
    none_left e (v ∷ vs) l = absurd (type-tag v.type (ap (λ (c : Cell). c.tag) (sym (first_cell v vs l)) ∙ sym sees ∙ e))

    -- elsewhere there is one
    one_left : (tag ≡ FINISH → ⊥) → Lies m i (variable_cells []) → ⊥
    one_left some l = some (sees ∙ last_tag l)

-- Counting

-- the loop is at i and has counted n of these variables: the rest of them is ahead
pub record Counted (m : List ℕ) (vs : List Variable) (i n : ℕ) : Type 0 where
  pub left : List Variable
  pub lies : Lies m i (variable_cells left)
  pub place : i + length (variable_cells left) ≡ token_numbers + length (variable_cells vs)
  pub count : n + length left ≡ length vs

-- at the start all of them
pub count-starts : {m : List ℕ} {vs : List Variable} → Lies m token_numbers (variable_cells vs) → Counted m vs token_numbers 0
count-starts {vs} l = record { left = vs; lies = l; place = refl; count = omega arith }

module _ {m : List ℕ} {vs : List Variable} {i n tag : ℕ} (sees : tag ≡ (cell_in m i).tag) where
  -- one more
  pub counts_one : (tag ≡ FINISH → ⊥) → {j k : ℕ} → j ≡ behind m i → k ≡ min (n + 1) 64 → length vs ≤ 64 → Counted m vs i n → Counted m vs j k
  counts_one some {j} {k} past more few c = go c.left c.lies c.place c.count
    where
      go : (left : List Variable) → Lies m i (variable_cells left) → i + length (variable_cells left) ≡ token_numbers + length (variable_cells vs) → n + length left ≡ length vs
          → Counted m vs j k
      go [] l place count = absurd (one_left sees some l)
      go (v ∷ left) l place count =
          let o = others v left past l in
          let three = numbers v left in
          let f = o.0 in
          record { left = left; lies = o.1; place = omega arith; count = omega arith }

  -- no more than all
  pub counts-few : (tag ≡ FINISH → ⊥) → length vs ≤ n → Counted m vs i n → ⊥
  counts-few some full c = go c.left c.lies c.count
    where
      go : (left : List Variable) → Lies m i (variable_cells left) → n + length left ≡ length vs → ⊥
      go [] l count = one_left sees some l
      go (v ∷ left) l count = omega arith

  -- at the end all of them, and their last cell is passed
  pub counts_all : tag ≡ FINISH → {j : ℕ} → j ≡ behind m i → Counted m vs i n → (j ≡ token_numbers + length (variable_cells vs)) × (n ≡ length vs)
  counts_all e past c =
      let none = none_left sees e c.left c.lies in
      let l = subst (λ (x : List Variable). Lies m i (variable_cells x)) none c.lies in
      let place = subst (λ (x : List Variable). i + length (variable_cells x) ≡ token_numbers + length (variable_cells vs)) none c.place in
      let count = subst (λ (x : List Variable). n + length x ≡ length vs) none c.count in
      (past ∙ last_passed l ∙ place, omega arith)

-- Putting

empty : (vs : List Variable) → length vs ≡ 0 → vs ≡ []
empty [] e = refl
empty (v ∷ vs) e = absurd (omega arith)

-- the bytes of the first variable, and those of the others
bytes_then : (v : Variable) (vs : List Variable) → var_bytes (v ∷ []) ++ var_bytes vs ≡ var_bytes (v ∷ vs)
unfolding var_bytes put4
bytes_then v vs = refl

five : (v : Variable) → length (var_bytes (v ∷ [])) ≡ 5
unfolding var_bytes put4
five v = refl

-- a type is told by its tag
type_back : (τ : Ty) → type_told (type_kind τ) ≡ τ
unfolding type_told type_kind
type_back bool = refl
type_back dint = refl

-- the loop is at i and at this offset of the image: the rest of these variables is ahead, and is still to be put
pub record Written (m image₀ image : List ℕ) (vs : List Variable) (i offset : ℕ) : Type 0 where
  pub left : List Variable
  pub lies : Lies m i (variable_cells left)
  pub held : Held left
  pub size : offset + 5 * length left ≡ 4 + 5 * length vs
  pub stores : sets image offset (var_bytes left) ≡ sets image₀ 4 (var_bytes vs)

pub write-starts : {m image : List ℕ} {vs : List Variable} → Declared vs → Lies m token_numbers (variable_cells vs) → Written m image image vs token_numbers 4
write-starts {vs} d l = record { left = vs; lies = l; held = d.held; size = refl; stores = refl }

module _ {m image₀ image : List ℕ} {vs : List Variable} {i offset : ℕ} where
  -- one more is put
  pub writes_one : offset < 4 + 5 * length vs → {c : Cell} → c ≡ cell_in m i → {z : ℤ} → z ≡ of_u c.datum → {τ : Ty} → τ ≡ type_told c.tag
      → {image' : List ℕ} → image' ≡ put_at image offset (var_bytes (record { type = τ; init = z } ∷ [])) → {j : ℕ} → j ≡ behind m i
      → {o : ℕ} → o ≡ offset + 5 → length image ≡ length image₀ → 4 + 5 * length vs ≤ length image₀ → Written m image₀ image vs i offset → Written m image₀ image' vs j o
  writes_one some {c} reads {z} signs {τ} tells {image'} puts {j} past {o} further same room w = go w.left w.lies w.held w.size w.stores
    where
      go : (left : List Variable) → Lies m i (variable_cells left) → Held left → offset + 5 * length left ≡ 4 + 5 * length vs
          → sets image offset (var_bytes left) ≡ sets image₀ 4 (var_bytes vs)
          → Written m image₀ image' vs j o
      go [] l held size stores = absurd (omega arith)
      go (v ∷ left) l held size stores =
          let is = reads ∙ first_cell v left l in
          let f : τ ≡ v.type = tells ∙ ap (λ (c : Cell). type_told c.tag) is ∙ type_back v.type in
          let g : z ≡ v.init = signs ∙ ap (λ (c : Cell). of_u c.datum) is ∙ of_u-to_u v.init (held_small v.type v.init held.0) in
          let e : image' ≡ put_at image offset (var_bytes (v ∷ [])) = puts ∙ rw (f, g) in
          let rest = others v left past l in
          let k = five v in
          let q = e ∙ sym (put_in image offset (var_bytes (v ∷ [])) (omega arith)).1 in
          let s = sets_append image offset (var_bytes (v ∷ [])) (var_bytes left) in
          record {
            left = left;
            lies = rest.1;
            held = held.1;
            size = omega arith;
            stores = rw (q, further, ← k) (s ∙ rw (bytes_then v left) stores);
          }

  -- at the end all of them are
  pub writes_all : offset ≡ 4 + 5 * length vs → Written m image₀ image vs i offset → image ≡ sets image₀ 4 (var_bytes vs)
  unfolding var_bytes
  writes_all e w =
      let size = w.size in
      subst (λ (x : List Variable). sets image offset (var_bytes x) ≡ sets image₀ 4 (var_bytes vs)) (empty w.left (omega arith)) w.stores
