-- What a reader reads, said of the numbers that it read at first: it leaves them as they are. Assumes nothing.
use mathlib.Core.Path.{◌≡◌, sym, ap, ◌∙◌}
use mathlib.Core.Bool.{Bool, true, false, not}
use mathlib.Core.List.{List}
use Prim.Native.Nat.{ℕ}
use lib.Dec.{eqb}
use Rattle.std.proofs.lemmas.Bool.{eqb-true, eqb-false}
use Rattle.std.specs.Prelude.{Option, Some, None}
use Rattle.std.specs.Option.{is_some}
use Rattle.cells.specs.Reading.{cell_in, behind, Moves, Takes}
use Rattle.cells.specs.declared.cell.Cell.{Cell}
use Rattle.cells.specs.declared.reader.Reader.{Reader}
use Rattle.emit.specs.declared.sizes.Size.{Size}
use Rattle.emit.specs.Sizes.{Sized, sized_at, Ahead, HeldSize, LabelsSize, StatementSize, CompoundSize, ListSize, BranchesSize, GroupsSize}
use Rattle.emit.proofs.SizeSums.{HeldDoes, LabelsDo, StatementDoes, CompoundDoes, ListDoes, BranchesDo, GroupsDo}

-- what a function that reads a size promises, whole
abbrev pub ReadsAt : (List ℕ → ℕ → Sized → Type 0) → List ℕ → List ℕ → ℕ → ℕ → ℕ → Type 0
ReadsAt P a a' i j n = record { same : a' ≡ a; fine : Moves a i j; means : P a i (sized_at j n) }

-- a cell that the loop ends at is passed, or any other left where it lies
pub stayed : (a : List ℕ) (i : ℕ) (r : Option Cell) {f n : Bool} {j : ℕ} → Takes f a i r j → is_some r ≡ not n → n ≡ true → (f ≡ false) × (j ≡ i)
stayed a i None t e h = t
stayed a i (Some c) t e h = cc

pub taken : (a : List ℕ) (i : ℕ) (r : Option Cell) {f n : Bool} {j : ℕ} → Takes f a i r j → is_some r ≡ not n → n ≡ false → (f ≡ true) × (j ≡ behind a i)
taken a i None t e h = cc
taken a i (Some c) t e h = (t.0, t.2)

module _ {a m : List ℕ} (e : a ≡ m) where
  -- the cell ahead
  pub cell_of : (i : ℕ) {c : Cell} → c ≡ cell_in a i → c ≡ cell_in m i
  cell_of i h = rw e at h

  pub tag_of : (i : ℕ) {c : Cell} → c ≡ cell_in a i → c.tag ≡ (cell_in m i).tag
  tag_of i h = ap (λ (c : Cell). c.tag) (cell_of i h)

  -- a test of its kind
  pub seen : (i k : ℕ) {b : Bool} → b ≡ eqb (cell_in a i).tag k → b ≡ true → (cell_in m i).tag ≡ k
  seen i k h t = rw e at (eqb-true (cell_in a i).tag k (sym h ∙ t))

  pub unseen : (i k : ℕ) {b : Bool} → b ≡ eqb (cell_in a i).tag k → b ≡ false → (cell_in m i).tag ≡ k → ⊥
  unseen i k h t = rw e at (eqb-false (cell_in a i).tag k (sym h ∙ t))

  -- parts
  pub held_read : {a' : List ℕ} {i j n : ℕ} → ReadsAt HeldSize a a' i j n → HeldDoes m i (sized_at j n)
  held_read h = rw (← e) (record { fine = h.fine; means = h.means })

  pub labels_read : {a' : List ℕ} {i j n : ℕ} → ReadsAt LabelsSize a a' i j n → LabelsDo m i (sized_at j n)
  labels_read h = rw (← e) (record { fine = h.fine; means = h.means })

  pub statement_read : {levels : ℕ} {a' : List ℕ} {i j n : ℕ} → ReadsAt (λ a i. StatementSize a i levels) a a' i j n → StatementDoes m i levels (sized_at j n)
  statement_read h = rw (← e) (record { fine = h.fine; means = h.means })

  pub compound_read : {levels : ℕ} {a' : List ℕ} {i j n : ℕ} → ReadsAt (λ a i. CompoundSize a i levels) a a' i j n → CompoundDoes m i levels (sized_at j n)
  compound_read h = rw (← e) (record { fine = h.fine; means = h.means })

  pub list_read : {levels : ℕ} {a' : List ℕ} {i j n : ℕ} → ReadsAt (λ a i. ListSize a i levels) a a' i j n → ListDoes m i levels (sized_at j n)
  list_read h = rw (← e) (record { fine = h.fine; means = h.means })

  pub branches_read : {levels : ℕ} {a' : List ℕ} {i j n : ℕ} → ReadsAt (λ a i. BranchesSize a i levels) a a' i j n → BranchesDo m i levels (sized_at j n)
  branches_read h = rw (← e) (record { fine = h.fine; means = h.means })

  pub groups_read : {levels : ℕ} {a' : List ℕ} {i j n : ℕ} → ReadsAt (λ a i. GroupsSize a i levels) a a' i j n → GroupsDo m i levels (sized_at j n)
  groups_read h = rw (← e) (record { fine = h.fine; means = h.means })

-- parts that lie ahead
module _ {m : List ℕ} {from : Reader} {size : Size} (e : from.memory.now ≡ m) where
  pub labels_ahead : (h : Ahead LabelsSize from size) → LabelsDo m from.at (sized_at h.at size.0)
  labels_ahead h = rw (← e) (record { fine = h.fine; means = h.means })

  pub list_ahead : {levels : ℕ} (h : Ahead (λ a i. ListSize a i levels) from size) → ListDoes m from.at levels (sized_at h.at size.0)
  list_ahead h = rw (← e) (record { fine = h.fine; means = h.means })

  pub branches_ahead : {levels : ℕ} (h : Ahead (λ a i. BranchesSize a i levels) from size) → BranchesDo m from.at levels (sized_at h.at size.0)
  branches_ahead h = rw (← e) (record { fine = h.fine; means = h.means })

  pub groups_ahead : {levels : ℕ} (h : Ahead (λ a i. GroupsSize a i levels) from size) → GroupsDo m from.at levels (sized_at h.at size.0)
  groups_ahead h = rw (← e) (record { fine = h.fine; means = h.means })
