-- Sizes that are counted no further than 100000, and parts of the core program one behind the other. Assumes nothing.
use mathlib.Core.Path.{◌≡◌, refl, sym, ap, ◌∙◌, subst}
use mathlib.Core.List.{List, [], ◌++◌}
use Prim.Native.Nat.{ℕ, ◌+◌, ◌-◌, ◌≤◌, ◌<◌}
use native.Mathlib.Omega.{arith}
use lib.ListN.{length, length-append}
use Rattle.rules.specs.Core.{Expr, Labels}
use Rattle.rules.specs.Core as core
use Rattle.rules.specs.Translation.{size_e, size_lb, size_s, size_l, size_b, size_g}
use Rattle.rules.specs.Cells.{cell}
use Rattle.rules.specs.CoreCells.{held_cells, span_cells, stmt_cells, body_cells, brs_cells, grps_cells}
use Rattle.theorems.specs.Levels.{nest_s, nest_l, nest_b, nest_g}
use Rattle.cells.specs.Reading.{cell_in, behind, Lies, Moves}
use Rattle.cells.specs.Laws.{lies_first, lies_rest, behind_cell, behind_moves, tag_moves}
use Rattle.emit.specs.Sizes.{capped, sized, HeldSize, LabelsSize, StatementSize, CompoundSize, ListSize, BranchesSize, GroupsSize}
use Rattle.emit.specs.Sizes.{Sized}

-- Moving on

-- a cell is passed
pub past_cell : (m : List ℕ) (i : ℕ) {j : ℕ} → j ≡ behind m i → Moves m i j
past_cell m i e = rw e (behind_moves m i)

-- one part behind the other
pub onward : (m : List ℕ) (i j k : ℕ) → Moves m i j → Moves m j k → Moves m i k
onward m i j k a b = omega arith

-- where a cell lies, fewer numbers are left behind it
pub fewer : (m : List ℕ) (i j : ℕ) {tag : ℕ} → tag ≡ (cell_in m i).tag → (tag ≡ 0 → ⊥) → Moves m i j → length m - j < length m - i
fewer m i j sees some moves = let k = tag_moves m i (λ e. some (sees ∙ e)) in omega arith

-- Counting

-- a sum does not tell a capped part from a whole one
pub capped_left : (a b : ℕ) → capped (capped a + b) ≡ capped (a + b)
unfolding capped
capped_left a b = omega arith

pub capped_twice : (a : ℕ) → capped (capped a) ≡ capped a
unfolding capped
capped_twice a = omega arith

-- so parts may be replaced by others that count the same
pub same_sum : (a b x y : ℕ) → capped a ≡ capped x → capped b ≡ capped y → capped (a + b) ≡ capped (x + y)
unfolding capped
same_sum a b x y p q = omega arith

-- past these cells, whose code has this size, so much is counted
pub record Counts (m cells : List ℕ) (size counted i j : ℕ) : Type 0 where
  pub counts : Lies m i cells → (j ≡ i + length cells) × (capped counted ≡ capped size)

-- a cell is passed, and nothing counted
pub counts_past : {m : List ℕ} {i j : ℕ} (t q d : ℕ) → j ≡ behind m i → Counts m (cell t q d) 0 0 i j
unfolding cell
counts_past t q d e = record { counts = λ l. (e ∙ (behind_cell t q d [] l).0, refl) }

-- one part behind the other
pub counts_then : {m a b : List ℕ} {x y x' y' i j k : ℕ} → Counts m a x x' i j → Counts m b y y' j k → Counts m (a ++ b) (x + y) (x' + y') i k
counts_then {m} {a} {b} {x} {y} {x'} {y'} {i} {j} {k} v w = record { counts = both }
  where
    both : Lies m i (a ++ b) → (k ≡ i + length (a ++ b)) × (capped (x' + y') ≡ capped (x + y))
    both l =
        let one = v.counts (lies_first a b l) in
        let two = w.counts (subst (λ n. Lies m n b) (sym one.0) (lies_rest a b l)) in
        let n = length-append a b in
        (omega (arith, one.0, two.0), same_sum x' y' x y one.1 two.1)

-- what the functions promise: they move on, and they read the size
abbrev pub HeldDoes : List ℕ → ℕ → Sized → Type 0
HeldDoes m i r = record { fine : Moves m i r.at; means : HeldSize m i r }

abbrev pub LabelsDo : List ℕ → ℕ → Sized → Type 0
LabelsDo m i r = record { fine : Moves m i r.at; means : LabelsSize m i r }

abbrev pub StatementDoes : List ℕ → ℕ → ℕ → Sized → Type 0
StatementDoes m i levels r = record { fine : Moves m i r.at; means : StatementSize m i levels r }

abbrev pub CompoundDoes : List ℕ → ℕ → ℕ → Sized → Type 0
CompoundDoes m i levels r = record { fine : Moves m i r.at; means : CompoundSize m i levels r }

abbrev pub ListDoes : List ℕ → ℕ → ℕ → Sized → Type 0
ListDoes m i levels r = record { fine : Moves m i r.at; means : ListSize m i levels r }

abbrev pub BranchesDo : List ℕ → ℕ → ℕ → Sized → Type 0
BranchesDo m i levels r = record { fine : Moves m i r.at; means : BranchesSize m i levels r }

abbrev pub GroupsDo : List ℕ → ℕ → ℕ → Sized → Type 0
GroupsDo m i levels r = record { fine : Moves m i r.at; means : GroupsSize m i levels r }

-- a part that they read
counted : {m cells : List ℕ} {size i : ℕ} {r : Sized} → (Lies m i cells → r ≡ sized (i + length cells) size) → Counts m cells size r.size i r.at
counted h = record { counts = λ l. (ap (λ s. s.at) (h l), ap (λ s. capped s.size) (h l) ∙ capped_twice _) }

pub counts_held : {m : List ℕ} {i : ℕ} {r : Sized} → HeldDoes m i r → (more : ℕ) (e : Expr) → Counts m (held_cells more e) (size_e e) r.size i r.at
counts_held h more e = counted (h.means more e)

pub counts-labels : {m : List ℕ} {i : ℕ} {r : Sized} → LabelsDo m i r → (ls : Labels) → Counts m (span_cells ls) (size_lb ls) r.size i r.at
counts-labels h ls = counted (h.means ls)

pub counts-statement : {m : List ℕ} {i levels : ℕ} {r : Sized} → StatementDoes m i levels r → (x : core.Stmt) → nest_s x ≤ levels
    → Counts m (stmt_cells x) (size_s x) r.size i r.at
counts-statement h x few = counted (λ l. h.means x l few)

pub counts-list : {m : List ℕ} {i levels : ℕ} {r : Sized} → ListDoes m i levels r → (x : core.List) → nest_l x ≤ levels
    → Counts m (body_cells x) (size_l x) r.size i r.at
counts-list h x few = counted (λ l. h.means x l few)

pub counts-branches : {m : List ℕ} {i levels : ℕ} {r : Sized} → BranchesDo m i levels r → (x : core.Brs) → nest_b x ≤ levels
    → Counts m (brs_cells x) (size_b x) r.size i r.at
counts-branches h x few = counted (λ l. h.means x l few)

pub counts-groups : {m : List ℕ} {i levels : ℕ} {r : Sized} → GroupsDo m i levels r → (x : core.Grps) → nest_g x ≤ levels
    → Counts m (grps_cells x) (size_g x) r.size i r.at
counts-groups h x few = counted (λ l. h.means x l few)

-- what lies behind a part lies where it ends
pub counts_behind : {m a : List ℕ} {x x' i j : ℕ} (w : List ℕ) → Counts m a x x' i j → Lies m i (a ++ w) → Lies m j w
counts_behind {m} {a} w v l = subst (λ n. Lies m n w) (sym (v.counts (lies_first a w l)).0) (lies_rest a w l)

-- sums of sums
pub add_on : (a b : ℕ) {p n : ℕ} → p ≡ capped a → n ≡ capped (p + b) → n ≡ capped (a + b)
add_on a b e f = f ∙ ap (λ x. capped (x + b)) e ∙ capped_left a b

-- a part is read to its end, and what is added besides makes up its size
pub counts_done : {m cells : List ℕ} {size counted i j n k : ℕ} → Counts m cells size counted i j → (more total : ℕ) → n ≡ capped k → k ≡ more + counted
    → total ≡ more + size
    → Lies m i cells → ◌≡◌ {A = Sized} (record { at = j; size = n }) (sized (i + length cells) total)
counts_done {m} {cells} {size} {counted} {i} {j} {n} w more total adds parts sums l =
    let d = w.counts l in
    let e : n ≡ capped total = adds ∙ ap capped parts ∙ same_sum more counted more size refl d.1 ∙ ap capped (sym sums) in
    rw (d.0, e)
