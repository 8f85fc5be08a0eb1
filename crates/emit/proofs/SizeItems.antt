-- The cells of an expression and of labels, one by one, with the sizes of their code. Assumes nothing.
use mathlib.Core.Path.{◌≡◌, refl, sym, ap, ◌∙◌, subst}
use mathlib.Core.Bool.{Bool, true, false}
use mathlib.Core.List.{List, [], ◌++◌}
use Prim.Native.Nat.{ℕ, ◌+◌, ◌≤◌}
use native.Mathlib.Nat.{zero-add, add-zero}
use native.Mathlib.Omega.{arith}
use Rattle.rules.specs.Kinds.{INT, NAME, OPEN, COMMA, COLON}
use Rattle.rules.specs.Bytes.{to_u}
use Rattle.rules.specs.Core.{Un, Neg, Not, Expr, num, flag, var, un, bin, pls, par, Labels, lnil, lab}
use Rattle.rules.specs.Codes.{un_code, bin_code}
use Rattle.rules.specs.Depth.{height}
use Rattle.rules.specs.Translation.{size_e, size_lb}
use Rattle.rules.specs.Cells.{cell, truth_kind, UNARY, BINARY, WHOLE}
use Rattle.rules.specs.CoreCells.{expr_cells, held_cells, span_cells}
use Rattle.cells.specs.Reading.{cell_in, behind, is_item, Lies}
use Rattle.cells.specs.Laws.{cell_lies}
use Rattle.cells.specs.declared.cell.Cell.{Cell}
use Rattle.emit.specs.Sizes.{capped, item_size}
use Rattle.emit.specs.Sizes.{Sized}
use Rattle.emit.proofs.CoreHeads.{tag_lies, head_lb, tag-labels}
use Rattle.emit.proofs.SizeSums.{past_cell, HeldDoes, LabelsDo, counts_past}
use Rattle.emit.proofs.SizeLoops.{Rest, End, Loop, Looped, loop_start, loop_turn, loop_done, rest_by, end_past}

-- Expressions

-- cells of items, and the size of their code
pub data Items : List ℕ → ℕ → Type 0 where
  done : Items [] 0
  item : (t p d : ℕ) {w : List ℕ} {n : ℕ} → is_item t ≡ true → Items w n → Items (cell t p d ++ w) (item_size t d + n)

-- one cell, and the size of its code
single : (t p d : ℕ) {n : ℕ} → is_item t ≡ true → item_size t d ≡ n → Items (cell t p d) n
unfolding cell
single t p d h e = subst (λ n. Items (cell t p d) n) (add-zero (item_size t d) ∙ e) (item t p d h done)

items_then : {a b : List ℕ} {x y : ℕ} → Items a x → Items b y → Items (a ++ b) (x + y)
unfolding cell
items_then {b} {y} done v = subst (λ n. Items b n) (sym (zero-add y)) v
items_then {b} {y} (item t p d {w} {n} h u) v =
    let e : item_size t d + (n + y) ≡ item_size t d + n + y = omega arith in
    subst (λ k. Items (cell t p d ++ (w ++ b)) k) e (item t p d h (items_then u v))

-- a cell with no code behind items
silent : {a : List ℕ} {x : ℕ} (t p d : ℕ) → is_item t ≡ true → item_size t d ≡ 0 → Items a x → Items (a ++ cell t p d) x
silent {a} {x} t p d h e u = subst (λ n. Items (a ++ cell t p d) n) (add-zero x) (items_then u (single t p d h e))

truth-item : (b : Bool) (d : ℕ) → Items (cell (truth_kind b) 0 d) 5
unfolding is_item truth_kind item_size
truth-item true d = single _ 0 d refl refl
truth-item false d = single _ 0 d refl refl

-- an operator of one operand has a code that is not 0, and so an instruction
un-size : (o : Un) → item_size UNARY (un_code o) ≡ 1
unfolding item_size un_code
un-size Neg = refl
un-size Not = refl

items_of : (e : Expr) → Items (expr_cells e) (size_e e)
unfolding expr_cells size_e is_item item_size
items_of (num z) = single INT 0 (to_u z) refl refl
items_of (flag b) = truth-item b _
items_of (var i) = single NAME 0 i refl refl
items_of (un ι o a) = items_then (items_of a) (single UNARY ι (un_code o) refl (un-size o))
items_of (bin ι o a b) = items_then (items_then (items_of a) (items_of b)) (single BINARY ι (bin_code o) refl refl)
items_of (pls a) = silent UNARY 0 0 refl refl (items_of a)
items_of (par a) = silent OPEN 0 0 refl refl (items_of a)

-- what is left of an expression and the cell that closes it
pub record Tail : Type 0 where
  pub words : List ℕ
  pub count : ℕ
  pub items : Items words count
  pub depth : ℕ

unfoldable pub tail_cells : Tail → List ℕ
tail_cells t = t.words ++ cell WHOLE 0 t.depth

unfoldable pub tail_size : Tail → ℕ
tail_size t = t.count

-- there is no nesting
abbrev pub flat : {A : Type 0} → A → ℕ
flat x = 0

-- the loop's invariant: it began at i and has come to s
abbrev pub HeldLoop : List ℕ → ℕ → Sized → Type 0
HeldLoop m i s = Looped tail_cells tail_size flat m 0 i s

pub held_start : (m : List ℕ) (i : ℕ) → HeldLoop m i (record { at = i; size = 0 })
held_start m i = loop_start tail_cells tail_size flat m 0 i

-- where the test says that an item lies, a cell does
pub item-ahead : {tag : ℕ} {b : Bool} → b ≡ is_item tag → b ≡ true → tag ≡ 0 → ⊥
unfolding is_item
item-ahead tests holds e = let z : true ≡ false = sym holds ∙ tests ∙ ap is_item e in let y : ◌≡◌ {A = ℕ} 0 1 = cc in omega arith

-- a cell of the expression is read
pub held_turn : {m : List ℕ} {i : ℕ} {s : Sized} {tag k j n : ℕ} {b : Bool} {c : Cell} → HeldLoop m i s → tag ≡ (cell_in m s.at).tag → b ≡ is_item tag → b ≡ true
    → c ≡ cell_in m s.at
    → j ≡ behind m s.at → k ≡ item_size c.tag c.datum → n ≡ capped (s.size + k) → HeldLoop m i (record { at = j; size = n })
unfolding tail_cells tail_size cell is_item
held_turn {m} {i} {s} {tag} {k} {j} {n} {b} {c} old sees tests holds reads past weighs adds =
    loop_turn tail_cells tail_size flat m 0 old (past_cell m s.at past) (λ x l few. go x.depth x.items l)
  where
    go : (depth : ℕ) {w : List ℕ} {z : ℕ} (u : Items w z) → Lies m s.at (w ++ cell WHOLE 0 depth)
        → Rest tail_cells tail_size flat m 0 s (record { words = w; count = z; items = u; depth = depth }) (record { at = j; size = n })
    go depth done l = let z : ◌≡◌ {A = ℕ} 0 1 = cc (tag_lies WHOLE 0 depth [] l) in absurd (omega arith)
    go depth (item t p d {w = w} {n = z} h u) l =
        let e : k ≡ item_size t d = weighs ∙ ap (λ (y : Cell). item_size y.tag y.datum) (reads ∙ cell_lies t p d _ l) in
        rest_by tail_cells tail_size flat m 0 _ (record { words = w; count = z; items = u; depth = depth }) (cell t p d) refl (counts_past t p d past)
        (item_size t d) adds
        (omega arith) (omega arith) (omega arith) l

-- the closing cell is passed
pub held_done : {m : List ℕ} {i : ℕ} {s : Sized} {tag j : ℕ} {b : Bool} → HeldLoop m i s → tag ≡ (cell_in m s.at).tag → b ≡ is_item tag → b ≡ false
    → j ≡ behind m s.at
    → HeldDoes m i (record { at = j; size = s.size })
unfolding tail_cells tail_size cell held_cells
held_done {m} {i} {s} {tag} {j} {b} old sees tests fails past =
    let d = loop_done tail_cells tail_size flat m 0 old (past_cell m s.at past) (λ x l few whole. last x.depth x.items l whole) in
    record {
      fine = d.fine;
      means = λ more e l. d.means (record { words = expr_cells e; count = size_e e; items = items_of e; depth = height e + more }) l (omega arith);
    }
  where
    last : (depth : ℕ) {w : List ℕ} {z : ℕ} (u : Items w z) → Lies m s.at (w ++ cell WHOLE 0 depth) → capped s.size ≡ s.size
        → End tail_cells tail_size s (record { words = w; count = z; items = u; depth = depth }) (record { at = j; size = s.size })
    last depth done l whole = end_past tail_cells tail_size flat m 0 _ WHOLE 0 depth refl refl past l whole
    last depth (item t p d h u) l whole = let z : ◌≡◌ {A = ℕ} 0 1 = cc (tag_lies t p d _ l) in absurd (omega arith)

-- Labels

abbrev pub LabelsLoop : List ℕ → ℕ → Sized → Type 0
LabelsLoop m i s = Looped span_cells size_lb flat m 0 i s

pub labels_start : (m : List ℕ) (i : ℕ) → LabelsLoop m i (record { at = i; size = 0 })
labels_start m i = loop_start span_cells size_lb flat m 0 i

-- a label is read
pub labels-turn : {m : List ℕ} {i : ℕ} {s : Sized} {tag j n : ℕ} → LabelsLoop m i s → tag ≡ (cell_in m s.at).tag → tag ≡ COMMA → j ≡ behind m s.at
    → n ≡ capped (s.size + 12)
    → LabelsLoop m i (record { at = j; size = n })
unfolding span_cells size_lb head_lb
labels-turn {m} {i} {s} {tag} {j} {n} old sees is past adds = loop_turn span_cells size_lb flat m 0 old (past_cell m s.at past) go
  where
    go : Loop span_cells size_lb flat m 0 s (record { at = j; size = n })
    go lnil l few = let q = tag-labels lnil l in absurd (omega arith)
    go (lab low high ls) l few =
        rest_by span_cells size_lb flat m 0 _ ls (cell COMMA (to_u low) (to_u high)) refl (counts_past COMMA (to_u low) (to_u high) past) 12 adds
        (omega arith) (omega arith) (omega arith) l

-- the closing cell is passed
pub labels_done : {m : List ℕ} {i : ℕ} {s : Sized} {tag j : ℕ} → LabelsLoop m i s → tag ≡ (cell_in m s.at).tag → (tag ≡ COMMA → ⊥) → j ≡ behind m s.at
    → LabelsDo m i (record { at = j; size = s.size })
unfolding span_cells size_lb head_lb cell
labels_done {m} {i} {s} {tag} {j} old sees none past =
    let d = loop_done span_cells size_lb flat m 0 old (past_cell m s.at past) last in
    record { fine = d.fine; means = λ ls l. d.means ls l (omega arith) }
  where
    last : (x : Labels) → Lies m s.at (span_cells x) → 0 ≤ 0 → capped s.size ≡ s.size → End span_cells size_lb s x (record { at = j; size = s.size })
    last lnil l few whole = end_past span_cells size_lb flat m 0 _ COLON 0 0 refl refl past l whole
    last (lab low high ls) l few whole = absurd (none (sees ∙ tag-labels (lab low high ls) l))
