-- The tag that a part of the core program starts with, and which part it tells. Assumes nothing.
use mathlib.Core.Path.{◌≡◌, refl, sym, ap, subst}
use mathlib.Core.Bool.{Bool, true, false}
use mathlib.Core.List as L
use mathlib.Core.List.{◌++◌}
use Prim.Native.Nat.{ℕ, ◌≤◌}
use native.Mathlib.Omega.{arith}
use lib.Dec.{eqb}
use lib.IntN.{ℤ}
use Rattle.rules.specs.Kinds.{FINISH, CASE, ELSE, END_IF, EXIT, FOR, IF, REPEAT, THEN, WHILE, ASSIGN, COLON, COMMA}
use Rattle.rules.specs.Core.{Expr, Labels, lnil, lab, Stmt, List, Brs, Grps, assign, if, case, for, while, repeat, exit, nil, cons, none, els, elsif, other, grp}
use Rattle.rules.specs.Cells.{cell, end_cell}
use Rattle.rules.specs.CoreCells.{span_cells, stmt_cells, body_cells, brs_cells, grps_cells}
use Rattle.theorems.specs.Levels.{levels_s, nest_s}
use Rattle.cells.specs.Reading.{cell_in, is_label, Lies}
use Rattle.cells.specs.Laws.{lies_first, cell_lies}

unfoldable pub head_lb : Labels → ℕ
head_lb lnil = COLON
head_lb (lab low high ls) = COMMA

unfoldable pub head_s : Stmt → ℕ
head_s (assign i e) = ASSIGN
head_s (if b) = IF
head_s (case e g) = CASE
head_s (for v a e s l) = FOR
head_s (while c l) = WHILE
head_s (repeat l c) = REPEAT
head_s exit = EXIT

unfoldable pub head_l : List → ℕ
head_l nil = FINISH
head_l (cons s l) = head_s s

unfoldable pub head_b : Brs → ℕ
head_b none = END_IF
head_b (els l) = ELSE
head_b (elsif c l b) = THEN

unfoldable pub head_g : Grps → ℕ
head_g (other l) = head_l l
head_g (grp ls l g) = head_lb ls

-- the first cell's tag is the one that is read
pub tag_lies : {m : L.List ℕ} {i : ℕ} (t p d : ℕ) (w : L.List ℕ) → Lies m i (cell t p d ++ w) → (cell_in m i).tag ≡ t
tag_lies t p d w y = ap (λ c. c.tag) (cell_lies t p d w y)

pub tag-labels : {m : L.List ℕ} {i : ℕ} (x : Labels) → Lies m i (span_cells x) → (cell_in m i).tag ≡ head_lb x
unfolding span_cells head_lb cell
tag-labels lnil y = tag_lies COLON _ _ _ y
tag-labels (lab low high ls) y = tag_lies COMMA _ _ _ y

pub tag-statement : {m : L.List ℕ} {i : ℕ} (x : Stmt) → Lies m i (stmt_cells x) → (cell_in m i).tag ≡ head_s x
unfolding stmt_cells head_s cell
tag-statement (assign i e) y = tag_lies ASSIGN _ _ _ y
tag-statement (if b) y = tag_lies IF _ _ _ y
tag-statement (case e g) y = tag_lies CASE _ _ _ y
tag-statement (for v a e s l) y = tag_lies FOR _ _ _ y
tag-statement (while c l) y = tag_lies WHILE _ _ _ y
tag-statement (repeat l c) y = tag_lies REPEAT _ _ _ y
tag-statement exit y = tag_lies EXIT _ _ _ y

pub tag-list : {m : L.List ℕ} {i : ℕ} (x : List) → Lies m i (body_cells x) → (cell_in m i).tag ≡ head_l x
unfolding body_cells head_l cell end_cell
tag-list nil y = tag_lies FINISH _ _ _ y
tag-list (cons s l) y = tag-statement s (lies_first (stmt_cells s) (body_cells l) y)

pub tag-branches : {m : L.List ℕ} {i : ℕ} (x : Brs) → Lies m i (brs_cells x) → (cell_in m i).tag ≡ head_b x
unfolding brs_cells head_b cell
tag-branches none y = tag_lies END_IF _ _ _ y
tag-branches (els l) y = tag_lies ELSE _ _ _ y
tag-branches (elsif c l b) y = tag_lies THEN _ _ _ y

pub tag-groups : {m : L.List ℕ} {i : ℕ} (x : Grps) → Lies m i (grps_cells x) → (cell_in m i).tag ≡ head_g x
unfolding grps_cells head_g
tag-groups (other l) y = tag-list l y
tag-groups (grp ls l g) y = tag-labels ls (lies_first (span_cells ls) (body_cells l) (lies_first (span_cells ls ++ body_cells l) (grps_cells g) y))

-- groups start with a label, and no list does
pub label-starts : (x : Labels) → is_label (head_lb x) ≡ true
unfolding is_label head_lb
label-starts lnil = refl
label-starts (lab low high ls) = refl

statement-starts : (x : Stmt) → is_label (head_s x) ≡ false
unfolding is_label head_s
statement-starts (assign i e) = refl
statement-starts (if b) = refl
statement-starts (case e g) = refl
statement-starts (for v a e s l) = refl
statement-starts (while c l) = refl
statement-starts (repeat l c) = refl
statement-starts exit = refl

pub list-starts : (x : List) → is_label (head_l x) ≡ false
unfolding is_label head_l
list-starts nil = refl
list-starts (cons s l) = statement-starts s

-- no statement starts as the end of a list does
pub statement_goes_on : (x : Stmt) → head_s x ≡ FINISH → ⊥
unfolding head_s
statement_goes_on (assign i e) q = omega arith
statement_goes_on (if b) q = omega arith
statement_goes_on (case e g) q = omega arith
statement_goes_on (for v a e s l) q = omega arith
statement_goes_on (while c l) q = omega arith
statement_goes_on (repeat l c) q = omega arith
statement_goes_on exit q = omega arith

-- a statement that is no assignment and no EXIT holds lists
pub nested : (x : Stmt) → (head_s x ≡ ASSIGN → ⊥) → (head_s x ≡ EXIT → ⊥) → 1 ≤ nest_s x
unfolding head_s levels_s
nested (assign i e) a q = absurd (a refl)
nested (if b) a q = omega arith
nested (case e g) a q = omega arith
nested (for v a e s l) b q = omega arith
nested (while c l) a q = omega arith
nested (repeat l c) a q = omega arith
nested exit a q = absurd (q refl)

-- what is to be shown of a statement, where its first tag is known
abbrev pub when : Bool → Type 0 → Type 0 → Type 0
when true A B = A
when false A B = B

module _ (P : Stmt → Type 0) where
  unfoldable pub Arm : ℕ → Type 0
  Arm t =
      when (eqb t ASSIGN) ((i : ℕ) (e : Expr) → P (assign i e))
      (when (eqb t IF) ((b : Brs) → P (if b))
      (when (eqb t CASE) ((e : Expr) (g : Grps) → P (case e g))
      (when (eqb t FOR) ((v : ℕ) (a e : Expr) (s : ℤ) (l : List) → P (for v a e s l))
      (when (eqb t WHILE) ((c : Expr) (l : List) → P (while c l))
      (when (eqb t REPEAT) ((l : List) (c : Expr) → P (repeat l c)) (P exit))))))

  pub by_head : (t : ℕ) → Arm t → (x : Stmt) → head_s x ≡ t → P x
  unfolding Arm head_s
  by_head t a (assign i e) q = subst Arm (sym q) a i e
  by_head t a (if b) q = subst Arm (sym q) a b
  by_head t a (case e g) q = subst Arm (sym q) a e g
  by_head t a (for v b e s l) q = subst Arm (sym q) a v b e s l
  by_head t a (while c l) q = subst Arm (sym q) a c l
  by_head t a (repeat l c) q = subst Arm (sym q) a l c
  by_head t a exit q = subst Arm (sym q) a
