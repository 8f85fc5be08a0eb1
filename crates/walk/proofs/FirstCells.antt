-- The first cell of a statement, a list, IF's branches and CASE's groups: by its tag the code tells them apart. Assumes nothing.
use mathlib.Core.Path.{◌≡◌, refl, ap, ◌∙◌}
use mathlib.Core.Bool.{Bool, true, false, ◌||◌}
use mathlib.Core.List.{List, [], ◌∷◌, ◌++◌}
use mathlib.Core.Option.{Option, none, some}
use Prim.Native.Nat.{ℕ}
use native.Mathlib.Omega.{arith}
use lib.Dec.{eqb}
use Rattle.rules.specs.Base.{Res}
use Rattle.rules.specs.Kinds.{FINISH, ASSIGN, IF, CASE, FOR, WHILE, REPEAT, EXIT, THEN, ELSE, END_IF, END_CASE, INT, COLON, DOTS}
use Rattle.rules.specs.Syntax.{Name, Exp, Con, con_bool, con_int, Label, label, Stm, assign_s, if_s, case_s, for_s, while_s, repeat_s, exit_s, Stms, empty, then, Branches, no_else, else_b, branch, Groups, no_other, else_g, group}
use Rattle.rules.specs.Cells.{cell, end_cell, name_cell, whole_cells, maybe_cells, truth_kind, sign_kind, con_cells, label_cells, labels_cells, stm_cells, list_cells, branch_cells, group_cells}
use Rattle.walk.specs.Steps.{tag_at, cell_at}
use Rattle.walk.specs.Constants.{is_constant}
use Rattle.walk.specs.Walking.{Scope, Ready, Did}
use Rattle.walk.specs.Places.{Step, Ok, Bad}
use Rattle.walk.proofs.Follow.{Ends, begin}
use Rattle.walk.proofs.Along.{nowhere, tag-ahead}

-- cells that start with one of this tag
pub data Starts (t : ℕ) : List ℕ → Type 0 where
  starts : (p d : ℕ) (w : List ℕ) → Starts t (cell t p d ++ w)

-- then it is the tag ahead
told : {σ : Scope} {m : List ℕ} {at free t : ℕ} {cells : List ℕ} → Ready σ m at free cells → Starts t cells → tag_at m (Ok at free) ≡ t
told y (starts p d w) = tag-ahead _ p d w y

-- where another tag is ahead the walk does not stand before these cells
pub elsewhere : {σ : Scope} {m₀ : List ℕ} {at₀ free₀ : ℕ} {B : Type 0} {Q : B → Type 0} {encode : B → List ℕ} {gain used : ℕ} {mₑ : List ℕ} {r : Step} {slack t k : ℕ} {v w : List ℕ} (m : List ℕ) (s : Step) {R : Res B}
    → k ≡ tag_at m s → Starts t w → (k ≡ t → ⊥) → ((n p : ℕ) → s ≡ Bad n p → r ≡ Bad n p) → Ends σ m₀ at₀ free₀ Q encode gain used mₑ r slack v w m s R
elsewhere m s e z h stays = nowhere s (λ at free q y. h (e ∙ ap (tag_at m) q ∙ told y z)) stays

-- so nothing is to be shown of them
pub never : {σ : Scope} {Given : Type 0} {A : Type 0} {Q : A → Type 0} {encode : A → List ℕ} {gain t k : ℕ} {cells m₁ : List ℕ} (m : List ℕ) (s : Step) {s₁ : Step} {R : Res A} → k ≡ tag_at m s → Starts t cells → (k ≡ t → ⊥)
    → ((n p : ℕ) → s ≡ Bad n p → s₁ ≡ Bad n p) → Did σ Given Q encode gain cells m m₁ s s₁ R
never m s e z h stays = begin (λ given. elsewhere m s e z h stays)

-- a tag other than that of the end is no refusal's
pub no_refusal : {k : ℕ} (m : List ℕ) (s : Step) {r : Step} → k ≡ tag_at m s → (k ≡ FINISH → ⊥) → (n p : ℕ) → s ≡ Bad n p → r ≡ Bad n p
unfolding tag_at cell_at
no_refusal m s e h n p z = absurd (h (e ∙ ap (tag_at m) z))

-- Statements

-- the tag of its first cell
unfoldable pub stm_tag : Stm → ℕ
stm_tag (assign_s v e) = ASSIGN
stm_tag (if_s b) = IF
stm_tag (case_s e g) = CASE
stm_tag (for_s v a e c l) = FOR
stm_tag (while_s c l) = WHILE
stm_tag (repeat_s l c) = REPEAT
stm_tag (exit_s p) = EXIT

-- its cells start with it
pub stm_starts : (x : Stm) → Starts (stm_tag x) (stm_cells x)
unfolding stm_tag stm_cells name_cell cell
stm_starts (assign_s v e) = starts _ _ (whole_cells e)
stm_starts (if_s b) = starts 0 0 (branch_cells b)
stm_starts (case_s e g) = starts 0 0 (whole_cells e ++ group_cells g)
stm_starts (for_s v a e c l) = starts _ _ (((whole_cells a ++ whole_cells e) ++ maybe_cells c) ++ list_cells l)
stm_starts (while_s c l) = starts 0 0 (whole_cells c ++ list_cells l)
stm_starts (repeat_s l c) = starts 0 0 (list_cells l ++ whole_cells c)
stm_starts (exit_s p) = starts p 0 []

-- which is none of the end
pub no_end : (x : Stm) → stm_tag x ≡ FINISH → ⊥
unfolding stm_tag
no_end (assign_s v e) h = omega arith
no_end (if_s b) h = omega arith
no_end (case_s e g) h = omega arith
no_end (for_s v a e c l) h = omega arith
no_end (while_s c l) h = omega arith
no_end (repeat_s l c) h = omega arith
no_end (exit_s p) h = omega arith

-- a statement of this tag
pub data Tagged : ℕ → Stm → Type 0 where
  assign_t : {v : Name} {e : Exp} → Tagged ASSIGN (assign_s v e)
  if_t : {b : Branches} → Tagged IF (if_s b)
  case_t : {e : Exp} {g : Groups} → Tagged CASE (case_s e g)
  for_t : {v : Name} {a e : Exp} {c : Option Con} {l : Stms} → Tagged FOR (for_s v a e c l)
  while_t : {c : Exp} {l : Stms} → Tagged WHILE (while_s c l)
  repeat_t : {l : Stms} {c : Exp} → Tagged REPEAT (repeat_s l c)
  exit_t : {p : ℕ} → Tagged EXIT (exit_s p)

-- each is one of its tag
pub tagged : (x : Stm) → Tagged (stm_tag x) x
unfolding stm_tag
tagged (assign_s v e) = assign_t
tagged (if_s b) = if_t
tagged (case_s e g) = case_t
tagged (for_s v a e c l) = for_t
tagged (while_s c l) = while_t
tagged (repeat_s l c) = repeat_t
tagged (exit_s p) = exit_t

-- Lists

-- the cell that closes it
pub list_ends : Starts FINISH (list_cells empty)
unfolding list_cells end_cell cell
list_ends = starts 0 0 []

-- more cells behind
before : {t : ℕ} {cells : List ℕ} (w : List ℕ) → Starts t cells → Starts t (cells ++ w)
unfolding cell
before w (starts p d u) = starts p d (u ++ w)

-- a statement
pub list_goes_on : (x : Stm) (l : Stms) → Starts (stm_tag x) (list_cells (then x l))
unfolding list_cells
list_goes_on x l = before (list_cells l) (stm_starts x)

-- Branches

pub no_else_lem : Starts END_IF (branch_cells no_else)
unfolding branch_cells cell
no_else_lem = starts 0 0 []

pub an_else : (l : Stms) → Starts ELSE (branch_cells (else_b l))
unfolding branch_cells
an_else l = starts 0 0 (list_cells l)

pub a_branch : (c : Exp) (l : Stms) (b : Branches) → Starts THEN (branch_cells (branch c l b))
unfolding branch_cells cell
a_branch c l b = starts 0 0 ((whole_cells c ++ list_cells l) ++ branch_cells b)

-- Groups

-- whether a group starts with a cell of this tag
abbrev pub opens : ℕ → Bool
opens t = eqb t COLON || is_constant t

pub no_other_lem : Starts END_CASE (group_cells no_other)
unfolding group_cells cell
no_other_lem = starts 0 0 []

pub an_other : (l : Stms) → Starts ELSE (group_cells (else_g l))
unfolding group_cells
an_other l = starts 0 0 (list_cells l)

-- a constant's first cell
con_tag : Con → ℕ
con_tag (con_bool p b) = truth_kind b
con_tag (con_int p below q v) = sign_kind below

-- its cells start with it
con-starts : (c : Con) → Starts (con_tag c) (con_cells c)
unfolding con_tag con_cells cell
con-starts (con_bool p b) = starts p 0 []
con-starts (con_int p below q v) = starts p 0 (cell INT q v)

-- a group may start with it
con-opens : (c : Con) → opens (con_tag c) ≡ true
unfolding con_tag truth_kind sign_kind is_constant
con-opens (con_bool p true) = refl
con-opens (con_bool p false) = refl
con-opens (con_int p true q v) = refl
con-opens (con_int p false q v) = refl

-- a group's: that of its first label, or the one behind its labels if there are none
pub group_tag : List Label → ℕ
group_tag [] = COLON
group_tag (label c d ∷ ls) = con_tag c

-- a label's first cell is that of its low value
label-starts : (c : Con) (d : Option Con) → Starts (con_tag c) (label_cells (label c d))
unfolding label_cells
label-starts c none = con-starts c
label-starts c (some d) = before (con_cells d) (before (cell DOTS 0 0) (con-starts c))

-- so labels start
labels_start : (ls : List Label) → Starts (group_tag ls) (labels_cells ls)
unfolding group_tag labels_cells cell
labels_start [] = starts 0 0 []
labels_start (label c d ∷ ls) = before (labels_cells ls) (label-starts c d)

-- and so does a group
pub a_group : (ls : List Label) (l : Stms) (g : Groups) → Starts (group_tag ls) (group_cells (group ls l g))
unfolding group_cells
a_group ls l g = before (group_cells g) (before (list_cells l) (labels_start ls))

-- the code sees that one starts
pub group-opens : (ls : List Label) → opens (group_tag ls) ≡ true
unfolding group_tag
group-opens [] = refl
group-opens (label c d ∷ ls) = con-opens c
