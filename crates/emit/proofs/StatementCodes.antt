-- The code of a statement, given what is written for its parts: its TICK, then what its first cell says. Assumes nothing.
use mathlib.Core.Path.{◌≡◌, refl, sym, ap, ◌∙◌}
use mathlib.Core.List as L
use mathlib.Core.List.{[], ◌∷◌, ◌++◌}
use Prim.Native.Nat.{ℕ, ◌+◌, ◌-◌, ◌/◌, ◌%◌, ◌≤◌}
use native.Mathlib.Omega.{arith}
use lib.ListN.{drop}
use Rattle.rules.specs.KindNumbers.{kind_number}
use Rattle.rules.specs.declared.kinds.Kind.{Kind}
use Rattle.rules.specs.Kinds.{CASE, EXIT, FOR, IF, REPEAT, WHILE, ASSIGN}
use Rattle.rules.specs.Core.{Stmt, assign, if, case, for, while, repeat, exit}
use Rattle.rules.specs.Cells.{cell}
use Rattle.rules.specs.Codes.{TICK, enc, enc_all}
use Rattle.rules.specs.Translation.{size_s, size_e, size_b, size_g, code_s}
use Rattle.rules.specs.CoreCells.{stmt_cells}
use Rattle.theorems.specs.Fields.{FitS}
use Rattle.theorems.specs.Levels.{levels_s, fors_s, nest_s}
use Rattle.cells.specs.Reading.{cell_in, behind, Moves}
use Rattle.cells.specs.Laws.{cell_lies}
use Rattle.cells.specs.declared.cell.Cell.{Cell}
use Rattle.emit.specs.Places.{ahead, Writes, Wrote, Allows, StatementCode}
use Rattle.emit.specs.Compounds.{head_of, RestCode, ForCode, WhileCode, RepeatCode}
use Rattle.emit.specs.Places.{Place}
use Rattle.emit.specs.Sizes.{Sized}
use Rattle.emit.specs.declared.statements.Around.{Around}
use Rattle.emit.proofs.Writing.{wrote_put}
use Rattle.emit.proofs.CodeBytes.{put_tick, put_store}
use Rattle.emit.proofs.CoreHeads.{head_s, nested, Arm, by_head}
use Rattle.emit.proofs.SizeSums.{past_cell, onward, BranchesDo, GroupsDo}
use Rattle.emit.proofs.SizeStatements.{repeats, known}
use Rattle.emit.proofs.PartsDone.{HeldDone, StatementDone, CompoundDone, BranchesDone, GroupsDone}
use Rattle.emit.proofs.Following.{wrote_if, wrote_on, past_on, held_on}
use Rattle.emit.proofs.Targets.{ahead_exact, size_exact, jump_to}
use Rattle.emit.proofs.LoopCodes.{ends, rest_if}

-- a statement's cells and its code, with the first cell and the TICK apart
cells-apart : (x : Stmt) → stmt_cells x ≡ cell (head_of x).tag (head_of x).place (head_of x).datum ++ drop 3 (stmt_cells x)
unfolding stmt_cells head_of cell
cells-apart (assign i e) = refl
cells-apart (if b) = refl
cells-apart (case e g) = refl
cells-apart (for v a e s l) = refl
cells-apart (while c l) = refl
cells-apart (repeat l c) = refl
cells-apart exit = refl

code_apart : (x : Stmt) (p e n : ℕ) → enc_all (code_s x p e n []) ≡ enc_all (TICK ∷ []) ++ drop 1 (enc_all (code_s x p e n []))
unfolding code_s enc_all enc
code_apart (assign i a) p e n = refl
code_apart (if b) p e n = refl
code_apart (case a g) p e n = refl
code_apart (for v a b s l) p e n = refl
code_apart (while c l) p e n = refl
code_apart (repeat l c) p e n = refl
code_apart exit p e n = refl

tag-apart : (x : Stmt) → (head_of x).tag ≡ head_s x
unfolding head_of head_s
tag-apart (assign i e) = refl
tag-apart (if b) = refl
tag-apart (case e g) = refl
tag-apart (for v a e s l) = refl
tag-apart (while c l) = refl
tag-apart (repeat l c) = refl
tag-apart exit = refl

-- a statement's first cell has no place
as_head : (x : Stmt) {head : Cell} {tag : ℕ} → tag ≡ head.tag → head ≡ head_of x → record { tag = tag; place = 0; datum = head.datum } ≡ head_of x
unfolding head_of
as_head (assign i e) t h = cc (t, h)
as_head (if b) t h = cc (t, h)
as_head (case e g) t h = cc (t, h)
as_head (for v a e s l) t h = cc (t, h)
as_head (while c l) t h = cc (t, h)
as_head (repeat l c) t h = cc (t, h)
as_head exit t h = cc (t, h)

-- a statement's first cell is its own, so its tag tells the statement
module _ (head : Cell) (P : Stmt → Type 0) where
  pub of_head : (t : ℕ) → head.tag ≡ t → Arm (λ x. head ≡ head_of x → P x) t → (x : Stmt) → head ≡ head_of x → P x
  of_head t e arm x h = by_head (λ x. head ≡ head_of x → P x) t arm x (sym (tag-apart x) ∙ sym (ap (λ (c : Cell). c.tag) h) ∙ e) h

-- behind a statement's first cell and its TICK
abbrev Behind : L.List ℕ → L.List ℕ → L.List ℕ → Place → ℕ → ℕ → Around → Place → Stmt → Type 0
Behind m code₁ code' p next ticked around r x = FitS x → Allows around (fors_s x) (nest_s x) → ticked ≡ p.code + 1
    → Wrote m (drop 3 (stmt_cells x)) (drop 1 (enc_all (code_s x p.code around.exit around.fors []))) code₁ code' (record { at = next; code = ticked }) r

-- a TICK is put and the first cell read; then comes what is behind them
module _ {m code code₁ : L.List ℕ} {p : Place} {head : Cell} {next ticked : ℕ} (is : head ≡ cell_in m p.at) (after : next ≡ behind m p.at) (tick : Writes code code₁ p.code (1 ∷ []) ticked) where
  behind_head : {around : Around} {code' : L.List ℕ} {r : Place} → ((x : Stmt) → head ≡ head_of x → Behind m code₁ code' p next ticked around r x) → StatementCode around m code code' p r
  unfolding enc_all enc
  behind_head {around} w x f g = rw (cells-apart x, code_apart x p.code around.exit around.fors) (wrote_if (λ lies most.
      wrote_on (wrote_put m (put_tick tick)) (λ e l. past_on _ _ _ after (λ l. w x (is ∙ cell_lies _ _ _ _ lies) f g e))))

  -- an assignment: its value, and STORE
  pub assign-code : {code₂ code₃ : L.List ℕ} {value : Place} {around : Around} {done : ℕ} → head.tag ≡ ASSIGN → HeldDone m code₁ code₂ (record { at = next; code = ticked }) value
      → Writes code₂ code₃ value.code (4 ∷ (head.datum % 256) ∷ []) done → StatementDone around m code code₃ p (record { at = value.at; code = done })
  unfolding stmt_cells code_s cell head_of Arm
  assign-code {code₃ = code₃} {value} {around} {done} t w store = record {
    fine = onward m _ _ _ (past_cell m p.at after) w.fine;
    means = behind_head (of_head head (Behind m code₁ code₃ p next ticked around (record { at = value.at; code = done })) ASSIGN t (λ i a h f g e.
        rest_if (assign i a) p.code around.exit around.fors refl e (λ lies room.
        ends (held_on 0 a _ f.1 w.means (λ e₁ lies₁.
        wrote_put m (put_store i f.0 (rw (ap (λ (c : Cell). c.datum) h) at store)))))));
  }

  -- EXIT: a jump to where it leads
  pub exit-code : {code₂ : L.List ℕ} {around : Around} {done : ℕ} → head.tag ≡ EXIT
      → Writes code₁ code₂ ticked (21 ∷ (around.exit % 256) ∷ (around.exit / 256 % 256) ∷ []) done → StatementDone around m code code₂ p (record { at = next; code = done })
  unfolding stmt_cells code_s cell head_of Arm
  exit-code {code₂} {around} {done} t leap = record {
    fine = past_cell m p.at after;
    means = behind_head (of_head head (Behind m code₁ code₂ p next ticked around (record { at = next; code = done })) EXIT t (λ h f g e.
        rest_if exit p.code around.exit around.fors refl e (λ lies room.
        wrote_put m (jump_to around.exit refl g.exit leap))));
  }

  -- one with lists: its lists are a level deeper
  pub compound-code : {code₂ : L.List ℕ} {r : Place} {around : Around} {levels tag : ℕ} → (head.tag ≡ ASSIGN → ⊥) → (head.tag ≡ EXIT → ⊥) → (around.levels ≡ 0 → ⊥) → levels ≡ around.levels - 1 → tag ≡ head.tag
      → CompoundDone (record { tag = tag; place = 0; datum = head.datum }) p.code (record { exit = around.exit; fors = around.fors; levels = levels }) m code₁ code₂ (record { at = next; code = ticked }) r
      → StatementDone around m code code₂ p r
  compound-code {code₂} {around} a q z d k w = record {
    fine = onward m _ _ _ (past_cell m p.at after) w.fine;
    means = behind_head (λ x h f g e.
        let t : head.tag ≡ head_s x = ap (λ (c : Cell). c.tag) h ∙ tag-apart x in
        w.means x (as_head x k h) (nested x (λ k. a (t ∙ k)) (λ k. q (t ∙ k))) f (omega arith) e);
  }

  -- none where no level is left
  pub deep-code : {around : Around} → (head.tag ≡ ASSIGN → ⊥) → (head.tag ≡ EXIT → ⊥) → around.levels ≡ 0 → StatementDone around m code code₁ p (record { at = next; code = ticked })
  deep-code {around} a q z = record {
    fine = past_cell m p.at after;
    means = behind_head (λ x h f g e.
        let t : head.tag ≡ head_s x = ap (λ (c : Cell). c.tag) h ∙ tag-apart x in
        let n = nested x (λ k. a (t ∙ k)) (λ k. q (t ∙ k)) in
        absurd (omega arith));
  }

  -- none where the first cell is of no kind
  pub unknown-code : {around : Around} → ((k : Kind) → head.tag ≡ kind_number k → ⊥) → StatementDone around m code code₁ p (record { at = next; code = ticked })
  unknown-code none = record {
    fine = past_cell m p.at after;
    means = behind_head (λ x h f g e. absurd (known x (λ k t. none k (ap (λ (c : Cell). c.tag) h ∙ tag-apart x ∙ t))));
  }

-- behind the first cell and the TICK of a statement with lists

abbrev Lists : ℕ → Around → L.List ℕ → L.List ℕ → L.List ℕ → Place → Place → Stmt → Type 0
Lists start around m code code' p r x = 1 ≤ nest_s x → RestCode x start around m code code' p r

module _ (start : ℕ) {m code code' : L.List ℕ} {p r : Place} {head : Cell} {around : Around} where
  -- IF: its branches
  pub if_code : {size : Sized} {end : ℕ} → head.tag ≡ IF → BranchesDo m p.at around.levels size → end ≡ ahead p.code size.size
      → BranchesDone end around m code code' p r → CompoundDone head start around m code code' p r
  unfolding stmt_cells code_s cell size_s levels_s Arm
  if_code t size end w = record {
    fine = w.fine;
    means = of_head head (Lists start around m code code' p r) IF t (λ b h n f g e. rest_if (if b) start around.exit around.fors refl e (λ lies room.
        let s = size_exact _ (size_b b) (size.means b lies (omega arith)) (omega arith) in
        let u = ahead_exact _ _ end (omega arith) (omega arith) in
        rw (← e) (w.means b f (omega arith) (omega arith))));
  }

  -- CASE: the selector, and its groups
  pub case-code : {code₁ : L.List ℕ} {selector : Place} {size : Sized} {end : ℕ} → head.tag ≡ CASE → HeldDone m code code₁ p selector → GroupsDo m selector.at around.levels size
      → end ≡ ahead selector.code size.size → GroupsDone end around m code₁ code' selector r → CompoundDone head start around m code code' p r
  unfolding stmt_cells code_s cell size_s levels_s Arm
  case-code {selector} {end} t v size is w = record {
    fine = onward m _ _ _ v.fine w.fine;
    means = of_head head (Lists start around m code code' p r) CASE t (λ a x h n f g e. rest_if (case a x) start around.exit around.fors refl e (λ lies room.
        held_on 0 a _ f.0 v.means (λ e₁ lies₁.
        let s = size_exact _ (size_g x) (size.means x lies₁ (omega arith)) (omega arith) in
        let u = ahead_exact _ _ is (omega arith) (omega arith) in
        let from : start + 1 + size_e a ≡ selector.code = omega arith in
        let to : selector.code + size_g x ≡ end = omega arith in
        rw (from, to) (w.means x f.1 (omega arith) (omega arith)))));
  }

  -- loops
  pub for_arm : head.tag ≡ FOR → record { fine : Moves m p.at r.at; means : ForCode head.datum around m code code' p r } → CompoundDone head start around m code code' p r
  unfolding Arm head_of
  for_arm t w = record { fine = w.fine; means = of_head head (Lists start around m code code' p r) FOR t (λ v a e s l h n. rw (ap (λ (c : Cell). c.datum) h) at (w.means start a e s l)) }

  pub while_arm : head.tag ≡ WHILE → record { fine : Moves m p.at r.at; means : WhileCode start around m code code' p r } → CompoundDone head start around m code code' p r
  unfolding Arm
  while_arm t w = record { fine = w.fine; means = of_head head (Lists start around m code code' p r) WHILE t (λ c l h n. w.means c l) }

  pub repeat-arm : (head.tag ≡ IF → ⊥) → (head.tag ≡ CASE → ⊥) → (head.tag ≡ FOR → ⊥) → (head.tag ≡ WHILE → ⊥) → record { fine : Moves m p.at r.at; means : RepeatCode start around m code code' p r }
      → CompoundDone head start around m code code' p r
  unfolding Arm
  repeat-arm a b c d w = record {
    fine = w.fine;
    means = λ x h n.
        let t : head.tag ≡ head_s x = ap (λ (c : Cell). c.tag) h ∙ tag-apart x in
        let u = t ∙ repeats x n (λ k. a (t ∙ k)) (λ k. b (t ∙ k)) (λ k. c (t ∙ k)) (λ k. d (t ∙ k)) in
        of_head head (Lists start around m code code' p r) REPEAT u (λ l c h n. w.means l c) x h n;
  }
