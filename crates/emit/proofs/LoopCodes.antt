-- The code of loops, given what is written for their parts. Assumes nothing.
use mathlib.Core.Path.{◌≡◌, refl, sym, ap, ◌∙◌, subst}
use mathlib.Core.List as L
use mathlib.Core.List.{[], ◌∷◌, ◌++◌, append-nil, append_assoc}
use Prim.Native.Nat.{ℕ, suc, ◌+◌, ◌/◌, ◌%◌, ◌≤◌}
use native.Mathlib.Omega.{arith}
use lib.ListN.{length, drop}
use Rattle.rules.specs.Core.{Stmt, for, while, repeat}
use Rattle.rules.specs.Bytes.{to_u, put4}
use Rattle.rules.specs.Kinds.{BY}
use Rattle.rules.specs.Cells.{cell}
use Rattle.rules.specs.Codes.{Instr, JZ, TICK, STORE, HOLD, FIRST, enc, enc_all}
use Rattle.rules.specs.Translation.{size_e, size_s, size_l, code_s}
use Rattle.rules.specs.CoreCells.{held_cells, stmt_cells, body_cells}
use Rattle.theorems.specs.Levels.{levels_s}
use Rattle.cells.specs.Reading.{cell_in, behind, Moves, Lies}
use Rattle.cells.specs.Laws.{cell_lies, lies_first, lies_rest}
use Rattle.cells.specs.declared.cell.Cell.{Cell}
use Rattle.emit.specs.Places.{ahead, Writes, Wrote}
use Rattle.emit.specs.Compounds.{ForCode, WhileCode, RepeatCode}
use Rattle.emit.specs.Places.{Place}
use Rattle.emit.specs.Sizes.{Sized, capped}
use Rattle.emit.specs.declared.statements.Around.{Around}
use Rattle.emit.proofs.Writing.{wrote_put}
use Rattle.emit.proofs.CodeBytes.{length-s, put_tick, put_store, put_hold}
use Rattle.emit.proofs.SizeSums.{past_cell, onward, HeldDoes, ListDoes}
use Rattle.emit.proofs.PartsDone.{HeldDone, ListDone}
use Rattle.emit.proofs.Following.{wrote_if, instr_on, past_on, held_on, list_on}
use Rattle.emit.proofs.Targets.{ahead_exact, added_exact, size_exact, jump_to, jz_to, first_to, next_to}

-- nothing follows the last part's cells
pub ends : {m a x code code' : L.List ℕ} {p r : Place} → Wrote m (a ++ []) x code code' p r → Wrote m a x code code' p r
ends {a} w = rw (append-nil a) at w

-- where there is room for what follows a statement's TICK there is room for the statement
pub rest_if : {m code code' : L.List ℕ} {p r : Place} (x : Stmt) (start exit fors : ℕ) {k : L.List Instr} → code_s x start exit fors [] ≡ TICK ∷ k → p.code ≡ start + 1
    → (Lies m p.at (drop 3 (stmt_cells x)) → start + size_s x ≤ 8192 → Wrote m (drop 3 (stmt_cells x)) (enc_all k) code code' p r)
    → Wrote m (drop 3 (stmt_cells x)) (drop 1 (enc_all (code_s x start exit fors []))) code code' p r
unfolding enc_all enc
rest_if x start exit fors {k} e at w =
    let n = ap (λ (c : L.List Instr). length (enc_all c)) e in
    rw e (wrote_if (λ l most. w l (omega (arith, length-s x start exit fors))))

-- WHILE: the condition, JZ past the list, the list, and back to the start
pub while_code : (start : ℕ) {m code code₁ code₂ code₃ code₄ : L.List ℕ} {p condition body : Place} {around : Around} {size : Sized} {part end tested last : ℕ}
    → HeldDone m code code₁ p condition → ListDoes m condition.at around.levels size
    → part ≡ capped (size.size + 6) → end ≡ ahead condition.code part
    → Writes code₁ code₂ condition.code (22 ∷ (end % 256) ∷ (end / 256 % 256) ∷ []) tested
    → ListDone (record { exit = end; fors = around.fors; levels = around.levels }) m code₂ code₃ (record { at = condition.at; code = tested }) body
    → Writes code₃ code₄ body.code (21 ∷ (start % 256) ∷ (start / 256 % 256) ∷ []) last
    → record { fine : Moves m p.at body.at; means : WhileCode start around m code code₄ p (record { at = body.at; code = last }) }
unfolding stmt_cells code_s cell size_s levels_s
while_code start {m} {around} w size part end leap body back = record {
  fine = onward m _ _ _ w.fine body.fine;
  means = λ c l f g at. rest_if (while c l) start around.exit around.fors refl at (λ lies room.
      held_on 0 c _ f.0 w.means (λ e₁ lies₁.
      let s = size_exact _ (size_l l) (size.means l lies₁ (omega arith)) (omega arith) in
      let u = added_exact _ _ part (omega arith) in
      let v = ahead_exact _ _ end (omega arith) (omega arith) in
      let z = start + 1 + size_e c + 3 + size_l l + 3 in
      instr_on (JZ z) _ (jz_to z (omega arith) (omega arith) leap) (λ e₂.
      ends (list_on l (start + 1 + size_e c + 3) z around.fors _ f.1 (omega arith) body.means (omega arith) (omega arith) refl (λ e₃ lies₃.
      wrote_put m (jump_to start refl (omega arith) back))))));
}

-- REPEAT: the list, the condition, and back to the start while it is FALSE
pub repeat-code : (start : ℕ) {m code code₁ code₂ code₃ : L.List ℕ} {p body condition : Place} {around : Around} {size test : Sized} {one two end last : ℕ}
    → ListDoes m p.at around.levels size → HeldDoes m size.at test
    → one ≡ capped (size.size + test.size) → two ≡ capped (one + 3) → end ≡ ahead p.code two
    → ListDone (record { exit = end; fors = around.fors; levels = around.levels }) m code code₁ p body → HeldDone m code₁ code₂ body condition
    → Writes code₂ code₃ condition.code (22 ∷ (start % 256) ∷ (start / 256 % 256) ∷ []) last
    → record { fine : Moves m p.at condition.at; means : RepeatCode start around m code code₃ p (record { at = condition.at; code = last }) }
unfolding stmt_cells code_s cell size_s levels_s
repeat-code start {m} {p} {around} size test one two end body w back = record {
  fine = onward m _ _ _ body.fine w.fine;
  means = λ l c f g at. rest_if (repeat l c) start around.exit around.fors refl at (λ lies room.
      let sized = size.means l (lies_first (body_cells l) (held_cells 0 c) lies) (omega arith) in
      let behind = subst (λ i. Lies m i (held_cells 0 c)) (sym (ap (λ s. s.at) sized)) (lies_rest (body_cells l) (held_cells 0 c) lies) in
      let s = size_exact _ (size_l l) sized (omega arith) in
      let t = size_exact _ (size_e c) (test.means 0 c behind) (omega arith) in
      let u = added_exact _ _ one (omega arith) in
      let v = added_exact _ _ two (omega arith) in
      let y = ahead_exact _ _ end (omega arith) (omega arith) in
      list_on l (start + 1) (start + 1 + size_l l + size_e c + 3) around.fors _ f.0 (omega arith) body.means at (omega arith) refl (λ e₁ lies₁.
      ends (held_on 0 c _ f.1 w.means (λ e₂ lies₂.
      wrote_put m (jz_to start refl (omega arith) back)))));
}

-- FOR: the bounds, the held final value, the first test; at each pass a tick, the list, and the step
pub for_code : (slot : ℕ) {m code code₁ code₂ code₃ code₄ code₅ code₆ code₇ code₈ : L.List ℕ} {p initial last body : Place} {around : Around} {by : Cell} {size : Sized}
    {next top part end kept stored tested ticked fors done : ℕ}
    → HeldDone m code code₁ p initial → HeldDone m code₁ code₂ initial last → by ≡ cell_in m last.at → next ≡ behind m last.at → ListDoes m next around.levels size
    → top ≡ ahead last.code 13 → part ≡ capped (size.size + 23) → end ≡ ahead last.code part
    → Writes code₂ code₃ last.code (26 ∷ (around.fors % 256) ∷ []) kept
    → Writes code₃ code₄ kept (4 ∷ (slot % 256) ∷ []) stored
    → Writes code₄ code₅ stored (27 ∷ (around.fors % 256) ∷ (slot % 256) ∷ put4 by.datum ((end % 256) ∷ (end / 256 % 256) ∷ [])) tested
    → Writes code₅ code₆ tested (1 ∷ []) ticked
    → fors ≡ ahead around.fors 1
    → ListDone (record { exit = end; fors = fors; levels = around.levels }) m code₆ code₇ (record { at = next; code = ticked }) body
    → Writes code₇ code₈ body.code (28 ∷ (around.fors % 256) ∷ (slot % 256) ∷ put4 by.datum ((top % 256) ∷ (top / 256 % 256) ∷ [])) done
    → record { fine : Moves m p.at body.at; means : ForCode slot around m code code₈ p (record { at = body.at; code = done }) }
unfolding stmt_cells code_s cell size_s levels_s
for_code slot {m} {last} {around} w v by is size top part end kept stored first tick count body step = record {
  fine = onward m _ _ _ (onward m _ _ _ w.fine v.fine) (onward m _ _ _ (past_cell m last.at is) body.fine);
  means = λ start a e s l f g at. rest_if (for slot a e s l) start around.exit around.fors refl at (λ lies room.
      let n = around.fors in
      let t = start + 1 + size_e a + size_e e + 2 + 2 + 9 in
      let z = t + 1 + size_l l + 9 in
      simp append_assoc (held_on 0 a _ f.1 w.means (λ e₁ lies₁.
      held_on 1 e _ f.2 v.means (λ e₂ lies₂.
      let d = ap (λ (c : Cell). c.datum) (by ∙ cell_lies BY 0 (to_u s) (body_cells l) lies₂) in
      past_on BY 0 (to_u s) is (λ lies₃.
      let y = size_exact _ (size_l l) (size.means l lies₃ (omega arith)) (omega arith) in
      let top' = ahead_exact _ _ top (omega arith) (omega arith) in
      let part' = added_exact _ _ part (omega arith) in
      let end' = ahead_exact _ _ end (omega arith) (omega arith) in
      let count' = ahead_exact _ _ count (omega arith) (omega arith) in
      instr_on (HOLD n) _ (put_hold n (omega arith) kept) (λ e₃.
      instr_on (STORE slot) _ (put_store slot f.0 stored) (λ e₄.
      instr_on (FIRST n slot s z) _ (first_to n slot s z (omega arith) f.0 d (omega arith) (omega arith) first) (λ e₅.
      instr_on TICK _ (put_tick tick) (λ e₆.
      ends (list_on l (t + 1) z (suc n) _ f.4 (omega arith) body.means (omega arith) (omega arith) (omega arith) (λ e₇ lies₇.
      wrote_put m (next_to n slot s t (omega arith) f.0 d (omega arith) (omega arith) step))))))))))));
}
