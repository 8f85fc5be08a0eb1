-- What the loops along lists, branches and groups do: a turn leads on to what is still ahead, and the last part is written behind the turns. Assumes nothing.
use mathlib.Core.Path.{◌≡◌, refl, sym, ap, ◌∙◌, subst}
use mathlib.Core.Bool.{Bool, true, false}
use mathlib.Core.List as L
use mathlib.Core.List.{[], ◌∷◌, ◌++◌, append_assoc}
use Prim.Native.Nat.{ℕ, ◌+◌, ◌-◌, ◌/◌, ◌%◌, ◌≤◌, ◌<◌}
use native.Mathlib.Nat.{le_refl, le_trans, le_of_lt}
use native.Mathlib.Omega.{arith}
use lib.ListN.{length}
use Rattle.rules.specs.Kinds.{FINISH, ELSE, END_IF, THEN}
use Rattle.rules.specs.Core.{Brs, nil, cons, none, els, elsif, other, grp}
use Rattle.rules.specs.Cells.{end_cell}
use Rattle.rules.specs.Codes.{JUMP, JZ, DROP, enc_all}
use Rattle.rules.specs.Translation.{size_e, size_lb, size_l, size_b, size_g, jlen, jmp, code_l, code_b, code_g}
use Rattle.rules.specs.CoreCells.{span_cells, body_cells, brs_cells, grps_cells}
use Rattle.theorems.specs.Levels.{levels_l, levels_b, levels_g}
use Rattle.cells.specs.Reading.{cell_in, behind, is_label, Moves, Lies}
use Rattle.cells.specs.Laws.{lies_first, lies_rest}
use Rattle.emit.specs.Sizes.{capped, jump_size}
use Rattle.emit.specs.Places.{ahead, Writes, Wrote, ListCode, BranchesCode, GroupsCode}
use Rattle.emit.specs.Places.{Place}
use Rattle.emit.specs.Sizes.{Sized}
use Rattle.emit.specs.declared.statements.Around.{Around}
use Rattle.emit.proofs.Writing.{wrote_nothing, wrote_past, wrote_put}
use Rattle.emit.proofs.CodeBytes.{bytes-j, length-b, length-g, length-j, put_drop}
use Rattle.emit.proofs.CoreHeads.{head_l, head_b, head_g, tag-list, tag-branches, tag-groups, statement_goes_on, label-starts, list-starts}
use Rattle.emit.proofs.SizeSums.{past_cell, fewer, onward, LabelsDo, ListDoes}
use Rattle.emit.proofs.SizeLists.{label-ahead, jumps}
use Rattle.emit.proofs.PartsDone.{HeldDone, LabelsDone, StatementDone, ListDone, BranchesDone, GroupsDone}
use Rattle.emit.proofs.Following.{wrote_if, wrote_on, instr_on, past_on, held_on, labels_on, statement_on, list_on}
use Rattle.emit.proofs.Targets.{ahead_exact, added_exact, size_exact, jump_to, jz_to}

-- The loops' invariant: turns moved on from p to q, and whatever keeps the promise P from q on keeps it from p on
pub record Turned (P : L.List ℕ → L.List ℕ → Place → Place → Type 0) (m code code₁ : L.List ℕ) (p q : Place) : Type 0 where
  pub reached : length m - q.at ≤ length m - p.at
  pub leads : (code' : L.List ℕ) (r : Place) → P code₁ code' q r → P code code' p r

module _ {P : L.List ℕ → L.List ℕ → Place → Place → Type 0} {m : L.List ℕ} where
  pub turned_none : (code : L.List ℕ) (p : Place) → Turned P m code code p p
  turned_none code p = record { reached = le_refl _; leads = λ code' r w. w }

  pub turned_on : {code code₁ code₂ : L.List ℕ} {p q r : Place} → Turned P m code code₁ p q → Turned P m code₁ code₂ q r → Turned P m code code₂ p r
  turned_on v w = record { reached = le_trans w.reached v.reached; leads = λ code' r d. v.leads code' r (w.leads code' r d) }

  pub turned_done : {code code₁ code₂ : L.List ℕ} {p q r : Place} → Turned P m code code₁ p q → record { fine : Moves m q.at r.at; means : P code₁ code₂ q r } → record { fine : Moves m p.at r.at; means : P code code₂ p r }
  turned_done v w = record { fine = omega (arith, v.reached, w.fine); means = v.leads _ _ w.means }

-- Lists: a statement, then the others

pub list-turn : {m code code₁ : L.List ℕ} {q q' : Place} {around : Around} {tag : ℕ} → tag ≡ (cell_in m q.at).tag → (tag ≡ FINISH → ⊥) → StatementDone around m code code₁ q q'
    → Turned (ListCode around m) m code code₁ q q'
unfolding body_cells code_l levels_l head_l
list-turn {m} {code} {code₁} {q} {q'} {around} sees go v = record { reached = le_of_lt (fewer m _ _ sees go v.fine); leads = on }
  where
    on : (code' : L.List ℕ) (r : Place) → ListCode around m code₁ code' q' r → ListCode around m code code' q r
    on code' r w nil f g = wrote_if (λ lies most. absurd (go (sees ∙ tag-list nil lies)))
    on code' r w (cons s l) f g = statement_on s _ f.0 (omega arith) v.means (λ e lies.
        rw (← e) (w l f.1 (omega arith)))

pub list_last : {m code : L.List ℕ} {q : Place} {around : Around} {tag next : ℕ} → tag ≡ (cell_in m q.at).tag → tag ≡ FINISH → next ≡ behind m q.at
    → ListDone around m code code q (record { at = next; code = q.code })
unfolding body_cells code_l end_cell head_l enc_all
list_last {m} {code} {q} {around} {next} sees t e = record { fine = past_cell m q.at e; means = last }
  where
    last : ListCode around m code code q (record { at = next; code = q.code })
    last nil f g = rw e (wrote_past m code q FINISH 0 0)
    last (cons s l) f g = wrote_if (λ lies most. absurd (statement_goes_on s (sym (tag-list (cons s l) lies) ∙ sym sees ∙ t)))

-- Branches: a condition, JZ past its list, the list, JUMP if another branch or ELSE follows; then the others

-- JUMP behind a list, where this is its size
pub record Leapt (m code code' : L.List ℕ) (end leap : ℕ) (p q : Place) : Type 0 where
  pub stays : q.at ≡ p.at
  pub leapt : (b : Brs) (z : ℕ) → leap ≡ jlen b → end ≡ z → z ≤ 8192 → Wrote m [] (enc_all (jmp b z [])) code code' p q

pub leapt-jump : {m code code' : L.List ℕ} {end leap r : ℕ} {p : Place} → leap ≡ 3 → Writes code code' p.code (21 ∷ (end % 256) ∷ (end / 256 % 256) ∷ []) r
    → Leapt m code code' end leap p (record { at = p.at; code = r })
unfolding jmp jlen
leapt-jump {m} {code} {code'} {end} {leap} {r} {p} t w = record { stays = refl; leapt = go }
  where
    go : (b : Brs) (z : ℕ) → leap ≡ jlen b → end ≡ z → z ≤ 8192 → Wrote m [] (enc_all (jmp b z [])) code code' p (record { at = p.at; code = r })
    go none z l e h = absurd (omega arith)
    go (els x) z l e h = wrote_put m (jump_to z e h w)
    go (elsif c x b) z l e h = wrote_put m (jump_to z e h w)

pub leapt-none : {m code : L.List ℕ} {end leap : ℕ} {p : Place} → (leap ≡ 3 → ⊥) → Leapt m code code end leap p p
unfolding enc_all jmp jlen
leapt-none {m} {code} {end} {leap} {p} t = record { stays = refl; leapt = go }
  where
    go : (b : Brs) (z : ℕ) → leap ≡ jlen b → end ≡ z → z ≤ 8192 → Wrote m [] (enc_all (jmp b z [])) code code p p
    go none z l e h = wrote_nothing m code p
    go (els x) z l e h = absurd (t l)
    go (elsif c x b) z l e h = absurd (t l)

pub branch_less : (m : L.List ℕ) (i j k : ℕ) {tag next : ℕ} → tag ≡ (cell_in m i).tag → tag ≡ THEN → next ≡ behind m i → Moves m next j → Moves m j k → length m - k < length m - i
branch_less m i j k sees t is held list = fewer m i k sees (λ z. omega arith) (onward m _ _ _ (past_cell m i is) (onward m _ _ _ held list))

pub branch-turn : {m code code₁ code₂ code₃ code₄ : L.List ℕ} {q condition body q' : Place} {around : Around} {size : Sized} {end tag next leap one two far tested : ℕ}
    → tag ≡ (cell_in m q.at).tag → tag ≡ THEN → next ≡ behind m q.at → HeldDone m code code₁ (record { at = next; code = q.code }) condition
    → ListDoes m condition.at around.levels size → leap ≡ jump_size (cell_in m size.at).tag
    → one ≡ capped (3 + size.size) → two ≡ capped (one + leap) → far ≡ ahead condition.code two
    → Writes code₁ code₂ condition.code (22 ∷ (far % 256) ∷ (far / 256 % 256) ∷ []) tested
    → ListDone around m code₂ code₃ (record { at = condition.at; code = tested }) body → Leapt m code₃ code₄ end leap body q'
    → Turned (BranchesCode end around m) m code code₄ q q'
unfolding brs_cells code_b size_b levels_b head_b jmp jlen
branch-turn {m} {code} {code₄ = code₄} {q} {body} {q'} {around} {end} sees t is held few tag one two far leap list leapt = record { reached = rw leapt.stays (le_of_lt (branch_less m _ _ _ sees t is held.fine list.fine)); leads = on }
  where
    on : (code' : L.List ℕ) (r : Place) → BranchesCode end around m code₄ code' q' r → BranchesCode end around m code code' q r
    on code' r w none f g z = wrote_if (λ lies most. let k = sees ∙ tag-branches none lies in absurd (omega arith))
    on code' r w (els l) f g z = wrote_if (λ lies most. let k = sees ∙ tag-branches (els l) lies in absurd (omega arith))
    on code' r w (elsif c l b) f g z = wrote_if (λ lies most.
        let room = length-b (elsif c l b) q.code around.exit around.fors in
        simp append_assoc (past_on THEN 0 0 is (λ lies₁.
        held_on 0 c _ f.0 held.means (λ e₁ lies₁.
        let whole = few.means l (lies_first (body_cells l) (brs_cells b) lies₁) (omega arith) in
        let there = subst (λ i. Lies m i (brs_cells b)) (sym (ap (λ s. s.at) whole)) (lies_rest (body_cells l) (brs_cells b) lies₁) in
        let j = tag ∙ ap jump_size (tag-branches b there) ∙ jumps b in
        let s = size_exact _ (size_l l) whole (omega arith) in
        let one' = added_exact _ _ one (omega arith) in
        let two' = added_exact _ _ two (omega arith) in
        let far' = ahead_exact _ _ far (omega arith) (omega arith) in
        let past = q.code + size_e c + 3 + size_l l + jlen b in
        instr_on (JZ past) _ (jz_to past (omega arith) (omega arith) leap) (λ e₂.
        list_on l (q.code + size_e c + 3) around.exit around.fors _ f.1 (omega arith) list.means (omega arith) refl refl (λ e₃ lies₃.
        rw (bytes-j b (past + size_b b) (code_b b past around.exit around.fors [])) (wrote_on (leapt.leapt b (past + size_b b) j (omega arith) (omega arith)) (λ e₄ lies₄.
        let k = length-j b (past + size_b b) in
        let from : past ≡ q'.code = omega arith in
        rw from (w b f.2 (omega arith) (omega arith))))))))))

-- at the end ELSE's list, or nothing
pub else_last : {m code code₁ : L.List ℕ} {q r : Place} {around : Around} {end tag next : ℕ} → tag ≡ (cell_in m q.at).tag → tag ≡ ELSE → next ≡ behind m q.at
    → ListDone around m code code₁ (record { at = next; code = q.code }) r → BranchesDone end around m code code₁ q r
unfolding brs_cells code_b levels_b head_b
else_last {m} {code} {code₁} {q} {r} {around} {end} sees t e w = record { fine = onward m _ _ _ (past_cell m q.at e) w.fine; means = last }
  where
    last : BranchesCode end around m code code₁ q r
    last none f g z = wrote_if (λ lies most. let k = sees ∙ tag-branches none lies in absurd (omega arith))
    last (els l) f g z = past_on ELSE 0 0 e (λ lies. w.means l f g)
    last (elsif c l b) f g z = wrote_if (λ lies most. let k = sees ∙ tag-branches (elsif c l b) lies in absurd (omega arith))

pub none_last : {m code : L.List ℕ} {q : Place} {around : Around} {end tag tag' next : ℕ} → tag ≡ (cell_in m q.at).tag → (tag ≡ THEN → ⊥) → tag' ≡ (cell_in m q.at).tag → (tag' ≡ ELSE → ⊥)
    → next ≡ behind m q.at → BranchesDone end around m code code q (record { at = next; code = q.code })
unfolding brs_cells code_b head_b enc_all
none_last {m} {code} {q} {around} {end} {next = next} sees t also u e = record { fine = past_cell m q.at e; means = last }
  where
    last : BranchesCode end around m code code q (record { at = next; code = q.code })
    last none f g z = rw e (wrote_past m code q END_IF 0 0)
    last (els l) f g z = wrote_if (λ lies most. absurd (u (also ∙ tag-branches (els l) lies)))
    last (elsif c l b) f g z = wrote_if (λ lies most. absurd (t (sees ∙ tag-branches (elsif c l b) lies)))

-- Groups: the tests, a jump past the list, DROP, the list, a jump to the end; then the others

pub group_less : (m : L.List ℕ) (i j k : ℕ) {label : Bool} {tag : ℕ} → tag ≡ (cell_in m i).tag → label ≡ is_label tag → label ≡ true → Moves m i j → Moves m j k → length m - k < length m - i
group_less m i j k sees is t labels list = fewer m i k sees (label-ahead is t) (onward m _ _ _ labels list)

pub group-turn : {m code code₁ code₂ code₃ code₄ code₅ : L.List ℕ} {q tested done : Place} {around : Around} {tests size : Sized} {label : Bool} {end tag one body two far leapt start last : ℕ}
    → tag ≡ (cell_in m q.at).tag → label ≡ is_label tag → label ≡ true → LabelsDo m q.at tests → one ≡ capped (tests.size + 3) → body ≡ ahead q.code one
    → LabelsDone body m code code₁ q tested → ListDoes m tested.at around.levels size → two ≡ capped (size.size + 7) → far ≡ ahead tested.code two
    → Writes code₁ code₂ tested.code (21 ∷ (far % 256) ∷ (far / 256 % 256) ∷ []) leapt → Writes code₂ code₃ leapt (25 ∷ []) start
    → ListDone around m code₃ code₄ (record { at = tested.at; code = start }) done → Writes code₄ code₅ done.code (21 ∷ (end % 256) ∷ (end / 256 % 256) ∷ []) last
    → Turned (GroupsCode end around m) m code code₅ q (record { at = done.at; code = last })
unfolding grps_cells code_g size_g levels_g head_g
group-turn {m} {code} {code₅ = code₅} {q} {done = done} {around} {end = end} {last = last} sees is t few one body labels size two far leap drop list back = record { reached = le_of_lt (group_less m _ _ _ sees is t labels.fine list.fine); leads = on }
  where
    on : (code' : L.List ℕ) (r : Place) → GroupsCode end around m code₅ code' (record { at = done.at; code = last }) r → GroupsCode end around m code code' q r
    on code' r w (other l) f g z = wrote_if (λ lies most.
        let k : true ≡ false = sym t ∙ is ∙ ap is_label (sees ∙ tag-groups (other l) lies) ∙ list-starts l in
        let u : ◌≡◌ {A = ℕ} 0 1 = cc in
        absurd (omega arith))
    on code' r w (grp ls l x) f g z = wrote_if (λ lies most.
        let room = length-g (grp ls l x) q.code end around.exit around.fors in
        let s = size_exact _ (size_lb ls) (few.means ls (lies_first (span_cells ls) (body_cells l) (lies_first (span_cells ls ++ body_cells l) (grps_cells x) lies))) (omega arith) in
        let one' = added_exact _ _ one (omega arith) in
        let body' = ahead_exact _ _ body (omega arith) (omega arith) in
        let b = q.code + size_lb ls + 3 in
        let past = b + 1 + size_l l + 3 in
        simp append_assoc (labels_on ls b _ f.0 labels.means (omega arith) (omega arith) (λ e₁ lies₁.
        let n = size_exact _ (size_l l) (size.means l (lies_first (body_cells l) (grps_cells x) lies₁) (omega arith)) (omega arith) in
        let two' = added_exact _ _ two (omega arith) in
        let far' = ahead_exact _ _ far (omega arith) (omega arith) in
        instr_on (JUMP past) _ (jump_to past (omega arith) (omega arith) leap) (λ e₂.
        instr_on DROP _ (put_drop drop) (λ e₃.
        list_on l (b + 1) around.exit around.fors _ f.1 (omega arith) list.means (omega arith) refl refl (λ e₄ lies₄.
        instr_on (JUMP end) _ (jump_to end refl (omega arith) back) (λ e₅.
        let from : past ≡ last = omega arith in
        rw from (w x f.2 (omega arith) (omega arith)))))))))

-- at the end ELSE's list
pub other_last : {m code code₁ code₂ : L.List ℕ} {q r : Place} {around : Around} {label : Bool} {end tag start : ℕ} → tag ≡ (cell_in m q.at).tag → label ≡ is_label tag → label ≡ false
    → Writes code code₁ q.code (25 ∷ []) start → ListDone around m code₁ code₂ (record { at = q.at; code = start }) r → GroupsDone end around m code code₂ q r
unfolding grps_cells code_g levels_g head_g
other_last {m} {code} {code₂ = code₂} {q} {r} {around} {end = end} sees is t drop w = record { fine = w.fine; means = last }
  where
    last : GroupsCode end around m code code₂ q r
    last (other l) f g z = instr_on DROP _ (put_drop drop) (λ e. rw (← e) (w.means l f g))
    last (grp ls l x) f g z = wrote_if (λ lies most.
        let k : true ≡ false = sym (label-starts ls) ∙ ap is_label (sym (sees ∙ tag-groups (grp ls l x) lies)) ∙ sym is ∙ t in
        let u : ◌≡◌ {A = ℕ} 0 1 = cc in
        absurd (omega arith))
