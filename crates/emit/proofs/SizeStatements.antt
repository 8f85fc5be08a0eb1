-- Sizes of statements, from what is promised of their parts: one law for each way through the code. Assumes nothing.
use mathlib.Core.Path.{◌≡◌, refl, sym, ◌∙◌}
use mathlib.Core.List as L
use Prim.Native.Nat.{ℕ, suc, ◌+◌, ◌≤◌}
use native.Mathlib.Omega.{arith}
use lib.ListN.{length}
use Rattle.rules.specs.KindNumbers.{kind_number}
use Rattle.rules.specs.declared.kinds.Kind.{Kind}
use Rattle.rules.specs.declared.kinds.Kind.TheVariants.{If, Case, For, While, Repeat, Assign, Exit}
use Rattle.rules.specs.Kinds.{BY, CASE, EXIT, FOR, IF, REPEAT, WHILE, ASSIGN}
use Rattle.rules.specs.Bytes.{to_u}
use Rattle.rules.specs.Core.{Stmt, assign, if, case, for, while, repeat, exit}
use Rattle.rules.specs.Translation.{size_s}
use Rattle.rules.specs.CoreCells.{stmt_cells}
use Rattle.theorems.specs.Levels.{levels_s, nest_s}
use Rattle.cells.specs.Reading.{cell_in, behind, Lies}
use Rattle.emit.specs.Sizes.{capped, sized, StatementSize, CompoundSize}
use Rattle.emit.specs.Sizes.{Sized}
use Rattle.emit.proofs.CoreHeads.{head_s, tag-statement, nested, by_head, Arm}
use Rattle.emit.proofs.SizeSums.{past_cell, onward, HeldDoes, StatementDoes, CompoundDoes, ListDoes, BranchesDo, GroupsDo, counts_past, counts_then, counts_held, counts-list, counts-branches, counts-groups, counts_done, add_on}

-- what is to be shown of a statement that lies there
Is : L.List ℕ → ℕ → ℕ → Sized → Stmt → Type 0
Is m at levels r x = Lies m at (stmt_cells x) → nest_s x ≤ levels → r ≡ sized (at + length (stmt_cells x)) (size_s x)

-- it is enough to show it of the statements that start with the tag that is read
told : {m : L.List ℕ} {at levels tag : ℕ} {r : Sized} (t : ℕ) → tag ≡ (cell_in m at).tag → tag ≡ t → Arm (Is m at levels r) t → StatementSize m at levels r
unfolding Is
told {m} {at} {levels} {r} t sees is arm x l few = by_head (Is m at levels r) t arm x (sym (tag-statement x l) ∙ sym sees ∙ is) l few

pub assign-does : {m : L.List ℕ} {at levels tag next n : ℕ} {value : Sized} → tag ≡ (cell_in m at).tag → tag ≡ ASSIGN → next ≡ behind m at → HeldDoes m next value
    → n ≡ capped (3 + value.size) → StatementDoes m at levels (record { at = value.at; size = n })
unfolding Is Arm stmt_cells size_s
assign-does {m} {at} {next} {value = v} sees is past value adds = record {
  fine = onward m at next v.at (past_cell m at past) value.fine;
  means = told ASSIGN sees is (λ i e l few. counts_done (counts_then (counts_past ASSIGN 0 i past) (counts_held value 0 e)) 3 _ adds (omega arith) (omega arith) l);
}

pub exit-does : {m : L.List ℕ} {at levels tag next : ℕ} → tag ≡ (cell_in m at).tag → tag ≡ EXIT → next ≡ behind m at
    → StatementDoes m at levels (record { at = next; size = 4 })
unfolding Is Arm stmt_cells size_s capped
exit-does {m} {at} sees is past = record { fine = past_cell m at past; means = told EXIT sees is (λ l few. counts_done (counts_past EXIT 0 0 past) 4 4 refl refl refl l) }

-- no level is left for a statement with lists
pub none_left : {m : L.List ℕ} {at levels tag next n : ℕ} → tag ≡ (cell_in m at).tag → (tag ≡ ASSIGN → ⊥) → (tag ≡ EXIT → ⊥) → levels ≡ 0 → next ≡ behind m at
    → StatementDoes m at levels (record { at = next; size = n })
none_left {m} {at} {levels} {next = r} {n} sees no-assign no-exit none past = record { fine = past_cell m at past; means = never }
  where
    never : StatementSize m at levels (record { at = r; size = n })
    never x l few =
        let h = sees ∙ tag-statement x l in
        let k = nested x (λ e. no-assign (h ∙ e)) (λ e. no-exit (h ∙ e)) in
        absurd (omega arith)

-- one level is taken off
pub compound-does : {m : L.List ℕ} {at levels inner tag : ℕ} {r : Sized} → tag ≡ (cell_in m at).tag → (tag ≡ ASSIGN → ⊥) → (tag ≡ EXIT → ⊥) → levels ≤ suc inner
    → CompoundDoes m at inner r → StatementDoes m at levels r
compound-does {m} {at} {levels} {inner} {r = r} sees no-assign no-exit less means = record { fine = means.fine; means = inside }
  where
    inside : StatementSize m at levels r
    inside x l few =
        let h = sees ∙ tag-statement x l in
        means.means x (nested x (λ e. no-assign (h ∙ e)) (λ e. no-exit (h ∙ e))) l (omega arith)

-- Statements with lists

compound : {m : L.List ℕ} {at levels : ℕ} {r : Sized} → StatementSize m at (suc levels) r → CompoundSize m at levels r
compound means x some l few = means x l few

pub if_does : {m : L.List ℕ} {at levels tag next n : ℕ} {b : Sized} → tag ≡ (cell_in m at).tag → tag ≡ IF → next ≡ behind m at → BranchesDo m next levels b
    → n ≡ capped (1 + b.size) → CompoundDoes m at levels (record { at = b.at; size = n })
unfolding Is Arm stmt_cells size_s levels_s
if_does {m} {at} {next} {b = r} sees is past branches adds = record {
  fine = onward m at next r.at (past_cell m at past) branches.fine;
  means = compound (told IF sees is (λ b l few.
      counts_done (counts_then (counts_past IF 0 0 past) (counts-branches branches b (omega arith))) 1 _ adds (omega arith) (omega arith) l));
}

pub case-does : {m : L.List ℕ} {at levels tag next p n : ℕ} {selector g : Sized} → tag ≡ (cell_in m at).tag → tag ≡ CASE → next ≡ behind m at
    → HeldDoes m next selector
    → GroupsDo m selector.at levels g → p ≡ capped (1 + selector.size) → n ≡ capped (p + g.size) → CompoundDoes m at levels (record { at = g.at; size = n })
unfolding Is Arm stmt_cells size_s levels_s
case-does {m} {at} {next} {selector = s} {g = r} sees is past selector groups adds sums = record {
  fine = onward m at next r.at (past_cell m at past) (onward m next s.at r.at selector.fine groups.fine);
  means = compound (told CASE sees is (λ e g l few.
      counts_done (counts_then (counts_then (counts_past CASE 0 0 past) (counts_held selector 0 e)) (counts-groups groups g (omega arith))) 1 _
      (add_on _ _ adds sums) (omega arith) (omega arith) l));
}

pub for_does : {m : L.List ℕ} {at levels tag next by bounds p n : ℕ} {initial last body : Sized} → tag ≡ (cell_in m at).tag → tag ≡ FOR → next ≡ behind m at
    → HeldDoes m next initial → HeldDoes m initial.at last → by ≡ behind m last.at → ListDoes m by levels body → bounds ≡ capped (initial.size + last.size)
    → p ≡ capped (bounds + 24) → n ≡ capped (p + body.size) → CompoundDoes m at levels (record { at = body.at; size = n })
unfolding Is Arm stmt_cells size_s levels_s
for_does {m} {at} {next} {by = y} {initial = i} {last = z} {body = r} sees is past initial last by body first adds sums = record {
  fine = onward m at i.at r.at (onward m at next i.at (past_cell m at past) initial.fine)
      (onward m i.at z.at r.at last.fine (onward m z.at y r.at (past_cell m z.at by) body.fine));
  means = compound (told FOR sees is (λ v a e s l lies few.
      counts_done
      (counts_then
      (counts_then (counts_then (counts_then (counts_past FOR 0 v past) (counts_held initial 0 a)) (counts_held last 1 e)) (counts_past BY 0 (to_u s) by))
      (counts-list body l (omega arith)))
      24 _ (add_on _ _ (add_on _ _ first adds) sums) (omega arith) (omega arith) lies));
}

pub while_does : {m : L.List ℕ} {at levels tag next p n : ℕ} {condition body : Sized} → tag ≡ (cell_in m at).tag → tag ≡ WHILE → next ≡ behind m at
    → HeldDoes m next condition → ListDoes m condition.at levels body → p ≡ capped (condition.size + 7) → n ≡ capped (p + body.size)
    → CompoundDoes m at levels (record { at = body.at; size = n })
unfolding Is Arm stmt_cells size_s levels_s
while_does {m} {at} {next} {condition = z} {body = r} sees is past condition body adds sums = record {
  fine = onward m at next r.at (past_cell m at past) (onward m next z.at r.at condition.fine body.fine);
  means = compound (told WHILE sees is (λ c l lies few.
      counts_done (counts_then (counts_then (counts_past WHILE 0 0 past) (counts_held condition 0 c)) (counts-list body l (omega arith))) 7 _
      (add_on _ _ adds sums) (omega arith) (omega arith) lies));
}

-- a statement with lists that is none of those is REPEAT
pub repeats : (x : Stmt) → 1 ≤ nest_s x → (head_s x ≡ IF → ⊥) → (head_s x ≡ CASE → ⊥) → (head_s x ≡ FOR → ⊥) → (head_s x ≡ WHILE → ⊥) → head_s x ≡ REPEAT
unfolding head_s levels_s
repeats (assign i e) some a b c d = absurd (omega arith)
repeats (if b) some a c d e = absurd (a refl)
repeats (case e g) some a b c d = absurd (b refl)
repeats (for v a e s l) some b c d f = absurd (d refl)
repeats (while c l) some a b d e = absurd (e refl)
repeats (repeat l c) some a b d e = refl
repeats exit some a b c d = absurd (omega arith)

pub repeat-does : {m : L.List ℕ} {at levels tag next p n : ℕ} {body condition : Sized} → tag ≡ (cell_in m at).tag → (tag ≡ IF → ⊥) → (tag ≡ CASE → ⊥) → (tag ≡ FOR → ⊥)
    → (tag ≡ WHILE → ⊥) → next ≡ behind m at → ListDoes m next levels body → HeldDoes m body.at condition → p ≡ capped (body.size + condition.size)
    → n ≡ capped (p + 4)
    → CompoundDoes m at levels (record { at = condition.at; size = n })
unfolding Is Arm stmt_cells size_s levels_s
repeat-does {m} {at} {levels} {next = next} {n = n} {body = z} {condition = r} sees no-if no-case no-for no-while past body condition adds sums =
    record { fine = onward m at next r.at (past_cell m at past) (onward m next z.at r.at body.fine condition.fine); means = means }
  where
    means : CompoundSize m at levels (record { at = r.at; size = n })
    means x some l few =
        let h = sees ∙ tag-statement x l in
        let t = repeats x some (λ e. no-if (h ∙ e)) (λ e. no-case (h ∙ e)) (λ e. no-for (h ∙ e)) (λ e. no-while (h ∙ e)) in
        told REPEAT sees (h ∙ t) (λ l c lies few.
        counts_done (counts_then (counts_then (counts_past REPEAT 0 0 past) (counts-list body l (omega arith))) (counts_held condition 0 c)) 4 _
        (add_on _ _ adds sums) (omega arith) (omega arith) lies) x l few

-- a tag of no kind starts no statement
pub known : (x : Stmt) → ((k : Kind) → head_s x ≡ kind_number k → ⊥) → ⊥
unfolding head_s
known (assign i e) none = none Assign refl
known (if b) none = none If refl
known (case e g) none = none Case refl
known (for v a e s l) none = none For refl
known (while c l) none = none While refl
known (repeat l c) none = none Repeat refl
known exit none = none Exit refl

pub unknown-does : {m : L.List ℕ} {at levels tag next n : ℕ} → tag ≡ (cell_in m at).tag → ((k : Kind) → tag ≡ kind_number k → ⊥) → next ≡ behind m at
    → CompoundDoes m at levels (record { at = next; size = n })
unknown-does {m} {at} sees none past = record { fine = past_cell m at past; means = λ x some l few. absurd (known x (λ k t. none k (sees ∙ tag-statement x l ∙ t))) }
