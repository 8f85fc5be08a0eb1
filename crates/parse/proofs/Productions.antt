-- What each function that reads statements does, given what its calls do, in the order of the calls. Assumes nothing.
use mathlib.Core.Path.{◌≡◌, refl, sym, ap, ◌∙◌}
use mathlib.Core.Bool.{true}
use mathlib.Core.List.{List, [], ◌++◌}
use mathlib.Core.Option.{none, some}
use Prim.Native.Nat.{ℕ, zero, suc, ◌+◌, ◌*◌, ◌≤◌, ◌<◌}
use native.Mathlib.Nat.{add-zero}
use native.Mathlib.Numerals.{add-one}
use native.Mathlib.Omega.{arith}
use Rattle.rules.specs.Limits.{nesting_limit, for_limit}
use Rattle.rules.specs.Kinds.{NAME, BY, CASE, DO, ELSE, END_CASE, END_FOR, END_IF, END_REPEAT, END_WHILE, EXIT, FOR, IF, OF, REPEAT, THEN, TO, UNTIL, WHILE, ASSIGN, COLON, SEMI}
use Rattle.rules.specs.KindNumbers.{kind_number}
use Rattle.rules.proofs.KindLaws.{one_kind}
use Rattle.rules.specs.Tokens as T
use Rattle.rules.specs.declared.kinds.Kind.{Kind}
use Rattle.rules.specs.declared.kinds.Kind.TheVariants.{Name as NameKind, Exit, If, Case, For, While}
use Rattle.rules.specs.Syntax.{Name, Exp, truth, Stm, assign_s, if_s, case_s, for_s, while_s, repeat_s, exit_s, Stms, empty, no_else, no_other, Reader, on_read, ◌>>=◌, ◌>>◌, give, skip, take, when, nested, take_name, maybe, expr, labels, assignment, exit, if_then, case_of, for_do, while_do, repeat_until, one_branch, one_group, statement, list, branches, groups}
use Rattle.rules.specs.Cells.{cell, name_cell, whole_cells, maybe_cells, labels_cells, stm_cells, list_cells, branch_cells, group_cells}
use Rattle.parse.specs.Steps.{count_of, free_of, token_at, kind_at, Skips, Writes, Step, At, Bad}
use Rattle.parse.specs.Reading.{Did, reads, stays, nothing}
use Rattle.parse.specs.Parts.{compound, element, element_cells, one_condition, condition_cells, one_labelled, labelled_cells, otherwise, otherwise_cells, conditions}
use Rattle.cells.specs.declared.cell.Cell.{Cell}
use Rattle.parse.proofs.Names.{name_for, name-datum, name-taken}
use Rattle.parse.proofs.Follow.{Ends, on, off, begin, gives, named, bind, thens, looks, skips, skips_on, writes, is, isn't, under, over}

-- another kind has another number
another : {k : ℕ} {kind : Kind} → k ≡ kind_number kind → (x : Kind) → (kind ≡ x → ⊥) → k ≡ kind_number x → ⊥
another {kind} is x other e = other (one_kind kind x (sym is ∙ e))

-- a name, where only that there is one matters
anyone : Name
anyone = record { place = 0; letters = [] }

-- the next token is skipped, and a cell written
heads : {n at₀ : ℕ} {m₀ m m' m₁ mₑ v : List ℕ} {B : Type 0} {encode : B → List ℕ} {K : Reader B} {s s' s₁ r : Step} (tag : ℕ) → 3 * n ≤ at₀ → Skips m m' s s'
    → Writes (cell tag 0 0) m' m₁ s' s₁ → Ends n m₀ at₀ encode mₑ r (v ++ cell tag 0 0) m₁ s₁ K → Ends n m₀ at₀ encode mₑ r v m s (◌>>◌ skip K)
heads tag behind e w k = skips_on behind e (writes behind tag 0 0 w k)

-- a name, in a cell with this tag
pub named-means : (tag : ℕ) {m₀ m₁ m₂ : List ℕ} {s s₁ r : Step} {t : Cell} → 3 * count_of s ≤ free_of s → t ≡ token_at m₀ s
    → Did nothing m₀ m₁ s s₁ (take NAME) → Writes (cell tag t.place t.datum) m₁ m₂ s₁ r → Did (name_cell tag) m₀ m₂ s r take_name
unfolding name_cell name_for
named-means tag {s} behind sees name w =
    begin (named name-taken (looks behind {K = λ x us. ◌>>◌ (take NAME) (give (name_for x)) us} s (λ x same.
    let e = sees ∙ same in
    thens behind name (writes behind tag _ _ w (gives (name_for x) (ap (cell tag x.place) (name-datum x) ∙ ap (λ c. cell tag c.place c.datum) (sym e)))))))

-- a name, `:=`, an expression
pub assignment-means : {m₀ m₁ m₂ m₃ : List ℕ} {s s₁ s₂ r : Step} {E : Reader Exp} → 3 * count_of s ≤ free_of s → Did (name_cell ASSIGN) m₀ m₁ s s₁ take_name
    → Did nothing m₁ m₂ s₁ s₂ (take ASSIGN) → Did whole_cells m₂ m₃ s₂ r E → Did stm_cells m₀ m₃ s r (assignment E)
unfolding assignment stm_cells
assignment-means behind name assign value =
    begin (bind behind anyone name (λ v. thens behind assign (bind behind (truth 0 true) value (λ e. gives (assign_s v e) refl))))

-- ELSE and a list
pub otherwise_else_means : (tag f d q : ℕ) {m₀ m' m₁ m₂ : List ℕ} {s s' s₁ r : Step} → 3 * count_of s ≤ free_of s → kind_at m₀ s ≡ ELSE
    → Skips m₀ m' s s' → Writes (cell ELSE 0 0) m' m₁ s' s₁ → Did list_cells m₁ m₂ s₁ r (list f d q) → Did (otherwise_cells tag) m₀ m₂ s r (otherwise f d q)
unfolding otherwise otherwise_cells
otherwise_else_means tag f d q behind sees past w others = begin (is behind _ _ ELSE sees (heads ELSE behind past w (bind behind empty others (λ l. gives (some l) refl))))

-- no ELSE: the cell that stands for nothing
pub otherwise-none-means : (tag f d q : ℕ) {m₀ m₁ : List ℕ} {s r : Step} → 3 * count_of s ≤ free_of s → (kind_at m₀ s ≡ ELSE → ⊥)
    → Writes (cell tag 0 0) m₀ m₁ s r → Did (otherwise_cells tag) m₀ m₁ s r (otherwise f d q)
unfolding otherwise otherwise_cells
otherwise-none-means tag f d q behind other w = begin (isn't behind _ _ ELSE other (writes behind tag 0 0 w (gives none refl)))

-- a condition, THEN, a list
pub branch-means : (f d q : ℕ) {m₀ m₁ m₂ m₃ m₄ : List ℕ} {s s₁ s₂ s₃ r : Step} → 3 * count_of s ≤ free_of s
    → Writes (cell THEN 0 0) m₀ m₁ s s₁ → Did whole_cells m₁ m₂ s₁ s₂ (expr f 0 1) → Did nothing m₂ m₃ s₂ s₃ (take THEN)
    → Did list_cells m₃ m₄ s₃ r (list f d q) → Did condition_cells m₀ m₄ s r (one_condition f d q)
unfolding one_condition condition_cells
branch-means f d q behind w condition word body =
    begin (writes behind THEN 0 0 w (bind behind (truth 0 true) condition (λ c. thens behind word
    (bind behind empty body (λ l. gives (record { condition = c; body = l }) refl)))))

-- IF's branches are those behind the word IF
behind_word : (f d q : ℕ) (us : List T.Token) → if_then (branches (suc f) d q) us
    ≡ ◌>>◌ skip (◌>>=◌ (conditions (expr f 0 1) (list f d q) (branches f d q)) (λ b. ◌>>◌ (take END_IF) (give (if_s b)))) us
unfolding if_then branches one_branch conditions skip ◌>>◌ ◌>>=◌ on_read
behind_word f d q us = refl

-- IF, the branches behind the word, END_IF
pub if_then_means : (f d q : ℕ) {m₀ m' m₁ m₂ m₃ : List ℕ} {s s' s₁ s₂ r : Step} → 3 * count_of s ≤ free_of s → 1 ≤ f → Skips m₀ m' s s'
    → Writes (cell IF 0 0) m' m₁ s' s₁ → ((g : ℕ) → f ≡ suc g → Did branch_cells m₁ m₂ s₁ s₂ (conditions (expr g 0 1) (list g d q) (branches g d q)))
    → Did nothing m₂ m₃ s₂ r (take END_IF) → Did stm_cells m₀ m₃ s r (if_then (branches f d q))
unfolding stm_cells
if_then_means zero d q behind fuel past w others end = absurd (omega arith)
if_then_means (suc g) d q behind fuel past w others end =
    begin (named (behind_word g d q) (heads IF behind past w (bind behind no_else (others g refl) (λ b. thens behind end (gives (if_s b) refl)))))

-- labels, `:`, a list
pub group-means : (f d q : ℕ) {m₀ m₁ m₂ m₃ : List ℕ} {s s₁ s₂ r : Step} → 3 * count_of s ≤ free_of s → Did labels_cells m₀ m₁ s s₁ (labels f)
    → Did nothing m₁ m₂ s₁ s₂ (take COLON) → Did list_cells m₂ m₃ s₂ r (list f d q) → Did labelled_cells m₀ m₃ s r (one_labelled f d q)
unfolding one_labelled labelled_cells
group-means f d q behind head colon body =
    begin (bind behind [] head (λ ls. thens behind colon (bind behind empty body (λ l. gives (record { labels = ls; body = l }) refl))))

-- CASE, a selector, OF, the groups, END_CASE
pub case_of_means : (f d q : ℕ) {m₀ m' m₁ m₂ m₃ m₄ m₅ : List ℕ} {s s' s₁ s₂ s₃ s₄ r : Step} {E : Reader Exp} → 3 * count_of s ≤ free_of s → 1 ≤ f → Skips m₀ m' s s'
    → Writes (cell CASE 0 0) m' m₁ s' s₁ → Did whole_cells m₁ m₂ s₁ s₂ E → Did nothing m₂ m₃ s₂ s₃ (take OF)
    → ((g : ℕ) → f ≡ suc g → Did group_cells m₃ m₄ s₃ s₄ (one_group (labels g) (list g d q) (groups g d q))) → Did nothing m₄ m₅ s₄ r (take END_CASE)
    → Did stm_cells m₀ m₅ s r (case_of E (groups f d q))
unfolding case_of groups stm_cells
case_of_means zero d q behind fuel past w selector word others end = absurd (omega arith)
case_of_means (suc g) d q behind fuel past w selector word others end =
    begin (heads CASE behind past w (bind behind (truth 0 true) selector (λ e. thens behind word
    (bind behind no_other (others g refl) (λ x. thens behind end (gives (case_s e x) refl))))))

-- FOR, a name, `:=`, an expression, TO, an expression, BY and a constant if wanted, DO, a list, END_FOR
pub for_do_means : {m₀ m' m₁ m₂ m₃ m₄ m₅ m₆ m₇ m₈ m₉ : List ℕ} {s s' s₁ s₂ s₃ s₄ s₅ s₆ s₇ s₈ r : Step} {E : Reader Exp} {L : Reader Stms} → 3 * count_of s ≤ free_of s
    → Skips m₀ m' s s' → Did (name_cell FOR) m' m₁ s' s₁ take_name → Did nothing m₁ m₂ s₁ s₂ (take ASSIGN) → Did whole_cells m₂ m₃ s₂ s₃ E
    → Did nothing m₃ m₄ s₃ s₄ (take TO) → Did whole_cells m₄ m₅ s₄ s₅ E → Did maybe_cells m₅ m₆ s₅ s₆ (maybe BY) → Did nothing m₆ m₇ s₆ s₇ (take DO)
    → Did list_cells m₇ m₈ s₇ s₈ L → Did nothing m₈ m₉ s₈ r (take END_FOR) → Did stm_cells m₀ m₉ s r (for_do E L)
unfolding for_do stm_cells
for_do_means behind past name assign initial to bound step word body end =
    begin (skips_on behind past
    (bind behind anyone name (λ v. thens behind assign (bind behind (truth 0 true) initial (λ a. thens behind to (bind behind (truth 0 true) bound (λ e.
    bind behind none step (λ c. thens behind word (bind behind empty body (λ l. thens behind end (gives (for_s v a e c l) refl)))))))))))

-- WHILE, a condition, DO, a list, END_WHILE
pub while_do_means : {m₀ m' m₁ m₂ m₃ m₄ m₅ : List ℕ} {s s' s₁ s₂ s₃ s₄ r : Step} {E : Reader Exp} {L : Reader Stms} → 3 * count_of s ≤ free_of s → Skips m₀ m' s s'
    → Writes (cell WHILE 0 0) m' m₁ s' s₁ → Did whole_cells m₁ m₂ s₁ s₂ E → Did nothing m₂ m₃ s₂ s₃ (take DO)
    → Did list_cells m₃ m₄ s₃ s₄ L → Did nothing m₄ m₅ s₄ r (take END_WHILE) → Did stm_cells m₀ m₅ s r (while_do E L)
unfolding while_do stm_cells
while_do_means behind past w condition word body end =
    begin (heads WHILE behind past w (bind behind (truth 0 true) condition (λ c. thens behind word
    (bind behind empty body (λ l. thens behind end (gives (while_s c l) refl))))))

-- REPEAT, a list, UNTIL, a condition, END_REPEAT
pub repeat_until_means : {m₀ m' m₁ m₂ m₃ m₄ m₅ : List ℕ} {s s' s₁ s₂ s₃ s₄ r : Step} {E : Reader Exp} {L : Reader Stms} → 3 * count_of s ≤ free_of s → Skips m₀ m' s s'
    → Writes (cell REPEAT 0 0) m' m₁ s' s₁ → Did list_cells m₁ m₂ s₁ s₂ L → Did nothing m₂ m₃ s₂ s₃ (take UNTIL)
    → Did whole_cells m₃ m₄ s₃ s₄ E → Did nothing m₄ m₅ s₄ r (take END_REPEAT) → Did stm_cells m₀ m₅ s r (repeat_until E L)
unfolding repeat_until stm_cells
repeat_until_means behind past w body word condition end =
    begin (heads REPEAT behind past w (bind behind empty body (λ l. thens behind word
    (bind behind (truth 0 true) condition (λ c. thens behind end (gives (repeat_s l c) refl))))))

-- Which statement it is

-- a reading as a whole, as the last step of a greater one
pub ends : {n at₀ : ℕ} {m₀ mₑ : List ℕ} {B : Type 0} {encode : B → List ℕ} {s r : Step} {R : Reader B} → Did encode m₀ mₑ s r R
    → Ends n m₀ at₀ encode mₑ r [] m₀ s R
ends {at₀} (reads {a} d) = on {a = a} (λ same us h mm aa. rw (aa ∙ add-zero at₀) at ((rw same at d) us h))
ends stays = off refl

-- IF, CASE and loops where the next token has this place
abbrev compound_at : ℕ → ℕ → ℕ → ℕ → Reader Stm
compound_at f d q p =
    nested d nesting_limit p
    (when IF (if_then (branches f (suc d) q))
    (when CASE (case_of (expr f 0 1) (groups f (suc d) q))
    (when FOR (nested q for_limit p (for_do (expr f 0 1) (list f (suc d) (suc q))))
    (when WHILE (while_do (expr f 0 1) (list f (suc d) q))
    (repeat_until (expr f 0 1) (list f (suc d) q))))))

module _ (f d q : ℕ) {m₀ mₑ : List ℕ} {s r : Step} (behind : 3 * count_of s ≤ free_of s) where
  -- the place that a refusal would name is the next token's
  compound_by : ((p : ℕ) → (token_at m₀ s).place ≡ p → Ends (count_of s) m₀ (free_of s) stm_cells mₑ r [] m₀ s (compound_at f d q p)) → Did stm_cells m₀ mₑ s r (compound f d q)
  unfolding compound
  compound_by k = begin (looks behind {K = λ x. compound_at f d q x.place} s (λ x same. k x.place (ap (λ c. c.place) same)))

  -- not too deep, by the next token's kind: IF
  pub compound_if_means : d < nesting_limit → kind_at m₀ s ≡ IF → Did stm_cells m₀ mₑ s r (if_then (branches f (d + 1) q)) → Did stm_cells m₀ mₑ s r (compound f d q)
  compound_if_means fits k did = compound_by (λ p same. under behind d nesting_limit p fits (is behind _ _ IF k (ends (rw (add-one d) at did))))

  -- CASE
  pub compound-case-means : d < nesting_limit → kind_at m₀ s ≡ CASE → Did stm_cells m₀ mₑ s r (case_of (expr f 0 1) (groups f (d + 1) q)) → Did stm_cells m₀ mₑ s r (compound f d q)
  compound-case-means fits k did =
      compound_by (λ p same. under behind d nesting_limit p fits (isn't behind _ _ IF (λ e. omega arith) (is behind _ _ CASE k (ends (rw (add-one d) at did)))))

  -- FOR
  pub compound_for_means : d < nesting_limit → kind_at m₀ s ≡ FOR → q < for_limit
      → Did stm_cells m₀ mₑ s r (for_do (expr f 0 1) (list f (d + 1) (q + 1))) → Did stm_cells m₀ mₑ s r (compound f d q)
  compound_for_means fits k few did =
      compound_by (λ p same. under behind d nesting_limit p fits (isn't behind _ _ IF (λ e. omega arith) (isn't behind _ _ CASE (λ e. omega arith)
      (is behind _ _ FOR k (under behind q for_limit p few (ends (rw (add-one d, add-one q) at did)))))))

  -- WHILE
  pub compound_while_means : d < nesting_limit → kind_at m₀ s ≡ WHILE → Did stm_cells m₀ mₑ s r (while_do (expr f 0 1) (list f (d + 1) q)) → Did stm_cells m₀ mₑ s r (compound f d q)
  compound_while_means fits k did =
      compound_by (λ p same. under behind d nesting_limit p fits (isn't behind _ _ IF (λ e. omega arith) (isn't behind _ _ CASE (λ e. omega arith)
      (isn't behind _ _ FOR (λ e. omega arith) (is behind _ _ WHILE k (ends (rw (add-one d) at did)))))))

  -- none of them: REPEAT
  pub compound-repeat-means : (kind : Kind) → d < nesting_limit → kind_at m₀ s ≡ kind_number kind → (kind ≡ If → ⊥) → (kind ≡ Case → ⊥) → (kind ≡ For → ⊥) → (kind ≡ While → ⊥)
      → Did stm_cells m₀ mₑ s r (repeat_until (expr f 0 1) (list f (d + 1) q)) → Did stm_cells m₀ mₑ s r (compound f d q)
  compound-repeat-means kind fits k no-if no-case no-for no-while did =
      compound_by (λ p same. under behind d nesting_limit p fits (isn't behind _ _ IF (another k If no-if) (isn't behind _ _ CASE (another k Case no-case)
      (isn't behind _ _ FOR (another k For no-for) (isn't behind _ _ WHILE (another k While no-while) (ends (rw (add-one d) at did)))))))

-- nested too deep, and FOR within too many
module _ (f d q : ℕ) {m : List ℕ} {n j a : ℕ} {r : Step} (behind : 3 * n ≤ a) (refused : r ≡ Bad 10 (token_at m (At n j a)).place) where
  pub compound-deep-means : nesting_limit ≤ d → Did stm_cells m m (At n j a) r (compound f d q)
  compound-deep-means deep = compound_by f d q behind (λ p same. over behind _ d nesting_limit p deep (refused ∙ ap (λ p. Bad 10 p) same))

  pub compound-many-means : d < nesting_limit → kind_at m (At n j a) ≡ FOR → for_limit ≤ q → Did stm_cells m m (At n j a) r (compound f d q)
  compound-many-means fits k many =
      compound_by f d q behind (λ p same. under behind d nesting_limit p fits (isn't behind _ _ IF (λ e. omega arith) (isn't behind _ _ CASE (λ e. omega arith)
      (is behind _ _ FOR k (over behind _ q for_limit p many (refused ∙ ap (λ p. Bad 10 p) same))))))

-- a lone `;`
pub element_semi_means : (f d q : ℕ) {m m₁ : List ℕ} {s r : Step} → 3 * count_of s ≤ free_of s → kind_at m s ≡ SEMI → Skips m m₁ s r → Did element_cells m m₁ s r (element f d q)
unfolding element element_cells
element_semi_means f d q behind sees past = begin (is behind _ _ SEMI sees (skips_on behind past (gives none refl)))

-- a statement and its `;`
pub element-statement-means : (f d q : ℕ) {m₀ m₁ m₂ : List ℕ} {s s₁ r : Step} → 3 * count_of s ≤ free_of s → (kind_at m₀ s ≡ SEMI → ⊥)
    → Did stm_cells m₀ m₁ s s₁ (statement f d q) → Did nothing m₁ m₂ s₁ r (take SEMI) → Did element_cells m₀ m₂ s r (element f d q)
unfolding element element_cells
element-statement-means f d q behind other stm semi =
    begin (isn't behind _ _ SEMI other (bind behind (exit_s 0) stm (λ x. thens behind semi (gives (some x) refl))))

-- a statement with a name ahead is an assignment
pub statement-assignment-means : (f d q : ℕ) {m₀ mₑ : List ℕ} {s r : Step} → 3 * count_of s ≤ free_of s → 1 ≤ f → kind_at m₀ s ≡ NAME
    → ((g : ℕ) → f ≡ suc g → Did stm_cells m₀ mₑ s r (assignment (expr g 0 1))) → Did stm_cells m₀ mₑ s r (statement f d q)
unfolding statement when
statement-assignment-means zero d q behind fuel k did = absurd (omega arith)
statement-assignment-means (suc g) d q behind fuel k did = begin (is behind _ _ NAME k (ends (did g refl)))

-- EXIT
pub statement-exit-means : (f d q : ℕ) {m₀ m' mₑ : List ℕ} {s s' r : Step} → 3 * count_of s ≤ free_of s → 1 ≤ f → (place : ℕ) → place ≡ (token_at m₀ s).place → kind_at m₀ s ≡ EXIT
    → Skips m₀ m' s s' → Writes (cell EXIT place 0) m' mₑ s' r → Did stm_cells m₀ mₑ s r (statement f d q)
unfolding statement when exit stm_cells
statement-exit-means zero d q behind fuel place here k past w = absurd (omega arith)
statement-exit-means (suc g) d q behind fuel place here k past w =
    begin (isn't behind _ _ NAME (λ e. omega arith) (is behind _ _ EXIT k (skips behind past (λ x same.
    writes behind EXIT place 0 w (gives (exit_s x.place) (ap (λ p. cell EXIT p 0) (sym (here ∙ ap (λ c. c.place) same))))))))

-- neither: IF, CASE and loops
pub statement-compound-means : (f d q : ℕ) {m₀ mₑ : List ℕ} {s r : Step} → 3 * count_of s ≤ free_of s → 1 ≤ f → (kind : Kind) → kind_at m₀ s ≡ kind_number kind
    → (kind ≡ NameKind → ⊥) → (kind ≡ Exit → ⊥) → ((g : ℕ) → f ≡ suc g → Did stm_cells m₀ mₑ s r (compound g d q)) → Did stm_cells m₀ mₑ s r (statement f d q)
unfolding statement compound when
statement-compound-means zero d q behind fuel kind k no_name no-exit did = absurd (omega arith)
statement-compound-means (suc g) d q behind fuel kind k no_name no-exit did =
    begin (isn't behind _ _ NAME (another k NameKind no_name) (isn't behind _ _ EXIT (another k Exit no-exit) (ends (did g refl))))
