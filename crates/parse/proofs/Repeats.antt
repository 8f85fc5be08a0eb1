-- What the three loops that read statements do: elements of a list, branches of IF, groups of CASE. Assumes nothing.
use mathlib.Core.Path.{◌≡◌, refl, sym, ap, ◌∙◌}
use mathlib.Core.Bool.{Bool, true, false}
use mathlib.Core.List.{List, [], ◌++◌}
use mathlib.Core.Option.{Option, none, some}
use Prim.Native.Nat.{ℕ, zero, suc, ◌+◌, ◌*◌, ◌≤◌, ◌<◌}
use native.Mathlib.Omega.{arith}
use lib.Dec.{eqb}
use borrow.Author.Tests.{eq-eqb, ne_eqb}
use Rattle.rules.specs.Kinds.{FINISH, NAME, CASE, ELSE, ELSIF, END_CASE, END_IF, EXIT, FOR, IF, REPEAT, THEN, WHILE, COLON, SEMI}
use Rattle.rules.specs.Tokens as T
use Rattle.rules.specs.Syntax.{truth, Stm, Stms, empty, then, Branches, no_else, else_b, branch, Groups, no_other, else_g, group, Read, got, bad, Reader, on_read, ◌>>=◌, ◌>>◌, give, next, rest, skip, take, when, whether, expr, labels, starts_constant, starts_statement, one_branch, one_group, one_more, statement, list, branches, groups}
use Rattle.rules.specs.Cells.{WHOLE, cell, end_cell, list_cells, branch_cells, group_cells}
use Rattle.parse.specs.Steps.{count_of, left_of, free_of, token_at, kind_at, Skips, Writes, Step, Bad}
use Rattle.parse.specs.Reading.{Did, DidWith}
use Rattle.parse.specs.Parts.{element, element_cells, starts_element, Branch, one_condition, condition_cells, Group, one_labelled, labelled_cells, otherwise, otherwise_cells, conditions}
use Rattle.parse.proofs.NextKind.{kind_left}
use Rattle.parse.proofs.Follow.{seen, Ends, begin, gives, named, bind, knows, skips_on, writes}
use Rattle.parse.proofs.Productions.{ends}
use Rattle.parse.proofs.Loops.{same, Loops, loops_start, loops-refused, loops_step, joins}

-- what follows may be named otherwise
agree : {A B : Type 0} (o : Read A) {F G : A → Reader B} → ((a : A) (us : List T.Token) → F a us ≡ G a us) → on_read o F ≡ on_read o G
unfolding on_read
agree (got a us) h = h a us
agree (bad x p) h = refl

-- a reader, a token, and what is made of what was read; and what follows
paired : {A B C D : Type 0} (R : Reader A) (S : Reader B) (h : A → C) (K : C → Reader D) (us : List T.Token)
    → ◌>>=◌ R (λ a. ◌>>◌ S (K (h a))) us ≡ on_read (◌>>=◌ R (λ a. ◌>>◌ S (give (h a))) us) K
unfolding on_read ◌>>=◌ ◌>>◌ give
paired R S h K us = agree (R us) (λ a vs. sym (joins (S vs) _ K)) ∙ sym (joins (R us) _ K)

-- the same with another reader behind the token
tripled : {A B C D E : Type 0} (R : Reader A) (S : Reader B) (L : Reader C) (h : A → C → D) (K : D → Reader E) (us : List T.Token)
    → ◌>>=◌ R (λ a. ◌>>◌ S (◌>>=◌ L (λ c. K (h a c)))) us ≡ on_read (◌>>=◌ R (λ a. ◌>>◌ S (◌>>=◌ L (λ c. give (h a c)))) us) K
unfolding on_read ◌>>=◌ ◌>>◌ give
tripled R S L h K us = agree (R us) (λ a vs. agree (S vs) (λ b ws. sym (joins (L ws) _ K)) ∙ sym (joins (S vs) _ K)) ∙ sym (joins (R us) _ K)

-- Lists

-- the loop's invariant: from m₁ and s₁, where it begins, it has come to m and s
abbrev pub ListLoop : ℕ → ℕ → List ℕ → Step → List ℕ → Step → Type 0
ListLoop d q m₁ s₁ m s = Loops list_cells (λ f. list f d q) 3 3 m₁ s₁ m s

-- an element starts with a token that is not the end
pub element-starts : (k : ℕ) → starts_element k ≡ true → 1 ≤ k
unfolding starts_element starts_statement
element-starts zero e = let z : ◌≡◌ {A = ℕ} 0 1 = cc in absurd (omega arith)
element-starts (suc k) e = omega arith

-- and with one whose number is a kind's
pub no-element : (k : ℕ) → WHOLE < k → starts_element k ≡ false
unfolding starts_element starts_statement
no-element k h =
    rw (
      ne_eqb k SEMI (λ e. omega arith),
      ne_eqb k NAME (λ e. omega arith),
      ne_eqb k IF (λ e. omega arith),
      ne_eqb k CASE (λ e. omega arith),
      ne_eqb k FOR (λ e. omega arith),
      ne_eqb k WHILE (λ e. omega arith),
      ne_eqb k REPEAT (λ e. omega arith),
      ne_eqb k EXIT (λ e. omega arith),
    ) refl

-- an element before a list: a lone `;` adds nothing
unfoldable add : Option Stm → Stms → Stms
add none l = l
add (some s) l = then s l

added : (e : Option Stm) (l : Stms) → list_cells (add e l) ≡ element_cells e ++ list_cells l
unfolding add list_cells element_cells
added none l = refl
added (some s) l = refl

-- a list with an element ahead is the element and a list
one_more_lem : (d q g : ℕ) (us : List T.Token) → starts_element (next us).kind ≡ true
    → list (suc g) d q us ≡ on_read (element g d q us) (λ e. ◌>>=◌ (list g d q) (λ l. give (add e l)))
unfolding list element starts_element when whether one_more add ◌>>=◌ ◌>>◌ on_read give skip
one_more_lem d q g us e = go (eqb (next us).kind SEMI) refl
  where
    go : (b : Bool) → eqb (next us).kind SEMI ≡ b → list (suc g) d q us ≡ on_read (element g d q us) (λ e. ◌>>=◌ (list g d q) (λ l. give (add e l)))
    go true t = rw t (same (list g d q (rest us)))
    go false t = rw (t, rw t at e) (paired (statement g d q) (take SEMI) some (λ e. ◌>>=◌ (list g d q) (λ l. give (add e l))) us)

-- a list with none ahead is empty
no_more : (d q g : ℕ) (us : List T.Token) → starts_element (next us).kind ≡ false → list (suc g) d q us ≡ got empty us
unfolding list starts_element when whether give
no_more d q g us e = go (eqb (next us).kind SEMI) refl
  where
    go : (b : Bool) → eqb (next us).kind SEMI ≡ b → list (suc g) d q us ≡ got empty us
    go true t = let z : ◌≡◌ {A = ℕ} 0 1 = cc (rw t at e) in absurd (omega arith)
    go false t = rw (t, rw t at e)

-- the loop begins
pub list_start : (d q : ℕ) (m₁ : List ℕ) (s₁ : Step) → ListLoop d q m₁ s₁ m₁ s₁
list_start d q m₁ s₁ = loops_start list_cells (λ f. list f d q) 3 3 m₁ s₁

module _ (d q : ℕ) {m₁ : List ℕ} {s₁ : Step} (behind : 3 * count_of s₁ ≤ free_of s₁) where
  -- an element starts, and is read
  pub list-turn : {m m' : List ℕ} {s s' : Step} → ListLoop d q m₁ s₁ m s → starts_element (kind_at m s) ≡ true
      → DidWith 3 2 element_cells m m' s s' (λ f. element f d q) → left_of s' < left_of s → ListLoop d q m₁ s₁ m' s'
  list-turn {m} {s} old holds did more =
      loops_step list_cells (λ f. list f d q) 3 3 m₁ s₁ behind none element_cells (λ f. element f d q) add added old
      (λ g us z. one_more_lem d q g us (ap starts_element (kind_left m s us z) ∙ holds))
      (λ g h. did g (omega arith))
      (omega arith)

  -- it is refused
  pub list-refused : {m : List ℕ} {x p : ℕ} → ListLoop d q m₁ s₁ m (Bad x p) → DidWith 3 3 list_cells m₁ m s₁ (Bad x p) (λ f. list f d q)
  list-refused old = loops-refused list_cells (λ f. list f d q) 3 3 m₁ s₁ old

  -- no element starts: the list is closed by a cell
  pub list_done : {m mₑ : List ℕ} {s r : Step} → ListLoop d q m₁ s₁ m s → starts_element (kind_at m s) ≡ false → Writes (cell FINISH 0 0) m mₑ s r
      → DidWith 3 3 list_cells m₁ mₑ s₁ r (λ f. list f d q)
  unfolding list_cells end_cell ◌>>=◌ on_read give
  list_done {m} {mₑ} {s} {r} old fails w F h = begin (old mₑ r F h end)
    where
      end : (v : List ℕ) (wrap : Stms → Stms) → ((l : Stms) → list_cells (wrap l) ≡ v ++ list_cells l) → (f : ℕ) → 3 * left_of s + 3 ≤ f
          → Ends (count_of s₁) m₁ (free_of s₁) list_cells mₑ r v m s (◌>>=◌ (list f d q) (λ l. give (wrap l)))
      end v wrap q' zero h = absurd (omega arith)
      end v wrap e (suc g) h =
          knows behind (λ us z. ap (λ o. on_read o (λ l. give (wrap l))) (no_more d q g us (ap starts_element (kind_left m s us z) ∙ fails)))
          (writes behind FINISH 0 0 w (gives (wrap empty) (e empty)))

-- What stands behind the elements of IF and CASE: ELSE and a list, or nothing

-- an element is read, and then the rest
both : {A E : Type 0} {encode : A → List ℕ} {encodeE : E → List ℕ} (v : A) (w : E) (put : E → A → A)
    → ((e : E) (x : A) → encode (put e x) ≡ encodeE e ++ encode x) → {m₀ m₁ mₑ : List ℕ} {s s₁ r : Step} {P : Reader E} {R W : Reader A}
    → 3 * count_of s ≤ free_of s → ((us : List T.Token) → W us ≡ on_read (P us) (λ e. ◌>>=◌ R (λ x. give (put e x)))) → Did encodeE m₀ m₁ s s₁ P
    → Did encode m₁ mₑ s₁ r R → Did encode m₀ mₑ s r W
unfolding ◌>>=◌
both v w put puts behind same first others = begin (named same (bind behind w first (λ e. bind behind v others (λ x. gives (put e x) (puts e x)))))

-- the loop ends, and what is behind it is read
module _ {A : Type 0} {encode : A → List ℕ} {R : ℕ → Reader A} (each more : ℕ) {m₁ : List ℕ} {s₁ : Step} (behind : 3 * count_of s₁ ≤ free_of s₁) where
  loops_end : {E : Type 0} (w : E) {encodeE : E → List ℕ} (last : E → A) → ((e : E) → encode (last e) ≡ encodeE e)
      → (Q : ℕ → Reader E) {m mₑ : List ℕ} {s r : Step} → Loops encode R each more m₁ s₁ m s
      → ((f : ℕ) (us : List T.Token) → token_at m s ≡ seen (next us) → R f us ≡ on_read (Q f us) (λ e. give (last e)))
      → DidWith each more encodeE m mₑ s r Q → DidWith each more encode m₁ mₑ s₁ r R
  unfolding ◌>>=◌ give on_read
  loops_end w last e Q {mₑ} {r} old ends did F h = begin (old mₑ r F h (λ v wrap q f h'.
      knows behind (λ us z. ap (λ o. on_read o (λ x. give (wrap x))) (ends f us z) ∙ joins (Q f us) _ _)
      (bind behind w (did f h') (λ x. gives (wrap (last x)) (q (last x) ∙ ap (λ l. v ++ l) (e x))))))

-- what nothing is, or what is made of a list behind ELSE
unfoldable or_else : {A : Type 0} → A → (Stms → A) → Option Stms → A
or_else a h none = a
or_else a h (some l) = h l

-- ELSE as the code reads it is ELSE as the rules read it
else_read : {A : Type 0} (a : A) (h : Stms → A) (f d q : ℕ) (us : List T.Token)
    → when ELSE (◌>>◌ skip (◌>>=◌ (list f d q) (λ e. give (h e)))) (give a) us ≡ on_read (otherwise f d q us) (λ o. give (or_else a h o))
unfolding when otherwise or_else skip ◌>>=◌ ◌>>◌ on_read give
else_read a h f d q us = go (eqb (next us).kind ELSE) refl
  where
    go : (b : Bool) → eqb (next us).kind ELSE ≡ b
        → when ELSE (◌>>◌ skip (◌>>=◌ (list f d q) (λ e. give (h e)))) (give a) us ≡ on_read (otherwise f d q us) (λ o. give (or_else a h o))
    go true t = rw t (sym (joins (list f d q (rest us)) _ _))
    go false t = rw t

-- Branches of IF

-- what the rules read behind a branch
abbrev pub more_branches : ℕ → ℕ → ℕ → Reader Branches
more_branches d q f = when ELSIF (branches f d q) (when ELSE (◌>>◌ skip (◌>>=◌ (list f d q) (λ e. give (else_b e)))) (give no_else))

-- the loop's invariant, as for a list
abbrev pub BranchLoop : ℕ → ℕ → List ℕ → Step → List ℕ → Step → Type 0
BranchLoop d q m₁ s₁ m s = Loops branch_cells (more_branches d q) 3 3 m₁ s₁ m s

-- a branch before the others
abbrev put_branch : Branch → Branches → Branches
put_branch e b = branch e.condition e.body b

put_branch_lem : (e : Branch) (b : Branches) → branch_cells (put_branch e b) ≡ condition_cells e ++ branch_cells b
unfolding branch_cells condition_cells
put_branch_lem e b = refl

-- a branch, where only that there is one matters
any_branch : Branch
any_branch = record { condition = truth 0 true; body = empty }

-- ELSE of IF, or nothing
last_branch : (o : Option Stms) → branch_cells (or_else no_else else_b o) ≡ otherwise_cells END_IF o
unfolding branch_cells otherwise_cells or_else
last_branch none = refl
last_branch (some l) = refl

-- a condition, THEN, a list, and what is behind them
one_branch_lem : (d q f : ℕ) (us : List T.Token) → conditions (expr f 0 1) (list f d q) (branches f d q) us
    ≡ on_read (one_condition f d q us) (λ e. ◌>>=◌ (more_branches d q f) (λ b. give (put_branch e b)))
unfolding conditions one_condition
one_branch_lem d q f us =
    tripled (expr f 0 1) (take THEN) (list f d q) (λ c l. record { condition = c; body = l })
    (λ e. ◌>>=◌ (more_branches d q f) (λ b. give (put_branch e b))) us

-- with ELSIF ahead a branch is behind the branch
elsif-branch : (d q g : ℕ) (us : List T.Token) → (next us).kind ≡ ELSIF
    → more_branches d q (suc g) us ≡ on_read (◌>>◌ skip (one_condition g d q) us) (λ e. ◌>>=◌ (more_branches d q g) (λ b. give (put_branch e b)))
unfolding when branches one_branch conditions skip ◌>>◌ on_read
elsif-branch d q g us e = rw (eq-eqb _ _ e) (one_branch_lem d q g (rest us))

-- without it, ELSE or nothing
no_elsif : (d q f : ℕ) (us : List T.Token) → ((next us).kind ≡ ELSIF → ⊥)
    → more_branches d q f us ≡ on_read (otherwise f d q us) (λ o. give (or_else no_else else_b o))
unfolding when
no_elsif d q f us e = rw (ne_eqb _ _ e) (else_read no_else else_b f d q us)

-- the loop begins, behind the first branch
pub branches_start : (d q : ℕ) (m₁ : List ℕ) (s₁ : Step) → BranchLoop d q m₁ s₁ m₁ s₁
branches_start d q m₁ s₁ = loops_start branch_cells (more_branches d q) 3 3 m₁ s₁

module _ (d q : ℕ) {m₁ : List ℕ} {s₁ : Step} (behind : 3 * count_of s₁ ≤ free_of s₁) where
  -- ELSIF, and a branch is read
  pub branches-turn : {m m'' m' : List ℕ} {s s'' s' : Step} → 3 * count_of s ≤ free_of s → BranchLoop d q m₁ s₁ m s → kind_at m s ≡ ELSIF → Skips m m'' s s''
      → DidWith 3 3 condition_cells m'' m' s'' s' (λ f. one_condition f d q) → left_of s'' < left_of s → left_of s' < left_of s → BranchLoop d q m₁ s₁ m' s'
  branches-turn {m} {s} near old sees past did less more =
      loops_step branch_cells (more_branches d q) 3 3 m₁ s₁ behind any_branch condition_cells (λ f. ◌>>◌ skip (one_condition f d q)) put_branch put_branch_lem old
      (λ g us z. elsif-branch d q g us (kind_left m s us z ∙ sees))
      (λ g h. begin (skips_on near past (rw past.1 (ends (rw past.1 at (did g (omega arith)))))))
      (omega arith)

  -- it is refused
  pub branches-refused : {m : List ℕ} {x p : ℕ} → BranchLoop d q m₁ s₁ m (Bad x p) → DidWith 3 3 branch_cells m₁ m s₁ (Bad x p) (more_branches d q)
  branches-refused old = loops-refused branch_cells (more_branches d q) 3 3 m₁ s₁ old

  -- no ELSIF: ELSE or nothing is read, and with it all that is behind the first branch
  pub branches_done : {m mₑ : List ℕ} {s r : Step} → BranchLoop d q m₁ s₁ m s → (kind_at m s ≡ ELSIF → ⊥) → DidWith 3 3 (otherwise_cells END_IF) m mₑ s r (λ f. otherwise f d q)
      → DidWith 3 3 branch_cells m₁ mₑ s₁ r (more_branches d q)
  branches_done {m} {s} old other did =
      loops_end 3 3 behind none (or_else no_else else_b) last_branch (λ f. otherwise f d q) old
      (λ f us z. no_elsif d q f us (λ e. other (sym (kind_left m s us z) ∙ e))) did

-- the first branch, and all that is behind it
pub branches_first : (f d q : ℕ) {m₀ m₁ mₑ : List ℕ} {s s₁ r : Step} → 3 * count_of s ≤ free_of s → Did condition_cells m₀ m₁ s s₁ (one_condition f d q)
    → Did branch_cells m₁ mₑ s₁ r (more_branches d q f) → Did branch_cells m₀ mₑ s r (conditions (expr f 0 1) (list f d q) (branches f d q))
branches_first f d q behind first others = both no_else any_branch put_branch put_branch_lem behind (one_branch_lem d q f) first others

-- Groups of CASE

-- what the rules read behind a group
abbrev pub more_groups : ℕ → ℕ → ℕ → Reader Groups
more_groups d q f = whether starts_constant (groups f d q) (when ELSE (◌>>◌ skip (◌>>=◌ (list f d q) (λ e. give (else_g e)))) (give no_other))

-- the loop's invariant. A group is read with one fuel less than what the loop has left, and needs three more than its tokens: so the loop has four
abbrev pub GroupLoop : ℕ → ℕ → List ℕ → Step → List ℕ → Step → Type 0
GroupLoop d q m₁ s₁ m s = Loops group_cells (more_groups d q) 3 4 m₁ s₁ m s

-- a group before the others
abbrev put_group : Group → Groups → Groups
put_group e g = group e.labels e.body g

put_group_lem : (e : Group) (g : Groups) → group_cells (put_group e g) ≡ labelled_cells e ++ group_cells g
unfolding group_cells labelled_cells
put_group_lem e g = refl

-- a group, where only that there is one matters
any_group : Group
any_group = record { labels = []; body = empty }

-- ELSE of CASE, or nothing
last_group : (o : Option Stms) → group_cells (or_else no_other else_g o) ≡ otherwise_cells END_CASE o
unfolding group_cells otherwise_cells or_else
last_group none = refl
last_group (some l) = refl

-- labels, `:`, a list, and what is behind them
one_group_lem : (d q f : ℕ) (us : List T.Token) → one_group (labels f) (list f d q) (groups f d q) us
    ≡ on_read (one_labelled f d q us) (λ e. ◌>>=◌ (more_groups d q f) (λ g. give (put_group e g)))
unfolding one_group one_labelled
one_group_lem d q f us =
    tripled (labels f) (take COLON) (list f d q) (λ ls l. record { labels = ls; body = l })
    (λ e. ◌>>=◌ (more_groups d q f) (λ g. give (put_group e g))) us

-- with a constant ahead a group is behind the group
next_group : (d q g : ℕ) (us : List T.Token) → starts_constant (next us).kind ≡ true
    → more_groups d q (suc g) us ≡ on_read (one_labelled g d q us) (λ e. ◌>>=◌ (more_groups d q g) (λ x. give (put_group e x)))
unfolding whether groups
next_group d q g us e = rw e (one_group_lem d q g us)

-- without one, ELSE or nothing
no_group : (d q f : ℕ) (us : List T.Token) → starts_constant (next us).kind ≡ false
    → more_groups d q f us ≡ on_read (otherwise f d q us) (λ o. give (or_else no_other else_g o))
unfolding whether
no_group d q f us e = rw e (else_read no_other else_g f d q us)

-- the loop begins, behind the first group
pub groups_start : (d q : ℕ) (m₁ : List ℕ) (s₁ : Step) → GroupLoop d q m₁ s₁ m₁ s₁
groups_start d q m₁ s₁ = loops_start group_cells (more_groups d q) 3 4 m₁ s₁

module _ (d q : ℕ) {m₁ : List ℕ} {s₁ : Step} (behind : 3 * count_of s₁ ≤ free_of s₁) where
  -- a constant starts, and a group is read
  pub groups-turn : {m m' : List ℕ} {s s' : Step} → GroupLoop d q m₁ s₁ m s → starts_constant (kind_at m s) ≡ true
      → DidWith 3 3 labelled_cells m m' s s' (λ f. one_labelled f d q) → left_of s' < left_of s → GroupLoop d q m₁ s₁ m' s'
  groups-turn {m} {s} old holds did more =
      loops_step group_cells (more_groups d q) 3 4 m₁ s₁ behind any_group labelled_cells (λ f. one_labelled f d q) put_group put_group_lem old
      (λ g us z. next_group d q g us (ap starts_constant (kind_left m s us z) ∙ holds))
      (λ g h. did g (omega arith))
      (omega arith)

  -- it is refused
  pub groups-refused : {m : List ℕ} {x p : ℕ} → GroupLoop d q m₁ s₁ m (Bad x p) → DidWith 3 4 group_cells m₁ m s₁ (Bad x p) (more_groups d q)
  groups-refused old = loops-refused group_cells (more_groups d q) 3 4 m₁ s₁ old

  -- no constant starts: ELSE or nothing is read, and with it all that is behind the first group
  pub groups_done : {m mₑ : List ℕ} {s r : Step} → GroupLoop d q m₁ s₁ m s → starts_constant (kind_at m s) ≡ false → DidWith 3 3 (otherwise_cells END_CASE) m mₑ s r (λ f. otherwise f d q)
      → DidWith 3 4 group_cells m₁ mₑ s₁ r (more_groups d q)
  groups_done {m} {s} old fails did =
      loops_end 3 4 behind none (or_else no_other else_g) last_group (λ f. otherwise f d q) old
      (λ f us z. no_group d q f us (ap starts_constant (kind_left m s us z) ∙ fails)) (λ f h. did f (omega arith))

-- the first group, and all that is behind it
pub groups_first : (f d q : ℕ) {m₀ m₁ mₑ : List ℕ} {s s₁ r : Step} → 3 * count_of s ≤ free_of s → Did labelled_cells m₀ m₁ s s₁ (one_labelled f d q)
    → Did group_cells m₁ mₑ s₁ r (more_groups d q f) → Did group_cells m₀ mₑ s r (one_group (labels f) (list f d q) (groups f d q))
groups_first f d q behind first others = both no_other any_group put_group put_group_lem behind (one_group_lem d q f) first others
