-- Declarations and the whole program: what the code does in each function is what the rules' reader says. Assumes nothing.
use mathlib.Core.Path.{◌≡◌, refl, sym, ap, ◌∙◌}
use mathlib.Core.List.{List, [], ◌∷◌, ◌++◌}
use mathlib.Core.Option.{none}
use Prim.Native.Nat.{ℕ, zero, suc, ◌+◌, ◌*◌, ◌≤◌, ◌<◌}
use native.Mathlib.Omega.{arith}
use borrow.Author.Tests.{eq-eqb, ne_eqb}
use Rattle.rules.specs.Numbers.{bool, dint}
use Rattle.rules.specs.Kinds.{FINISH, NAME, BOOL, DINT, END_PROGRAM, END_VAR, PROGRAM, VAR, ASSIGN, COLON, SEMI}
use Rattle.rules.specs.Syntax.{Decl, on_read, ◌>>=◌, give, when, take, maybe, list, empty, declaration, declarations, variables, program}
use Rattle.rules.specs.Cells.{cell, end_cell, name_cell, maybe_cells, list_cells, type_kind, decl_cells, decls_cells, tree_cells}
use Rattle.parse.specs.Steps.{count_of, left_of, free_of, token_at, kind_at, Writes, Skips, Step, Bad}
use Rattle.parse.specs.Reading.{Did, DidWith, nothing}
use Rattle.parse.specs.Parts.{declared_type, type_cell}
use Rattle.cells.specs.declared.cell.Cell.{Cell}
use Rattle.parse.proofs.Follow.{Ends, begin, gives, bind, thens, knows, skips_on, writes, is, isn't}
use Rattle.parse.proofs.Loops.{Loops, loops_step, loops-refused}
use Rattle.parse.proofs.Names.{takes-name, passes-name}

-- from the beginning of the declarations the loop has come to a step
abbrev pub Declares : List ℕ → Step → List ℕ → Step → Type 0
Declares m s m₁ s₁ = Loops decls_cells declarations 1 1 m s m₁ s₁

module _ {m : List ℕ} {s : Step} (behind : 3 * count_of s ≤ free_of s) where
  -- The type of a declaration

  pub type-bool : {m₁ m₂ : List ℕ} {s₁ r : Step} (place d : ℕ) → kind_at m s ≡ BOOL → Skips m m₁ s s₁ → Writes (cell BOOL place d) m₁ m₂ s₁ r → Did (type_cell place d) m m₂ s r declared_type
  unfolding declared_type type_cell type_kind
  type-bool place d sees skip w = begin (is behind _ _ BOOL sees (skips_on behind skip (writes behind BOOL place d w (gives bool refl))))

  pub type-dint : {m₁ m₂ : List ℕ} {s₁ r : Step} (place d : ℕ) → (kind_at m s ≡ BOOL → ⊥) → Did nothing m m₁ s s₁ (take DINT) → Writes (cell DINT place d) m₁ m₂ s₁ r
      → Did (type_cell place d) m m₂ s r declared_type
  unfolding declared_type type_cell type_kind
  type-dint place d other word w = begin (isn't behind _ _ BOOL other (thens behind word (writes behind DINT place d w (gives dint refl))))

  -- A declaration; x is the name's token

  pub declares : {x : Cell} {m₁ m₂ m₃ m₄ m₅ : List ℕ} {s₁ s₂ s₃ s₄ r : Step} → x ≡ token_at m s
      → Did nothing m m₁ s s₁ (take NAME) → Did nothing m₁ m₂ s₁ s₂ (take COLON) → Did (type_cell x.place x.datum) m₂ m₃ s₂ s₃ declared_type
      → Did maybe_cells m₃ m₄ s₃ s₄ (maybe ASSIGN) → Did nothing m₄ m₅ s₄ r (take SEMI) → Did decl_cells m m₅ s r declaration
  unfolding declaration declared_type type_cell decl_cells name_cell
  declares sees name colon typed initial semi =
      begin (takes-name behind name (λ v p l.
      thens behind colon
      (bind behind bool typed (λ t.
      bind behind none initial (λ i.
      thens behind semi
      (gives (record { name = v; type = t; init = i }) (rw (p, l, sees))))))))

  -- Declarations

  -- some were read, and a name is next: one more is read
  pub declares_more : {m₁ m₂ : List ℕ} {s₁ s₂ : Step} → Declares m s m₁ s₁ → kind_at m₁ s₁ ≡ NAME → Did decl_cells m₁ m₂ s₁ s₂ declaration → left_of s₂ < left_of s₁ → Declares m s m₂ s₂
  unfolding declarations when kind_at ◌>>=◌ decls_cells
  declares_more so sees d on =
      loops_step decls_cells declarations 1 1 m s behind w decl_cells (λ g. declaration) ◌∷◌ (λ x xs. refl) so
      (λ g us z. rw (eq-eqb _ _ (sym (ap (λ c. c.tag) z) ∙ sees))) (λ g h. d) (omega arith)
    where
      w : Decl
      w = record { name = record { place = 0; letters = [] }; type = bool; init = none }

  -- one is refused
  pub declares-none : {m₁ : List ℕ} {x p : ℕ} → Declares m s m₁ (Bad x p) → DidWith 1 1 decls_cells m m₁ s (Bad x p) declarations
  declares-none so = loops-refused decls_cells declarations 1 1 m s so

  -- no name is next: all were read
  pub declared_all : {m₁ mₑ : List ℕ} {s₁ r : Step} → Declares m s m₁ s₁ → (kind_at m₁ s₁ ≡ NAME → ⊥) → Writes (cell FINISH 0 0) m₁ mₑ s₁ r → DidWith 1 1 decls_cells m mₑ s r declarations
  unfolding declarations when kind_at ◌>>=◌ on_read give decls_cells end_cell
  declared_all {m₁} {mₑ} {s₁} {r} so other w f h = begin (so mₑ r f h ended)
    where
      ended : (v : List ℕ) (wrap : List Decl → List Decl) → ((x : List Decl) → decls_cells (wrap x) ≡ v ++ decls_cells x) → (g : ℕ)
          → 1 * left_of s₁ + 1 ≤ g → Ends (count_of s) m (free_of s) decls_cells mₑ r v m₁ s₁ (◌>>=◌ (declarations g) (λ x. give (wrap x)))
      ended v wrap q zero b = absurd (omega arith)
      ended v wrap q (suc g) b =
          knows behind (λ us z. rw (ne_eqb _ _ (λ e. other (ap (λ c. c.tag) z ∙ e))))
          (writes behind FINISH 0 0 w (gives (wrap []) (q [])))

  -- Variables

  -- VAR, declarations, END_VAR
  pub variables-some : {m₁ m₂ m₃ : List ℕ} {s₁ s₂ r : Step} (f : ℕ) → kind_at m s ≡ VAR → Skips m m₁ s s₁
      → Did decls_cells m₁ m₂ s₁ s₂ (declarations f) → Did nothing m₂ m₃ s₂ r (take END_VAR) → Did decls_cells m m₃ s r (variables f)
  unfolding variables
  variables-some f sees skip d word = begin (is behind _ _ VAR sees (skips_on behind skip (bind behind [] d (λ ds. thens behind word (gives ds refl)))))

  -- no VAR: no declarations
  pub variables-none : {m₁ : List ℕ} {r : Step} (f : ℕ) → (kind_at m s ≡ VAR → ⊥) → Writes (cell FINISH 0 0) m m₁ s r → Did decls_cells m m₁ s r (variables f)
  unfolding variables decls_cells end_cell
  variables-none f other w = begin (isn't behind _ _ VAR other (writes behind FINISH 0 0 w (gives [] refl)))

  -- The whole program

  pub programs : {m₁ m₂ m₃ m₄ m₅ m₆ : List ℕ} {s₁ s₂ s₃ s₄ s₅ r : Step} (f : ℕ) → Did nothing m m₁ s s₁ (take PROGRAM) → Did nothing m₁ m₂ s₁ s₂ (take NAME)
      → Did decls_cells m₂ m₃ s₂ s₃ (variables f) → Did list_cells m₃ m₄ s₃ s₄ (list f 0 0) → Did nothing m₄ m₅ s₄ s₅ (take END_PROGRAM)
      → Did nothing m₅ m₆ s₅ r (take FINISH) → Did tree_cells m m₆ s r (program f)
  unfolding program tree_cells
  programs f word name declared body end all =
      begin (thens behind word
      (passes-name behind name
      (bind behind [] declared (λ ds.
      bind behind empty body (λ l.
      thens behind end
      (thens behind all
      (gives (record { decls = ds; body = l }) refl)))))))
