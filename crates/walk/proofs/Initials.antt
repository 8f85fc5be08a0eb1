-- The initial value of a declaration: what the code does behind the name is what the rules say. Assumes nothing.
use mathlib.Core.Path.{◌≡◌, refl, sym, ap, ◌∙◌}
use mathlib.Core.Bool.{true, false}
use mathlib.Core.List.{List, [], ◌++◌, append-nil}
use mathlib.Core.Option.{Option, none, some}
use Prim.Native.Nat.{ℕ}
use native.Mathlib.Omega.{arith}
use lib.Dec.{eqb}
use lib.IntN.{pos}
use Rattle.rules.specs.Numbers.{same_ty}
use Rattle.rules.specs.Bytes.{to_u}
use Rattle.rules.specs.Kinds.{FINISH}
use Rattle.rules.specs.Syntax.{Con, con_bool, con_int, Decl}
use Rattle.rules.specs.Walk.{con_type, con_value, initial}
use Rattle.rules.specs.Cells.{cell, end_cell, truth_kind, sign_kind, con_cells, maybe_cells, type_kind}
use Rattle.rules.specs.CoreCells.{variable_cell}
use Rattle.walk.specs.Steps.{tag_at, skipped, checked, extended, written, Moves}
use Rattle.walk.specs.Walking.{Scope, Ready, Did, Any, When}
use Rattle.walk.specs.Promises.{ConstantIs, ConstantMeans}
use Rattle.walk.specs.Declaring.{declared, var_cell, Names, InitialMeans}
use Rattle.rules.specs.declared.kinds.Type as Kinds
use Rattle.walk.specs.Places.{Step, Ok, Literal, type_number}
use Rattle.cells.specs.declared.cell.Cell.{Cell}
use Rattle.walk.proofs.KindTables.{same_kind}
use Rattle.walk.proofs.Moves.{moved-skip, moved-check, moved-write}
use Rattle.walk.proofs.Follow.{begin, gives, bind, checks, skips, writes, still_checked, still_skipped, still_done}
use Rattle.walk.proofs.Onward.{tag-ahead, elsewhere}

-- a constant's first cell does not close
con-tag : {σ : Scope} {m : List ℕ} {s : Step} {at free : ℕ} (c : Con) → s ≡ Ok at free → Ready σ m at free (con_cells c) → tag_at m s ≡ FINISH → ⊥
unfolding con_cells truth_kind sign_kind cell
con-tag (con_bool p true) e y z = let t = tag-ahead _ _ _ [] e y in omega arith
con-tag (con_bool p false) e y z = let t = tag-ahead _ _ _ [] e y in omega arith
con-tag (con_int p true q v) e y z = let t = tag-ahead _ _ _ _ e y in omega arith
con-tag (con_int p false q v) e y z = let t = tag-ahead _ _ _ _ e y in omega arith

-- the variable's cell
var-cell : (d : Decl) (c : Con) → var_cell (declared d (con_value c)) ≡ cell (type_kind d.type) 0 (to_u (con_value c))
unfolding var_cell declared variable_cell
var-cell d c = refl

-- a name of this type and place
abbrev pub named : Kinds.Type → ℕ → Cell
named t place = record { tag = type_number t; place = place; datum = 0 }

module _ {m m' : List ℕ} {s r : Step} (name : Cell) where
  -- No constant: 0
  module _ {s₁ : Step} (skip : s₁ ≡ skipped m s) (w : (r ≡ extended m s₁) × (m' ≡ written m s₁ (cell name.tag 0 0))) where
    -- as the rules have it
    bare : (σ : Scope) (d : Decl) → Did σ (Names name d) Any (λ z. var_cell (declared d z)) 0 end_cell m m' s r (initial d none)
    unfolding initial end_cell cell var_cell declared variable_cell to_u
    bare σ d =
        begin (λ g.
        skips {w = []} FINISH 0 0 skip
        (writes {slack = 0} (type_kind d.type) 0 0 w (still_skipped m skip (λ at free e. ap (λ t. cell t 0 0) (g at free e).0))
        (gives (pos 0) (λ _ _ _. tt) refl (omega arith))))

    -- whatever is ahead
    pub initial_bare : {k : ℕ} → k ≡ tag_at m s → k ≡ FINISH → Moves 3 m m' s r × InitialMeans name m m' s r
    unfolding maybe_cells
    initial_bare sees same = (omega (arith, moved-skip m s skip, (moved-write m s₁ _ w).0), λ σ d. by σ d d.init)
      where
        by : (σ : Scope) (d : Decl) (c : Option Con) → Did σ (Names name d) Any (λ z. var_cell (declared d z)) 0 (maybe_cells c) m m' s r (initial d c)
        by σ d none = bare σ d
        by σ d (some c) = elsewhere (bare σ d) (λ at free e y. con-tag c e y (sym sees ∙ same))

  -- A constant
  module _ {l : Literal} {s₁ : Step} (means : ConstantMeans m s l) (check : s₁ ≡ checked (eqb l.kind name.tag) 8 name.place l.step)
      (w : (r ≡ extended m s₁) × (m' ≡ written m s₁ (cell name.tag 0 l.bits))) where
    -- as the rules have it
    valued : (σ : Scope) (d : Decl) (c : Con) → Did σ (Names name d) Any (λ z. var_cell (declared d z)) 0 (con_cells c) m m' s r (initial d (some c))
    unfolding initial
    valued σ d c = rw (append-nil (con_cells c)) at chain
      where
        typed : When s (Names name d) → When l.step (ConstantIs c l) → When l.step ((eqb l.kind name.tag ≡ same_ty (con_type c) d.type) × (name.place ≡ d.name.place))
        typed g q at free e = let n = still_done (means σ c) g at free e in (rw ((q at free e).kind, n.0) (same_kind (con_type c) d.type), n.1)

        stored : When s (Names name d) → When l.step (ConstantIs c l) → When l.step (cell name.tag 0 l.bits ≡ cell (type_kind d.type) 0 (to_u (con_value c)))
        stored g q at free e = let n = still_done (means σ c) g at free e in rw (n.0, (q at free e).bits)

        chain : Did σ (Names name d) Any (λ z. var_cell (declared d z)) 0 (con_cells c ++ []) m m' s r (initial d (some c))
        chain =
            begin (λ g.
            bind tt (means σ c) (λ _ _ _. tt) (λ _ q.
            checks (eqb l.kind name.tag) (same_ty (con_type c) d.type) 8 name.place d.name.place check (typed g q)
            (writes {slack = 0} (type_kind d.type) 0 (to_u (con_value c)) w (still_checked _ _ _ check (stored g q))
            (gives (con_value c) (λ _ _ _. tt) (var-cell d c) (omega arith)))))

    -- whatever is ahead
    pub initial-valued : {k : ℕ} → k ≡ tag_at m s → (k ≡ FINISH → ⊥) → Moves 3 m m s l.step → Moves 3 m m' s r × InitialMeans name m m' s r
    unfolding maybe_cells end_cell cell
    initial-valued sees other far = (omega (arith, far, moved-check m _ _ _ l.step check, (moved-write m s₁ _ w).0), λ σ d. by σ d d.init)
      where
        by : (σ : Scope) (d : Decl) (c : Option Con) → Did σ (Names name d) Any (λ z. var_cell (declared d z)) 0 (maybe_cells c) m m' s r (initial d c)
        by σ d (some c) = valued σ d c
        by σ d none = elsewhere (valued σ d (con_bool 0 true)) (λ at free e y. other (sees ∙ tag-ahead FINISH 0 0 [] e y))
