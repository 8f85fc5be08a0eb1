-- The end of the declarations: what the code does is what the rules say. Assumes nothing.
use mathlib.Core.Path.{◌≡◌, refl, sym, ap, ◌∙◌}
use mathlib.Core.List.{List, [], ◌∷◌, ◌++◌, append_assoc}
use Prim.Native.Nat.{ℕ}
use native.Mathlib.Omega.{arith}
use Rattle.rules.specs.Base.{Res, ok}
use Rattle.rules.specs.Numbers.{Ty, bool, dint}
use Rattle.rules.specs.Kinds.{FINISH}
use Rattle.rules.specs.Syntax.{Decl}
use Rattle.rules.specs.Walk.{Var, nameless, declare_all}
use Rattle.rules.specs.Cells.{cell, end_cell, name_cell, maybe_cells, type_kind, decls_cells}
use Rattle.rules.specs.CoreCells.{variable_cells}
use Rattle.walk.specs.Steps.{tag_at, skipped, extended, written}
use Rattle.walk.specs.Walking.{Scope, Ready, Did, Nothing, Any}
use Rattle.walk.specs.Promises.{scope}
use Rattle.walk.specs.Declaring.{var_cell, var_cells, Amid, midway, stopped, Behind, passed, refused}
use Rattle.walk.specs.Places.{Step, Ok, Bad}
use Rattle.walk.proofs.Follow.{begin, gives, skips, writes}
use Rattle.walk.proofs.Onward.{tag-ahead, After, came, after}
use Rattle.walk.proofs.Declares.{first_cells}

-- the cells of variables and the one that closes them
closed-cells : (vs : List Var) → var_cells vs ++ end_cell ≡ variable_cells (nameless vs)
unfolding var_cells var_cell variable_cells nameless
closed-cells [] = refl
closed-cells (v ∷ vs) = append_assoc (var_cell v) (var_cells vs) end_cell ∙ ap (λ l. var_cell v ++ l) (closed-cells vs)

-- the closing cell ahead becomes one that closes
heads : {σ : Scope} {m m' : List ℕ} {s r : Step} → (r ≡ extended m (skipped m s)) × (m' ≡ written m (skipped m s) (cell FINISH 0 0))
    → Did σ Nothing {A = Unit {0}} Any (λ _. end_cell) 0 end_cell m m' s r (ok tt)
unfolding end_cell cell
heads w = begin (λ g. skips {w = []} FINISH 0 0 refl (writes {slack = 0} FINISH 0 0 w (λ _ _ _. refl) (gives tt (λ _ _ _. tt) refl (omega arith))))

-- a declaration's first cell does not close
decl_tag : {σ : Scope} {m : List ℕ} {at free : ℕ} (d : Decl) (ds : List Decl) (tail : List ℕ) → Ready σ m at free (decls_cells (d ∷ ds) ++ tail) → tag_at m (Ok at free) ≡ FINISH → ⊥
unfolding name_cell type_kind
decl_tag {σ} {m} {at} {free} d ds tail y z = kinds d.type (sym (tag-ahead _ _ _ _ refl ahead) ∙ z)
  where
    ahead : Ready σ m at free (name_cell (type_kind d.type) d.name ++ (maybe_cells d.init ++ (decls_cells ds ++ tail)))
    ahead = rw (first_cells d ds tail) at y

    kinds : (t : Ty) → type_kind t ≡ FINISH → ⊥
    kinds bool e = omega arith
    kinds dint e = omega arith

-- at the closing cell no declaration is ahead, and it is written behind the variables
pub closes : {text tail m m' : List ℕ} {R : Res (List Var)} {count : ℕ} {s r : Step} → tag_at m s ≡ FINISH → (r ≡ extended m (skipped m s)) × (m' ≡ written m (skipped m s) (cell FINISH 0 0))
    → Amid text tail R m count s → Behind text tail R m' count r
unfolding decls_cells declare_all extended skipped
closes z w (stopped e) = rw w.0 (refused e)
closes z w (midway vs (d ∷ ds) e many each y part) = absurd (decl_tag d ds _ y z)
closes {text} {tail} {m} {m'} {R} {count} z w (midway {at} {free} vs [] e many each y part) = go (after end_cell tail (heads w) tt y)
  where
    go : {r : Step} → After (scope text count vs) {A = Unit {0}} Any (λ _. end_cell) m m' tail free r (ok tt) → Behind text tail R m' count r
    go (came _ _ y more) = passed vs e y (more ∙ ap (λ l. l ++ end_cell) part ∙ closed-cells vs)

-- a declaration was refused
pub closes_none : {text tail m m' : List ℕ} {R : Res (List Var)} {i j n p : ℕ} → Amid text tail R m i (Bad n p) → Behind text tail R m' j (Bad n p)
closes_none (stopped e) = refused e
