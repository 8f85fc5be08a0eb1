-- Where a constant or a label is ahead, its first tag is one that constants start with. Assumes nothing.
use mathlib.Core.Path.{◌≡◌, refl, ap, ◌∙◌}
use mathlib.Core.Bool.{Bool, true, false}
use mathlib.Core.List.{List, ◌++◌, append_assoc}
use mathlib.Core.Option.{none, some}
use Prim.Native.Nat.{ℕ}
use Rattle.rules.specs.Base.{Res}
use Rattle.rules.specs.Kinds.{INT, DOTS}
use Rattle.rules.specs.Syntax.{Con, con_bool, con_int, Label, label}
use Rattle.rules.specs.Cells.{cell, truth_kind, sign_kind, con_cells, label_cells}
use Rattle.walk.specs.Steps.{cell_at, tag_at}
use Rattle.walk.specs.Constants.{is_constant}
use Rattle.walk.specs.Walking.{Scope, When}
use Rattle.walk.specs.Places.{Step}
use Rattle.walk.proofs.Follow.{Ends, looks}
use Rattle.walk.proofs.Knowing.{whenever}

-- TRUE and FALSE, and the signs, start constants
truth-starts : (b : Bool) → is_constant (truth_kind b) ≡ true
unfolding is_constant truth_kind
truth-starts true = refl
truth-starts false = refl

sign-starts : (b : Bool) → is_constant (sign_kind b) ≡ true
unfolding is_constant sign_kind
sign-starts true = refl
sign-starts false = refl

-- the tag is that of the cell
tag_seen : (m : List ℕ) {s : Step} {t p d : ℕ} → is_constant t ≡ true → When s (cell_at m s ≡ record { tag = t; place = p; datum = d }) → When s (is_constant (tag_at m s) ≡ true)
unfolding tag_at
tag_seen m h = whenever (λ e. ap (λ c. is_constant c.tag) e ∙ h)

module _ {σ : Scope} {m₀ : List ℕ} {at₀ free₀ : ℕ} {B : Type 0} {Q : B → Type 0} {encode : B → List ℕ} {gain used : ℕ} {mₑ : List ℕ} {r : Step} {slack : ℕ} {v m : List ℕ} {s : Step} {R : Res B} where
  -- a constant is ahead
  pub constant-ahead : (c : Con) (w : List ℕ) {w₀ : List ℕ} → w₀ ≡ con_cells c ++ w → (When s (is_constant (tag_at m s) ≡ true) → Ends σ m₀ at₀ free₀ Q encode gain used mₑ r slack v w₀ m s R)
      → Ends σ m₀ at₀ free₀ Q encode gain used mₑ r slack v w₀ m s R
  unfolding con_cells cell
  constant-ahead (con_bool p b) w z k = rw z (looks (truth_kind b) p 0 w (λ seen. rw z at (k (tag_seen m (truth-starts b) seen))))
  constant-ahead (con_int p b q u) w z k = rw z (looks (sign_kind b) p 0 (cell INT q u ++ w) (λ seen. rw z at (k (tag_seen m (sign-starts b) seen))))

  -- a label is ahead
  pub label-ahead : (l : Label) (w : List ℕ) → (When s (is_constant (tag_at m s) ≡ true) → Ends σ m₀ at₀ free₀ Q encode gain used mₑ r slack v (label_cells l ++ w) m s R)
      → Ends σ m₀ at₀ free₀ Q encode gain used mₑ r slack v (label_cells l ++ w) m s R
  unfolding label_cells
  label-ahead (label c none) w k = constant-ahead c w refl k
  label-ahead (label c (some d)) w k = constant-ahead c (cell DOTS 0 0 ++ (con_cells d ++ w)) (simp append_assoc) k
