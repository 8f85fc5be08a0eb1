-- What is read of a statement is its depth and its worst case, kind by kind. Assumes nothing.
use mathlib.Core.Path.{◌≡◌, refl, ap, ◌∙◌}
use mathlib.Core.List as L
use mathlib.Core.List.{◌∷◌, ◌++◌, append_assoc}
use Prim.Native.Nat.{ℕ, suc, ◌+◌, ◌≤◌, max}
use native.Mathlib.Omega.{arith}
use lib.IntN.{ℤ}
use lib.ListN.{length, length-append}
use Rattle.std.specs.Prelude.{Option}
use Rattle.rules.specs.Bytes.{to_u}
use Rattle.rules.specs.Limits.{unbounded_mark}
use Rattle.rules.specs.Core.{Expr, Stmt, List, for}
use Rattle.rules.specs.Kinds.{ASSIGN, IF, CASE, FOR, WHILE, REPEAT, EXIT, BY}
use Rattle.rules.specs.Cells.{cell}
use Rattle.rules.specs.CoreCells.{held_cells, stmt_cells, body_cells, grps_cells}
use Rattle.rules.specs.Depth.{depth_s}
use Rattle.rules.specs.Worst.{Bound, fin, add_w, Lit, lit_of, for_w, worst_s, worst_l, worst_b, worst_g}
use Rattle.theorems.specs.Decoding.{of_u-to_u}
use Rattle.theorems.specs.Fields.{Z32, FitS}
use Rattle.theorems.specs.Levels.{levels_s, nest_s}
use Rattle.ticks.specs.Bounds.{bound_of, cut}
use Rattle.ticks.specs.Laws.{add_cut, for_cut}
use Rattle.cells.specs.Reading.{cell_in, behind, Lies}
use Rattle.cells.specs.Laws.{lies_first}
use Rattle.cells.specs.declared.cell.Cell.{Cell}
use Rattle.figures.specs.Parts.{Part, Ending, shown, lit_in, HeldMeans, LiteralMeans, LoopMeans, ListMeans, BranchesMean, GroupsMean, ForMeans}
use Rattle.figures.proofs.Heads.{head, tail}
use Rattle.figures.proofs.Tags.{Tagged, assigned, branched, chosen, counted, tested, repeated, left}
use Rattle.figures.proofs.Following.{past_held, past_list, conditional_list}
use Rattle.figures.proofs.Whole.{alike}

-- r is what a statement that lies at `at` shows
abbrev pub Shown : ℕ → Part → Stmt → Type 0
Shown at r x = r ≡ shown (at + length (stmt_cells x)) (depth_s x) (worst_s x)

-- Which kinds are nested

-- all but assignments and EXIT
pub nested : {x : Stmt} {t : ℕ} → Tagged x t → (t ≡ ASSIGN → ⊥) → (t ≡ EXIT → ⊥) → 1 ≤ nest_s x
unfolding levels_s
nested assigned h k = absurd (h refl)
nested branched h k = omega arith
nested chosen h k = omega arith
nested counted h k = omega arith
nested tested h k = omega arith
nested repeated h k = omega arith
nested left h k = absurd (k refl)

-- of these, REPEAT is what four tests leave
pub only_repeat : {x : Stmt} {t : ℕ} → Tagged x t → 1 ≤ nest_s x → (t ≡ IF → ⊥) → (t ≡ CASE → ⊥) → (t ≡ FOR → ⊥) → (t ≡ WHILE → ⊥) → Tagged x REPEAT
unfolding levels_s
only_repeat assigned n f g h k = absurd (omega arith)
only_repeat branched n f g h k = absurd (f refl)
only_repeat chosen n f g h k = absurd (g refl)
only_repeat counted n f g h k = absurd (h refl)
only_repeat tested n f g h k = absurd (k refl)
only_repeat repeated n f g h k = repeated
only_repeat left n f g h k = absurd (omega arith)

module _ {m : L.List ℕ} {at j : ℕ} (p : j ≡ behind m at) where
  pub assign_is : {x : Stmt} {s : Ending} → Tagged x ASSIGN → HeldMeans m j s → Lies m at (stmt_cells x) → Shown at (record { at = s.at; depth = max s.depth 0; worst = 1 }) x
  unfolding stmt_cells cell depth_s worst_s cut
  assign_is (assigned {i} {e}) held y =
      let b = tail p y in
      let h = held 0 e b.1 in
      alike (omega arith) (omega arith) refl

  pub exit_is : {x : Stmt} → Tagged x EXIT → Lies m at (stmt_cells x) → Shown at (record { at = j; depth = 0; worst = 1 }) x
  unfolding stmt_cells cell depth_s worst_s cut
  exit_is left y = alike (tail p y).0 refl refl

  module _ {levels : ℕ} where
    pub if_is : {x : Stmt} {g : Part} {w : ℕ} → Tagged x IF → BranchesMean m j levels g → w ≡ cut (add_w (bound_of 1) (bound_of g.worst))
        → Lies m at (stmt_cells x) → nest_s x ≤ suc levels → FitS x → Shown at (record { at = g.at; depth = max 0 g.depth; worst = w }) x
    unfolding stmt_cells cell levels_s depth_s worst_s cut
    if_is (branched {b}) means q y n i =
        let k = tail p y in
        let r = means b k.1 (omega arith) i in
        let a = ap (λ f. f.at) r in
        let d = ap (λ f. f.depth) r in
        alike (omega arith) (omega arith) (q ∙ rw r (add_cut (fin 1) (worst_b b)))

    pub case_is : {x : Stmt} {s : Ending} {g : Part} {b d w : ℕ} → Tagged x CASE → HeldMeans m j s → GroupsMean m s.at levels g → b ≡ max s.depth 2 → d ≡ max b g.depth
        → w ≡ cut (add_w (bound_of 1) (bound_of g.worst)) → Lies m at (stmt_cells x) → nest_s x ≤ suc levels → FitS x → Shown at (record { at = g.at; depth = max 0 d; worst = w }) x
    unfolding stmt_cells cell levels_s depth_s worst_s cut
    case_is (chosen {e} {g}) held means t u q y n i =
        let k = tail p y in
        let h = past_held 0 e (grps_cells g) held k.1 in
        let r = means g h.2 (omega arith) i.1 in
        let z = length-append (held_cells 0 e) (grps_cells g) in
        let a = ap (λ f. f.at) r in
        let b = ap (λ f. f.depth) r in
        alike (omega arith) (omega arith) (q ∙ rw r (add_cut (fin 1) (worst_g g)))

    pub while_is : {x : Stmt} {s : Ending} {g : Part} {d : ℕ} → Tagged x WHILE → HeldMeans m j s → ListMeans m s.at levels g → d ≡ max s.depth g.depth
        → Lies m at (stmt_cells x) → nest_s x ≤ suc levels → FitS x → Shown at (record { at = g.at; depth = d; worst = unbounded_mark }) x
    unfolding stmt_cells levels_s depth_s worst_s cut
    while_is (tested {c} {l}) held means u y n i =
        let r = conditional_list WHILE c l p held means y (omega arith) i.1 in
        alike r.0 (u ∙ r.1) refl

    pub repeat_is : {x : Stmt} {s : Ending} {g : Part} {d : ℕ} → Tagged x REPEAT → ListMeans m j levels g → HeldMeans m g.at s → d ≡ max s.depth g.depth
        → Lies m at (stmt_cells x) → nest_s x ≤ suc levels → FitS x → Shown at (record { at = s.at; depth = d; worst = unbounded_mark }) x
    unfolding stmt_cells cell levels_s depth_s worst_s cut
    repeat_is (repeated {l} {c}) means held u y n i =
        let k = tail p y in
        let r = past_list l (held_cells 0 c) means k.1 (omega arith) i.0 in
        let h = held 0 c r.1 in
        let z = length-append (body_cells l) (held_cells 0 c) in
        let a = ap (λ f. f.at) r.0 in
        let b = ap (λ f. f.depth) r.0 in
        alike (omega arith) (omega arith) refl

-- FOR

-- the cells of FOR, one part behind another
regroup : (a b c d : L.List ℕ) → ((a ++ b) ++ c) ++ d ≡ a ++ (b ++ (c ++ d))
regroup a b c d = simp append_assoc

for_cells : (v : ℕ) (a e : Expr) (s : ℤ) (l : List) → stmt_cells (for v a e s l) ≡ FOR ∷ 0 ∷ v ∷ (held_cells 0 a ++ (held_cells 1 e ++ (BY ∷ 0 ∷ to_u s ∷ body_cells l)))
unfolding stmt_cells cell
for_cells v a e s l = ap (λ w. FOR ∷ 0 ∷ v ∷ w) (regroup (held_cells 0 a) (held_cells 1 e) (cell BY 0 (to_u s)) (body_cells l))

-- the step is written as an unsigned number
for_worst : {w : ℕ} {by : Cell} {g : Part} {at d : ℕ} (first last : Option ℤ) (a e : Lit) (s : ℤ) (b : Bound) → LoopMeans first last by.datum g.worst w → lit_in first ≡ a → lit_in last ≡ e
    → by ≡ record { tag = BY; place = 0; datum = to_u s } → Z32 s → g ≡ shown at d b → w ≡ cut (for_w a e s b)
for_worst first last a e s b worst p q k z r = worst ∙ rw (p, q, k, of_u-to_u s z, r) (for_cut a e s b)

-- FOR's parts, read one behind another
pub for_means : {m : L.List ℕ} {j k levels b d w : ℕ} {s e : Ending} {by : Cell} {g : Part} (first last : Option ℤ) → HeldMeans m j s → HeldMeans m s.at e
    → by ≡ cell_in m e.at → k ≡ behind m e.at → ListMeans m k levels g → LiteralMeans m j first → LiteralMeans m s.at last → LoopMeans first last by.datum g.worst w
    → b ≡ max s.depth e.depth → d ≡ max b g.depth → ForMeans m j levels (record { at = g.at; depth = d; worst = w })
unfolding depth_s worst_s
for_means {m} {j = j} first last initial final by q means from to worst lower deep at v a e s l p y n i =
    let b : L.List ℕ = BY ∷ 0 ∷ to_u s ∷ body_cells l in
    let whole = tail p (rw (for_cells v a e s l) at y) in
    let h = past_held 0 a (held_cells 1 e ++ b) initial whole.1 in
    let o = past_held 1 e b final h.2 in
    let k = tail q o.2 in
    let r = means l k.1 n i.4 in
    let x = length-append (held_cells 0 a) (held_cells 1 e ++ b) in
    let z = length-append (held_cells 1 e) b in
    let f = ap (λ t. t.at) r in
    let c = ap (λ t. t.depth) r in
    rw (for_cells v a e s l) (alike (omega arith) (omega arith)
    (for_worst first last (lit_of a) (lit_of e) s (worst_l l) worst
    (from 0 a (lies_first (held_cells 0 a) (held_cells 1 e ++ b) whole.1) i.1)
    (to 1 e (lies_first (held_cells 1 e) b h.2) i.2) (by ∙ head o.2) i.3 r))

-- a statement with FOR's tag is a FOR
pub for_is : {m : L.List ℕ} {at j levels : ℕ} {r : Part} {x : Stmt} → j ≡ behind m at → Tagged x FOR → ForMeans m j levels r → Lies m at (stmt_cells x) → nest_s x ≤ suc levels → FitS x → Shown at r x
unfolding levels_s
for_is p (counted {v} {a} {e} {s} {l}) means y n i = means _ v a e s l p y (omega arith) i
