-- Reading a label of CASE follows the rules. Assumes nothing.
use mathlib.Core.Path.{◌≡◌, refl, sym, ap, ◌∙◌}
use mathlib.Core.Bool.{Bool, ◌&&◌}
use mathlib.Core.List.{List, [], ◌++◌, append-nil, append_assoc}
use mathlib.Core.Option.{none, some}
use Prim.Native.Nat.{ℕ, ◌+◌, ◌≤◌}
use native.Mathlib.Nat.{add-zero}
use native.Mathlib.Omega.{arith}
use lib.Dec.{eqb}
use lib.ListN.{length}
use lib.Signed.{le_z}
use Rattle.rules.specs.Base.{Res, ◌>>=◌, need}
use Rattle.rules.specs.Numbers.{dint, same_ty}
use Rattle.rules.specs.Bytes.{to_u, of_u}
use Rattle.rules.specs.Kinds.{DINT, DOTS, COMMA}
use Rattle.rules.specs.Syntax.{Con}
use Rattle.rules.specs.Walk.{con_first, con_type, con_value, high_of, span}
use Rattle.rules.specs.Cells.{cell, con_cells, label_cells}
use Rattle.walk.specs.Steps.{cell_at, tag_at, checked, extended, written, left}
use Rattle.walk.specs.Walking.{Scope, When, Any}
use Rattle.walk.specs.Promises.{ConstantIs, ConstantMeans}
use Rattle.walk.specs.LabelPromises.{HighIs, lone, ranged, tag_behind, LabelMeans}
use Rattle.walk.specs.Places.{Step, Ok, Bad, Literal}
use Rattle.walk.proofs.Follow.{Ends, place_of, begin, gives, bind, checks, looks, skips, writes, still_checked, still_skipped, still_done}
use Rattle.walk.proofs.Moves.{moved-skip}
use Rattle.walk.proofs.Refusals.{no_check, no_write}
use Rattle.walk.proofs.Knowing.{whenever, both, need-alone, goes_on, likewise, knowing, regrouped, barred, checked-stays, extended-stays}
use Rattle.walk.proofs.ConstantValues.{dint-kind, exact-value}

-- reading the high value goes on from the low one
pub high_moved : {m : List ℕ} {low high : Literal} → HighIs m low high → left m high.step ≤ left m low.step
high_moved (lone h) = omega arith
high_moved {m} {low} (ranged e moves means) = omega (arith, moved-skip m low.step refl)

-- whether both are integers, by their kinds
dint-kinds : (c d : Con) {low high : Literal} → ConstantIs c low → ConstantIs d high → eqb low.kind DINT && eqb high.kind DINT ≡ same_ty (con_type c) dint && same_ty (con_type d) dint
dint-kinds c d i j = rw (i.kind, j.kind, dint-kind (con_type c), dint-kind (con_type d))

-- whether they are in order, by their numbers
in_order : (c d : Con) {low high : Literal} → ConstantIs c low → ConstantIs d high → le_z (of_u low.bits) (of_u high.bits) ≡ le_z (con_value c) (con_value d)
in_order c d i j = rw (i.bits, j.bits, exact-value c i.allowed, exact-value d j.allowed)

-- the tests behind the constants
tests : Con → Con → Res (Unit {0})
tests c d = ◌>>=◌ (need (same_ty (con_type c) dint && same_ty (con_type d) dint) 8 (con_first c)) (λ _. need (le_z (con_value c) (con_value d)) 16 (con_first c))

-- where no `..` stands so many numbers on, none is ahead of the step there
none_there : (m : List ℕ) (s : Step) (n at free : ℕ) → at ≡ place_of s + n → When s (tag_behind m s n ≡ DOTS → ⊥) → When s (tag_at m (Ok at free) ≡ DOTS → ⊥)
unfolding tag_behind tag_at cell_at place_of
none_there m (Ok a f) n at free e h at₁ free₁ z q = h at₁ free₁ z (rw e at q)
none_there m (Bad k p) n at free e h at₁ free₁ z q = let y : ◌≡◌ {A = ℕ} 0 1 = cc in absurd (omega arith)

-- what is done behind both constants: two tests and a cell
pub record Closes (m m' : List ℕ) (low high : Literal) (r : Step) : Type 0 where
  pub integers : Bool
  pub dints : integers ≡ eqb low.kind DINT && eqb high.kind DINT
  pub typed : Step
  pub typing : typed ≡ checked integers 8 low.first high.step
  pub ordered : Step
  pub ordering : ordered ≡ checked (le_z (of_u low.bits) (of_u high.bits)) 16 low.first typed
  pub wrote : (r ≡ extended m ordered) × (m' ≡ written m ordered (cell COMMA low.bits high.bits))

-- they follow the rules
spanned : {σ : Scope} (slack : ℕ) {at₀ free₀ used : ℕ} {m m' : List ℕ} {low high : Literal} {r : Step} (c d : Con) → Closes m m' low high r → When high.step (ConstantIs c low × ConstantIs d high)
    → Ends σ m at₀ free₀ Any (λ (_ : Unit {0}). cell COMMA (to_u (con_value c)) (to_u (con_value d))) 0 used m' r (slack + 3) [] [] m high.step (tests c d)
unfolding tests
spanned slack {low = low} c d k known =
    checks k.integers _ 8 low.first (con_first c) k.typing (whenever (λ h. (k.dints ∙ dint-kinds c d h.0 h.1, h.0.first)) known)
    (let known₁ = still_checked _ _ _ k.typing known in
    likewise (λ at free e. need-alone (le_z (con_value c) (con_value d)) 16 (con_first c))
    (checks _ (le_z (con_value c) (con_value d)) 16 low.first (con_first c) k.ordering (whenever (λ h. (in_order c d h.0 h.1, h.0.first)) known₁)
    (writes {slack = slack} COMMA (to_u (con_value c)) (to_u (con_value d)) k.wrote (whenever (λ h. rw (h.0.bits, h.1.bits)) (still_checked _ _ _ k.ordering known₁))
    (gives tt (λ at free e. tt) refl (omega arith)))))

-- a refusal stays
refused : {m m' : List ℕ} {low high : Literal} {r : Step} → Closes m m' low high r → {n p : ℕ} → high.step ≡ Bad n p → r ≡ Bad n p
refused {m} k e = extended-stays m k.wrote.0 (checked-stays _ _ _ k.ordering (checked-stays _ _ _ k.typing e))

-- behind a refusal nothing is done
pub closes_none : {m : List ℕ} (low high : Literal) {n p : ℕ} → high.step ≡ Bad n p → Closes m m low high (Bad n p)
closes_none {m} low high {n} {p} e = record {
  integers = _;
  dints = refl;
  typed = Bad n p;
  typing = rw e (no_check _ _ _);
  ordered = Bad n p;
  ordering = no_check _ _ _;
  wrote = no_write m _;
}

-- the constants have other types
pub closes_untyped : {m : List ℕ} (low high : Literal) {n p : ℕ} (b : Bool) → b ≡ eqb low.kind DINT && eqb high.kind DINT → Bad n p ≡ checked b 8 low.first high.step → Closes m m low high (Bad n p)
closes_untyped {m} low high {n} {p} b d e = record {
  integers = b;
  dints = d;
  typed = Bad n p;
  typing = e;
  ordered = Bad n p;
  ordering = no_check _ _ _;
  wrote = no_write m _;
}

-- no tag is ahead of a refusal
pub refusal-ahead : (m : List ℕ) {s : Step} {n p : ℕ} → s ≡ Bad n p → tag_at m s ≡ 0
unfolding tag_at cell_at
refusal-ahead m e = ap (tag_at m) e

-- the cells, as they are read
ranged-cells : (c d : Con) → con_cells c ++ (cell DOTS 0 0 ++ (con_cells d ++ [])) ≡ (con_cells c ++ cell DOTS 0 0) ++ con_cells d
ranged-cells c d = rw append-nil (sym (append_assoc (con_cells c) (cell DOTS 0 0) (con_cells d)))

-- a label: by whether `..` is ahead of the code, and whether the rules have a high value
pub label-read : {m m' : List ℕ} {low high : Literal} {s r : Step} → ConstantMeans m s low → HighIs m low high → Closes m m' low high r → LabelMeans m m' s r
unfolding span high_of label_cells tests tag_at
label-read means (lone other) k σ c none =
    regrouped (append-nil (con_cells c))
    (begin (λ given. bind tt (means σ c) (λ at free e. tt) (λ _ is. likewise (whenever (λ i. goes_on _ i.allowed) is) (spanned 0 c c k (both is is)))))
label-read means (lone other) k σ c (some d) =
    regrouped (ranged-cells c d)
    (begin (λ given. bind tt (means σ c) (λ at free e. tt) (λ _ is. looks DOTS 0 0 (con_cells d ++ []) (λ seen. barred (λ n p e. refused k e) (whenever (λ e. other (ap (λ x. x.tag) e)) seen)))))
label-read {m} {s = s} means (ranged dots moves high) k σ c none =
    regrouped (append-nil (con_cells c))
    (begin (λ given. bind tt (means σ c) (λ at free e. tt) (λ _ is.
    knowing
    (λ at free e y.
    let place : at ≡ place_of s + length (con_cells c) = sym (add-zero at) ∙ y.place ∙ ap (λ l. place_of s + length l) (append-nil (con_cells c)) in
    still_done (means σ c) (none_there m s (length (con_cells c)) at free place given) at free e (ap (tag_at m) (sym e) ∙ dots))
    (λ never. barred (λ n p e. let z = sym (refusal-ahead m e) ∙ dots in absurd (omega arith)) never))))
label-read {m} means (ranged dots moves high) k σ c (some d) =
    regrouped (ranged-cells c d)
    (begin (λ given. bind tt (means σ c) (λ at free e. tt) (λ _ is. skips DOTS 0 0 refl (bind tt (high σ d) (λ at free e. tt) (λ _ is₂.
    spanned 6 c d k (both (still_done (high σ d) (still_skipped m refl is)) is₂))))))

pub no_dots : (m : List ℕ) (n p : ℕ) → tag_at m (Bad n p) ≡ DOTS → ⊥
no_dots m n p e = let z = sym (refusal-ahead m {s = Bad n p} refl) ∙ e in omega arith
