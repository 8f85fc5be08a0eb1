-- Behind what a part of the walk did: what follows is ahead, and what was written lies behind what was written before. Assumes nothing.
use mathlib.Core.Path.{◌≡◌, refl, sym, ap, ◌∙◌}
use mathlib.Core.List.{List, ◌++◌, append_assoc}
use Prim.Native.Nat.{ℕ, ◌+◌, ◌≤◌}
use native.Mathlib.Omega.{arith}
use lib.ListN.{length, length-append, length-take, length-drop, drop, take}
use lib.Seq.{sets, sets-eq, length-take-le, take_at, drop-append-le, slice}
use borrow.Author.Tests.{le-leb}
use Rattle.rules.specs.Limits.{token_numbers, variable_limit}
use Rattle.rules.specs.Base.{Res, ok, refuse}
use Rattle.rules.specs.Cells.{cell}
use Rattle.names.specs.Rows.{rows_from}
use Rattle.names.specs.Laws.{plainly, rows_stay}
use Rattle.walk.specs.Steps.{stack_start, kept, cell_at, tag_at, skipped}
use Rattle.walk.specs.Walking.{Scope, Ready, Walked, went, fell, Did, walks, stays}
use Rattle.walk.specs.Places.{Step, Ok, Bad}
use Rattle.walk.proofs.Follow.{cell-ahead}
use Rattle.walk.proofs.Stores.{take-sets, drop-sets, behind_part, start_of_take}

-- Stores

-- what is stored behind a beginning is behind it
begin_more : (l : List ℕ) (i : ℕ) (xs : List ℕ) → i + length xs ≤ length l → take (i + length xs) (sets l i xs) ≡ take i l ++ xs
begin_more l i xs h =
    rw (sets-eq xs l i h)
    (take_at (take i l ++ xs) _ (i + length xs) (length-append (take i l) xs ∙ ap (λ n. n + length xs) (length-take-le i l (omega arith))))

-- a part is longer by it
part_more : (l : List ℕ) (f i : ℕ) (xs : List ℕ) → f ≤ i → i + length xs ≤ length l → slice f (i + length xs) (sets l i xs) ≡ slice f i l ++ xs
part_more l f i xs h k = ap (drop f) (begin_more l i xs k) ∙ drop-append-le f (take i l) xs (let e = length-take-le i l (omega arith) in omega arith)

-- the same length lies before the stack
kept_long : (m m' : List ℕ) → length m' ≡ length m → length (kept m') ≡ length (kept m)
unfolding kept
kept_long m m' e = length-take stack_start m' ∙ rw e (sym (length-take stack_start m))

-- What is ahead

-- the walk went past the cells a, and what is behind them is as it was
pub moved_on : {σ σ' : Scope} {m m' : List ℕ} {at free : ℕ} (free' : ℕ) (a w : List ℕ) → Ready σ m at free (a ++ w) → length m' ≡ length m
    → drop (at + length a) (kept m') ≡ drop (at + length a) (kept m) → (token_numbers ≤ free') × (free' ≤ at + length a) → σ'.count ≤ variable_limit
    → rows_from σ'.text m' 0 σ'.count ≡ plainly σ'.vars → Ready σ' m' (at + length a) free' w
moved_on {m} {m'} {at} free' a w y z e h few table = record {
  rest = y.rest;
  ahead = e ∙ behind_part (kept m) at a (w ++ y.rest) (y.ahead ∙ append_assoc a w y.rest);
  within =
      let k = kept_long m m' z in
      let d = ap (λ (l : List ℕ). length l) y.ahead in
      let n = length-drop at (kept m) in
      let j = length-append a w in
      let i = length-append (a ++ w) y.rest in
      let o = y.within in
      omega arith;
  long = let l = y.long in omega arith;
  low = h.0;
  room = h.1;
  few = few;
  table = table;
}

-- the tag of a cell that is ahead
pub tag-ahead : {σ : Scope} {m : List ℕ} {s : Step} {at free : ℕ} (t p d : ℕ) (w : List ℕ) → s ≡ Ok at free → Ready σ m at free (cell t p d ++ w) → tag_at m s ≡ t
unfolding tag_at
tag-ahead {m} t p d w e y = ap (λ c. c.tag) (ap (cell_at m) e ∙ cell-ahead t p d w y)

-- a cell that is ahead is skipped
pub skip-ahead : {σ : Scope} {m : List ℕ} {at free : ℕ} (t p d : ℕ) (w : List ℕ) → Ready σ m at free (cell t p d ++ w) → skipped m (Ok at free) ≡ Ok (at + 3) free
unfolding skipped cell
skip-ahead {σ} {m} {at} t p d w y =
    let e = ap (λ (l : List ℕ). length l) y.ahead in
    let l = length-drop at (kept m) in
    rw (le-leb (at + 3) (length (kept m)) (omega arith))

-- Cells v are written where a and then w were ahead

module _ {σ : Scope} {m : List ℕ} {at free : ℕ} (m' v a w : List ℕ) (y : Ready σ m at free (a ++ w)) (z : length m' ≡ length m) (e : kept m' ≡ sets (kept m) free v)
    (h : free + length v ≤ at + length a) where
  -- the names are as they were
  names : take 192 m' ≡ take 192 m
  unfolding kept
  names = sym (start_of_take 192 stack_start m' (omega arith)) ∙ ap (take 192) e ∙ take-sets (kept m) free v 192 (let l = y.low in omega arith) ∙ start_of_take 192 stack_start m (omega arith)

  -- w is ahead
  wrote-ready : Ready σ m' (at + length a) (free + length v) w
  wrote-ready =
      moved_on (free + length v) a w y z (ap (drop (at + length a)) e ∙ drop-sets (kept m) free v (at + length a) h) (let l = y.low in omega arith, h) y.few
      (rows_stay σ.text m' m 192 names σ.count (let f = y.few in omega arith) ∙ y.table)

  -- v is behind what was written before
  wrote-part : slice token_numbers (free + length v) (kept m') ≡ slice token_numbers free (kept m) ++ v
  wrote-part =
      let d = ap (λ (l : List ℕ). length l) y.ahead in
      let n = length-drop at (kept m) in
      let j = length-append a w in
      let i = length-append (a ++ w) y.rest in
      let o = y.within in
      ap (slice token_numbers (free + length v)) e ∙ part_more (kept m) token_numbers free v y.low (omega arith)

-- What a part of the walk did, with what follows

-- x was written behind what was written before, and w is ahead; or the refusals are one
pub data After (σ : Scope) {A : Type 0} (Q : A → Type 0) (encode : A → List ℕ) (m m' w : List ℕ) (free : ℕ) : Step → Res A → Type 0 where
  came : {at' free' : ℕ} (x : A) → Q x → Ready σ m' at' free' w → slice token_numbers free' (kept m') ≡ slice token_numbers free (kept m) ++ encode x
      → After σ Q encode m m' w free (Ok at' free') (ok x)
  lost : {n p : ℕ} → After σ Q encode m m' w free (Bad n p) (refuse n p)

-- what it did, where it did not stand at a refusal
pub after : {σ : Scope} {Given : Type 0} {A : Type 0} {Q : A → Type 0} {encode : A → List ℕ} {gain : ℕ} {m m' : List ℕ} {at free : ℕ} {r : Step} {R : Res A} (a w : List ℕ)
    → Did σ Given Q encode gain a m m' (Ok at free) r R → Given → Ready σ m at free (a ++ w) → After σ Q encode m m' w free r R
after {σ} {Given} {A} {Q} {encode} {gain} {m} {m'} {at} {free} a w (walks d) g y = go (d g before)
  where
    before : Ready σ m at free a
    before = record {
      rest = w ++ y.rest;
      ahead = y.ahead ∙ append_assoc a w y.rest;
      within = y.within;
      long = y.long;
      low = y.low;
      room = y.room;
      few = y.few;
      table = y.table;
    }

    go : {r : Step} {R : Res A} → Walked Q encode gain (length a) m m' at free r R → After σ Q encode m m' w free r R
    go (went x q z e short) =
        let h : free + length (encode x) ≤ at + length a = let k = y.room in omega arith in
        came x q (wrote-ready m' (encode x) a w y z e h) (wrote-part m' (encode x) a w y z e h)
    go fell = lost

-- behind a refusal nothing is done
pub refusal-stays : {σ : Scope} {Given : Type 0} {A : Type 0} {Q : A → Type 0} {encode : A → List ℕ} {gain : ℕ} {cells m m' : List ℕ} {n p : ℕ} {r : Step} {R : Res A}
    → Did σ Given Q encode gain cells m m' (Bad n p) r R → r ≡ Bad n p
refusal-stays stays = refl

-- the cells cannot be ahead, so only a refusal has to stay, as it does past other cells
pub elsewhere : {σ : Scope} {Given : Type 0} {A : Type 0} {Q : A → Type 0} {encode : A → List ℕ} {gain : ℕ} {cells m m' : List ℕ} {s r : Step} {R : Res A}
    {σ₁ : Scope} {Given₁ : Type 0} {A₁ : Type 0} {Q₁ : A₁ → Type 0} {encode₁ : A₁ → List ℕ} {gain₁ : ℕ} {cells₁ : List ℕ} {R₁ : Res A₁}
    → Did σ₁ Given₁ Q₁ encode₁ gain₁ cells₁ m m' s r R₁ → ((at free : ℕ) → s ≡ Ok at free → Ready σ m at free cells → ⊥) → Did σ Given Q encode gain cells m m' s r R
elsewhere (walks d) never = walks (λ g y. absurd (never _ _ refl y))
elsewhere stays never = stays
