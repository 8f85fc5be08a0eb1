-- How the steps of the code follow the rules of the walk: one law for each kind of step. Assumes nothing.
use mathlib.Core.Path.{◌≡◌, refl, sym, ap, ◌∙◌}
use mathlib.Core.Bool.{Bool, true, false}
use mathlib.Core.List.{List, [], ◌++◌, append_assoc}
use Prim.Native.Nat.{ℕ, ◌+◌, ◌≤◌}
use native.Mathlib.Nat.{add-zero}
use native.Mathlib.Omega.{arith}
use lib.Dec.{leb}
use lib.ListN.{length, length-append, length-drop, drop, take, get_or}
use lib.Seq.{sets, length-sets, get_or-drop}
use borrow.Author.Tests.{le-leb}
use Rattle.rules.specs.Base.{Res, ok, refuse, ◌>>=◌, need}
use Rattle.rules.specs.Cells.{cell}
use Rattle.names.specs.Laws.{rows_stay}
use Rattle.walk.specs.Steps.{stack_start, kept, cell_at, skipped, refused_at, checked, extended, written}
use Rattle.walk.specs.Walking.{Scope, Ready, Walked, went, fell, Did, walks, stays, When}
use Rattle.walk.specs.Places.{Step, Ok, Bad}
use Rattle.walk.proofs.Stores.{sets_append, take-sets, drop-sets, take_of_sets, behind_part, start_of_take}

-- where a step stands; a refusal stands nowhere
unfoldable pub place_of : Step → ℕ
place_of (Ok at free) = at
place_of (Bad n p) = 0

unfoldable pub free_of : Step → ℕ
free_of (Ok at free) = free
free_of (Bad n p) = 0

-- The walk began at at₀ with the numbers m₀, free from free₀ on, and ends with the numbers mₑ at the step r, past `used` numbers, which is to mean what `encode` says.
module _ (σ : Scope) (m₀ : List ℕ) (at₀ free₀ : ℕ) {B : Type 0} (Q : B → Type 0) (encode : B → List ℕ) (gain used : ℕ) (mₑ : List ℕ) (r : Step) where
  -- v was written since the beginning, w is still ahead, and what was written is at least so much shorter than what was read
  pub record Here (slack : ℕ) (v w m : List ℕ) (at free : ℕ) : Type 0 where
    pub ready : Ready σ m at free w
    pub size : length m ≡ length m₀
    pub wrote : kept m ≡ sets (kept m₀) free₀ v
    pub end : free ≡ free₀ + length v
    pub place : at + length w ≡ at₀ + used
    pub spare : length v + slack + length w ≤ used
    pub below : free₀ ≤ at₀

  -- at the step s the rules say what is to come
  pub data Ends (slack : ℕ) (v w m : List ℕ) : Step → Res B → Type 0 where
    on : {at free : ℕ} {R : Res B} → (Here slack v w m at free → Walked Q encode gain used m₀ mₑ at₀ free₀ r R) → Ends slack v w m (Ok at free) R
    off : {n p : ℕ} {R : Res B} → r ≡ Bad n p → Ends slack v w m (Bad n p) R

-- a walk as a whole is what its steps make of it
pub begin : {σ : Scope} {Given : Type 0} {B : Type 0} {Q : B → Type 0} {encode : B → List ℕ} {gain : ℕ} {cells m₀ mₑ : List ℕ} {s r : Step} {R : Res B}
    → (When s Given → Ends σ m₀ (place_of s) (free_of s) Q encode gain (length cells) mₑ r 0 [] cells m₀ s R) → Did σ Given Q encode gain cells m₀ mₑ s r R
unfolding place_of free_of
begin {σ} {Given} {B} {Q} {encode} {gain} {cells} {m₀} {mₑ} {s} {r} {R} k = go s k
  where
    start : {at free : ℕ} → Ends σ m₀ at free Q encode gain (length cells) mₑ r 0 [] cells m₀ (Ok at free) R → Ready σ m₀ at free cells → Walked Q encode gain (length cells) m₀ mₑ at free r R
    start {at} {free} (on f) y = f (record { ready = y; size = refl; wrote = refl; end = sym (add-zero free); place = refl; spare = omega arith; below = y.room })

    fallen : {n p : ℕ} → Ends σ m₀ 0 0 Q encode gain (length cells) mₑ r 0 [] cells m₀ (Bad n p) R → Did σ Given Q encode gain cells m₀ mₑ (Bad n p) r R
    fallen (off e) = rw e stays

    go : (s : Step) → (When s Given → Ends σ m₀ (place_of s) (free_of s) Q encode gain (length cells) mₑ r 0 [] cells m₀ s R) → Did σ Given Q encode gain cells m₀ mₑ s r R
    go (Ok at free) k = walks (λ g y. start (k (λ a f e. g)) y)
    go (Bad n p) k = fallen (k (λ a f e. let z : ◌≡◌ {A = ℕ} 0 1 = cc in absurd (omega arith)))

-- what was stored is before what is ahead, and behind the names: both are as they were
ahead-stays : {σ : Scope} {m m' : List ℕ} {at free : ℕ} (v : List ℕ) (a w : List ℕ) → Ready σ m at free (a ++ w) → length m' ≡ length m → kept m' ≡ sets (kept m) free v → free + length v ≤ at + length a
    → Ready σ m' (at + length a) (free + length v) w
unfolding kept
ahead-stays {σ} {m} {m'} {at} {free} v a w y z e h = record {
  rest = y.rest;
  ahead = ap (drop (at + length a)) e ∙ drop-sets (kept m) free v (at + length a) h ∙ behind_part (kept m) at a (w ++ y.rest) (y.ahead ∙ append_assoc a w y.rest);
  within = within;
  long = let l = y.long in omega arith;
  low = let l = y.low in omega arith;
  room = h;
  few = y.few;
  table = rows_stay σ.text m' m 192 same σ.count (let f = y.few in omega arith) ∙ y.table;
}
  where
    within : at + length a ≤ length (kept m')
    within =
        let k = ap (λ (l : List ℕ). length l) e ∙ length-sets (kept m) free v in
        let d = ap (λ (l : List ℕ). length l) y.ahead in
        let n = length-drop at (kept m) in
        let j = length-append a w in
        let i = length-append (a ++ w) y.rest in
        let o = y.within in
        omega arith

    same : take 192 m' ≡ take 192 m
    same = sym (start_of_take 192 stack_start m' (omega arith)) ∙ ap (take 192) e ∙ take-sets (kept m) free v 192 (let l = y.low in omega arith) ∙ start_of_take 192 stack_start m (omega arith)

-- facts that hold unless there was a refusal hold behind a step that keeps one
pub still_checked : {P : Type 0} (b : Bool) (n p : ℕ) {s s₁ : Step} → s₁ ≡ checked b n p s → When s P → When s₁ P
unfolding checked refused_at
still_checked {P} b n p {s} {s₁} e h at free q = go b s (sym q ∙ e) h
  where
    go : (b : Bool) (s : Step) → Ok at free ≡ checked b n p s → When s P → P
    go true s z h = h at free (sym z)
    go false (Ok a f) z h = let y : ◌≡◌ {A = ℕ} 0 1 = cc in absurd (omega arith)
    go false (Bad o k) z h = let y : ◌≡◌ {A = ℕ} 0 1 = cc in absurd (omega arith)

pub still_skipped : {P : Type 0} (m : List ℕ) {s s₁ : Step} → s₁ ≡ skipped m s → When s P → When s₁ P
unfolding skipped
still_skipped {P} m {s} {s₁} e h at free q = go s (sym q ∙ e) h
  where
    go : (s : Step) → Ok at free ≡ skipped m s → When s P → P
    go (Ok a f) z h = h a f refl
    go (Bad o k) z h = let y : ◌≡◌ {A = ℕ} 0 1 = cc in absurd (omega arith)

pub still_written : {P : Type 0} (m : List ℕ) {s s₁ : Step} → s₁ ≡ extended m s → When s P → When s₁ P
unfolding extended
still_written {P} m {s} {s₁} e h at free q = go s (sym q ∙ e) h
  where
    go : (s : Step) → Ok at free ≡ extended m s → When s P → P
    go (Ok a f) z h = h a f refl
    go (Bad o k) z h = let y : ◌≡◌ {A = ℕ} 0 1 = cc in absurd (omega arith)

-- also behind a call
pub still_done : {P : Type 0} {σ : Scope} {Given : Type 0} {A : Type 0} {Q : A → Type 0} {encode : A → List ℕ} {gain : ℕ} {cells m m₁ : List ℕ} {s s₁ : Step} {R : Res A}
    → Did σ Given Q encode gain cells m m₁ s s₁ R → When s P → When s₁ P
still_done (walks d) h at free e = h _ _ refl
still_done stays h at free e = h at free e

-- the numbers of a cell that is ahead lie there
room-ahead : {σ : Scope} {m : List ℕ} {at free : ℕ} (t p d : ℕ) (w : List ℕ) → Ready σ m at free (cell t p d ++ w) → leb (at + 3) (length (kept m)) ≡ true
unfolding cell
room-ahead {σ} {m} {at} t p d w y =
    let e = ap (λ (l : List ℕ). length l) y.ahead in
    let l = length-drop at (kept m) in
    le-leb (at + 3) (length (kept m)) (omega arith)

pub cell-ahead : {σ : Scope} {m : List ℕ} {at free : ℕ} (t p d : ℕ) (w : List ℕ) → Ready σ m at free (cell t p d ++ w) → cell_at m (Ok at free) ≡ record { tag = t; place = p; datum = d }
unfolding cell_at cell
cell-ahead {σ} {m} {at} t p d w y =
    let a : get_or (kept m) at 0 ≡ t = rw (← (add-zero at), ← (get_or-drop at (kept m) 0 0), y.ahead) in
    let b : get_or (kept m) (at + 1) 0 ≡ p = rw (← (get_or-drop at (kept m) 1 0), y.ahead) in
    let c : get_or (kept m) (at + 2) 0 ≡ d = rw (← (get_or-drop at (kept m) 2 0), y.ahead) in
    rw (room-ahead t p d w y, a, b, c)

module _ {σ : Scope} {m₀ : List ℕ} {at₀ free₀ : ℕ} {B : Type 0} {Q : B → Type 0} {encode : B → List ℕ} {gain used : ℕ} {mₑ : List ℕ} {r : Step} where
  -- the end: what is said is what was written
  pub gives : {slack : ℕ} {v : List ℕ} (b : B) → When r (Q b) → encode b ≡ v → gain ≤ slack → Ends σ m₀ at₀ free₀ Q encode gain used mₑ r slack v [] mₑ r (ok b)
  gives {slack} {v} b q e h = go r refl q
    where
      go : (s : Step) → r ≡ s → When s (Q b) → Ends σ m₀ at₀ free₀ Q encode gain used mₑ r slack v [] mₑ s (ok b)
      go (Bad n p) z q = off z
      go (Ok at free) z q = on (λ y. last y)
        where
          last : Here σ m₀ at₀ free₀ Q encode gain used mₑ r slack v [] mₑ at free → Walked Q encode gain used m₀ mₑ at₀ free₀ r (ok b)
          last y =
              let a : at ≡ at₀ + used = sym (add-zero at) ∙ y.place in
              let f : free ≡ free₀ + length (encode b) = y.end ∙ ap (λ l. free₀ + length l) (sym e) in
              let short : length (encode b) + gain ≤ used = rw e (let k = y.spare in omega arith) in
              rw (z, a, f) (went b (q at free refl) y.size (y.wrote ∙ ap (sets (kept m₀) free₀) (sym e)) short)

  -- what a call did, and then what follows; c only says that there is such a thing
  pub bind : {A : Type 0} (c : A) {Given : Type 0} {P : A → Type 0} {encodeA : A → List ℕ} {g slack : ℕ} {R : Res A} {K : A → Res B} {v a w m m₁ : List ℕ} {s s₁ : Step}
      → Did σ Given P encodeA g a m m₁ s s₁ R → When s Given
      → ((x : A) → When s₁ (P x) → Ends σ m₀ at₀ free₀ Q encode gain used mₑ r (slack + g) (v ++ encodeA x) w m₁ s₁ (K x))
      → Ends σ m₀ at₀ free₀ Q encode gain used mₑ r slack v (a ++ w) m s (◌>>=◌ R K)
  unfolding ◌>>=◌
  bind {A} c {Given} {P} {encodeA} {g} {slack} {R} {K} {v} {a} {w} {m} {m₁} stays h k = fallen (k c (λ at free e. let z : ◌≡◌ {A = ℕ} 0 1 = cc in absurd (omega arith)))
    where
      fallen : {n p : ℕ} → Ends σ m₀ at₀ free₀ Q encode gain used mₑ r (slack + g) (v ++ encodeA c) w m₁ (Bad n p) (K c) → Ends σ m₀ at₀ free₀ Q encode gain used mₑ r slack v (a ++ w) m (Bad n p) (◌>>=◌ R K)
      fallen (off e) = off e
  bind {A} c {Given} {P} {encodeA} {g} {slack} {R} {K} {v} {a} {w} {m} {m₁} (walks {at} {free} {r = s₁} d) h k = on (λ y. onward y (d (h at free refl) (before y)) k)
    where
      Start : Type 0
      Start = Here σ m₀ at₀ free₀ Q encode gain used mₑ r slack v (a ++ w) m at free

      before : Start → Ready σ m at free a
      before y = record { rest = w ++ y.ready.rest; ahead = y.ready.ahead ∙ append_assoc a w y.ready.rest; within = y.ready.within; long = y.ready.long; low = y.ready.low; room = y.ready.room; few = y.ready.few; table = y.ready.table }

      further : Start → (x : A) → length m₁ ≡ length m → kept m₁ ≡ sets (kept m) free (encodeA x) → length (encodeA x) + g ≤ length a
          → Here σ m₀ at₀ free₀ Q encode gain used mₑ r (slack + g) (v ++ encodeA x) w m₁ (at + length a) (free + length (encodeA x))
      further y x z e short =
          let long = length-append a w in
          let wide = length-append v (encodeA x) in
          record {
            ready = ahead-stays (encodeA x) a w y.ready z e (let q = y.ready.room in omega arith);
            size = z ∙ y.size;
            wrote = e ∙ ap (λ l. sets l free (encodeA x)) y.wrote ∙ rw y.end (sets_append (kept m₀) free₀ v (encodeA x));
            end = let q = y.end in rw wide (omega arith);
            place = let q = y.place in omega arith;
            spare = let q = y.spare in omega arith;
            below = y.below;
          }

      follow : {x : A} {at₁ free₁ : ℕ} → Ends σ m₀ at₀ free₀ Q encode gain used mₑ r (slack + g) (v ++ encodeA x) w m₁ (Ok at₁ free₁) (K x)
          → Here σ m₀ at₀ free₀ Q encode gain used mₑ r (slack + g) (v ++ encodeA x) w m₁ at₁ free₁ → Walked Q encode gain used m₀ mₑ at₀ free₀ r (K x)
      follow (on f) y = f y

      ended : {x : A} {n p : ℕ} → Ends σ m₀ at₀ free₀ Q encode gain used mₑ r (slack + g) (v ++ encodeA x) w m₁ (Bad n p) (K x) → Walked Q encode gain used m₀ mₑ at₀ free₀ r (refuse n p)
      ended (off e) = rw e fell

      onward : {t : Step} {o : Res A} → Start → Walked P encodeA g (length a) m m₁ at free t o
          → ((x : A) → When t (P x) → Ends σ m₀ at₀ free₀ Q encode gain used mₑ r (slack + g) (v ++ encodeA x) w m₁ t (K x)) → Walked Q encode gain used m₀ mₑ at₀ free₀ r (◌>>=◌ o K)
      onward y (went x p z e short) k = follow (k x (λ _ _ _. p)) (further y x z e short)
      onward y fell k = ended (k c (λ at free e. let z : ◌≡◌ {A = ℕ} 0 1 = cc in absurd (omega arith)))

  -- a test, of which the rules say the same
  pub checks : {slack : ℕ} {v w m : List ℕ} {s s₁ : Step} {K : Res B} (b' b : Bool) (n p' p : ℕ) → s₁ ≡ checked b' n p' s → When s ((b' ≡ b) × (p' ≡ p))
      → Ends σ m₀ at₀ free₀ Q encode gain used mₑ r slack v w m s₁ K → Ends σ m₀ at₀ free₀ Q encode gain used mₑ r slack v w m s (◌>>=◌ (need b n p) (λ _. K))
  unfolding checked refused_at ◌>>=◌ need
  checks {slack} {v} {w} {m} {s} {s₁} {K} b' b n p' p e h k = go s (rw e at k) h
    where
      fallen : {o q : ℕ} {S : Res B} → Ends σ m₀ at₀ free₀ Q encode gain used mₑ r slack v w m (Bad o q) K → Ends σ m₀ at₀ free₀ Q encode gain used mₑ r slack v w m (Bad o q) S
      fallen (off z) = off z

      same : (b : Bool) (o q : ℕ) → checked b n p' (Bad o q) ≡ Bad o q
      same true o q = refl
      same false o q = refl

      failed : {at free : ℕ} → Ends σ m₀ at₀ free₀ Q encode gain used mₑ r slack v w m (Bad n p) K → Ends σ m₀ at₀ free₀ Q encode gain used mₑ r slack v w m (Ok at free) (refuse n p)
      failed (off z) = on {R = refuse n p} (λ y. rw z fell)

      tested : (b : Bool) {at free : ℕ} → Ends σ m₀ at₀ free₀ Q encode gain used mₑ r slack v w m (checked b n p (Ok at free)) K
          → Ends σ m₀ at₀ free₀ Q encode gain used mₑ r slack v w m (Ok at free) (◌>>=◌ (need b n p) (λ _. K))
      tested true k = k
      tested false k = failed k

      go : (s : Step) → Ends σ m₀ at₀ free₀ Q encode gain used mₑ r slack v w m (checked b' n p' s) K → When s ((b' ≡ b) × (p' ≡ p))
          → Ends σ m₀ at₀ free₀ Q encode gain used mₑ r slack v w m s (◌>>=◌ (need b n p) (λ _. K))
      go (Bad o q) k h = fallen (rw (same b' o q) at k)
      go (Ok at free) k h = let z = h at free refl in tested b (rw (z.0, z.1) at k)

  -- the cell ahead is looked at
  pub looks : {slack : ℕ} {v m : List ℕ} {s : Step} {R : Res B} (t p d : ℕ) (w : List ℕ)
      → (When s (cell_at m s ≡ record { tag = t; place = p; datum = d }) → Ends σ m₀ at₀ free₀ Q encode gain used mₑ r slack v (cell t p d ++ w) m s R)
      → Ends σ m₀ at₀ free₀ Q encode gain used mₑ r slack v (cell t p d ++ w) m s R
  looks {slack} {v} {m} {s} {R} t p d w k = go s k
    where
      use_it : {at free : ℕ} → Ends σ m₀ at₀ free₀ Q encode gain used mₑ r slack v (cell t p d ++ w) m (Ok at free) R → Here σ m₀ at₀ free₀ Q encode gain used mₑ r slack v (cell t p d ++ w) m at free
          → Walked Q encode gain used m₀ mₑ at₀ free₀ r R
      use_it (on f) y = f y

      go : (s : Step) → (When s (cell_at m s ≡ record { tag = t; place = p; datum = d }) → Ends σ m₀ at₀ free₀ Q encode gain used mₑ r slack v (cell t p d ++ w) m s R)
          → Ends σ m₀ at₀ free₀ Q encode gain used mₑ r slack v (cell t p d ++ w) m s R
      go (Bad n q) k = k (λ at free e. let z : ◌≡◌ {A = ℕ} 0 1 = cc in absurd (omega arith))
      go (Ok at free) k = on (λ y. use_it (k (λ a f e. cell-ahead t p d w y.ready)) y)

  -- the cell ahead is skipped
  pub skips : {slack : ℕ} {v w m : List ℕ} {s s₁ : Step} {R : Res B} (t p d : ℕ) → s₁ ≡ skipped m s → Ends σ m₀ at₀ free₀ Q encode gain used mₑ r (slack + 3) v w m s₁ R
      → Ends σ m₀ at₀ free₀ Q encode gain used mₑ r slack v (cell t p d ++ w) m s R
  unfolding skipped cell
  skips {slack} {v} {w} {m} {s} {s₁} {R} t p d e k = go s (rw e at k)
    where
      fallen : {n q : ℕ} → Ends σ m₀ at₀ free₀ Q encode gain used mₑ r (slack + 3) v w m (Bad n q) R → Ends σ m₀ at₀ free₀ Q encode gain used mₑ r slack v (cell t p d ++ w) m (Bad n q) R
      fallen (off z) = off z

      past : {at free : ℕ} → Here σ m₀ at₀ free₀ Q encode gain used mₑ r slack v (cell t p d ++ w) m at free → Here σ m₀ at₀ free₀ Q encode gain used mₑ r (slack + 3) v w m (at + 3) free
      past {at} {free} y = record {
        ready = rw (add-zero free) at (ahead-stays {m' = m} [] (cell t p d) w y.ready refl refl (let q = y.ready.room in omega arith));
        size = y.size;
        wrote = y.wrote;
        end = y.end;
        place = let q = y.place in omega arith;
        spare = let q = y.spare in omega arith;
        below = y.below;
      }

      follow : {at free : ℕ} → Ends σ m₀ at₀ free₀ Q encode gain used mₑ r (slack + 3) v w m (Ok at free) R → Here σ m₀ at₀ free₀ Q encode gain used mₑ r (slack + 3) v w m at free
          → Walked Q encode gain used m₀ mₑ at₀ free₀ r R
      follow (on f) y = f y

      go : (s : Step) → Ends σ m₀ at₀ free₀ Q encode gain used mₑ r (slack + 3) v w m (skipped m s) R → Ends σ m₀ at₀ free₀ Q encode gain used mₑ r slack v (cell t p d ++ w) m s R
      go (Bad n q) k = fallen k
      go (Ok at free) k = on {at = at} {free = free} (λ y. follow {at = at + 3} {free = free} (rw (room-ahead t p d w y.ready) at k) (past y))

  -- a cell is written, where more was read than written
  pub writes : {slack : ℕ} {v w m m₁ c : List ℕ} {s s₁ : Step} {R : Res B} (t p d : ℕ) → (s₁ ≡ extended m s) × (m₁ ≡ written m s c) → When s (c ≡ cell t p d)
      → Ends σ m₀ at₀ free₀ Q encode gain used mₑ r slack (v ++ cell t p d) w m₁ s₁ R → Ends σ m₀ at₀ free₀ Q encode gain used mₑ r (slack + 3) v w m s R
  unfolding extended written cell kept
  writes {slack} {v} {w} {m} {m₁} {c} {s} {s₁} {R} t p d e h k = go s (rw e.0 at k) e.1 h
    where
      fallen : {n q : ℕ} → Ends σ m₀ at₀ free₀ Q encode gain used mₑ r slack (v ++ cell t p d) w m₁ (Bad n q) R → Ends σ m₀ at₀ free₀ Q encode gain used mₑ r (slack + 3) v w m (Bad n q) R
      fallen (off z) = off z

      Start : ℕ → ℕ → Type 0
      Start at free = Here σ m₀ at₀ free₀ Q encode gain used mₑ r (slack + 3) v w m at free

      -- it ends before what is ahead
      ends : {at free : ℕ} → Start at free → free + 3 ≤ at
      ends y =
          let a = y.end in
          let b = y.place in
          let c = y.spare in
          let d = y.below in
          omega arith

      fits : {at free : ℕ} → Start at free → at ≤ length (kept m) → leb (free + 3) (length (kept m)) ≡ true
      fits {at} {free} y h = let a = ends y in le-leb (free + 3) (length (kept m)) (omega arith)

      further : {at free : ℕ} → Start at free → m₁ ≡ sets m free (cell t p d) → Here σ m₀ at₀ free₀ Q encode gain used mₑ r slack (v ++ cell t p d) w m₁ at (free + 3)
      further {at} {free} y z =
          let wide = length-append v (cell t p d) in
          let same : length m₁ ≡ length m = ap (λ (l : List ℕ). length l) z ∙ length-sets m free (cell t p d) in
          let kz : kept m₁ ≡ sets (kept m) free (cell t p d) = ap kept z ∙ take_of_sets m free (cell t p d) stack_start in
          record {
            ready = rw (add-zero at) at (ahead-stays {m' = m₁} (cell t p d) [] w y.ready same kz (let a = ends y in omega arith));
            size = same ∙ y.size;
            wrote = kz ∙ ap (λ l. sets l free (cell t p d)) y.wrote ∙ rw y.end (sets_append (kept m₀) free₀ v (cell t p d));
            end = let q = y.end in rw wide (omega arith);
            place = y.place;
            spare = let q = y.spare in omega arith;
            below = y.below;
          }

      follow : {at free : ℕ} → Ends σ m₀ at₀ free₀ Q encode gain used mₑ r slack (v ++ cell t p d) w m₁ (Ok at free) R
          → Here σ m₀ at₀ free₀ Q encode gain used mₑ r slack (v ++ cell t p d) w m₁ at free → Walked Q encode gain used m₀ mₑ at₀ free₀ r R
      follow (on f) y = f y

      go : (s : Step) → Ends σ m₀ at₀ free₀ Q encode gain used mₑ r slack (v ++ cell t p d) w m₁ (extended m s) R → m₁ ≡ written m s c → When s (c ≡ cell t p d)
          → Ends σ m₀ at₀ free₀ Q encode gain used mₑ r (slack + 3) v w m s R
      go (Bad n q) k z h = fallen k
      go (Ok at free) k z h = on (λ y. let f = fits y y.ready.within in follow (rw f at k) (further y (rw f at z ∙ ap (sets m free) (h at free refl))))
