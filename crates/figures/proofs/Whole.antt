-- A loop over parts: what is read so far and what is still ahead make up the whole. Assumes nothing.
use mathlib.Core.Path.{◌≡◌, refl, sym, ap, ◌∙◌}
use mathlib.Core.List.{List, ◌++◌}
use Prim.Native.Nat.{ℕ, ◌+◌, max}
use native.Mathlib.Omega.{arith}
use lib.ListN.{length, length-append}
use Rattle.rules.specs.Cells.{cell}
use Rattle.rules.specs.Worst.{Bound, fin, unb, add_w, max_w}
use Rattle.ticks.specs.Bounds.{bound_of, cut}
use Rattle.ticks.specs.Laws.{add_cut, max_cut}
use Rattle.cells.specs.Reading.{behind, Lies}
use Rattle.cells.specs.Laws.{lies_rest}
use Rattle.figures.specs.Parts.{Part, shown}
use Rattle.figures.proofs.Heads.{tail}

-- Worst cases of parts: one after another, or one of them

pub record Joining (join : Bound → Bound → Bound) : Type 0 where
  pub assoc : (x y z : Bound) → join (join x y) z ≡ join x (join y z)
  pub after_nothing : (x : Bound) → join (fin 0) x ≡ x
  pub before_nothing : (x : Bound) → join x (fin 0) ≡ x
  pub cuts : (x y : Bound) → cut (join (bound_of (cut x)) (bound_of (cut y))) ≡ cut (join x y)

add_assoc : (x y z : Bound) → add_w (add_w x y) z ≡ add_w x (add_w y z)
unfolding add_w
add_assoc (fin a) (fin b) (fin c) = ap fin (omega arith)
add_assoc (fin a) (fin b) unb = refl
add_assoc (fin a) unb z = refl
add_assoc unb y z = refl

zero-add : (x : Bound) → add_w (fin 0) x ≡ x
unfolding add_w
zero-add (fin a) = ap fin (omega arith)
zero-add unb = refl

add-zero : (x : Bound) → add_w x (fin 0) ≡ x
unfolding add_w
add-zero (fin a) = ap fin (omega arith)
add-zero unb = refl

pub sums : Joining add_w
sums = record { assoc = add_assoc; after_nothing = zero-add; before_nothing = add-zero; cuts = add_cut }

max_assoc : (x y z : Bound) → max_w (max_w x y) z ≡ max_w x (max_w y z)
unfolding max_w
max_assoc (fin a) (fin b) (fin c) = ap fin (omega arith)
max_assoc (fin a) (fin b) unb = refl
max_assoc (fin a) unb z = refl
max_assoc unb y z = refl

zero-max : (x : Bound) → max_w (fin 0) x ≡ x
unfolding max_w
zero-max (fin a) = ap fin (omega arith)
zero-max unb = refl

max-zero : (x : Bound) → max_w x (fin 0) ≡ x
unfolding max_w
max-zero (fin a) = ap fin (omega arith)
max-zero unb = refl

pub largest : Joining max_w
largest = record { assoc = max_assoc; after_nothing = zero-max; before_nothing = max-zero; cuts = max_cut }

-- figures with equal parts are equal
pub alike : {i j d e v w : ℕ} → i ≡ j → d ≡ e → v ≡ w → ◌≡◌ {A = Part} (record { at = i; depth = d; worst = v }) (record { at = j; depth = e; worst = w })
alike p q r = rw (p, q, r)

-- f is so far, and the numbers xs, with this depth and this bound, are still ahead; the whole ends there, with that depth and that bound
pub record Ahead (join : Bound → Bound → Bound) (m : List ℕ) (f : Part) (end deep : ℕ) (bound : Bound) (xs : List ℕ) (d : ℕ) (b : Bound) : Type 0 where
  pub lies : Lies m f.at xs
  pub ends : f.at + length xs ≡ end
  pub deepest : max f.depth d ≡ deep
  pub far : Bound
  pub held : f.worst ≡ cut far
  pub total : join far b ≡ bound

-- one more part
abbrev pub joined : (Bound → Bound → Bound) → Part → Part → Part
joined join f g = record { at = g.at; depth = max f.depth g.depth; worst = cut (join (bound_of f.worst) (bound_of g.worst)) }

module _ {join : Bound → Bound → Bound} (j : Joining join) where
  -- at the start all of it is ahead
  pub begin : {m : List ℕ} {at : ℕ} {xs : List ℕ} (d : ℕ) (b : Bound) → Lies m at xs → Ahead join m (record { at = at; depth = 0; worst = 0 }) (at + length xs) d b xs d b
  unfolding cut
  begin d b y = record { lies = y; ends = refl; deepest = omega arith; far = fin 0; held = refl; total = j.after_nothing b }

  module _ {m : List ℕ} {f : Part} {end deep : ℕ} {bound : Bound} where
    -- past the first part
    pub go_on : {g : Part} (xs ys : List ℕ) (d e : ℕ) (a b : Bound) → Ahead join m f end deep bound (xs ++ ys) (max d e) (join a b) → g ≡ joined join f (shown (f.at + length xs) d a)
        → Ahead join m g end deep bound ys e b
    go_on xs ys d e a b k q = rw q (record {
      lies = lies_rest xs ys k.lies;
      ends = let n = length-append xs ys in let h = k.ends in omega arith;
      deepest = let h = k.deepest in omega arith;
      far = join k.far a;
      held = rw k.held (j.cuts k.far a);
      total = j.assoc k.far a b ∙ k.total;
    })

    -- the last part
    pub complete : {xs : List ℕ} {d : ℕ} {b : Bound} → Ahead join m f end deep bound xs d b → joined join f (shown (f.at + length xs) d b) ≡ shown end deep bound
    complete {b = b} k = alike k.ends k.deepest (rw k.held (j.cuts k.far b ∙ ap cut k.total))

    -- nothing but the closing cell
    pub close : {i : ℕ} (t p d : ℕ) → Ahead join m f end deep bound (cell t p d) 0 (fin 0) → i ≡ behind m f.at → record { at = i; depth = f.depth; worst = f.worst } ≡ shown end deep bound
    unfolding cell
    close t p d k e =
        let h = k.ends in
        let n = tail e k.lies in
        alike (omega arith) (let q = k.deepest in omega arith) (k.held ∙ ap cut (sym (j.before_nothing k.far) ∙ k.total))
