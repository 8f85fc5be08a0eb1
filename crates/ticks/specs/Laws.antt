-- A worst case that is computed from cut bounds is the cut of the worst case.
use Rattle.std.specs.Prelude.{◌≡◌, refl, Bool, true, false, ℕ, zero, suc, ◌+◌, ◌*◌, ◌≤◌, ◌<◌, min, leb, ℤ}
use Rattle.std.proofs.Common.{arith, le-leb, leb-true, leb-false, eq-eqb, ne_eqb}
use Rattle.std.proofs.lemmas.Bool.{lt-leb}
use Rattle.rules.specs.Limits.{worst_limit, unbounded_mark}
use Rattle.rules.specs.Worst.{Bound, fin, unb, add_w, max_w, Lit, lit, nolit, pass_count, for_w, figure}
use Rattle.ticks.specs.Bounds.{capped, bound_of, cut}

-- the mark is unbounded
pub mark_is : (n : ℕ) → n ≡ unbounded_mark → bound_of n ≡ unb
unfolding bound_of
mark_is n e = rw (eq-eqb n unbounded_mark e)

-- any other number is itself
pub number_is : (n : ℕ) → (n ≡ unbounded_mark → ⊥) → bound_of n ≡ fin n
unfolding bound_of
number_is n e = rw (ne_eqb n unbounded_mark e)

-- an exact total that is cut is never the mark
pub kept : (w : ℕ) → bound_of (cut (fin w)) ≡ fin (min w capped)
unfolding cut
kept w = number_is (min w capped) (λ e. omega arith)

-- a sum
pub add_cut : (x y : Bound) → cut (add_w (bound_of (cut x)) (bound_of (cut y))) ≡ cut (add_w x y)
unfolding add_w cut
add_cut (fin a) (fin b) = rw (kept a, kept b) (omega arith)
add_cut (fin a) unb = rw (kept a, mark_is unbounded_mark refl)
add_cut unb y = rw (mark_is unbounded_mark refl)

-- a maximum
pub max_cut : (x y : Bound) → cut (max_w (bound_of (cut x)) (bound_of (cut y))) ≡ cut (max_w x y)
unfolding max_w cut
max_cut (fin a) (fin b) = rw (kept a, kept b) (omega arith)
max_cut (fin a) unb = rw (kept a, mark_is unbounded_mark refl)
max_cut unb y = rw (mark_is unbounded_mark refl)

-- a total on either side of the limit, and what the cut makes of it
data Side (w : ℕ) : Type 0 where
  within : w ≤ worst_limit → min w capped ≡ w → Side w
  over : worst_limit < w → min w capped ≡ capped → Side w

side_of : (w : ℕ) → Side w
side_of w = by (leb w worst_limit) refl
  where
    by : (b : Bool) → leb w worst_limit ≡ b → Side w
    by true h = let l = leb-true w worst_limit h in within l (omega arith)
    by false h = let l = leb-false w worst_limit h in over l (omega arith)

-- a FOR with no passes takes 1 tick; with one pass or more, a body over the limit takes the whole over it
passed : (n w : ℕ) → Side w → min (1 + n * (1 + min w capped)) capped ≡ min (1 + n * (1 + w)) capped
passed n w (within l e) = rw e
passed zero w (over l e) = omega arith
passed (suc n) w (over l e) = rw e (omega arith)

-- a FOR
pub for_cut : (a e : Lit) (s : ℤ) (w : Bound) → cut (for_w a e s (bound_of (cut w))) ≡ cut (for_w a e s w)
unfolding for_w cut
for_cut (lit a) (lit e) s (fin w) = rw (kept w) (passed (pass_count a e s) w (side_of w))
for_cut (lit a) (lit e) s unb = rw (mark_is unbounded_mark refl)
for_cut (lit a) nolit s w = refl
for_cut nolit e s w = refl

-- the figure of an exact total up to the limit, and over it
pub stated : (n : ℕ) → n ≤ worst_limit → n ≡ figure (fin n)
unfolding figure
stated n l = rw (le-leb n worst_limit l)

pub not_stated : (n : ℕ) → worst_limit < n → unbounded_mark ≡ figure (fin n)
unfolding figure
not_stated n l = rw (lt-leb n worst_limit l)

-- both totals over the limit are stated as the mark
figured : (w : ℕ) → Side w → figure (fin (min w capped)) ≡ figure (fin w)
figured w (within l e) = rw e
figured w (over l e) = rw (e, ← (not_stated w l), ← (not_stated capped (omega arith)))

-- the figure of the image
pub figure_cut : (w : Bound) → figure (bound_of (cut w)) ≡ figure w
unfolding cut
figure_cut (fin w) = rw (kept w) (figured w (side_of w))
figure_cut unb = rw (mark_is unbounded_mark refl)
