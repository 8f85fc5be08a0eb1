-- A TICK stands where the byte is 1, and nowhere else. Assumes nothing.
use mathlib.Core.Path.{◌≡◌, refl, sym, ◌∙◌}
use mathlib.Core.Bool.{false}
use mathlib.Core.List.{List, [], ◌∷◌}
use Prim.Native.Nat.{ℕ, zero, suc, ◌≤◌, ◌<◌}
use native.Mathlib.Omega.{arith}
use lib.Dec.{eqb}
use lib.IntN.{ℤ}
use lib.ListN.{length, get_or, drop, drop_of_length-le}
use lib.Seq.{drop-cons}
use borrow.Author.Tests.{ne_eqb}
use Rattle.rules.specs.Codes.{Instr, BAD, get1, get2, get4, readers, decode_op, decode}
use Rattle.rules.specs.Machine.{is_tick}

-- readers that read no TICK
infixr 20 ◌&◌
data Plain : List (List ℕ → Instr) → Type 0 where
  end : Plain []
  ◌&◌ : {f : List ℕ → Instr} {fs : List (List ℕ → Instr)} → ((r : List ℕ) → is_tick (f r) ≡ false) → Plain fs → Plain (f ∷ fs)

plain_at : {fs : List (List ℕ → Instr)} → Plain fs → (n : ℕ) (r : List ℕ) → is_tick (get_or fs n (λ r. BAD) r) ≡ false
unfolding is_tick
plain_at end n r = refl
plain_at (f & fs) zero r = f r
plain_at (f & fs) (suc n) r = plain_at fs n r

get1-plain : (K : ℕ → List ℕ → Instr) → ((a : ℕ) (r : List ℕ) → is_tick (K a r) ≡ false) → (r : List ℕ) → is_tick (get1 r K) ≡ false
unfolding get1 is_tick
get1-plain K f [] = refl
get1-plain K f (a ∷ r) = f a r

get2-plain : (K : ℕ → List ℕ → Instr) → ((a : ℕ) (r : List ℕ) → is_tick (K a r) ≡ false) → (r : List ℕ) → is_tick (get2 r K) ≡ false
unfolding get2 is_tick
get2-plain K f [] = refl
get2-plain K f (a ∷ []) = refl
get2-plain K f (a ∷ b ∷ r) = f _ r

get4-plain : (K : ℤ → List ℕ → Instr) → ((a : ℤ) (r : List ℕ) → is_tick (K a r) ≡ false) → (r : List ℕ) → is_tick (get4 r K) ≡ false
unfolding get4 is_tick
get4-plain K f [] = refl
get4-plain K f (a ∷ []) = refl
get4-plain K f (a ∷ b ∷ []) = refl
get4-plain K f (a ∷ b ∷ d ∷ []) = refl
get4-plain K f (a ∷ b ∷ d ∷ e ∷ r) = f _ r

-- all from the second on
plain : Plain (drop 2 readers)
unfolding readers is_tick
plain =
    get4-plain _ (λ z r. refl) &
    get1-plain _ (λ i r. refl) &
    get1-plain _ (λ i r. refl) &
    (λ r. refl) & (λ r. refl) &
    (λ r. refl) & (λ r. refl) & (λ r. refl) & (λ r. refl) & (λ r. refl) & (λ r. refl) & (λ r. refl) &
    (λ r. refl) & (λ r. refl) & (λ r. refl) & (λ r. refl) & (λ r. refl) & (λ r. refl) & (λ r. refl) &
    get2-plain _ (λ a r. refl) &
    get2-plain _ (λ a r. refl) &
    get4-plain _ (λ a. get4-plain _ (λ b r. refl)) &
    get2-plain _ (λ a r. refl) &
    (λ r. refl) &
    get1-plain _ (λ l r. refl) &
    get1-plain _ (λ l. get1-plain _ (λ v. get4-plain _ (λ s. get2-plain _ (λ a r. refl)))) &
    get1-plain _ (λ l. get1-plain _ (λ v. get4-plain _ (λ s. get2-plain _ (λ a r. refl)))) &
    (λ r. refl) &
    end

tick-op : (b : ℕ) (r : List ℕ) → is_tick (decode_op b r) ≡ eqb b 1
unfolding decode_op readers is_tick
tick-op zero r = refl
tick-op (suc zero) r = refl
tick-op (suc (suc n)) r = plain_at plain n r ∙ sym (ne_eqb (suc (suc n)) 1 (λ e. omega arith))

pub tick_there : (code : List ℕ) (target : ℕ) → target < length code → eqb (get_or code target 0) 1 ≡ is_tick (decode (drop target code))
unfolding decode
tick_there code target h = rw (drop-cons code target 0 h) (sym (tick-op (get_or code target 0) (drop (suc target) code)))

pub none_there : (code : List ℕ) (target : ℕ) → length code ≤ target → false ≡ is_tick (decode (drop target code))
unfolding decode is_tick
none_there code target h = rw (drop_of_length-le code h)
