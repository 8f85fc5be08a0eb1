-- The base of an integer, and how long it is, by the first bytes of a text. Assumes nothing.
use Rattle.std.proofs.Common.{◌≡◌, refl, sym, ◌∙◌, ap, Bool, true, false, ◌&&◌, List, [], ◌∷◌, ℕ, ◌+◌, ◌-◌, ◌≤◌, length, take, drop, length-drop, Some, None, eqb, drop-drop, arith}
use Rattle.std.proofs.lemmas.Bool.{eqb-true}
use Rattle.std.proofs.lemmas.List.{take_all}
use Rattle.rules.specs.Base.{pick}
use Rattle.rules.specs.Kinds.{INT}
use Rattle.rules.specs.Tokens.{within, is_capital, is_small, is_digit, is_under, starts_name, in_name, in_integer, run, starts, digits, integer, integer_piece}
use Rattle.theorems.specs.Refusals.{either}
use Rattle.theorems.specs.Tests.{and_l, and_r}
use Rattle.scan.specs.Pieces.{Shown, a_token, a_fault, shown, limited, base_of}
use Rattle.scan.proofs.Runs.{run_short}
use Rattle.scan.proofs.Shown.{an_integer as token_shown, no_integer as fault_shown}

-- ---- what stands at the front, two bytes or three, is there

two : (a b : ℕ) (s : List ℕ) → starts a b s ≡ true → s ≡ a ∷ b ∷ drop 2 s
unfolding starts
two a b [] h = cc
two a b (x ∷ []) h = cc
two a b (x ∷ y ∷ s) h = rw (eqb-true a x (and_l (eqb a x) (eqb b y) h), eqb-true b y (and_r (eqb a x) (eqb b y) h))

three : (a b c : ℕ) (s : List ℕ) → starts a b s ≡ true → starts b c (drop 1 s) ≡ true → s ≡ a ∷ b ∷ c ∷ drop 3 s
three a b c s h k =
    let e : b ∷ drop 2 s ≡ b ∷ c ∷ drop 2 (drop 1 s) = sym (ap (λ (l : List ℕ). drop 1 l) (two a b s h)) ∙ two b c (drop 1 s) k in
    two a b s h ∙ ap (λ (l : List ℕ). a ∷ l) (e ∙ rw (drop-drop 2 1 s))

none : (d : Bool) → (d && false) ≡ false
none true = refl
none false = refl

-- ---- what does not stand there does not stand in a run either

module _ (p : ℕ → Bool) (a b : ℕ) where
  not_two : (s : List ℕ) → starts a b s ≡ false → starts a b (run p s) ≡ false
  unfolding starts run
  not_two [] h = refl
  not_two (x ∷ []) h = either (λ l. starts a b l ≡ false) (p x) refl refl
  not_two (x ∷ y ∷ s) h = either (λ l. starts a b l ≡ false) (p x) (either (λ l. starts a b (x ∷ l) ≡ false) (p y) h refl) refl

  module _ (c : ℕ) where
    -- not a and b, with c behind b
    abbrev No : List ℕ → Type 0
    No s = (starts a b s && starts b c (drop 1 s)) ≡ false

    not_three : (s : List ℕ) → No s → No (run p s)
    unfolding starts run
    not_three [] h = refl
    not_three (x ∷ []) h = either No (p x) refl refl
    not_three (x ∷ y ∷ []) h = either No (p x) (either (λ l. No (x ∷ l)) (p y) h refl) refl
    not_three (x ∷ y ∷ z ∷ s) h =
        either No (p x) (either (λ l. No (x ∷ l)) (p y) (either (λ l. No (x ∷ y ∷ l)) (p z) h (none (starts a b (x ∷ y ∷ [])))) refl) refl

-- ---- so the bytes that stand before the digits tell the base

-- the base, and how many bytes of the text t name it
pub record Based (t : List ℕ) (b : ℕ × ℕ) : Type 0 where
  pub value : integer (run in_integer t) ≡ digits b.0 0 false (run in_integer (drop b.1 t))
  pub long : length (run in_integer t) ≡ b.1 + length (run in_integer (drop b.1 t))

choose : (P : ℕ × ℕ → Type 0) (d : Bool) {x y : ℕ × ℕ} → (d ≡ true → P x) → (d ≡ false → P y) → P (pick d (λ _. x) (λ _. y))
choose P true f g = f refl
choose P false f g = g refl

module _ (t : List ℕ) where
  based_2 : starts 50 35 t ≡ true → Based t (2, 2)
  unfolding integer starts run in_integer in_name starts_name is_capital is_small is_digit is_under within
  based_2 h = rw (two 50 35 t h) record { value = refl; long = omega arith }

  based_8 : starts 56 35 t ≡ true → Based t (8, 2)
  unfolding integer starts run in_integer in_name starts_name is_capital is_small is_digit is_under within
  based_8 h = rw (two 56 35 t h) record { value = refl; long = omega arith }

  based_16 : starts 49 54 t ≡ true → starts 54 35 (drop 1 t) ≡ true → Based t (16, 3)
  unfolding integer starts run in_integer in_name starts_name is_capital is_small is_digit is_under within
  based_16 h k = rw (three 49 54 35 t h k) record { value = refl; long = omega arith }

  based_10 : starts 50 35 t ≡ false → starts 56 35 t ≡ false → (starts 49 54 t && starts 54 35 (drop 1 t)) ≡ false → Based t (10, 0)
  unfolding integer
  based_10 h k l =
      record {
        value = rw (not_two in_integer 50 35 t h, not_two in_integer 56 35 t k, not_three in_integer 49 54 35 t l);
        long = omega arith;
      }

  based : Based t (base_of t)
  unfolding base_of
  based =
      choose (Based t) _ based_2 (λ h.
      choose (Based t) _ based_8 (λ k.
      choose (Based t) _ (λ l. based_16 (and_l (starts 49 54 t) _ l) (and_r (starts 49 54 t) _ l)) (based_10 h k)))

-- ---- so the digits behind the base, as the code cuts them off, tell the piece

module _ (t : List ℕ) (b : ℕ × ℕ) (e : b ≡ base_of t) (h : b.1 ≤ length t) where
  abbrev behind : List ℕ
  behind = run in_integer (take (length t - b.1) (drop b.1 t))

  cut : behind ≡ run in_integer (drop b.1 t)
  cut = ap (run in_integer) (take_all _ _ (omega (arith, length-drop b.1 t)))

  here : Based t b
  here = rw e (based t)

  abbrev whole : Shown
  whole = shown (integer_piece (integer (run in_integer t)) (length (run in_integer t)) 0)

  value : limited (integer (run in_integer t)) ≡ limited (digits b.0 0 false behind)
  value = ap limited here.value ∙ rw cut

  long : length (run in_integer t) ≡ b.1 + length behind
  long = here.long ∙ rw cut

  pub an_integer : {v n : ℕ} → limited (digits b.0 0 false behind) ≡ Some v → length behind ≡ n → whole ≡ a_token INT v (b.1 + n)
  an_integer s l = token_shown _ 0 _ (value ∙ s) ∙ rw (long, l)

  pub no_integer : limited (digits b.0 0 false behind) ≡ None → whole ≡ a_fault 4
  no_integer s = fault_shown _ 0 _ (value ∙ s)

  pub no_longer : b.1 + length behind ≤ length t
  no_longer = omega (arith, long, run_short in_integer t)
