-- The longest beginning of bytes that pass a test, as the library has it.
use Rattle.std.proofs.Common.{◌≡◌, refl, sym, ◌∙◌, ap, Bool, true, false, cond, List, [], ◌∷◌, ℕ, zero, suc, ◌+◌, ◌<◌, ◌≤◌, length, take, drop, get_or, drop-cons, add-one, drop_of_length-le, arith}
use Rattle.std.proofs.lemmas.List.Sums.{take_while-cons}
use Rattle.std.specs.List.{take_while}
use Rattle.rules.specs.Base.{pick}
use Rattle.rules.specs.Tokens.{run}

pub run_taken : (p : ℕ → Bool) (s : List ℕ) → run p s ≡ take_while p s
unfolding run
run_taken p [] = refl
run_taken p (x ∷ s) = by (p x) (run_taken p s) ∙ sym (take_while-cons p x s)
  where
    by : (d : Bool) {r t : List ℕ} → r ≡ t → pick d (λ _. x ∷ r) (λ _. []) ≡ cond d (x ∷ t) []
    by true e = ap (λ l. x ∷ l) e
    by false e = refl

-- a run from byte k on, by that byte
module _ (p : ℕ → Bool) (t : List ℕ) (k : ℕ) where
  pub run_on : k < length t → p (get_or t k 0) ≡ true → run p (drop k t) ≡ get_or t k 0 ∷ run p (drop (k + 1) t)
  unfolding run
  run_on h e = rw (add-one, drop-cons t k 0 h, e)

  pub run_off : k < length t → p (get_or t k 0) ≡ false → run p (drop k t) ≡ []
  unfolding run
  run_off h e = rw (drop-cons t k 0 h, e)

  pub run_past : length t ≤ k → run p (drop k t) ≡ []
  unfolding run
  run_past h = rw (drop_of_length-le t {i = k} h)

-- the run of the first bytes is the first bytes of the run
pub run_take : (p : ℕ → Bool) (n : ℕ) (t : List ℕ) → run p (take n t) ≡ take n (run p t)
unfolding run
run_take p zero t = refl
run_take p (suc n) [] = refl
run_take p (suc n) (x ∷ t) = by (p x) (run p t) (run_take p n t)
  where
    by : (d : Bool) (s : List ℕ) {r : List ℕ} → r ≡ take n s → pick d (λ _. x ∷ r) (λ _. []) ≡ take (suc n) (pick d (λ _. x ∷ s) (λ _. []))
    by true s e = ap (λ l. x ∷ l) e
    by false s e = refl

pub run_short : (p : ℕ → Bool) (t : List ℕ) → length (run p t) ≤ length t
unfolding run
run_short p [] = omega arith
run_short p (x ∷ t) = by (p x) (run_short p t)
  where
    by : (d : Bool) → length (run p t) ≤ length t → length (pick d (λ _. x ∷ run p t) (λ _. [])) ≤ length (x ∷ t)
    by true h = omega (arith, h)
    by false h = omega arith
