-- Two spellings, letter by letter.
use Rattle.std.proofs.Common.{◌≡◌, refl, ap, Bool, true, false, ◌&&◌, List, ℕ, suc, zero, ◌+◌, eqb, get_or, arith, add-zero}
use Rattle.std.specs.List.{list_all, range_with_len}
use Rattle.rules.specs.Base.{pick, same}
use Rattle.rules.specs.Tokens.{upper}
use Rattle.names.specs.Rows.{spelling}

-- spellings of two lengths differ
pub unlike : (t : List ℕ) (a b n k : ℕ) → (k ≡ n → ⊥) → same (spelling t a n) (spelling t b k) ≡ false
unfolding same spelling
unlike t a b zero zero h = absurd (h refl)
unlike t a b zero (suc k) h = refl
unlike t a b (suc n) zero h = refl
unlike t a b (suc n) (suc k) h = either (eqb (upper (get_or t a 0)) (upper (get_or t b 0))) (unlike t (suc a) (suc b) n k (λ e. h (ap suc e)))
  where
    either : (d : Bool) {q : Bool} → q ≡ false → pick d (λ _. q) (λ _. false) ≡ false
    either true e = e
    either false e = refl

-- those of one length are the same if each letter is
module _ (t : List ℕ) (a b : ℕ) where
  abbrev pub alike : ℕ → Bool
  alike k = eqb (upper (get_or t (a + k) 0)) (upper (get_or t (b + k) 0))

  from_on : (j n : ℕ) → same (spelling t (a + j) n) (spelling t (b + j) n) ≡ list_all alike (range_with_len j n)
  unfolding same spelling
  from_on j zero = refl
  from_on j (suc n) =
      let p : a + (j + 1) ≡ suc (a + j) = omega arith in
      let q : b + (j + 1) ≡ suc (b + j) = omega arith in
      both (alike j) (rw (p, q) at (from_on (j + 1) n))
    where
      both : (d : Bool) {p q : Bool} → p ≡ q → pick d (λ _. p) (λ _. false) ≡ (d && q)
      both true e = e
      both false e = refl

  pub each_alike : (n : ℕ) → same (spelling t a n) (spelling t b n) ≡ list_all alike (range_with_len 0 n)
  each_alike n = rw (add-zero a, add-zero b) at (from_on 0 n)
