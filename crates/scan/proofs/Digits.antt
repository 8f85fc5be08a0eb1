-- An integer read digit by digit: what its value is, from the value of the digits before a place and the bytes from there on. Assumes nothing.
use Rattle.std.proofs.Common.{◌≡◌, refl, sym, ◌∙◌, ap, Bool, true, false, List, [], ◌∷◌, ℕ, ◌+◌, ◌*◌, ◌<◌, ◌≤◌, min, length, drop, get_or, ltb, Some, None, arith}
use Rattle.std.proofs.Math.Option.{none, some}
use Rattle.std.proofs.lemmas.Grind.{common_steps}
use Rattle.std.proofs.lemmas.Bool.{ne_eqb, lt-ltb, le-ltb, lt-leb, le-leb}
use Rattle.std.specs.Char.{digit_value}
use native.Mathlib.Nat.{mul-le-mul_left}
use native.Mathlib.Decide.{dec_le}
use Rattle.rules.specs.Base.{pick}
use Rattle.rules.specs.Tokens.{is_capital, is_digit, is_small, is_under, starts_name, in_name, in_integer, within, upper, digit_of, run, digits}
use Rattle.theorems.specs.Refusals.{either}
use Rattle.scan.specs.Pieces.{limited}
use Rattle.scan.proofs.Runs.{run_on}

-- the library's value of a digit, and the rules'
digit_near : (x b : ℕ) → b ≤ 16 → digit_value x < b → digit_of x ≡ digit_value x
unfolding digit_of is_digit upper is_small within
digit_near x b h k = grind (arith, common_steps)

no_digit : (x b : ℕ) → b ≤ 16 → b ≤ digit_value x → b ≤ digit_of x
unfolding digit_of is_digit upper is_small within
no_digit x b h k = grind (arith, common_steps)

digit_in : (x b : ℕ) → b ≤ 16 → digit_value x < b → in_integer x ≡ true
unfolding in_integer in_name starts_name is_capital is_small is_digit is_under within
digit_in x b h k = grind (arith, common_steps)

under_in : (x : ℕ) → x ≡ 95 → in_integer x ≡ true
unfolding in_integer in_name starts_name is_capital is_small is_digit is_under within
under_in x e = rw e

module _ (b : ℕ) (one : 1 ≤ b) where
  -- over the largest integer, more digits change nothing
  too_large : (s : List ℕ) (v : ℕ) (after : Bool) → 2147483649 ≤ v → limited (digits b v after s) ≡ None
  unfolding digits limited
  too_large [] v after h = either (λ o. limited o ≡ None) after (rw (lt-leb v 2147483648 h)) refl
  too_large (x ∷ s) v after h =
      let more : 2147483649 ≤ v * b + digit_of x = omega (arith, mul-le-mul_left v one) in
      either (λ o. limited o ≡ None) (is_under x)
      (either (λ o. limited o ≡ None) after (too_large s v false h) refl)
      (either (λ o. limited o ≡ None) (ltb (digit_of x) b) (too_large s (v * b + digit_of x) true more) refl)

  -- so a value may stay at the largest number
  capped : (s : List ℕ) (v d : ℕ) (after : Bool)
      → limited (digits b (min (min (v * b) 4294967295 + d) 4294967295) after s) ≡ limited (digits b (v * b + d) after s)
  capped s v d after =
      elim (dec_le (v * b + d) 4294967295) [
        | yes h ↦ let e : min (min (v * b) 4294967295 + d) 4294967295 ≡ v * b + d = omega arith in rw e
        | no h ↦ too_large s _ after (omega arith) ∙ sym (too_large s (v * b + d) after (omega arith))
      ]

-- the bytes of the integer from byte k on
abbrev pub rest : List ℕ → ℕ → List ℕ
rest t k = run in_integer (drop k t)

-- k bytes of t are read, all of the integer, and their value is v; after: the last one was a digit
pub record Reading (t : List ℕ) (b k v : ℕ) (after : Bool) : Type 0 where
  pub same : limited (digits b 0 false (run in_integer t)) ≡ limited (digits b v after (rest t k))
  pub long : length (run in_integer t) ≡ k + length (rest t k)

pub begins : {t : List ℕ} {b : ℕ} → Reading t b 0 0 false
begins = record { same = refl; long = omega arith }

module _ {t : List ℕ} {b k v : ℕ} {after : Bool} (r : Reading t b k v after) where
  module _ (h : k < length t) where
    -- the byte at k belongs to the integer
    module _ (on : in_integer (get_or t k 0) ≡ true) where
      split : limited (digits b 0 false (run in_integer t)) ≡ limited (digits b v after (get_or t k 0 ∷ rest t (k + 1)))
      split = r.same ∙ rw (run_on in_integer t k h on)

      longer : length (run in_integer t) ≡ (k + 1) + length (rest t (k + 1))
      longer = let e = ap length (run_on in_integer t k h on) in omega (arith, r.long, e)

    module _ (u : get_or t k 0 ≡ 95) where
      pub under_on : after ≡ true → Reading t b (k + 1) v false
      unfolding digits is_under
      under_on e = let i = under_in _ u in record { same = split i ∙ rw (u, e); long = longer i }

      pub under_bad : after ≡ false → limited (digits b 0 false (run in_integer t)) ≡ None
      unfolding digits is_under limited
      under_bad e = split (under_in _ u) ∙ rw (u, e)

    module _ (u : get_or t k 0 ≡ 95 → ⊥) (low : 1 ≤ b) (high : b ≤ 16) where
      pub digit_on : (d w : ℕ) → digit_value (get_or t k 0) < b → d ≡ digit_value (get_or t k 0)
          → w ≡ min (min (v * b) 4294967295 + d) 4294967295 → Reading t b (k + 1) w true
      unfolding digits is_under
      digit_on d w s e f =
          let x = digit_near (get_or t k 0) b high s in
          let i = digit_in (get_or t k 0) b high s in
          record { same = split i ∙ rw (ne_eqb _ _ u, x, lt-ltb _ _ s, ← e) (rw f (sym (capped b low (rest t (k + 1)) v d true))); long = longer i }

      pub digit_bad : in_integer (get_or t k 0) ≡ true → b ≤ digit_value (get_or t k 0) → limited (digits b 0 false (run in_integer t)) ≡ None
      unfolding digits is_under limited
      digit_bad i s = split i ∙ rw (ne_eqb _ _ u, le-ltb _ _ (no_digit (get_or t k 0) b high s))

  -- the integer is read
  module _ (e : rest t k ≡ []) where
    over : limited (digits b 0 false (run in_integer t)) ≡ limited (pick after (λ _. some v) (λ _. none))
    unfolding digits
    over = r.same ∙ rw e

    pub end_bad : after ≡ false → limited (digits b 0 false (run in_integer t)) ≡ None
    unfolding limited
    end_bad f = over ∙ rw f

    pub end_large : 2147483648 < v → limited (digits b 0 false (run in_integer t)) ≡ None
    unfolding limited
    end_large l = over ∙ either (λ o. limited o ≡ None) after (rw (lt-leb v 2147483648 l)) refl

    pub ends : after ≡ true → v ≤ 2147483648 → limited (digits b 0 false (run in_integer t)) ≡ Some v
    unfolding limited
    ends f l = over ∙ rw (f, le-leb v 2147483648 l)

    pub all : length (run in_integer t) ≡ k
    all = let n = ap length e in omega (arith, r.long, n)
