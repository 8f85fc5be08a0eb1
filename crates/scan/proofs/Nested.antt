-- A comment that is open, or has just been closed, and the text behind.
use Rattle.std.proofs.Common.{◌≡◌, ◌∙◌, true, false, List, [], ◌∷◌, ℕ, ◌+◌, ◌-◌, ◌<◌, ◌≤◌, length, take, drop, eqb, arith, length-drop}
use Rattle.std.proofs.Math.Option.{Option, none, some}
use Rattle.std.proofs.lemmas.Grind.{common_steps}
use Rattle.std.proofs.lemmas.List.{take_all}
use Rattle.rules.specs.Base.{pick}
use Rattle.rules.specs.Tokens.{starts, comment}
use Rattle.scan.proofs.Starts.{two_long}

-- what is to come of a comment: n of its bytes are read, and d of them are open
abbrev to_come : ℕ → ℕ → List ℕ → Option ℕ
to_come n d s = pick (eqb d 0) (λ _. some n) (λ _. comment n d s)

-- the comment of the text t is read up to s, and d are open
pub record Reading (t s : List ℕ) (d : ℕ) : Type 0 where
  pub few : d + length s ≤ length t
  pub whole : comment 2 1 (drop 2 t) ≡ to_come (length t - length s) d s

module _ (n d : ℕ) (h : 0 < d) where
  opening : (s : List ℕ) → starts 40 42 s ≡ true → to_come n d s ≡ to_come (n + 2) (d + 1) (drop 2 s)
  unfolding comment starts
  opening [] e = cc
  opening (x ∷ []) e = cc
  opening (x ∷ y ∷ s) e = grind (arith, common_steps)

  closing : (s : List ℕ) → starts 40 42 s ≡ false → starts 42 41 s ≡ true → to_come n d s ≡ to_come (n + 2) (d - 1) (drop 2 s)
  unfolding comment starts
  closing [] e f = cc
  closing (x ∷ []) e f = cc
  closing (x ∷ y ∷ s) e f = grind (arith, common_steps)

  passing : (s : List ℕ) → starts 40 42 s ≡ false → starts 42 41 s ≡ false → to_come n d s ≡ to_come (n + 1) d (drop 1 s)
  unfolding comment starts
  passing [] e f = grind (arith, common_steps)
  passing (x ∷ []) e f = grind (arith, common_steps)
  passing (x ∷ y ∷ s) e f = grind (arith, common_steps)

  never : (s : List ℕ) → length s ≡ 0 → to_come n d s ≡ none
  unfolding comment
  never [] e = grind (arith, common_steps)
  never (x ∷ s) e = absurd (omega arith)

pub begins : (t : List ℕ) → 2 ≤ length t → Reading t (take (length t - 2) (drop 2 t)) 1
begins t h =
    let rest : take (length t - 2) (drop 2 t) ≡ drop 2 t = take_all _ _ (omega (arith, length-drop 2 t)) in
    let n : length t - length (drop 2 t) ≡ 2 = omega (arith, length-drop 2 t) in
    rw rest record { few = omega (arith, length-drop 2 t); whole = rw n }

module _ {t s : List ℕ} {d : ℕ} (r : Reading t s d) (h : 0 < d) where
  -- k bytes are passed
  on : (k e : ℕ) → k ≤ length s → e + (length s - k) ≤ length t
      → to_come (length t - length s) d s ≡ to_come (length t - length s + k) e (drop k s)
      → Reading t (take (length s - k) (drop k s)) e
  on k e a b w =
      let rest : take (length s - k) (drop k s) ≡ drop k s = take_all _ _ (omega (arith, length-drop k s)) in
      let n : length t - length (drop k s) ≡ length t - length s + k = omega (arith, length-drop k s, r.few) in
      rw rest record { few = omega (arith, length-drop k s); whole = rw n (r.whole ∙ w) }

  pub opens : starts 40 42 s ≡ true → Reading t (take (length s - 2) (drop 2 s)) (d + 1)
  opens e = let l = two_long 40 42 s e in on 2 (d + 1) l (omega (arith, r.few)) (opening _ d h s e)

  module _ (e : starts 40 42 s ≡ false) where
    pub closes : starts 42 41 s ≡ true → Reading t (take (length s - 2) (drop 2 s)) (d - 1)
    closes f = let l = two_long 42 41 s f in on 2 (d - 1) l (omega (arith, r.few)) (closing _ d h s e f)

    pub passes : starts 42 41 s ≡ false → 0 < length s → Reading t (take (length s - 1) (drop 1 s)) d
    passes f l = on 1 d (omega arith) (omega (arith, r.few)) (passing _ d h s e f)

  pub unclosed : length s ≡ 0 → comment 2 1 (drop 2 t) ≡ none
  unclosed e = r.whole ∙ never _ d h s e

pub closed : {t s : List ℕ} {d : ℕ} → Reading t s d → d ≡ 0 → comment 2 1 (drop 2 t) ≡ some (length t - length s)
closed r e = r.whole ∙ rw e
