-- Clearing around a part of a list leaves zeros with that part in them. Assumes nothing.
use mathlib.Core.Path.{◌≡◌, sym, ap, ◌∙◌}
use mathlib.Core.List.{List, [], ◌++◌, append_assoc, append-nil}
use Prim.Native.Nat.{ℕ, ◌+◌, ◌-◌, ◌≤◌}
use native.Mathlib.Omega.{arith}
use lib.ListN.{length, take, drop, replicate, length-append, length-drop, length-replicate, replicate-append-replicate, take-append-drop}
use lib.Seq.{sets, sets-eq, length-take-le, take_all, take_at, drop_at, drop-length, drop-append-le, slice, length-slice}

-- numbers stored in zeros stand between zeros
zeros_with : (t j : ℕ) (xs : List ℕ) → sets (replicate (t + length xs + j) 0) t xs ≡ (replicate t 0 ++ xs) ++ replicate j 0
zeros_with t j xs =
    sets-eq xs zeros t (let e = length-replicate {A = ℕ} (t + length xs + j) 0 in omega arith)
    ∙ ap (λ l. (l ++ xs) ++ drop (t + length xs) zeros) front
    ∙ ap (λ l. (replicate t 0 ++ xs) ++ l) back
  where
    zeros : List ℕ
    zeros = replicate (t + length xs + j) 0

    parts : zeros ≡ (replicate t 0 ++ replicate (length xs) 0) ++ replicate j 0
    parts = sym (replicate-append-replicate (t + length xs) j 0) ∙ ap (λ l. l ++ replicate j 0) (sym (replicate-append-replicate t (length xs) 0))

    front : take t zeros ≡ replicate t 0
    front = ap (take t) (parts ∙ append_assoc (replicate t 0) (replicate (length xs) 0) (replicate j 0)) ∙ take_at (replicate t 0) _ t (length-replicate t 0)

    back : drop (t + length xs) zeros ≡ replicate j 0
    back =
        ap (drop (t + length xs)) parts
        ∙ drop_at (replicate t 0 ++ replicate (length xs) 0) (replicate j 0) (t + length xs)
        (length-append (replicate t 0) (replicate (length xs) 0) ∙ rw (length-replicate {A = ℕ} t 0, length-replicate {A = ℕ} (length xs) 0))

-- Zeros a are put in the place of the first t numbers, then zeros b in the place of those from number k on
module _ (m : List ℕ) (t k : ℕ) {a : List ℕ} (low : t ≤ k) (high : k ≤ length m) (first : a ≡ replicate (length (take t m)) 0) where
  -- what is kept
  abbrev middle : List ℕ
  middle = slice t k m

  -- the numbers when the first are zeros
  abbrev begun : List ℕ
  begun = a ++ drop t m

  size : length middle ≡ k - t
  size = length-slice t k m high

  begun-parts : begun ≡ (replicate t 0 ++ middle) ++ drop k m
  begun-parts =
      ap (λ l. l ++ drop t m) (first ∙ ap (λ n. replicate n 0) (length-take-le t m (omega arith)))
      ∙ ap (λ l. replicate t 0 ++ l) (ap (drop t) (sym (take-append-drop k m)) ∙ drop-append-le t (take k m) (drop k m) (let e = length-take-le k m high in omega arith))
      ∙ sym (append_assoc (replicate t 0) middle (drop k m))

  head-size : length (replicate t 0 ++ middle) ≡ k
  head-size = length-append (replicate t 0) middle ∙ (let e = length-replicate {A = ℕ} t 0 in let d = size in omega arith)

  -- so all keep their number
  begun_long : length begun ≡ length m
  begun_long = ap (λ l. length l) begun-parts ∙ length-append (replicate t 0 ++ middle) (drop k m) ∙ (let e = head-size in let d = length-drop k m in omega arith)

  front : take k begun ≡ replicate t 0 ++ middle
  front = ap (take k) begun-parts ∙ take_at (replicate t 0 ++ middle) (drop k m) k head-size

  back : drop k begun ≡ drop k m
  back = ap (drop k) begun-parts ∙ drop_at (replicate t 0 ++ middle) (drop k m) k head-size

  module _ {b : List ℕ} (second : b ≡ replicate (length (take (length begun - k) (drop k begun))) 0) where
    -- all numbers from k on are put
    last_size : length (take (length begun - k) (drop k begun)) ≡ length m - k
    last_size = rw (begun_long, back) (let e = length-drop k m in ap (λ l. length l) (take_all (length m - k) (drop k m) (omega arith)) ∙ e)

    last : b ≡ replicate (length m - k) 0
    last = second ∙ ap (λ n. replicate n 0) last_size

    behind : drop (length begun - k) (drop k begun) ≡ []
    behind = rw (begun_long, back, ← (length-drop k m)) (drop-length (drop k m))

    whole_size : length m ≡ t + length middle + (length m - k)
    whole_size = let d = size in omega arith

    kept_zeros : (replicate t 0 ++ middle) ++ replicate (length m - k) 0 ≡ sets (replicate (length m) 0) t middle
    kept_zeros = sym (zeros_with t (length m - k) middle) ∙ ap (λ n. sets (replicate n 0) t middle) (sym whole_size)

    -- so zeros are around what is kept
    pub around : take k begun ++ (b ++ drop (length begun - k) (drop k begun)) ≡ sets (replicate (length m) 0) t middle
    around = rw (front, behind, append-nil b, last) kept_zeros
