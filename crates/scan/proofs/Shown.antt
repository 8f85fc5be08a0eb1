-- What the pieces of the rules show.
use Rattle.std.proofs.Common.{◌≡◌, refl, Bool, true, false, List, [], ◌∷◌, ℕ, ◌<◌, ◌≤◌, length, Some, None, arith, eqb, leb, not, take, min, length-take}
use Rattle.std.proofs.Math.Option.{Option, none, some}
use Rattle.std.proofs.lemmas.Grind.{common_steps}
use native.Mathlib.Decide.{dec_le}
use Rattle.std.proofs.lemmas.Bool.{leb-true, lt-leb}
use Rattle.std.proofs.lemmas.List.{take_all}
use Rattle.theorems.specs.Tests.{and_l}
use Rattle.rules.specs.Base.{pick}
use Rattle.scan.proofs.Runs.{run_take, run_short}
use Rattle.rules.specs.Limits.{integer_limit}
use Rattle.rules.specs.Kinds.{FINISH, NAME, INT}
use Rattle.rules.specs.Tokens.{Piece, plain, fold, reserved, lookup, parts_well, is_name, word_kind, word, name_piece, integer_piece, symbol_piece, piece, is_blank, is_digit, starts, starts_name, in_name, in_integer, run, integer, symbol1, symbol2}
use Rattle.rules.specs.Cells.{datum}
use Rattle.scan.specs.Pieces.{shown, a_token, a_fault, limited}

module _ (two one i : ℕ) where
  pub two_bytes : 0 < two → shown (symbol_piece two one i) ≡ a_token two 0 2
  unfolding shown symbol_piece plain datum
  two_bytes h = grind (arith, common_steps)

  pub one_byte : two ≡ 0 → 0 < one → shown (symbol_piece two one i) ≡ a_token one 0 1
  unfolding shown symbol_piece plain datum
  one_byte e h = grind (arith, common_steps)

  pub no_symbol : two ≡ 0 → one ≡ 0 → shown (symbol_piece two one i) ≡ a_fault 2
  unfolding shown symbol_piece plain datum
  no_symbol e h = rw (e, h)

-- folding keeps the length
length_fold : (w : List ℕ) → length (fold w) ≡ length w
unfolding fold
length_fold [] = refl
length_fold (x ∷ w) = rw (length_fold w)

pub short : (w : List ℕ) → is_name w ≡ true → length w ≤ 32
unfolding is_name
short w h = leb-true (length w) 32 (and_l (leb (length w) 32) (parts_well w) h)

module _ (w : List ℕ) (i : ℕ) where
  pub a_name : is_name w ≡ true → lookup (fold w) reserved ≡ NAME → shown (name_piece w i) ≡ a_token NAME (length w) (length w)
  unfolding shown name_piece word word_kind datum
  a_name h e = rw (h, e, length_fold w)

  pub a_reserved : is_name w ≡ true → NAME < lookup (fold w) reserved → shown (name_piece w i) ≡ a_token (lookup (fold w) reserved) 0 (length w)
  unfolding shown name_piece word word_kind plain datum
  a_reserved h e = grind (arith, common_steps)

  pub no_name : is_name w ≡ false → shown (name_piece w i) ≡ a_fault 3
  unfolding shown name_piece
  no_name h = rw h

-- a run of over 32 bytes is no name, and nor are its first 33
pub looked_ahead : (t : List ℕ) → name_piece (run in_name (take (min (length t) 33) t)) 0 ≡ name_piece (run in_name t) 0
unfolding name_piece is_name
looked_ahead t =
    let w = run in_name t in
    let e : run in_name (take (min (length t) 33) t) ≡ take (min (length t) 33) w = run_take in_name _ t in
    let s = run_short in_name t in
    elim (dec_le (length w) 32) [
      | yes h ↦
          let n : length w ≤ min (length t) 33 = omega arith in
          rw (e, take_all (min (length t) 33) w n)
      | no h ↦
          let n : 32 < length (take (min (length t) 33) w) = omega (arith, length-take (min (length t) 33) w) in
          rw (e, lt-leb _ _ n) (rw (lt-leb (length w) 32 (omega arith)))
    ]

module _ (n i : ℕ) where
  pub an_integer : (o : Option ℕ) {v : ℕ} → limited o ≡ Some v → shown (integer_piece o n i) ≡ a_token INT v n
  unfolding shown integer_piece limited datum
  an_integer none e = cc
  an_integer (some w) e = grind (arith, common_steps)

  pub no_integer : (o : Option ℕ) → limited o ≡ None → shown (integer_piece o n i) ≡ a_fault 4
  unfolding shown integer_piece limited
  no_integer none e = refl
  no_integer (some w) e = grind (arith, common_steps)

-- ---- a piece shows the same at each place

-- what holds of both parts of two choices by one test holds of the choices
both : {A : Type 0} (P : A → A → Type 0) (d : Bool) {x y u v : A} → P x u → P y v → P (pick d (λ _. x) (λ _. y)) (pick d (λ _. u) (λ _. v))
both P true a b = a
both P false a b = b

module _ (i j : ℕ) where
  abbrev Alike : Piece → Piece → Type 0
  Alike p q = shown p ≡ shown q

  name_alike : (w : List ℕ) → Alike (name_piece w i) (name_piece w j)
  unfolding shown name_piece word word_kind plain datum
  name_alike w = both Alike (is_name w) (both (λ t u. a_token t.kind (datum t) (length w) ≡ a_token u.kind (datum u) (length w)) (eqb (lookup (fold w) reserved) NAME) refl refl) refl

  integer_alike : (o : Option ℕ) (n : ℕ) → Alike (integer_piece o n i) (integer_piece o n j)
  unfolding shown integer_piece datum
  integer_alike none n = refl
  integer_alike (some v) n = both Alike (leb v integer_limit) refl refl

  symbol_alike : (two one : ℕ) → Alike (symbol_piece two one i) (symbol_piece two one j)
  unfolding shown symbol_piece plain datum
  symbol_alike two one = both Alike (not (eqb two FINISH)) refl (both Alike (not (eqb one FINISH)) refl refl)

  pub same_shown : (x : ℕ) (s : List ℕ) → shown (piece x s i) ≡ shown (piece x s j)
  unfolding piece
  same_shown x s =
      both Alike (is_blank x) refl
      (both Alike (starts 47 47 s) refl
      (both Alike (starts 47 42 s) refl
      (both Alike (starts 40 42 s) refl
      (both Alike (starts_name x) (name_alike (run in_name s))
      (both Alike (is_digit x) (integer_alike (integer (run in_integer s)) (length (run in_integer s)))
      (symbol_alike (symbol2 s) (symbol1 x)))))))
