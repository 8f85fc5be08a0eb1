-- Each piece of a text takes a byte at least.
use Rattle.std.specs.Prelude.{◌≡◌, refl, Bool, true, false, not, List, [], ◌∷◌, ℕ, ◌+◌, ◌-◌, ◌≤◌, eqb, leb, length, drop}
use Rattle.std.proofs.Math.Bool.{or-true}
use Rattle.std.proofs.Math.Option.{Option, some, none}
use Rattle.std.proofs.Common.{arith}
use Rattle.theorems.specs.Tests.{and_l, eqb_t}
use Rattle.rules.specs.Base.{pick, Res}
use Rattle.rules.specs.Kinds.{FINISH}
use Rattle.rules.specs.Limits.{integer_limit}
use Rattle.rules.specs.Tokens.{Token, is_blank, is_digit, starts_name, in_name, in_integer, in_line, run, starts, comment, is_name, symbol1, symbol2, Piece, gap, tok, bad, comment_piece, name_piece, integer_piece, symbol_piece, piece, follow}

-- bad, or a byte at least
pub data Takes : Piece → Type 0 where
  gap_takes : {n : ℕ} → 1 ≤ n → Takes (gap n)
  tok_takes : {t : Token} {n : ℕ} → 1 ≤ n → Takes (tok t n)
  bad_takes : {e : ℕ} → Takes (bad e)

-- what follows a piece is the same if it is so for every piece that takes a byte
pub follow_same : {p : Piece} (k k' : ℕ → Res (List Token)) (i : ℕ) → Takes p → ((n : ℕ) → 1 ≤ n → k n ≡ k' n) → follow k p i ≡ follow k' p i
unfolding follow
follow_same k k' i (gap_takes {n} q) h = h n q
follow_same k k' i (tok_takes {t} {n} q) h = rw (h n q)
follow_same k k' i bad_takes h = refl

-- what holds of both sides of a choice holds of it
chosen : {A : Type 0} (P : A → Type 0) {x y : A} (d : Bool) → (d ≡ true → P x) → P y → P (pick d (λ _. x) (λ _. y))
chosen P true h k = h refl
chosen P false h k = k

-- a run is not empty where its first byte is in it
run-takes : (p : ℕ → Bool) (x : ℕ) (s : List ℕ) → p x ≡ true → 1 ≤ length (run p (x ∷ s))
unfolding run
run-takes p x s e = rw (e, run) (omega arith)

starts_first : (a b x : ℕ) (s : List ℕ) → starts a b (x ∷ s) ≡ true → a ≡ x
unfolding starts
starts_first a b x [] e = cc
starts_first a b x (y ∷ s) e = eqb_t a x (and_l (eqb a x) (eqb b y) e)

comment-takes : (n d : ℕ) (s : List ℕ) → 1 ≤ n → Takes (comment_piece (comment n d s))
unfolding comment comment_piece
comment-takes n d [] h = bad_takes
comment-takes n d (x ∷ []) h = bad_takes
comment-takes n d (x ∷ y ∷ s) h =
    chosen P (starts 40 42 (x ∷ y ∷ s)) (λ _. comment-takes (n + 2) (d + 1) s (omega arith))
    (chosen P (starts 42 41 (x ∷ y ∷ s)) (λ _. chosen P (eqb d 1) (λ _. gap_takes {n = n + 2} (omega arith)) (comment-takes (n + 2) (d - 1) s (omega arith)))
    (comment-takes (n + 1) d (y ∷ s) (omega arith)))
  where
    P : Option ℕ → Type 0
    P o = Takes (comment_piece o)

integer-takes : (v : Option ℕ) (n i : ℕ) → 1 ≤ n → Takes (integer_piece v n i)
unfolding integer_piece
integer-takes none n i h = bad_takes
integer-takes (some v) n i h = chosen Takes (leb v integer_limit) (λ _. tok_takes h) bad_takes

symbol-takes : (two one i : ℕ) → Takes (symbol_piece two one i)
unfolding symbol_piece
symbol-takes two one i = chosen Takes (not (eqb two FINISH)) (λ _. tok_takes {n = 2} (omega arith)) (chosen Takes (not (eqb one FINISH)) (λ _. tok_takes {n = 1} (omega arith)) bad_takes)

pub piece-takes : (x : ℕ) (s : List ℕ) (i : ℕ) → Takes (piece x (x ∷ s) i)
unfolding piece name_piece in_line in_name in_integer
piece-takes x s i =
    chosen Takes (is_blank x) (λ _. gap_takes {n = 1} (omega arith))
    (chosen Takes (starts 47 47 (x ∷ s)) (λ e. gap_takes (run-takes in_line x s (rw (← (starts_first 47 47 x s e)))))
    (chosen Takes (starts 47 42 (x ∷ s)) (λ _. bad_takes)
    (chosen Takes (starts 40 42 (x ∷ s)) (λ _. comment-takes 2 1 (drop 2 (x ∷ s)) (omega arith))
    (chosen Takes (starts_name x) (λ e. chosen Takes (is_name (run in_name (x ∷ s))) (λ _. tok_takes (run-takes in_name x s (rw e))) bad_takes)
    (chosen Takes (is_digit x) (λ e. integer-takes _ _ i (run-takes in_integer x s (simp (e, or-true))))
    (symbol-takes (symbol2 (x ∷ s)) (symbol1 x) i))))))
