-- The tokens of a text have their places in it, and so have the refusals; and a property that every piece has, all tokens have.
use Rattle.std.specs.Prelude.{◌≡◌, Bool, not, eqb, leb, take, drop}
use Rattle.std.proofs.Math.Path.{refl, ap}
use Rattle.std.proofs.Common.{◌∙◌, sym, arith, length-drop, drop-drop}
use mathlib.Core.List.{List, [], ◌∷◌}
use Rattle.std.proofs.Math.Option.{Option, none, some}
use Prim.Native.Nat.{ℕ, zero, suc, ◌+◌, ◌-◌, ◌≤◌}
use Rattle.std.proofs.Math.ListN.{length}
use Rattle.rules.specs.Base.{pick, Res}
use Rattle.rules.specs.Limits.{integer_limit}
use Rattle.rules.specs.Kinds.{FINISH, NAME}
use Rattle.rules.specs.Tokens.{Token, plain, run, starts, comment, reserved, lookup, word_kind, word, fold, is_name, in_line, in_name, in_integer, is_blank, starts_name, is_digit, integer, symbol1, symbol2, Piece, gap, tok, bad, comment_piece, name_piece, integer_piece, symbol_piece, piece, put, follow, tokens_at, tokens}
use Rattle.theorems.specs.Refusals.{Fine, f_ok, f_refuse, either}

-- every element has the property
pub data Each {A : Type 0} (P : A → Type 0) : List A → Type 0 where
  e_nil : Each P []
  e_cons : {a : A} {s : List A} → P a → Each P s → Each P (a ∷ s)

pub each_on : {A : Type 0} {P Q : A → Type 0} {s : List A} → ((a : A) → P a → Q a) → Each P s → Each Q s
each_on f e_nil = e_nil
each_on f (e_cons h k) = e_cons (f _ h) (each_on f k)

-- the token's place is in the text
abbrev pub At : ℕ → Token → Type 0
At N t = t.place ≤ N

-- a piece at place i takes in at most m bytes, or refuses with 2, 3 or 4
pub data Within (i m : ℕ) : Piece → Type 0 where
  w_gap : {n : ℕ} → n ≤ m → Within i m (gap n)
  w_tok : {t : Token} (n : ℕ) → t.place ≡ i → n ≤ m → Within i m (tok t n)
  w_bad : (e : ℕ) → (2 ≤ e) × (e ≤ 4) → Within i m (bad e)

-- a run of bytes is no longer than the text
pub run_short : (p : ℕ → Bool) (s : List ℕ) → length (run p s) ≤ length s
unfolding run
run_short p [] = omega arith
run_short p (x ∷ s) = let h = run_short p s in either (λ r. length r ≤ length (x ∷ s)) (p x) {x = x ∷ run p s} {y = []} (omega arith) (omega arith)

-- a run is as many bytes of the text as it is long
pub run_take : (p : ℕ → Bool) (s : List ℕ) → run p s ≡ take (length (run p s)) s
unfolding run
run_take p [] = refl
run_take p (x ∷ s) = either (λ r. r ≡ take (length r) (x ∷ s)) (p x) {x = x ∷ run p s} {y = []} (ap (λ l. x ∷ l) (run_take p s)) refl

-- n: the bytes of the comment before s
comment_in : (n d i m : ℕ) (s : List ℕ) → n + length s ≤ m → Within i m (comment_piece (comment n d s))
unfolding comment comment_piece
comment_in n d i m [] h = w_bad 2 (omega arith)
comment_in n d i m (x ∷ []) h = w_bad 2 (omega arith)
comment_in n d i m (x ∷ y ∷ s) h =
    let P : Option ℕ → Type 0 = λ c. Within i m (comment_piece c) in
    either P (starts 40 42 (x ∷ y ∷ s)) (comment_in (n + 2) (d + 1) i m s (omega arith))
    (either P (starts 42 41 (x ∷ y ∷ s)) (either P (eqb d 1) (w_gap (omega arith)) (comment_in (n + 2) (d - 1) i m s (omega arith)))
    (comment_in (n + 1) d i m (y ∷ s) (omega arith)))

-- a comment's opening has two bytes
opening_in : (x : ℕ) (s : List ℕ) (i : ℕ) {b : Piece} → Within i (length (x ∷ s)) b → Within i (length (x ∷ s)) (pick (starts 40 42 (x ∷ s)) (λ _. comment_piece (comment 2 1 (drop 2 (x ∷ s)))) (λ _. b))
unfolding starts
opening_in x [] i h = h
opening_in x (y ∷ s) i h = either (Within i _) (starts 40 42 (x ∷ y ∷ s)) (comment_in 2 1 i _ s (omega arith)) h

word-place : (k : ℕ) (w : List ℕ) (i : ℕ) → (word_kind k w i).place ≡ i
unfolding word_kind plain
word-place k w i = either (λ (t : Token). t.place ≡ i) (eqb k NAME) refl refl

name_in_lem : (w : List ℕ) (i m : ℕ) → length w ≤ m → Within i m (name_piece w i)
unfolding name_piece word
name_in_lem w i m h = either (Within i m) (is_name w) (w_tok _ (word-place (lookup (fold w) reserved) (fold w) i) h) (w_bad 3 (omega arith))

integer_in : (v : Option ℕ) (n i m : ℕ) → n ≤ m → Within i m (integer_piece v n i)
unfolding integer_piece
integer_in none n i m h = w_bad 4 (omega arith)
integer_in (some v) n i m h = either (Within i m) (leb v integer_limit) (w_tok n refl h) (w_bad 4 (omega arith))

symbol_in : (x : ℕ) (s : List ℕ) (i : ℕ) → Within i (length (x ∷ s)) (symbol_piece (symbol2 (x ∷ s)) (symbol1 x) i)
unfolding symbol_piece symbol2 starts plain
symbol_in x [] i = either (Within i _) (not (eqb (symbol1 x) FINISH)) (w_tok 1 refl (omega arith)) (w_bad 2 (omega arith))
symbol_in x (y ∷ s) i =
    either (Within i _) (not (eqb (symbol2 (x ∷ y ∷ s)) FINISH)) (w_tok 2 refl (omega arith))
    (either (Within i _) (not (eqb (symbol1 x) FINISH)) (w_tok 1 refl (omega arith)) (w_bad 2 (omega arith)))

-- what stands at a byte takes in no more than there is
pub piece_in : (x : ℕ) (s : List ℕ) (i : ℕ) → Within i (length (x ∷ s)) (piece x (x ∷ s) i)
unfolding piece
piece_in x s i =
    let P = Within i (length (x ∷ s)) in
    either P (is_blank x) (w_gap (omega arith))
    (either P (starts 47 47 (x ∷ s)) (w_gap (run_short in_line (x ∷ s)))
    (either P (starts 47 42 (x ∷ s)) (w_bad 2 (omega arith))
    (opening_in x s i
    (either P (starts_name x) (name_in_lem _ i _ (run_short in_name (x ∷ s)))
    (either P (is_digit x) (integer_in (integer (run in_integer (x ∷ s))) _ i _ (run_short in_integer (x ∷ s)))
    (symbol_in x s i))))))

-- a piece whose token has a property, if it is a token
pub data On (Q : Token → Type 0) : Piece → Type 0 where
  o_gap : {n : ℕ} → On Q (gap n)
  o_tok : {t : Token} {n : ℕ} → Q t → On Q (tok t n)
  o_bad : {e : ℕ} → On Q (bad e)

-- All tokens of a text have a property, if the end has it and every piece; and refusals have their place in the text
module _ (text : List ℕ) (Q : Token → Type 0) (end : (i : ℕ) → i ≤ length text → Q (plain FINISH i)) (each : (x : ℕ) (s : List ℕ) (i : ℕ) → drop i text ≡ x ∷ s → i ≤ length text → On Q (piece x (x ∷ s) i)) where
  put_each : (t : Token) {r : Res (List Token)} → Q t → Fine (length text) (Each Q) r → Fine (length text) (Each Q) (put t r)
  unfolding put
  put_each t h (f_ok k) = f_ok (e_cons h k)
  put_each t h (f_refuse n p k) = f_refuse n p k

  follow_each : {i m : ℕ} {q : Piece} (k : ℕ → Res (List Token)) → Within i m q → On Q q → i ≤ length text → ((n : ℕ) → n ≤ m → Fine (length text) (Each Q) (k n)) → Fine (length text) (Each Q) (follow k q i)
  unfolding follow
  follow_each k (w_gap {n} l) o h r = r n l
  follow_each k (w_tok {t} n e l) (o_tok o) h r = put_each t o (r n l)
  follow_each {i} k (w_bad e l) o h r = f_refuse e i (omega arith)

  -- s: the text from i on
  at_each : (f i : ℕ) (s : List ℕ) → drop i text ≡ s → i ≤ length text → Fine (length text) (Each Q) (tokens_at f i s)
  unfolding tokens_at
  at_each zero i s e h = f_ok (e_cons (end i h) e_nil)
  at_each (suc f) i [] e h = f_ok (e_cons (end i h) e_nil)
  at_each (suc f) i (x ∷ s) e h =
      let long : length (x ∷ s) ≡ length text - i = rw e at (length-drop i text) in
      follow_each _ (piece_in x s i) (each x s i e h) h (λ n l. at_each f (i + n) (drop n (x ∷ s)) (sym (drop-drop n i text) ∙ ap (drop n) e) (omega arith))

  pub tokens_each : Fine (length text) (Each Q) (tokens text)
  unfolding tokens
  tokens_each = at_each (suc (length text)) 0 text refl (omega arith)

-- the place of a piece is that of its token
near : {N i m : ℕ} {q : Piece} → Within i m q → i ≤ N → On (At N) q
near (w_gap l) h = o_gap
near (w_tok {t} n e l) h = o_tok {t = t} (omega arith)
near (w_bad e l) h = o_bad

pub tokens_in : (text : List ℕ) → Fine (length text) (Each (At (length text))) (tokens text)
unfolding plain
tokens_in text = tokens_each text _ (λ i h. h) (λ x s i e h. near (piece_in x s i) h)
