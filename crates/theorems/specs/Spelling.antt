-- Every name in the tree of a text has the letters that stand in the text at its place.
use Rattle.std.specs.Prelude.{◌≡◌, not, List, ◌∷◌, ℕ, ◌+◌, ◌≤◌, eqb, leb, length, take, drop}
use Rattle.std.proofs.Math.Path.{refl}
use Rattle.std.proofs.Common.{◌∙◌, ap, arith, length-take, length-drop}
use Rattle.std.proofs.Math.Option.{Option, none, some}
use Rattle.rules.specs.Base.{ok}
use Rattle.rules.specs.Limits.{integer_limit}
use Rattle.rules.specs.Kinds.{FINISH, NAME}
use Rattle.rules.specs.Tokens.{Token, plain, run, starts, comment, reserved, lookup, word_kind, word, fold, is_name, in_name, in_integer, is_blank, starts_name, is_digit, integer, symbol1, symbol2, Piece, comment_piece, name_piece, integer_piece, symbol_piece, piece, tokens}
use Rattle.rules.specs.Syntax.{Name, Tree, name_of, parse}
use Rattle.theorems.specs.LetterCase.{length_fold}
use Rattle.theorems.specs.Refusals.{Fine, has, either}
use Rattle.theorems.specs.TokenPlaces.{Each, Within, w_gap, w_tok, w_bad, run_take, piece_in, On, o_gap, o_tok, o_bad, tokens_each}
use Rattle.theorems.specs.TreePlaces.{NameIn, TokenIn, TreeIn}
use Rattle.theorems.specs.ReadPlaces.{read_in}

-- the n bytes of a text from a place on, folded to capitals
unfoldable pub letters_at : List ℕ → ℕ → ℕ → List ℕ
letters_at text place n = fold (take n (drop place text))

-- the name's letters stand in the text at its place
abbrev pub Spelled : List ℕ → Name → Type 0
Spelled text v = v.letters ≡ letters_at text v.place (length v.letters)

-- Tokens

-- the token's letters are those with which the text s begins; true of every token without letters
abbrev Begins : List ℕ → Token → Type 0
Begins s t = t.letters ≡ fold (take (length t.letters) s)

-- s: a text; what stands at its start
module _ (s : List ℕ) where
  -- w: folded letters
  word-begins : (k : ℕ) (w : List ℕ) (i : ℕ) → w ≡ fold (take (length w) s) → Begins s (word_kind k w i)
  unfolding word_kind plain fold
  word-begins k w i h = either (Begins s) (eqb k NAME) h refl

  name-begins : (i : ℕ) → On (Begins s) (name_piece (run in_name s) i)
  unfolding name_piece word
  name-begins i =
      let w = run in_name s in
      let same : fold w ≡ fold (take (length (fold w)) s) = rw length_fold (ap fold (run_take in_name s)) in
      either (On (Begins s)) (is_name w) (o_tok (word-begins (lookup (fold w) reserved) (fold w) i same)) o_bad

  comment-begins : (n : Option ℕ) → On (Begins s) (comment_piece n)
  unfolding comment_piece
  comment-begins none = o_bad
  comment-begins (some n) = o_gap

  integer-begins : (v : Option ℕ) (n i : ℕ) → On (Begins s) (integer_piece v n i)
  unfolding integer_piece fold
  integer-begins none n i = o_bad
  integer-begins (some v) n i = either (On (Begins s)) (leb v integer_limit) (o_tok refl) o_bad

  symbol-begins : (two one i : ℕ) → On (Begins s) (symbol_piece two one i)
  unfolding symbol_piece plain fold
  symbol-begins two one i = either (On (Begins s)) (not (eqb two FINISH)) (o_tok refl) (either (On (Begins s)) (not (eqb one FINISH)) (o_tok refl) o_bad)

  piece-begins : (x i : ℕ) → On (Begins s) (piece x s i)
  unfolding piece
  piece-begins x i =
      let P = On (Begins s) in
      either P (is_blank x) o_gap
      (either P (starts 47 47 s) o_gap
      (either P (starts 47 42 s) o_bad
      (either P (starts 40 42 s) (comment-begins (comment 2 1 (drop 2 s)))
      (either P (starts_name x) (name-begins i)
      (either P (is_digit x) (integer-begins (integer (run in_integer s)) _ i)
      (symbol-begins (symbol2 s) (symbol1 x) i))))))

-- s: the text from i on
spelled-piece : (text s : List ℕ) {i m : ℕ} {q : Piece} → drop i text ≡ s → i ≤ length text → Within i m q → On (Begins s) q → On (TokenIn (length text) (Spelled text)) q
unfolding letters_at name_of
spelled-piece text s e h (w_gap l) o_gap = o_gap
spelled-piece text s e h (w_tok {t} n p l) (o_tok b) = o_tok {t = t} (record { near = omega arith; has = rw (p, e) b })
spelled-piece text s e h (w_bad n l) o_bad = o_bad

-- every token of the text
pub tokens-spelled : (text : List ℕ) → Fine (length text) (Each (TokenIn (length text) (Spelled text))) (tokens text)
unfolding letters_at name_of plain fold
tokens-spelled text = tokens_each text _ (λ i h. record { near = h; has = refl }) (λ x s i e h. spelled-piece text (x ∷ s) e h (piece_in x s i) (piece-begins (x ∷ s) x i))

-- The tree

-- in declarations, expressions, assignments and FORs
pub names-spelled : (text : List ℕ) (ts : List Token) (t : Tree) → tokens text ≡ ok ts → parse ts ≡ ok t → TreeIn (length text) (Spelled text) t
unfolding letters_at name_of plain fold
names-spelled text ts t e d = has t d (read_in (length text) (Spelled text) refl ts (has ts e (tokens-spelled text)))

-- such a name lies in the text as a whole
pub spelled_within : (text : List ℕ) (v : Name) → NameIn (length text) (Spelled text) v → v.place + length v.letters ≤ length text
unfolding letters_at
spelled_within text v h =
    let n = length v.letters in
    let long : n ≡ length (take n (drop v.place text)) = ap length h.has ∙ length_fold (take n (drop v.place text)) in
    let k = length-take n (drop v.place text) in
    let l = length-drop v.place text in
    omega arith
