-- Lines of blanks and comments mean nothing: put in behind the end of a line, they change no token but in its place.
use Rattle.std.specs.Prelude.{◌≡◌, refl, Bool, true, false, not, ◌||◌, List, [], ◌∷◌, ◌++◌, map, ℕ, zero, suc, ◌+◌, ◌-◌, ◌≤◌, ◌<◌, eqb, leb, length, drop}
use Rattle.std.proofs.Common.{ap, sym, ◌∙◌, arith, length-drop}
use Rattle.std.proofs.Math.Option.{Option, none, some}
use Rattle.std.proofs.Math.Seq.{drop-nil}
use Rattle.std.proofs.lemmas.List.{drop-append-le}
use Rattle.rules.specs.Base.{pick, Res, ok, refuse, ◌>>=◌, need}
use Rattle.rules.specs.Limits.{integer_limit, text_limit, memory_numbers}
use Rattle.rules.specs.Kinds.{FINISH, NAME}
use Rattle.rules.specs.Tokens.{Token, plain, run, starts, comment, word_kind, word, is_name, in_line, in_name, in_integer, is_blank, starts_name, is_digit, is_capital, is_small, is_under, within, integer, symbol1, symbol2, Piece, gap, tok, bad, comment_piece, name_piece, integer_piece, symbol_piece, piece, put, follow, tokens_at, tokens}
use Rattle.theorems.specs.Tests.{eqb_t, not-true}
use Rattle.theorems.specs.Pieces.{Takes, gap_takes, tok_takes, follow_same, piece-takes}
use Rattle.theorems.specs.TokenPlaces.{run_short}
use Rattle.theorems.specs.Placeless.{placeless, essence, anonymous, placeless_answer, same_answer}
use Rattle.rules.specs.Compile.{compile, compiled, front, answer}

-- the text is empty or its last byte ends a line: LF, FF or CR
unfoldable pub ends_line : List ℕ → Bool
ends_line [] = true
ends_line (x ∷ []) = not (in_line x)
ends_line (x ∷ y ∷ s) = ends_line (y ∷ s)

-- the tokens without places, or the number of the refusal
unfoldable pub placeless_tokens : Res (List Token) → Res (List Token)
placeless_tokens (ok ts) = ok (map placeless ts)
placeless_tokens (refuse n p) = refuse n 0

-- what holds of the first sides of two choices, and of the second, holds of the choices
both : {A B : Type 0} (R : A → B → Type 0) (d : Bool) {x y : A} {x' y' : B} → R x x' → R y y' → R (pick d (λ _. x) (λ _. y)) (pick d (λ _. x') (λ _. y'))
both R true h k = h
both R false h k = k

-- Places: where a piece stands changes nothing but the place of its token

unfoldable placeless_piece : Piece → Piece
placeless_piece (gap n) = gap n
placeless_piece (tok t n) = tok (placeless t) n
placeless_piece (bad e) = bad e

word-moves : (k : ℕ) (w : List ℕ) (i : ℕ) → placeless (word_kind k w i) ≡ word_kind k w 0
unfolding word_kind placeless plain
word-moves k w i = both (λ t t'. placeless t ≡ t') (eqb k NAME) refl refl

integer-moves : (v : Option ℕ) (n i : ℕ) → placeless_piece (integer_piece v n i) ≡ integer_piece v n 0
unfolding integer_piece placeless_piece placeless
integer-moves none n i = refl
integer-moves (some v) n i = both (λ p q. placeless_piece p ≡ q) (leb v integer_limit) refl refl

piece-moves : (x : ℕ) (s : List ℕ) (i : ℕ) → placeless_piece (piece x s i) ≡ piece x s 0
unfolding piece comment_piece name_piece symbol_piece word placeless_piece placeless plain
piece-moves x s i =
    let R : Piece → Piece → Type 0 = λ p q. placeless_piece p ≡ q in
    both R (is_blank x) refl
    (both R (starts 47 47 s) refl
    (both R (starts 47 42 s) refl
    (both R (starts 40 42 s) (comment-moves (comment 2 1 (drop 2 s)))
    (both R (starts_name x) (both R (is_name (run in_name s)) (rw word-moves) refl)
    (both R (is_digit x) (integer-moves (integer (run in_integer s)) (length (run in_integer s)) i)
    (both R (not (eqb (symbol2 s) FINISH)) refl (both R (not (eqb (symbol1 x) FINISH)) refl refl)))))))
  where
    comment-moves : (o : Option ℕ) → placeless_piece (comment_piece o) ≡ comment_piece o
    comment-moves none = refl
    comment-moves (some n) = refl

-- what follows a piece, without places
follow-placeless : (k : ℕ → Res (List Token)) (p : Piece) (i : ℕ) → placeless_tokens (follow k p i) ≡ follow (λ n. placeless_tokens (k n)) (placeless_piece p) 0
unfolding follow put placeless_piece placeless_tokens
follow-placeless k (gap n) i = refl
follow-placeless k (tok t n) i = put_placeless (k n)
  where
    put_placeless : (r : Res (List Token)) → placeless_tokens (put t r) ≡ put (placeless t) (placeless_tokens r)
    put_placeless (ok ts) = refl
    put_placeless (refuse n p) = refl
follow-placeless k (bad e) i = refl

-- the tokens from a place on, without places, by the first piece
step_at : (f i x : ℕ) (s : List ℕ) → placeless_tokens (tokens_at (suc f) i (x ∷ s)) ≡ follow (λ n. placeless_tokens (tokens_at f (i + n) (drop n (x ∷ s)))) (piece x (x ∷ s) 0) 0
unfolding tokens_at
step_at f i x s = rw (follow-placeless, piece-moves)

-- with enough fuel, neither it nor the place means anything
tokens-move : (f g i j : ℕ) (s : List ℕ) → length s < f → length s < g → placeless_tokens (tokens_at f i s) ≡ placeless_tokens (tokens_at g j s)
unfolding tokens_at placeless_tokens placeless plain
tokens-move zero g i j s p q = absurd (omega arith)
tokens-move (suc f) zero i j s p q = absurd (omega arith)
tokens-move (suc f) (suc g) i j [] p q = refl
tokens-move (suc f) (suc g) i j (x ∷ s) p q =
    step_at f i x s
    ∙ follow_same _ _ 0 (piece-takes x s 0) (λ n h. tokens-move f g (i + n) (j + n) (drop n (x ∷ s)) (rw length-drop (omega arith)) (rw length-drop (omega arith)))
    ∙ sym (step_at g j x s)

-- the tokens of a text without places
unfoldable bare : List ℕ → Res (List Token)
bare s = placeless_tokens (tokens s)

bare_step : (x : ℕ) (s : List ℕ) → bare (x ∷ s) ≡ follow (λ n. bare (drop n (x ∷ s))) (piece x (x ∷ s) 0) 0
unfolding bare tokens
bare_step x s =
    step_at (suc (length s)) 0 x s
    ∙ follow_same _ _ 0 (piece-takes x s 0) (λ n h. tokens-move (suc (length s)) (suc (length (drop n (x ∷ s)))) (0 + n) 0 (drop n (x ∷ s)) (rw length-drop (omega arith)) (omega arith))

-- Line ends

-- what holds of LF, FF and CR holds of every byte that ends a line
line_end : (P : ℕ → Type 0) → P 10 → P 12 → P 13 → (x : ℕ) → in_line x ≡ false → P x
unfolding in_line
line_end P lf ff cr x h = by (eqb x 10) (eqb x 12) (eqb x 13) refl refl refl h
  where
    by : (d e c : Bool) → eqb x 10 ≡ d → eqb x 12 ≡ e → eqb x 13 ≡ c → not (d || e || c) ≡ false → P x
    by true e c p q r h = rw (eqb_t x 10 p) lf
    by false true c p q r h = rw (eqb_t x 12 q) ff
    by false false true p q r h = rw (eqb_t x 13 r) cr
    by false false false p q r h = let z : ◌≡◌ {A = ℕ} 0 1 = cc in absurd (omega arith)

blank_end : (x : ℕ) → in_line x ≡ false → is_blank x ≡ true
unfolding is_blank
blank_end = line_end (λ x. is_blank x ≡ true) refl refl refl

name_end : (x : ℕ) → in_line x ≡ false → in_name x ≡ false
unfolding in_name starts_name is_capital is_small is_under is_digit within
name_end = line_end (λ x. in_name x ≡ false) refl refl refl

integer_end : (x : ℕ) → in_line x ≡ false → in_integer x ≡ false
unfolding in_integer in_name starts_name is_capital is_small is_under is_digit within
integer_end = line_end (λ x. in_integer x ≡ false) refl refl refl

-- what is left of lines are lines
ends_drop : (n : ℕ) (s : List ℕ) → ends_line s ≡ true → ends_line (drop n s) ≡ true
unfolding ends_line
ends_drop zero s h = h
ends_drop (suc n) [] h = refl
ends_drop (suc n) (x ∷ []) h = ap ends_line (drop-nil n)
ends_drop (suc n) (x ∷ y ∷ s) h = ends_drop n (y ∷ s) h

-- Pieces: what stands behind a line's end changes no piece before it

-- a run of bytes that takes in no line end ends in its line
run-stays : (p : ℕ → Bool) → ((x : ℕ) → in_line x ≡ false → p x ≡ false) → (x : ℕ) (s b : List ℕ) → ends_line (x ∷ s) ≡ true → run p (x ∷ (s ++ b)) ≡ run p (x ∷ s)
unfolding run ends_line
run-stays p h x [] b e = rw (h x (not-true _ e))
run-stays p h x (y ∷ s) b e = ap (λ r. pick (p x) (λ _. x ∷ r) (λ _. [])) (run-stays p h y s b e)

-- the piece of a text of m bytes, and of the text with more behind it: the same if it is not bad
data Stays (m : ℕ) : Piece → Piece → Type 0 where
  gap_stays : {n : ℕ} → n ≤ m → Stays m (gap n) (gap n)
  tok_stays : {t : Token} {n : ℕ} → n ≤ m → Stays m (tok t n) (tok t n)
  bad_stays : {e : ℕ} {q : Piece} → Stays m (bad e) q

-- n: the bytes of the comment before s
comment-stays : (n d m : ℕ) (s b : List ℕ) → n + length s ≤ m → Stays m (comment_piece (comment n d s)) (comment_piece (comment n d (s ++ b)))
unfolding comment comment_piece starts
comment-stays n d m [] b h = bad_stays
comment-stays n d m (x ∷ []) b h = bad_stays
comment-stays n d m (x ∷ y ∷ s) b h =
    let R : Option ℕ → Option ℕ → Type 0 = λ o o'. Stays m (comment_piece o) (comment_piece o') in
    both R (starts 40 42 (x ∷ y ∷ s)) (comment-stays (n + 2) (d + 1) m s b (omega arith))
    (both R (starts 42 41 (x ∷ y ∷ s)) (both R (eqb d 1) (gap_stays (omega arith)) (comment-stays (n + 2) (d - 1) m s b (omega arith)))
    (comment-stays (n + 1) d m (y ∷ s) b (omega arith)))

integer-stays : (v : Option ℕ) (n m : ℕ) → n ≤ m → Stays m (integer_piece v n 0) (integer_piece v n 0)
unfolding integer_piece
integer-stays none n m h = bad_stays
integer-stays (some v) n m h = both (Stays m) (leb v integer_limit) (tok_stays h) bad_stays

piece-stays : (x : ℕ) (s b : List ℕ) → ends_line (x ∷ s) ≡ true → Stays (length (x ∷ s)) (piece x (x ∷ s) 0) (piece x (x ∷ (s ++ b)) 0)
unfolding piece name_piece symbol_piece symbol2 starts ends_line
piece-stays x [] b h = rw (blank_end x (not-true _ h)) (gap_stays {n = 1} (omega arith))
piece-stays x (y ∷ s) b h =
    let R = Stays (length (x ∷ y ∷ s)) in
    both R (is_blank x) (gap_stays (omega arith))
    (both R (starts 47 47 (x ∷ y ∷ s)) (rw (run-stays in_line (λ _ e. e) x (y ∷ s) b h) (gap_stays (run_short in_line (x ∷ y ∷ s))))
    (both R (starts 47 42 (x ∷ y ∷ s)) bad_stays
    (both R (starts 40 42 (x ∷ y ∷ s)) (comment-stays 2 1 _ s b (omega arith))
    (both R (starts_name x) (rw (run-stays in_name name_end x (y ∷ s) b h) (both R (is_name (run in_name (x ∷ y ∷ s))) (tok_stays (run_short in_name (x ∷ y ∷ s))) bad_stays))
    (both R (is_digit x) (rw (run-stays in_integer integer_end x (y ∷ s) b h) (integer-stays _ _ _ (run_short in_integer (x ∷ y ∷ s))))
    (both R (not (eqb (symbol2 (x ∷ y ∷ s)) FINISH)) (tok_stays (omega arith)) (both R (not (eqb (symbol1 x) FINISH)) (tok_stays (omega arith)) bad_stays)))))))

-- Texts: the tokens of lines and of what stands behind them

-- of lines, and of the lines with z behind them: all tokens of the lines but the last, the end, and then z; if the lines are refused, anything
data Joins (z : Res (List Token)) : Res (List Token) → Res (List Token) → Type 0 where
  at_end : {t : Token} → Joins z (ok (t ∷ [])) z
  behind : {t : Token} {ts : List Token} {r : Res (List Token)} → Joins z (ok ts) r → Joins z (ok (t ∷ ts)) (put t r)
  refused : {n p : ℕ} {r : Res (List Token)} → Joins z (refuse n p) r

joins_put : {z r r' : Res (List Token)} (t : Token) → Joins z r r' → Joins z (put t r) (put t r')
unfolding put
joins_put t at_end = behind at_end
joins_put t (behind j) = behind (behind j)
joins_put t refused = refused

-- what they are together depends on nothing else
joins_same : {z r r' : Res (List Token)} {ts : List Token} → Joins z (ok ts) r → Joins z (ok ts) r' → r ≡ r'
joins_same at_end at_end = refl
joins_same at_end (behind k) = elim k [ ]
joins_same (behind j) at_end = elim j [ ]
joins_same (behind {t = t} j) (behind k) = ap (put t) (joins_same j k)

follow-joins : {z : Res (List Token)} {m : ℕ} {p q : Piece} (k k' : ℕ → Res (List Token)) → Stays m p q → Takes p → ((n : ℕ) → 1 ≤ n → n ≤ m → Joins z (k n) (k' n)) → Joins z (follow k p 0) (follow k' q 0)
unfolding follow
follow-joins k k' (gap_stays {n} l) (gap_takes h) j = j n h l
follow-joins k k' (tok_stays {t} {n} l) (tok_takes h) j = joins_put t (j n h l)
follow-joins k k' bad_stays t j = refused

-- f: more than the bytes of a
lines_join : (f : ℕ) (a b : List ℕ) → length a < f → ends_line a ≡ true → Joins (bare b) (bare a) (bare (a ++ b))
unfolding bare tokens tokens_at placeless_tokens
lines_join zero a b l h = absurd (omega arith)
lines_join (suc f) [] b l h = at_end
lines_join (suc f) (x ∷ s) b l h = rw (bare_step x s, bare_step x (s ++ b)) (follow-joins _ _ (piece-stays x s b h) (piece-takes x s 0)
    (λ n o u. rw (drop-append-le n (x ∷ s) b u) (lines_join f (drop n (x ∷ s)) b (rw length-drop (omega arith)) (ends_drop n (x ∷ s) h))))

joined : (a b : List ℕ) (ts : List Token) → tokens a ≡ ok ts → ends_line a ≡ true → Joins (bare b) (ok (map placeless ts)) (bare (a ++ b))
unfolding bare placeless_tokens
joined a b ts p q = rw p at (lines_join (suc (length a)) a b (omega arith) q)

-- a: whole lines; g: whole lines of blanks and comments alone, so that its only token is the end; b: anything
pub lines_mean_nothing : (a g b : List ℕ) (ts : List Token) (e : Token) → tokens a ≡ ok ts → ends_line a ≡ true → tokens g ≡ ok (e ∷ []) → ends_line g ≡ true
    → placeless_tokens (tokens (a ++ (g ++ b))) ≡ placeless_tokens (tokens (a ++ b))
unfolding bare
lines_mean_nothing a g b ts e p q r s =
    let nothing : bare (g ++ b) ≡ bare b = joins_same (joined g b (e ∷ []) r s) at_end in
    joins_same (rw nothing at (joined a (g ++ b) ts p q)) (joined a b ts p q)

-- Compiling

-- the same tokens but for places leave the same essence
essence_of : (ts us : List Token) → map placeless ts ≡ map placeless us → essence ts ≡ essence us
unfolding essence anonymous placeless
essence_of [] [] e = refl
essence_of [] (u ∷ us) e = cc
essence_of (t ∷ ts) [] e = cc
essence_of (t ∷ []) (u ∷ []) e = cc
essence_of (t ∷ []) (u ∷ v ∷ us) e = cc
essence_of (t ∷ n ∷ ts) (u ∷ []) e = cc
essence_of (t ∷ n ∷ ts) (u ∷ v ∷ us) e = next (cc) (cc) (cc)
  where
    next : placeless t ≡ placeless u → placeless n ≡ placeless v → map placeless ts ≡ map placeless us → placeless t ∷ anonymous n ∷ map placeless ts ≡ placeless u ∷ anonymous v ∷ map placeless us
    next h k m = rw (h, m) (ap (λ x. placeless u ∷ anonymous x ∷ map placeless us) k)

-- two texts whose tokens are refused with the same number
same_refusal : (lent capacity : ℕ) (s s' : List ℕ) (n p p' : ℕ) → tokens s ≡ refuse n p → tokens s' ≡ refuse n p'
    → leb (length s) text_limit ≡ leb (length s') text_limit → placeless_answer (compile lent capacity s) ≡ placeless_answer (compile lent capacity s')
unfolding compile compiled front answer placeless_answer ◌>>=◌ need
same_refusal lent capacity s s' n p p' e f l = rw (e, f, l) (by (leb memory_numbers lent) (leb (length s') text_limit))
  where
    by : (d g : Bool) → placeless_answer (answer (◌>>=◌ (need d 17 0) (λ _. ◌>>=◌ (need g 1 text_limit) (λ _. refuse n p)))) ≡ placeless_answer (answer (◌>>=◌ (need d 17 0) (λ _. ◌>>=◌ (need g 1 text_limit) (λ _. refuse n p'))))
    by true true = refl
    by true false = refl
    by false g = refl

-- so such lines change nothing but the place of a refusal, while both texts are within the limit, or both over it
pub same_answer_without : (lent capacity : ℕ) (a g b : List ℕ) (ts : List Token) (e : Token) → tokens a ≡ ok ts → ends_line a ≡ true → tokens g ≡ ok (e ∷ []) → ends_line g ≡ true
    → leb (length (a ++ (g ++ b))) text_limit ≡ leb (length (a ++ b)) text_limit
    → placeless_answer (compile lent capacity (a ++ (g ++ b))) ≡ placeless_answer (compile lent capacity (a ++ b))
unfolding placeless_tokens
same_answer_without lent capacity a g b ts e p q r s l = by (tokens (a ++ (g ++ b))) (tokens (a ++ b)) refl refl (lines_mean_nothing a g b ts e p q r s)
  where
    by : (x y : Res (List Token)) → tokens (a ++ (g ++ b)) ≡ x → tokens (a ++ b) ≡ y → placeless_tokens x ≡ placeless_tokens y
        → placeless_answer (compile lent capacity (a ++ (g ++ b))) ≡ placeless_answer (compile lent capacity (a ++ b))
    by (ok us) (ok vs) h k m = same_answer lent capacity _ _ us vs h k (essence_of us vs (cc)) l
    by (ok us) (refuse n u) h k m = let z : ◌≡◌ {A = ℕ} 0 1 = cc in absurd (omega arith)
    by (refuse n u) (ok vs) h k m = let z : ◌≡◌ {A = ℕ} 0 1 = cc in absurd (omega arith)
    by (refuse n u) (refuse o v) h k m = let w : o ≡ n = cc in same_refusal lent capacity _ _ n u v h (rw w at k) l
