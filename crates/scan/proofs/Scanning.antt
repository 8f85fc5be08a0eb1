-- Scanning, piece by piece: what the tokens that are put and the rest of the text come to. Assumes nothing.
use mathlib.Core.Path.{◌≡◌, refl, sym, ◌∙◌}
use mathlib.Core.List.{List, [], ◌∷◌}
use Prim.Native.Nat.{ℕ, zero, suc, ◌+◌, ◌-◌, ◌*◌, ◌≤◌, ◌<◌}
use native.Mathlib.Nat.{zero-add}
use native.Mathlib.Omega.{arith}
use lib.ListN.{length, take, drop, get_or, replicate, length-drop, drop_of_length-le}
use lib.Seq.{sets, length-sets, drop-cons, drop-drop}
use borrow.Author.Tests.{le-leb, lt-leb, ne_eqb}
use Rattle.std.proofs.lemmas.List.{take_all}
use Rattle.rules.specs.Limits.{text_limit, token_numbers}
use Rattle.rules.specs.Base.{Res, ok, refuse, ◌>>=◌, need}
use Rattle.rules.specs.Kinds.{FINISH}
use Rattle.rules.specs.Tokens.{Token, Piece, gap, tok, bad, plain, piece, put, follow, tokens_at, tokens}
use Rattle.rules.specs.Compile.{memory_after}
use Rattle.rules.specs.Cells.{cell, datum, token_cell, cells, Lent, refused_lent, tokens_for, tokens_left, scanned}
use Rattle.rules.specs.Answers.{fault_number, left}
use Rattle.rules.specs.declared.compiling.Fault.{Fault}
use Rattle.rules.specs.declared.compiling.Fault.TheVariants.{LongText, ShortMemory}
use Rattle.std.specs.Prelude.{Ok, Err}
use Rattle.theorems.specs.Pieces.{Takes, gap_takes, tok_takes, piece-takes}
use Rattle.theorems.specs.TokenPlaces.{Within, w_gap, w_tok, w_bad, piece_in}
use Rattle.scan.specs.Pieces.{shown, a_gap, a_token, a_fault}
use Rattle.scan.proofs.Shown.{same_shown}
use Rattle.scan.proofs.Stores.{sets-cell}

-- what is left if `count` tokens lie in memory and the rest of the text has these
unfoldable pub ending : ℕ → List ℕ → List ℕ → Res (List Token) → Lent
ending count lent memory (ok ts) = record { answer = ok (count + length ts); memory = sets memory (3 * count) (cells ts) }
ending count lent memory (refuse n p) = refused_lent n p lent

-- before the first token
ending-none : (lent : List ℕ) (r : Res (List Token)) → ending 0 lent lent r ≡ tokens_left r lent
unfolding ending tokens_left
ending-none lent (ok ts) = rw zero-add
ending-none lent (refuse n p) = refl

-- the next token is put into memory
ending_more : (count : ℕ) (lent memory : List ℕ) (t : Token) (r : Res (List Token))
    → ending count lent memory (put t r) ≡ ending (count + 1) lent (sets memory (3 * count) (token_cell t)) r
unfolding ending put cells token_cell
ending_more count lent memory t (ok ts) =
    let n : count + 1 + length ts ≡ count + suc (length ts) = omega arith in
    let m : 3 * (count + 1) ≡ 3 * count + 3 = omega arith in
    rw (n, m, sets-cell)
ending_more count lent memory t (refuse n p) = refl

-- the state of scanning: i bytes are read, `count` tokens are put, and with what the rest has that comes to what the whole text leaves
pub record Going (text lent memory : List ℕ) (i count : ℕ) : Type 0 where
  pub within : i ≤ length text
  -- each token has a byte of its own
  pub few : count ≤ i
  pub long : length memory ≡ length lent
  -- more than the bytes that are left
  pub fuel : ℕ
  pub enough : length text < i + fuel
  pub whole : ending count lent memory (tokens_at fuel i (drop i text)) ≡ tokens_left (tokens text) lent

-- nothing is read yet
pub start : (text lent : List ℕ) → Going text lent lent 0 0
unfolding tokens
start text lent = record {
  within = omega arith;
  few = omega arith;
  long = refl;
  fuel = suc (length text);
  enough = omega arith;
  whole = ending-none lent (tokens text);
}

-- the piece at byte i
abbrev pub here : List ℕ → ℕ → Piece
here text i = piece (get_or (drop i text) 0 0) (drop i text) i

-- the text from byte i on, as the code cuts it
abbrev pub rest : List ℕ → ℕ → List ℕ
rest text i = take (length text - i) (drop i text)

-- the tokens from a byte on are those of its piece and of the rest
tokens_on : (f i : ℕ) (text : List ℕ) → i < length text → 1 ≤ f
    → tokens_at f i (drop i text) ≡ follow (λ n. tokens_at (f - 1) (i + n) (drop (i + n) text)) (here text i) i
unfolding tokens_at
tokens_on zero i text h q = absurd (omega arith)
tokens_on (suc f) i text h q =
    let e : suc f - 1 ≡ f = omega arith in
    simp (e, ← drop-drop) (rw (drop-cons text i 0 h))

-- at the end of the text there is one token more
tokens_end : (f i : ℕ) (text : List ℕ) → length text ≤ i → tokens_at f i (drop i text) ≡ ok (plain FINISH i ∷ [])
unfolding tokens_at
tokens_end zero i text h = refl
tokens_end (suc f) i text h = rw (drop_of_length-le text {i = i} h)

-- a piece, by what it shows
gap_shown : (p : Piece) {n : ℕ} → a_gap n ≡ shown p → p ≡ gap n
unfolding shown
gap_shown (gap m) e = cc
gap_shown (tok t m) e = cc
gap_shown (bad m) e = cc

token_shown : (p : Piece) {k d n : ℕ} → a_token k d n ≡ shown p → (t : Token) × (p ≡ tok t n) × (t.kind ≡ k) × (datum t ≡ d)
unfolding shown
token_shown (gap m) e = let z : ◌≡◌ {A = ℕ} 0 1 = cc in absurd (omega arith)
token_shown (tok t m) e = (t, cc, cc, cc)
token_shown (bad m) e = let z : ◌≡◌ {A = ℕ} 0 1 = cc in absurd (omega arith)

fault_shown : (p : Piece) {n : ℕ} → a_fault n ≡ shown p → p ≡ bad n
unfolding shown
fault_shown (gap m) e = cc
fault_shown (tok t m) e = cc
fault_shown (bad m) e = cc

-- what is known of a piece, for each of its forms
gap-known : {i m n : ℕ} → Takes (gap n) → Within i m (gap n) → (1 ≤ n) × (n ≤ m)
gap-known (gap_takes a) (w_gap b) = (a, b)

tok-known : {i m n : ℕ} {t : Token} → Takes (tok t n) → Within i m (tok t n) → (1 ≤ n) × (n ≤ m) × (t.place ≡ i)
tok-known (tok_takes a) (w_tok n e b) = (a, b, e)

bad_known : {i m e : ℕ} → Within i m (bad e) → (2 ≤ e) × (e ≤ 4)
bad_known (w_bad e b) = b

-- a refusal leaves all zero, but for 17
refused-clear : (f : Fault) (n p : ℕ) (lent : List ℕ) → fault_number f ≡ n → (n ≡ 17 → ⊥)
    → left (Err (record { fault = f; place = p })) (replicate (length lent) 0) ≡ refused_lent n p lent
unfolding refused_lent memory_after
refused-clear f n p lent e h = rw (e, ne_eqb n 17 h)

module _ {text lent memory : List ℕ} {i count : ℕ} (g : Going text lent memory i count) where
  -- the text has ended
  pub ends : length text ≤ i → left (Ok (count + 1)) (sets memory (3 * count) (cell FINISH i 0)) ≡ tokens_left (tokens text) lent
  unfolding ending cells token_cell cell datum plain
  ends h = rw (tokens_end g.fuel i text h) at g.whole

  module _ (h : i < length text) where
    -- the piece at a byte takes in a byte at least, and no more than there are
    takes : Takes (here text i)
    takes = rw (drop-cons text i 0 h) (piece-takes _ _ i)

    fits : Within i (length text - i) (here text i)
    fits = rw (← (length-drop i text), drop-cons text i 0 h) (piece_in _ _ i)

    -- the piece, and then the rest
    on : ending count lent memory (follow (λ n. tokens_at (g.fuel - 1) (i + n) (drop (i + n) text)) (here text i) i) ≡ tokens_left (tokens text) lent
    on = rw (tokens_on g.fuel i text h (omega arith)) at g.whole

    -- the piece of the rest shows what the piece at byte i shows
    at_place : shown (piece (get_or (rest text i) 0 0) (rest text i) 0) ≡ shown (here text i)
    at_place = let e : rest text i ≡ drop i text = take_all _ _ (omega (arith, length-drop i text)) in rw e (same_shown 0 i _ _)

    -- a gap is passed
    pub passes : {n : ℕ} → a_gap n ≡ shown (piece (get_or (rest text i) 0 0) (rest text i) 0) → (1 ≤ n) × Going text lent memory (i + n) count
    unfolding follow
    passes s =
        let p = gap_shown (here text i) (s ∙ at_place) in
        let w = gap-known (rw p at takes) (rw p at fits) in
        (w.0, record { within = omega arith; few = omega arith; long = g.long; fuel = g.fuel - 1; enough = omega arith; whole = rw p at on })

    -- a token is put
    pub puts : {k d n : ℕ} {after : List ℕ} → a_token k d n ≡ shown (piece (get_or (rest text i) 0 0) (rest text i) 0)
        → after ≡ sets memory (3 * count) (cell k i d) → (1 ≤ n) × Going text lent after (i + n) (count + 1)
    unfolding follow token_cell
    puts {k} {d} s a =
        let q = token_shown (here text i) (s ∙ at_place) in
        let w = tok-known (rw q.1 at takes) (rw q.1 at fits) in
        let m : token_cell q.0 ≡ cell k i d = rw (q.2, q.3, w.2) in (
          w.0,
          rw a record {
            within = omega arith;
            few = omega arith;
            long = length-sets memory (3 * count) (cell k i d) ∙ g.long;
            fuel = g.fuel - 1;
            enough = omega arith;
            whole = rw m at (sym (ending_more count lent memory q.0 _) ∙ (rw q.1 at on));
          },
        )

    -- a fault refuses the text
    pub stops : (f : Fault) → a_fault (fault_number f) ≡ shown (piece (get_or (rest text i) 0 0) (rest text i) 0)
        → left (Err (record { fault = f; place = i })) (replicate (length lent) 0) ≡ tokens_left (tokens text) lent
    unfolding follow ending
    stops f s =
        let p = fault_shown (here text i) (s ∙ at_place) in
        let w = bad_known (rw p at fits) in
        refused-clear f _ i lent refl (λ z. omega arith) ∙ (rw p at on)

module _ (text lent : List ℕ) where
  -- too little is lent
  pub scanned_little : length lent < token_numbers → left (Err (record { fault = ShortMemory; place = 0 })) lent ≡ scanned text lent
  unfolding scanned tokens_for ◌>>=◌ need tokens_left refused_lent memory_after
  scanned_little h = rw (lt-leb token_numbers (length lent) h)

  -- the text is too long
  pub scanned_long : token_numbers ≤ length lent → text_limit < length text → left (Err (record { fault = LongText; place = text_limit })) (replicate (length lent) 0) ≡ scanned text lent
  unfolding scanned tokens_for ◌>>=◌ need tokens_left
  scanned_long h q = rw (le-leb token_numbers (length lent) h, lt-leb (length text) text_limit q) (refused-clear LongText 1 text_limit lent refl (λ z. omega arith))

  -- else the tokens are left
  pub scanned-tokens : token_numbers ≤ length lent → length text ≤ text_limit → tokens_left (tokens text) lent ≡ scanned text lent
  unfolding scanned tokens_for ◌>>=◌ need
  scanned-tokens h q = rw (le-leb token_numbers (length lent) h, le-leb (length text) text_limit q)
