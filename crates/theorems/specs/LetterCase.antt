-- Letter case means nothing: two texts that are the same in capitals have the same tokens, and the same answer with the same places.
use Rattle.std.specs.Prelude.{◌≡◌, refl, Bool, true, false, List, [], ◌∷◌, ℕ, zero, suc, ◌+◌, ◌-◌, ◌*◌, ◌<◌, eqb, leb, length, drop}
use Rattle.std.proofs.Common.{ap, arith}
use Rattle.rules.specs.Base.{pick, Res}
use Rattle.rules.specs.Tokens.{Token, within, is_blank, is_capital, is_small, is_digit, is_under, starts_name, in_name, in_integer, upper, fold, run, starts, in_line, comment, parts_well, is_name, digit_of, digits, integer, symbol2, symbol1, Piece, gap, tok, bad, name_piece, piece, follow, tokens_at, tokens}
use Rattle.rules.specs.Compile.{front, compiled, compile}
use Rattle.theorems.specs.Tests.{leb-t, and_l, and_r}

-- Bytes

-- what p says of n bytes, from a on
abbrev says : {A : Type 0} → (ℕ → A) → ℕ → ℕ → List A
says p zero a = []
says p (suc n) a = p a ∷ says p n (suc a)

-- p says of each capital what it says of the small letter; where p computes, refl proves it
abbrev Heedless : {A : Type 0} → (ℕ → A) → Type 0
Heedless p = says p 26 65 ≡ says p 26 97

-- x and y: the bytes k after a and after b
said-alike : {A : Type 0} (p : ℕ → A) (n a b k x y : ℕ) → says p n a ≡ says p n b → k < n → a + k ≡ x → b + k ≡ y → p x ≡ p y
said-alike p zero a b k x y e l u v = absurd (omega arith)
said-alike p (suc n) a b zero x y e l u v =
    let first : a ≡ x = omega arith in
    let second : b ≡ y = omega arith in
    cc
said-alike p (suc n) a b (suc k) x y e l u v = said-alike p n (suc a) (suc b) k x y (cc) (omega arith) (omega arith) (omega arith)

of_upper : {A : Type 0} (p : ℕ → A) → Heedless p → (x : ℕ) → p (upper x) ≡ p x
unfolding upper is_small within
of_upper p h x = by (is_small x) refl
  where
    by : (d : Bool) → is_small x ≡ d → p (pick d (λ _. x - 32) (λ _. x)) ≡ p x
    by true e =
        let low = leb-t 97 x (and_l _ _ e) in
        let high = leb-t x 122 (and_r (leb 97 x) _ e) in
        said-alike p 26 65 97 (x - 97) (x - 32) x h (omega arith) (omega arith) (omega arith)
    by false e = refl

-- Texts

pub length_fold : (s : List ℕ) → length (fold s) ≡ length s
unfolding fold
length_fold [] = refl
length_fold (x ∷ s) = ap suc (length_fold s)

drop-fold : (n : ℕ) (s : List ℕ) → drop n (fold s) ≡ fold (drop n s)
unfolding fold
drop-fold zero s = refl
drop-fold (suc n) [] = refl
drop-fold (suc n) (x ∷ s) = drop-fold n s

fold-fold : (s : List ℕ) → fold (fold s) ≡ fold s
unfolding fold upper is_small within
fold-fold [] = refl
fold-fold (x ∷ s) = rw (of_upper upper refl x, fold-fold s)

run-fold : (p : ℕ → Bool) → Heedless p → (s : List ℕ) → run p (fold s) ≡ fold (run p s)
unfolding fold run
run-fold p h [] = refl
run-fold p h (x ∷ s) = rw (of_upper p h x, run-fold p h s) (by (p x))
  where
    by : (d : Bool) → pick d (λ _. upper x ∷ fold (run p s)) (λ _. []) ≡ fold (pick d (λ _. x ∷ run p s) (λ _. []))
    by true = refl
    by false = refl

starts-fold : (a b : ℕ) → Heedless (eqb a) → Heedless (eqb b) → (s : List ℕ) → starts a b (fold s) ≡ starts a b s
unfolding fold starts
starts-fold a b h k [] = refl
starts-fold a b h k (x ∷ []) = refl
starts-fold a b h k (x ∷ y ∷ s) = rw (of_upper (eqb a) h x, of_upper (eqb b) k y)

comment-fold : (n d : ℕ) (s : List ℕ) → comment n d (fold s) ≡ comment n d s
unfolding fold comment
comment-fold n d [] = refl
comment-fold n d (x ∷ []) = refl
comment-fold n d (x ∷ y ∷ s) =
    simp (starts-fold 40 42 refl refl (x ∷ y ∷ s), starts-fold 42 41 refl refl (x ∷ y ∷ s), comment-fold (n + 2) (d + 1) s, comment-fold (n + 2) (d - 1) s, comment-fold (n + 1) d (y ∷ s))

-- Words, integers, symbols

parts_well-fold : (s : List ℕ) → parts_well (fold s) ≡ parts_well s
unfolding fold parts_well is_under
parts_well-fold [] = refl
parts_well-fold (x ∷ []) = rw (of_upper is_under refl x)
parts_well-fold (x ∷ y ∷ s) = rw (of_upper is_under refl x, of_upper is_under refl y, parts_well-fold (y ∷ s))

is_name-fold : (w : List ℕ) → is_name (fold w) ≡ is_name w
unfolding is_name
is_name-fold w = rw (length_fold, parts_well-fold)

digits-fold : (b v : ℕ) (after : Bool) (s : List ℕ) → digits b v after (fold s) ≡ digits b v after s
unfolding fold digits is_under digit_of is_digit upper is_small within
digits-fold b v after [] = refl
digits-fold b v after (x ∷ s) =
    simp (of_upper is_under refl x, of_upper digit_of refl x, digits-fold b v false s, digits-fold b (v * b + digit_of x) true s)

integer-fold : (w : List ℕ) → integer (fold w) ≡ integer w
unfolding integer
integer-fold w = simp (starts-fold, drop-fold, digits-fold)

symbol2-fold : (s : List ℕ) → symbol2 (fold s) ≡ symbol2 s
unfolding symbol2
symbol2-fold s = simp starts-fold

-- Pieces and tokens

name_piece-fold : (w : List ℕ) (i : ℕ) → name_piece (fold w) i ≡ name_piece w i
unfolding name_piece
name_piece-fold w i = simp (is_name-fold, fold-fold, length_fold)

piece-fold : (x : ℕ) (s : List ℕ) (i : ℕ) → piece (upper x) (fold s) i ≡ piece x s i
unfolding piece is_blank is_capital is_small is_digit within starts_name in_name in_integer in_line symbol1
piece-fold x s i =
    simp (of_upper is_blank refl x, of_upper starts_name refl x, of_upper is_digit refl x, of_upper symbol1 refl x, starts-fold, run-fold in_line refl s, run-fold in_name refl s, run-fold in_integer refl s, length_fold, drop-fold, comment-fold, name_piece-fold, integer-fold, symbol2-fold)

follow-alike : (k k' : ℕ → Res (List Token)) → ((n : ℕ) → k n ≡ k' n) → (p : Piece) (i : ℕ) → follow k p i ≡ follow k' p i
unfolding follow
follow-alike k k' h (gap n) i = h n
follow-alike k k' h (tok t n) i = rw (h n)
follow-alike k k' h (bad e) i = refl

tokens_at-fold : (f i : ℕ) (s : List ℕ) → tokens_at f i (fold s) ≡ tokens_at f i s
unfolding fold tokens_at
tokens_at-fold zero i s = refl
tokens_at-fold (suc f) i [] = refl
tokens_at-fold (suc f) i (x ∷ s) =
    rw (piece-fold x (x ∷ s) i) (follow-alike _ _ (λ n. rw (drop-fold n (x ∷ s)) (tokens_at-fold f (i + n) (drop n (x ∷ s)))) (piece x (x ∷ s) i) i)

tokens-fold : (s : List ℕ) → tokens (fold s) ≡ tokens s
unfolding tokens
tokens-fold s = rw length_fold (tokens_at-fold (suc (length s)) 0 s)

-- The laws

pub same_tokens : (s s' : List ℕ) → fold s ≡ fold s' → tokens s ≡ tokens s'
same_tokens s s' e = cc (tokens-fold s, tokens-fold s')

pub same_compiled : (lent capacity : ℕ) (s s' : List ℕ) → fold s ≡ fold s' → compile lent capacity s ≡ compile lent capacity s'
unfolding compile compiled front
same_compiled lent capacity s s' e =
    let long : length s ≡ length s' = cc (length_fold s, length_fold s') in
    rw (long, same_tokens s s' e)
