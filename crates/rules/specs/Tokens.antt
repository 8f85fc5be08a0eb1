-- The tokens of a text. Bytes are numbers; a place is the number of bytes before.
use Rattle.std.specs.Prelude.{Bool, true, false, not, ◌&&◌, ◌||◌, List, [], ◌∷◌, ℕ, zero, suc, ◌+◌, ◌-◌, ◌*◌, eqb, ltb, leb, length, drop}
use Rattle.std.proofs.Math.Option.{Option, none, some}
use Prim.Native.String.{String}
use Rattle.rules.specs.Limits.{name_limit, integer_limit}
use Rattle.rules.specs.Base.{pick, Res, ok, refuse, same, bytes}
use Rattle.rules.specs.Kinds.{FINISH, NAME, INT, AND, BOOL, BY, CASE, DINT, DO, ELSE, ELSIF, END_CASE, END_FOR, END_IF, END_PROGRAM, END_REPEAT, END_VAR, END_WHILE, EXIT, FALSE, FOR, IF, MOD, NOT, OF, OR, PROGRAM, REPEAT, THEN, TO, TRUE, UNTIL, VAR, WHILE, XOR, ASSIGN, DOTS, LESSEQ, MOREEQ, UNEQ, COLON, SEMI, COMMA, OPEN, CLOSE, PLUS, MINUS, STAR, SLASH, LESS, MORE, EQUAL, AMP}

-- a name has letters, folded to capitals; an integer has a value
pub record Token : Type 0 where
  pub kind : ℕ
  pub place : ℕ
  pub letters : List ℕ
  pub value : ℕ

unfoldable pub plain : ℕ → ℕ → Token
plain k i = record { kind = k; place = i; letters = []; value = 0 }

-- Bytes

unfoldable pub within : ℕ → ℕ → ℕ → Bool
within low high x = leb low x && leb x high

-- space, tab, LF, FF, CR
unfoldable pub is_blank : ℕ → Bool
is_blank x = eqb x 32 || eqb x 9 || eqb x 10 || eqb x 12 || eqb x 13

unfoldable pub is_capital : ℕ → Bool
is_capital x = within 65 90 x

unfoldable pub is_small : ℕ → Bool
is_small x = within 97 122 x

unfoldable pub is_digit : ℕ → Bool
is_digit x = within 48 57 x

unfoldable pub is_under : ℕ → Bool
is_under x = eqb x 95

-- a name starts with a letter or an underscore
unfoldable pub starts_name : ℕ → Bool
starts_name x = is_capital x || is_small x || is_under x

unfoldable pub in_name : ℕ → Bool
in_name x = starts_name x || is_digit x

-- what a token that starts with a digit takes in: also `#`
unfoldable pub in_integer : ℕ → Bool
in_integer x = in_name x || eqb x 35

-- letter case means nothing
unfoldable pub upper : ℕ → ℕ
upper x = pick (is_small x) (λ _. x - 32) (λ _. x)

unfoldable pub fold : List ℕ → List ℕ
fold [] = []
fold (x ∷ s) = upper x ∷ fold s

-- the longest beginning of such bytes
unfoldable pub run : (ℕ → Bool) → List ℕ → List ℕ
run p [] = []
run p (x ∷ s) = pick (p x) (λ _. x ∷ run p s) (λ _. [])

-- the text starts with these two bytes
unfoldable pub starts : ℕ → ℕ → List ℕ → Bool
starts a b [] = false
starts a b (x ∷ []) = false
starts a b (x ∷ y ∷ s) = eqb a x && eqb b y

-- Comments

-- LF, FF and CR end a line comment
unfoldable pub in_line : ℕ → Bool
in_line x = not (eqb x 10 || eqb x 12 || eqb x 13)

-- the bytes of a comment, after its opening, with d of them open; none if it is never closed
unfoldable pub comment : ℕ → ℕ → List ℕ → Option ℕ
comment n d [] = none
comment n d (x ∷ []) = none
comment n d (x ∷ y ∷ s) =
    pick (starts 40 42 (x ∷ y ∷ s)) (λ _. comment (n + 2) (d + 1) s) (λ _.
    pick (starts 42 41 (x ∷ y ∷ s)) (λ _. pick (eqb d 1) (λ _. some (n + 2)) (λ _. comment (n + 2) (d - 1) s)) (λ _.
    comment (n + 1) d (y ∷ s)))

-- Names

-- no two underscores running, none last
unfoldable pub parts_well : List ℕ → Bool
parts_well [] = true
parts_well (x ∷ []) = not (is_under x)
parts_well (x ∷ y ∷ s) = not (is_under x && is_under y) && parts_well (y ∷ s)

-- at most 32 characters
unfoldable pub is_name : List ℕ → Bool
is_name w = leb (length w) name_limit && parts_well w

pub record Entry : Type 0 where
  pub text : List ℕ
  pub kind : ℕ

unfoldable pub entry : String → ℕ → Entry
entry s k = record { text = bytes s; kind = k }

unfoldable pub reserved : List Entry
reserved =
    entry "AND" AND ∷
    entry "BOOL" BOOL ∷
    entry "BY" BY ∷
    entry "CASE" CASE ∷
    entry "DINT" DINT ∷
    entry "DO" DO ∷
    entry "ELSE" ELSE ∷
    entry "ELSIF" ELSIF ∷
    entry "END_CASE" END_CASE ∷
    entry "END_FOR" END_FOR ∷
    entry "END_IF" END_IF ∷
    entry "END_PROGRAM" END_PROGRAM ∷
    entry "END_REPEAT" END_REPEAT ∷
    entry "END_VAR" END_VAR ∷
    entry "END_WHILE" END_WHILE ∷
    entry "EXIT" EXIT ∷
    entry "FALSE" FALSE ∷
    entry "FOR" FOR ∷
    entry "IF" IF ∷
    entry "MOD" MOD ∷
    entry "NOT" NOT ∷
    entry "OF" OF ∷
    entry "OR" OR ∷
    entry "PROGRAM" PROGRAM ∷
    entry "REPEAT" REPEAT ∷
    entry "THEN" THEN ∷
    entry "TO" TO ∷
    entry "TRUE" TRUE ∷
    entry "UNTIL" UNTIL ∷
    entry "VAR" VAR ∷
    entry "WHILE" WHILE ∷
    entry "XOR" XOR ∷
    []

unfoldable pub lookup : List ℕ → List Entry → ℕ
lookup w [] = NAME
lookup w (e ∷ es) = pick (same w e.text) (λ _. e.kind) (λ _. lookup w es)

-- a reserved word, or a name with its letters; w is folded
unfoldable pub word_kind : ℕ → List ℕ → ℕ → Token
word_kind k w i = pick (eqb k NAME) (λ _. record { kind = NAME; place = i; letters = w; value = 0 }) (λ _. plain k i)

unfoldable pub word : List ℕ → ℕ → Token
word w i = word_kind (lookup w reserved) w i

-- Integers

-- the value of a digit; 16 and more where it is none
unfoldable pub digit_of : ℕ → ℕ
digit_of x = pick (is_digit x) (λ _. x - 48) (λ _. pick (within 65 70 (upper x)) (λ _. upper x - 55) (λ _. 16))

-- digits of a base, after the value v; a single underscore may stand between two (after: a digit stands before)
unfoldable pub digits : ℕ → ℕ → Bool → List ℕ → Option ℕ
digits b v after [] = pick after (λ _. some v) (λ _. none)
digits b v after (x ∷ s) =
    pick (is_under x) (λ _. pick after (λ _. digits b v false s) (λ _. none)) (λ _.
    pick (ltb (digit_of x) b) (λ _. digits b (v * b + digit_of x) true s) (λ _. none))

-- `2#`, `8#`, `16#`, or decimal
unfoldable pub integer : List ℕ → Option ℕ
integer w =
    pick (starts 50 35 w) (λ _. digits 2 0 false (drop 2 w)) (λ _.
    pick (starts 56 35 w) (λ _. digits 8 0 false (drop 2 w)) (λ _.
    pick (starts 49 54 w && starts 54 35 (drop 1 w)) (λ _. digits 16 0 false (drop 3 w)) (λ _.
    digits 10 0 false w)))

-- Symbols

-- the symbol of two bytes at the start, or FINISH
unfoldable pub symbol2 : List ℕ → ℕ
symbol2 s =
    pick (starts 58 61 s) (λ _. ASSIGN) (λ _.
    pick (starts 46 46 s) (λ _. DOTS) (λ _.
    pick (starts 60 61 s) (λ _. LESSEQ) (λ _.
    pick (starts 62 61 s) (λ _. MOREEQ) (λ _.
    pick (starts 60 62 s) (λ _. UNEQ) (λ _.
    FINISH)))))

-- the symbol of one byte, or FINISH
unfoldable pub symbol1 : ℕ → ℕ
symbol1 x =
    pick (eqb x 58) (λ _. COLON) (λ _.
    pick (eqb x 59) (λ _. SEMI) (λ _.
    pick (eqb x 44) (λ _. COMMA) (λ _.
    pick (eqb x 40) (λ _. OPEN) (λ _.
    pick (eqb x 41) (λ _. CLOSE) (λ _.
    pick (eqb x 43) (λ _. PLUS) (λ _.
    pick (eqb x 45) (λ _. MINUS) (λ _.
    pick (eqb x 42) (λ _. STAR) (λ _.
    pick (eqb x 47) (λ _. SLASH) (λ _.
    pick (eqb x 60) (λ _. LESS) (λ _.
    pick (eqb x 62) (λ _. MORE) (λ _.
    pick (eqb x 61) (λ _. EQUAL) (λ _.
    pick (eqb x 38) (λ _. AMP) (λ _.
    FINISH)))))))))))))

-- What stands at the start of a text

pub data Piece : Type 0 where
  gap : ℕ → Piece
  tok : Token → ℕ → Piece
  bad : ℕ → Piece

unfoldable pub comment_piece : Option ℕ → Piece
comment_piece (some n) = gap n
comment_piece none = bad 2

unfoldable pub name_piece : List ℕ → ℕ → Piece
name_piece w i = pick (is_name w) (λ _. tok (word (fold w) i) (length w)) (λ _. bad 3)

-- over 2147483648: 4
unfoldable pub integer_piece : Option ℕ → ℕ → ℕ → Piece
integer_piece none n i = bad 4
integer_piece (some v) n i =
    pick (leb v integer_limit) (λ _. tok (record { kind = INT; place = i; letters = []; value = v }) n) (λ _. bad 4)

unfoldable pub symbol_piece : ℕ → ℕ → ℕ → Piece
symbol_piece two one i =
    pick (not (eqb two FINISH)) (λ _. tok (plain two i) 2) (λ _.
    pick (not (eqb one FINISH)) (λ _. tok (plain one i) 1) (λ _.
    bad 2))

-- x: the first byte; s: all from it on; i: its place
unfoldable pub piece : ℕ → List ℕ → ℕ → Piece
piece x s i =
    pick (is_blank x) (λ _. gap 1) (λ _.
    pick (starts 47 47 s) (λ _. gap (length (run in_line s))) (λ _.
    pick (starts 47 42 s) (λ _. bad 2) (λ _.
    pick (starts 40 42 s) (λ _. comment_piece (comment 2 1 (drop 2 s))) (λ _.
    pick (starts_name x) (λ _. name_piece (run in_name s) i) (λ _.
    pick (is_digit x) (λ _. integer_piece (integer (run in_integer s)) (length (run in_integer s)) i) (λ _.
    symbol_piece (symbol2 s) (symbol1 x) i))))))

-- The tokens, in order, the end of the text last. f: at least the bytes that are left, and one

unfoldable pub put : Token → Res (List Token) → Res (List Token)
put t (ok ts) = ok (t ∷ ts)
put t (refuse n p) = refuse n p

unfoldable pub follow : (ℕ → Res (List Token)) → Piece → ℕ → Res (List Token)
follow k (gap n) i = k n
follow k (tok t n) i = put t (k n)
follow k (bad e) i = refuse e i

unfoldable pub tokens_at : ℕ → ℕ → List ℕ → Res (List Token)
tokens_at zero i s = ok (plain FINISH i ∷ [])
tokens_at (suc f) i [] = ok (plain FINISH i ∷ [])
tokens_at (suc f) i (x ∷ s) = follow (λ n. tokens_at f (i + n) (drop n (x ∷ s))) (piece x (x ∷ s) i) i

unfoldable pub tokens : List ℕ → Res (List Token)
tokens s = tokens_at (suc (length s)) 0 s
