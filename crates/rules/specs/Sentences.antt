-- Sentences of the rules, each by a text or image whose answer was worked out by hand: every number of the list, and each limit from both sides.
use Rattle.std.specs.Prelude.{List, [], ◌∷◌, ◌++◌, ℕ, zero, suc, ◌+◌, ◌/◌, ◌%◌, pos, negsuc, replicate}
use Prim.Native.String.{String}
use Rattle.rules.specs.Base.{bytes}
use Rattle.rules.specs.Compile.{accepted, refused}
use Rattle.rules.specs.Cases.{Case, compiling, compiling_in, compiling_with, meaning_at, meaning, report, image, filling, over_a}

-- statements over A, a DINT, and X, a BOOL
abbrev over_ax : String → List ℕ
over_ax s = bytes "PROGRAM P VAR A:DINT; X:BOOL; END_VAR " ++ (bytes s ++ bytes " END_PROGRAM")

-- an image with one DINT, n bytes of code, a depth below 256, and the four bytes of a worst case
abbrev coded : ℕ → List ℕ → ℕ → List ℕ → List ℕ
coded n code depth worst = (0x05 ∷ 0x00 ∷ 0x01 ∷ 0x00 ∷ 0x02 ∷ 0x00 ∷ 0x00 ∷ 0x00 ∷ 0x00 ∷ n ∷ 0x00 ∷ 0x02 ∷ 0x00 ∷ []) ++ (code ++ (0x06 ∷ 0x00 ∷ 0x03 ∷ 0x00 ∷ depth ∷ 0x00 ∷ worst))

-- the same with figures that no run looks at
abbrev code : ℕ → List ℕ → List ℕ
code n c = coded n c 0x00 (0x00 ∷ 0x00 ∷ 0x00 ∷ 0x00 ∷ [])

-- an image with one variable of this type and this initial value, and code that only halts
abbrev halting : ℕ → ℕ → List ℕ
halting τ z = 0x05 ∷ 0x00 ∷ 0x01 ∷ 0x00 ∷ τ ∷ z ∷ 0x00 ∷ 0x00 ∷ 0x00 ∷ 0x01 ∷ 0x00 ∷ 0x02 ∷ 0x00 ∷ 0x1D ∷ 0x06 ∷ 0x00 ∷ 0x03 ∷ 0x00 ∷ 0x00 ∷ 0x00 ∷ 0x00 ∷ 0x00 ∷ 0x00 ∷ 0x00 ∷ []

-- a text so many times
abbrev times : ℕ → List ℕ → List ℕ
times zero s = []
times (suc n) s = s ++ times n s

-- n declarations of nine bytes each, with different names, from A00 on
abbrev declared : ℕ → List ℕ
declared zero = []
declared (suc n) = declared n ++ (65 ∷ (48 + n / 10) ∷ (48 + n % 10) ∷ bytes ":BOOL;")

-- a program over n variables
abbrev over : ℕ → List ℕ
over n = bytes "PROGRAM P VAR " ++ (declared n ++ bytes "END_VAR END_PROGRAM")

-- a CASE of n + 1 labels, and a last assignment: 12 n + 24 bytes of code, and the assignment's
abbrev labelled : ℕ → String → List ℕ
labelled n s = bytes "PROGRAM P VAR A:DINT; END_VAR CASE A OF 1" ++ (times n (bytes ",1") ++ (bytes ": ; END_CASE; " ++ (bytes s ++ bytes " END_PROGRAM")))

-- an expression that is 30 higher than its innermost
abbrev high : String → List ℕ
high s = times 15 (bytes "1+1*(") ++ (bytes s ++ times 15 (bytes ")"))

-- statements over A around an expression
abbrev around : String → List ℕ → String → List ℕ
around a e b = bytes "PROGRAM P VAR A:DINT; END_VAR " ++ (bytes a ++ (e ++ (bytes b ++ bytes " END_PROGRAM")))

-- Each limit from both sides

unfoldable pub length_cases : List Case
length_cases =
    -- 17, before 1; the published length is enough
    compiling_with (bytes "PROGRAM P END_PROGRAM;") 262143 (refused 17 0) ∷
    compiling_with (times 16385 (bytes " ")) 262143 (refused 17 0) ∷
    compiling_with (bytes "PROGRAM P END_PROGRAM;") 262144 (refused 5 21) ∷
    -- 1, before the tokens; 16,384 bytes are read
    compiling (times 16385 (bytes "?")) (refused 1 16384) ∷
    compiling (times 16384 (bytes " ")) (refused 5 16384) ∷
    []

unfoldable pub nesting_cases : List Case
nesting_cases =
    -- the 65th variable
    compiling (over 65) (refused 9 590) ∷
    meaning (over 64) (replicate 64 (pos 0)) 0 0 (replicate 64 (pos 0)) ∷
    -- the 17th IF, the 9th FOR
    compiling (around "" (times 17 (bytes "IF TRUE THEN ")) "") (refused 10 238) ∷
    meaning (around "" (times 16 (bytes "IF TRUE THEN ") ++ times 16 (bytes "END_IF; ")) "") (pos 0 ∷ []) 0 16 (pos 0 ∷ []) ∷
    compiling (around "" (times 9 (bytes "FOR A:=1 TO 2 DO ")) "") (refused 10 166) ∷
    compiling (around "" (times 8 (bytes "FOR A:=1 TO 2 DO ") ++ times 8 (bytes "END_FOR; ")) "") (refused 11 51) ∷
    -- height 32 and 33; a FOR final counts one more
    meaning (around "A:=" (high "1+1") ";") (pos 0 ∷ []) 0 1 (pos 17 ∷ []) ∷
    compiling (around "A:=" (high "1+1*1") ";") (refused 10 33) ∷
    compiling (around "FOR A:=1 TO " (high "1+1") " DO END_FOR;") (refused 10 42) ∷
    []

unfoldable pub code_limit_cases : List Case
code_limit_cases =
    -- 8,192 bytes of code pass 13 and come to 14; one more is 13, before 14
    compiling_in (labelled 680 "A:=1;") 0 (refused 14 1432) ∷
    compiling_in (labelled 680 "A:=-1;") 0 (refused 13 1433) ∷
    -- an image of 35 bytes, and room for one less
    compiling_in (over_a "A:=A+1;") 34 (refused 14 49) ∷
    compiling_in (over_a "A:=A+1;") 35
    (accepted (coded 12 (0x01 ∷ 0x03 ∷ 0x00 ∷ 0x02 ∷ 0x01 ∷ 0x00 ∷ 0x00 ∷ 0x00 ∷ 0x0A ∷ 0x04 ∷ 0x00 ∷ 0x1D ∷ []) 0x02 (0x01 ∷ 0x00 ∷ 0x00 ∷ 0x00 ∷ [])) 12 2 1) ∷
    []

unfoldable pub token_cases : List Case
token_cases =
    -- `(*)` only opens; `/*` is 2; a single dot is no token
    compiling (bytes "(*)") (refused 2 0) ∷
    compiling (over_a "A := 1; /* */") (refused 2 38) ∷
    compiling (over_a "A := 1.5;") (refused 2 36) ∷
    -- names: two underscores running, one last, 33 characters; 32 are a name, here an unknown one
    compiling (over_a "A__B := 1;") (refused 3 30) ∷
    compiling (over_a "A_ := 1;") (refused 3 30) ∷
    compiling (over_a "ABCDEFGHIJKLMNOPQRSTUVWXYZ1234567 := 1;") (refused 3 30) ∷
    compiling (over_a "ABCDEFGHIJKLMNOPQRSTUVWXYZ123456 := 1;") (refused 7 30) ∷
    -- integers
    compiling (over_a "A := 1TO5;") (refused 4 35) ∷
    compiling (over_a "A := 2#2;") (refused 4 35) ∷
    compiling (over_a "A := 2147483649;") (refused 4 35) ∷
    meaning (over_a "A := 16#fF + 8#1_0 + 2#11 + 0010;") (pos 0 ∷ []) 0 1 (pos 276 ∷ []) ∷
    -- tokens come before syntax
    compiling (bytes "END 1__0") (refused 4 4) ∷
    -- blanks, comments and letter case mean nothing
    meaning (bytes "program (* a (* b *) c *) p var a:dint; end_var // x\n A\t:=\ra +\u{c}1; End_Program") (pos 5 ∷ []) 0 1 (pos 6 ∷ []) ∷
    []

unfoldable pub syntax_cases : List Case
syntax_cases =
    compiling (over_a "A := ;") (refused 5 35) ∷
    compiling (over_a "CASE A OF ELSE END_CASE;") (refused 5 40) ∷
    compiling (over_ax "X := NOT NOT X;") (refused 5 47) ∷
    compiling (bytes "PROGRAM P END_PROGRAM;") (refused 5 21) ∷
    compiling (bytes "PROGRAM P ") (refused 5 10) ∷
    -- the 17th parenthesis
    compiling (over_a "A := (((((((((((((((((1)))))))))))))))));") (refused 10 51) ∷
    meaning (over_a "A := ((((((((((((((((1))))))))))))))));") (pos 0 ∷ []) 0 1 (pos 1 ∷ []) ∷
    -- equal levels group from the left, and `*` is tighter than `-`
    meaning (over_a "A := 20 - 3 * 4 - 5;") (pos 0 ∷ []) 0 1 (pos 3 ∷ []) ∷
    -- NOT takes the operand A, not the comparison
    compiling (over_ax "X := NOT A = A;") (refused 8 43) ∷
    []

unfoldable pub walk_cases : List Case
walk_cases =
    compiling (bytes "PROGRAM P VAR A:DINT; a:BOOL; END_VAR END_PROGRAM") (refused 6 22) ∷
    compiling (over_a "B := 1;") (refused 7 30) ∷
    compiling (over_a "A := TRUE;") (refused 8 30) ∷
    compiling (over_a "A := 1 + TRUE;") (refused 8 37) ∷
    compiling (over_a "IF A THEN END_IF;") (refused 8 33) ∷
    compiling (bytes "PROGRAM P VAR A:BOOL:=1; END_VAR END_PROGRAM") (refused 8 14) ∷
    -- 11, and before 8
    compiling (over_a "FOR A := 1 TO 2 DO A := 1; END_FOR;") (refused 11 49) ∷
    compiling (over_a "FOR A := 1 TO 2 DO A := TRUE; END_FOR;") (refused 11 49) ∷
    compiling (over_a "EXIT;") (refused 12 30) ∷
    compiling (over_a "FOR A := 1 TO 2 BY 0 DO END_FOR;") (refused 15 49) ∷
    compiling (over_a "CASE A OF 5..1: ; END_CASE;") (refused 16 40) ∷
    -- a FOR bound is no constant, and 4 is at the integer
    compiling (over_a "FOR A := -2147483648 TO 0 DO END_FOR;") (refused 4 40) ∷
    []

unfoldable pub meaning_cases : List Case
meaning_cases =
    -- FOR evaluates the final value before it sets the variable, and holds it
    meaning (over_a "A := 3; FOR A := 1 TO A DO END_FOR;") (pos 0 ∷ []) 0 5 (pos 3 ∷ []) ∷
    meaning (bytes "PROGRAM P VAR A:DINT; B:DINT; END_VAR B := 3; FOR A := 1 TO B DO B := 1; END_FOR; END_PROGRAM") (pos 0 ∷ pos 0 ∷ []) 0 8 (pos 3 ∷ pos 1 ∷ []) ∷
    meaning (over_a "FOR A := 3 TO -4 BY -3 DO END_FOR;") (pos 0 ∷ []) 0 4 (negsuc 2 ∷ []) ∷
    -- EXIT out of a CASE leaves nothing on the stack: 40 times would pass the limit
    meaning (over_a "FOR A := 1 TO 40 DO WHILE TRUE DO CASE A OF 1..40: EXIT; END_CASE; END_WHILE; END_FOR;") (pos 0 ∷ []) 0 161 (pos 40 ∷ []) ∷
    -- ticks of WHILE, REPEAT and IF
    meaning (over_a "WHILE A < 3 DO A := A + 1; END_WHILE;") (pos 0 ∷ []) 0 7 (pos 3 ∷ []) ∷
    meaning (over_a "REPEAT A := A + 1; UNTIL A >= 3 END_REPEAT;") (pos 0 ∷ []) 0 6 (pos 3 ∷ []) ∷
    meaning (over_a "IF A = 1 THEN A := 10; ELSIF A = 2 THEN A := 20; ELSE A := 30; END_IF;") (pos 2 ∷ []) 0 2 (pos 20 ∷ []) ∷
    meaning (over_a "IF A = 1 THEN A := 10; ELSIF A = 2 THEN A := 20; ELSE A := 30; END_IF;") (pos 3 ∷ []) 0 2 (pos 30 ∷ []) ∷
    -- SPENT just before the tick over the budget
    meaning_at 0 (over_a "A:=A+1;") (pos 5 ∷ []) 20 0 (pos 5 ∷ []) ∷
    meaning_at 3 (over_a "WHILE A < 3 DO A := A + 1; END_WHILE;") (pos 0 ∷ []) 20 3 (pos 1 ∷ []) ∷
    -- logic and order
    meaning (over_ax "X := X XOR A < 3 & NOT X OR FALSE;") (pos 2 ∷ pos 1 ∷ []) 0 1 (pos 2 ∷ pos 1 ∷ []) ∷
    meaning (over_ax "X := A <> 7 XOR A >= 7;") (pos 7 ∷ pos 0 ∷ []) 0 1 (pos 7 ∷ pos 1 ∷ []) ∷
    []

unfoldable pub code_cases : List Case
code_cases =
    -- an empty ELSE still has its JUMP
    compiling (over_a "IF TRUE THEN ELSE END_IF;")
    (accepted (coded 13 (0x01 ∷ 0x02 ∷ 0x01 ∷ 0x00 ∷ 0x00 ∷ 0x00 ∷ 0x16 ∷ 0x0C ∷ 0x00 ∷ 0x15 ∷ 0x0C ∷ 0x00 ∷ 0x1D ∷ []) 0x01 (0x01 ∷ 0x00 ∷ 0x00 ∷ 0x00 ∷ [])) 13 1 1) ∷
    -- CASE: SPAN and a jump to the body, JUMP to the next group; body DROP, list, JUMP to end; last DROP. Depth at least 2
    compiling (over_a "CASE A OF 1: A := 2; END_CASE;")
    (accepted (coded 32
    (0x01 ∷ 0x03 ∷ 0x00 ∷ 0x17 ∷ 0x01 ∷ 0x00 ∷ 0x00 ∷ 0x00 ∷ 0x01 ∷ 0x00 ∷ 0x00 ∷ 0x00 ∷ 0x18 ∷ 0x12 ∷ 0x00 ∷ 0x15 ∷ 0x1E ∷ 0x00 ∷
    0x19 ∷ 0x01 ∷ 0x02 ∷ 0x02 ∷ 0x00 ∷ 0x00 ∷ 0x00 ∷ 0x04 ∷ 0x00 ∷ 0x15 ∷ 0x1F ∷ 0x00 ∷ 0x19 ∷ 0x1D ∷ [])
    0x02 (0x02 ∷ 0x00 ∷ 0x00 ∷ 0x00 ∷ [])) 32 2 2) ∷
    -- any loop but a FOR between integers: the mark
    compiling (over_a "WHILE FALSE DO END_WHILE;")
    (accepted (coded 13 (0x01 ∷ 0x02 ∷ 0x00 ∷ 0x00 ∷ 0x00 ∷ 0x00 ∷ 0x16 ∷ 0x0C ∷ 0x00 ∷ 0x15 ∷ 0x00 ∷ 0x00 ∷ 0x1D ∷ []) 0x01 (0xFF ∷ 0xFF ∷ 0xFF ∷ 0xFF ∷ [])) 13 1 4294967295) ∷
    []

unfoldable pub machine_cases : List Case
machine_cases =
    -- HALT counts; SPENT is at the TICK, which does not
    image (code 1 (0x1D ∷ [])) (pos 7 ∷ []) 9 (report 0 0 1 0 (pos 7 ∷ [])) ∷
    image (code 2 (0x01 ∷ 0x1D ∷ [])) (pos 7 ∷ []) 0 (report 20 0 0 0 (pos 7 ∷ [])) ∷
    image (code 2 (0x01 ∷ 0x1D ∷ [])) (pos 7 ∷ []) 1 (report 0 1 2 1 (pos 7 ∷ [])) ∷
    -- 25: no code, unknown code, operands cut off, off the end, past the end (the jump is done)
    image (code 0 []) (pos 7 ∷ []) 9 (report 25 0 0 0 (pos 7 ∷ [])) ∷
    image (code 1 (0x1E ∷ [])) (pos 7 ∷ []) 9 (report 25 0 0 0 (pos 7 ∷ [])) ∷
    image (code 2 (0x02 ∷ 0x01 ∷ [])) (pos 7 ∷ []) 9 (report 25 0 0 0 (pos 7 ∷ [])) ∷
    image (code 1 (0x01 ∷ [])) (pos 7 ∷ []) 9 (report 25 1 1 1 (pos 7 ∷ [])) ∷
    image (code 3 (0x15 ∷ 0x00 ∷ 0x01 ∷ [])) (pos 7 ∷ []) 9 (report 25 0 1 256 (pos 7 ∷ [])) ∷
    -- 25: back where no TICK stands; to a TICK it is done, until the budget is spent
    image (code 3 (0x15 ∷ 0x00 ∷ 0x00 ∷ [])) (pos 7 ∷ []) 9 (report 25 0 0 0 (pos 7 ∷ [])) ∷
    image (code 4 (0x01 ∷ 0x15 ∷ 0x00 ∷ 0x00 ∷ [])) (pos 7 ∷ []) 9 (report 20 9 18 0 (pos 7 ∷ [])) ∷
    -- 25: stack under, slot and level too large, logic on 2, step 0; a NEXT that lands badly leaves its variable
    image (code 1 (0x19 ∷ [])) (pos 7 ∷ []) 9 (report 25 0 0 0 (pos 7 ∷ [])) ∷
    image (code 2 (0x03 ∷ 0x01 ∷ [])) (pos 7 ∷ []) 9 (report 25 0 0 0 (pos 7 ∷ [])) ∷
    image (code 7 (0x02 ∷ 0x00 ∷ 0x00 ∷ 0x00 ∷ 0x00 ∷ 0x1A ∷ 0x08 ∷ [])) (pos 7 ∷ []) 9 (report 25 0 1 5 (pos 7 ∷ [])) ∷
    image (code 6 (0x02 ∷ 0x02 ∷ 0x00 ∷ 0x00 ∷ 0x00 ∷ 0x06 ∷ [])) (pos 7 ∷ []) 9 (report 25 0 1 5 (pos 7 ∷ [])) ∷
    image (code 9 (0x1B ∷ 0x00 ∷ 0x00 ∷ 0x00 ∷ 0x00 ∷ 0x00 ∷ 0x00 ∷ 0x09 ∷ 0x00 ∷ [])) (pos 7 ∷ []) 9 (report 25 0 0 0 (pos 7 ∷ [])) ∷
    image (code 9 (0x1C ∷ 0x00 ∷ 0x00 ∷ 0xFF ∷ 0xFF ∷ 0xFF ∷ 0xFF ∷ 0x00 ∷ 0x00 ∷ [])) (pos 5 ∷ []) 9 (report 25 0 0 0 (pos 5 ∷ [])) ∷
    -- 23: bytes behind the records, an unknown type, a BOOL initial value of 2; 24: another length, a BOOL entry of 2
    image (code 1 (0x1D ∷ []) ++ (0x00 ∷ [])) (pos 7 ∷ []) 9 (report 23 0 0 0 (pos 7 ∷ [])) ∷
    image (halting 3 0x00) (pos 0 ∷ []) 9 (report 23 0 0 0 (pos 0 ∷ [])) ∷
    image (halting 1 0x02) (pos 0 ∷ []) 9 (report 23 0 0 0 (pos 0 ∷ [])) ∷
    image (code 1 (0x1D ∷ [])) [] 9 (report 24 0 0 0 []) ∷
    image (halting 1 0x01) (pos 2 ∷ []) 9 (report 24 0 0 0 (pos 2 ∷ [])) ∷
    image (halting 1 0x01) (pos 0 ∷ []) 9 (report 0 0 1 0 (pos 0 ∷ [])) ∷
    -- filling looks at the length alone
    filling (halting 1 0x01) (pos 2 ∷ []) 0 (pos 1 ∷ []) ∷
    filling (halting 1 0x02) (pos 2 ∷ []) 23 (pos 2 ∷ []) ∷
    filling (halting 1 0x01) [] 24 [] ∷
    []

unfoldable pub sentences : List Case
sentences = token_cases ++ (syntax_cases ++ (walk_cases ++ (meaning_cases ++ (code_cases ++ machine_cases))))
