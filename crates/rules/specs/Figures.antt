-- The worked figures of the rules, from the text's bytes: one statement over one list. Those that the rules star are said of the
-- meaning itself and of running the image.
use Rattle.std.specs.Prelude.{List, [], ◌∷◌, ℤ, pos, negsuc}
use Rattle.rules.specs.Base.{bytes}
use Rattle.rules.specs.Compile.{accepted, refused}
use Rattle.rules.specs.Cases.{Case, compiling, meaning, report, listing, over_a}

abbrev lowest : ℤ
lowest = negsuc 2147483647

unfoldable pub figures : List Case
figures =
    -- the listing
    compiling (bytes "PROGRAM P VAR A:DINT; END_VAR A:=A+1; END_PROGRAM")
    (accepted
    (0x05 ∷ 0x00 ∷ 0x01 ∷ 0x00 ∷ 0x02 ∷ 0x00 ∷ 0x00 ∷ 0x00 ∷ 0x00 ∷ 0x0C ∷ 0x00 ∷ 0x02 ∷ 0x00 ∷ 0x01 ∷ 0x03 ∷ 0x00 ∷ 0x02 ∷ 0x01 ∷ 0x00 ∷ 0x00 ∷ 0x00 ∷ 0x0A ∷ 0x04 ∷ 0x00 ∷ 0x1D ∷
    0x06 ∷ 0x00 ∷ 0x03 ∷ 0x00 ∷ 0x02 ∷ 0x00 ∷ 0x01 ∷ 0x00 ∷ 0x00 ∷ 0x00 ∷ [])
    12 2 1) ∷
    compiling (bytes "") (refused 5 0) ∷
    meaning (over_a "A:=A+1;") (pos 5 ∷ []) 0 1 (pos 6 ∷ []) ∷
    listing (over_a "A:=A+1;") (pos 5 ∷ []) (report 0 1 6 11 (pos 6 ∷ [])) ∷
    meaning (over_a "A:=A+1;") (pos 2147483647 ∷ []) 21 1 (pos 2147483647 ∷ []) ∷
    listing (over_a "A:=A+1;") (pos 2147483647 ∷ []) (report 21 1 3 8 (pos 2147483647 ∷ [])) ∷
    -- division and remainder
    meaning (over_a "A := -7 / 2;") (pos 0 ∷ []) 0 1 (negsuc 2 ∷ []) ∷
    meaning (over_a "A := -7 MOD 2;") (pos 0 ∷ []) 0 1 (negsuc 0 ∷ []) ∷
    meaning (over_a "A := 7 MOD -2;") (pos 0 ∷ []) 0 1 (pos 1 ∷ []) ∷
    meaning (over_a "A := A / -1;") (lowest ∷ []) 21 1 (lowest ∷ []) ∷
    meaning (over_a "A := A MOD -1;") (lowest ∷ []) 0 1 (pos 0 ∷ []) ∷
    meaning (bytes "PROGRAM P VAR A:DINT; X:BOOL; END_VAR X := FALSE AND (1/A = 0); END_PROGRAM") (pos 0 ∷ pos 1 ∷ []) 22 1 (pos 0 ∷ pos 1 ∷ []) ∷
    -- 2147483648 in an expression, as a declared constant, and a sign too many
    compiling (over_a "A := 2147483648;") (refused 4 35) ∷
    compiling (bytes "PROGRAM P VAR A:DINT:=-2147483648; END_VAR END_PROGRAM")
    (accepted (0x05 ∷ 0x00 ∷ 0x01 ∷ 0x00 ∷ 0x02 ∷ 0x00 ∷ 0x00 ∷ 0x00 ∷ 0x80 ∷ 0x01 ∷ 0x00 ∷ 0x02 ∷ 0x00 ∷ 0x1D ∷ 0x06 ∷ 0x00 ∷ 0x03 ∷ 0x00 ∷ 0x00 ∷ 0x00 ∷ 0x00 ∷ 0x00 ∷ 0x00 ∷ 0x00 ∷ []) 1 0 0) ∷
    compiling (over_a "A := --1;") (refused 5 36) ∷
    -- FOR: two passes up to the largest DINT, worst 3; none; passes 1, 5, 9
    meaning (over_a "FOR A := 2147483646 TO 2147483647 DO END_FOR;") (pos 0 ∷ []) 0 3 (pos 2147483647 ∷ []) ∷
    compiling (over_a "FOR A := 2147483646 TO 2147483647 DO END_FOR;")
    (accepted
    (0x05 ∷ 0x00 ∷ 0x01 ∷ 0x00 ∷ 0x02 ∷ 0x00 ∷ 0x00 ∷ 0x00 ∷ 0x00 ∷ 0x23 ∷ 0x00 ∷ 0x02 ∷ 0x00 ∷ 0x01 ∷ 0x02 ∷ 0xFE ∷ 0xFF ∷ 0xFF ∷ 0x7F ∷ 0x02 ∷ 0xFF ∷ 0xFF ∷ 0xFF ∷ 0x7F ∷ 0x1A ∷ 0x00 ∷ 0x04 ∷ 0x00 ∷
    0x1B ∷ 0x00 ∷ 0x00 ∷ 0x01 ∷ 0x00 ∷ 0x00 ∷ 0x00 ∷ 0x22 ∷ 0x00 ∷ 0x01 ∷ 0x1C ∷ 0x00 ∷ 0x00 ∷ 0x01 ∷ 0x00 ∷ 0x00 ∷ 0x00 ∷ 0x18 ∷ 0x00 ∷ 0x1D ∷ 0x06 ∷ 0x00 ∷ 0x03 ∷ 0x00 ∷ 0x02 ∷ 0x00 ∷ 0x03 ∷ 0x00 ∷ 0x00 ∷ 0x00 ∷ [])
    35 2 3) ∷
    meaning (over_a "FOR A := 5 TO 1 DO END_FOR;") (pos 0 ∷ []) 0 1 (pos 5 ∷ []) ∷
    meaning (over_a "FOR A := 1 TO 10 BY 4 DO END_FOR;") (pos 0 ∷ []) 0 4 (pos 9 ∷ []) ∷
    -- CASE: the first group with a label that holds the selector
    meaning (over_a "CASE 3 OF 1..5: A := 1; 3: A := 2; END_CASE;") (pos 0 ∷ []) 0 2 (pos 1 ∷ []) ∷
    []
