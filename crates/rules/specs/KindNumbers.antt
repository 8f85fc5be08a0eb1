-- The kinds of the code and their numbers in lent memory.
use Rattle.std.specs.Prelude.{ℕ, ◌≡◌, ◌<◌, Result, MatchResult}
use Rattle.rules.specs.Kinds.{FINISH, NAME, INT, AND, BOOL, BY, CASE, DINT, DO, ELSE, ELSIF, END_CASE, END_FOR, END_IF, END_PROGRAM, END_REPEAT, END_VAR, END_WHILE, EXIT, FALSE, FOR, IF, MOD, NOT, OF, OR, PROGRAM, REPEAT, THEN, TO, TRUE, UNTIL, VAR, WHILE, XOR, ASSIGN, DOTS, LESSEQ, MOREEQ, UNEQ, COLON, SEMI, COMMA, OPEN, CLOSE, PLUS, MINUS, STAR, SLASH, LESS, MORE, EQUAL, AMP}
use Rattle.rules.specs.Cells.{UNARY, BINARY, WHOLE}
use Rattle.rules.specs.declared.kinds.Kind.{Kind}
use Rattle.rules.specs.declared.kinds.Kind.TheVariants.{Finish, Name, Int, And, Bool as Boolean, By, Case, Dint, Do, Else, Elsif, EndCase, EndFor, EndIf, EndProgram, EndRepeat, EndVar, EndWhile, Exit, False, For, If, Mod, Not, Of, Or, Program, Repeat, Then, To, True, Until, Var, While, Xor, Assign, Dots, LessEq, MoreEq, UnEq, Colon, Semi, Comma, Open, Close, Plus, Minus, Star, Slash, Less, More, Equal, Amp, Unary, Binary, Whole}
use Rattle.rules.specs.declared.kinds.UnknownKind.{UnknownKind}

-- the number of a kind
abbrev pub kind_number : Kind → ℕ
kind_number Finish = FINISH
kind_number Name = NAME
kind_number Int = INT
kind_number And = AND
kind_number Boolean = BOOL
kind_number By = BY
kind_number Case = CASE
kind_number Dint = DINT
kind_number Do = DO
kind_number Else = ELSE
kind_number Elsif = ELSIF
kind_number EndCase = END_CASE
kind_number EndFor = END_FOR
kind_number EndIf = END_IF
kind_number EndProgram = END_PROGRAM
kind_number EndRepeat = END_REPEAT
kind_number EndVar = END_VAR
kind_number EndWhile = END_WHILE
kind_number Exit = EXIT
kind_number False = FALSE
kind_number For = FOR
kind_number If = IF
kind_number Mod = MOD
kind_number Not = NOT
kind_number Of = OF
kind_number Or = OR
kind_number Program = PROGRAM
kind_number Repeat = REPEAT
kind_number Then = THEN
kind_number To = TO
kind_number True = TRUE
kind_number Until = UNTIL
kind_number Var = VAR
kind_number While = WHILE
kind_number Xor = XOR
kind_number Assign = ASSIGN
kind_number Dots = DOTS
kind_number LessEq = LESSEQ
kind_number MoreEq = MOREEQ
kind_number UnEq = UNEQ
kind_number Colon = COLON
kind_number Semi = SEMI
kind_number Comma = COMMA
kind_number Open = OPEN
kind_number Close = CLOSE
kind_number Plus = PLUS
kind_number Minus = MINUS
kind_number Star = STAR
kind_number Slash = SLASH
kind_number Less = LESS
kind_number More = MORE
kind_number Equal = EQUAL
kind_number Amp = AMP
kind_number Unary = UNARY
kind_number Binary = BINARY
kind_number Whole = WHOLE

-- the kind with this number, or the number, which no kind has
abbrev pub Decodes : ℕ → Result Kind UnknownKind → Type 0
Decodes number r = MatchResult r (λ kind. kind_number kind ≡ number) (λ unknown. (unknown.0 ≡ number) × (WHOLE < number))
