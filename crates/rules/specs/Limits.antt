-- The limits of the rules, each with the rule it comes from. The other files call them by these names.
use Rattle.std.specs.Prelude.{ℕ}

-- the text that is compiled: at most 16,384 bytes (number 1)
abbrev pub text_limit : ℕ
text_limit = 16384

-- names: at most 32 characters (number 3)
abbrev pub name_limit : ℕ
name_limit = 32

-- integers: 2147483648 at most, and that only after `-` in a constant (number 4)
abbrev pub integer_limit : ℕ
integer_limit = 2147483648

-- kind 1: 64 variables at most (number 9)
abbrev pub variable_limit : ℕ
variable_limit = 64

-- parentheses, and IF, CASE and loops together: nested 16 deep at most (number 10)
abbrev pub nesting_limit : ℕ
nesting_limit = 16

-- FOR: nested 8 deep at most (number 10); the machine has as many held finals
abbrev pub for_limit : ℕ
for_limit = 8

-- stack height: 32 at most (number 10); the machine's stack has as many values
abbrev pub stack_limit : ℕ
stack_limit = 32

-- kind 2: code of at most 8,192 bytes (number 13)
abbrev pub code_limit : ℕ
code_limit = 8192

-- worst case: an exact total over 4,000,000,000 gives the unbounded mark
abbrev pub worst_limit : ℕ
worst_limit = 4000000000

abbrev pub unbounded_mark : ℕ
unbounded_mark = 4294967295

-- working memory: the published length, in numbers of four bytes and in bytes (number 17)
abbrev pub memory_numbers : ℕ
memory_numbers = 262144

abbrev pub memory_bytes : ℕ
memory_bytes = 1048576

-- of these, the tokens take the first: three for each byte of the longest text and three for its end; the tree takes at most six for each token
abbrev pub token_numbers : ℕ
token_numbers = 49155

abbrev pub tree_numbers : ℕ
tree_numbers = 98310

-- the longest image: 64 variables, 8,192 bytes of code, and the third record, each with its four bytes of length and kind
abbrev pub image_limit : ℕ
image_limit = 8530
