-- The operators that the code finds among the next tokens, by the rules' table of them.
use Rattle.std.specs.Prelude.{ℕ, ◌≡◌, ◌≤◌, ◌<◌, Option, MatchOption}
use Rattle.rules.specs.Syntax.{operators, operator_of}
use Rattle.rules.specs.Codes.{bin_code}
use Rattle.parse.specs.Steps.{kind_ahead}
use Rattle.parse.specs.Parts.{prefix_code}
use Rattle.parse.specs.declared.expressions.Operator.{Operator}
use Rattle.parse.specs.declared.parser.Parser.{Parser}

-- the rules' level of the operator of this kind; 0 where the kind is none
abbrev pub level : ℕ → ℕ
level k = (operator_of k operators).level

-- the level and the code of the operator of this kind, if it is one
abbrev pub Operates : ℕ → Option Operator → Type 0
Operates k o = MatchOption o (level k ≡ 0) (λ x. (x.level ≡ level k) × (x.code ≡ bin_code (operator_of k operators).op) × (1 ≤ x.level) × (x.level ≤ 7))

-- this operator is next
abbrev pub OperatorAhead : Parser → Operator → Type 0
OperatorAhead p x = (x.level ≡ level (kind_ahead p)) × (x.code ≡ bin_code (operator_of (kind_ahead p) operators).op) × (x.level ≤ 7) × (p.next < p.count)

-- the operator that is next, if it is of this level or a tighter one
abbrev pub Binds : Parser → ℕ → Option Operator → Type 0
Binds p least o = MatchOption o (level (kind_ahead p) < least) (λ x. OperatorAhead p x × (least ≤ x.level))

-- the code of the operator before an operand, if this kind is one
abbrev pub Signs : ℕ → Option ℕ → Type 0
Signs k o = MatchOption o (prefix_code k ≡ 1) (λ code. (prefix_code k ≡ code) × (code ≡ 1 → ⊥))

-- the same of the next token
abbrev pub Signed : Parser → Option ℕ → Type 0
Signed p o = MatchOption o (prefix_code (kind_ahead p) ≡ 1) (λ code. (prefix_code (kind_ahead p) ≡ code) × (code ≡ 1 → ⊥) × (p.next < p.count))
