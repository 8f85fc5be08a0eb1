-- What the rules' table of operators says of a kind. Assumes nothing.
use Rattle.std.specs.Prelude.{Option, Some, None, Ok}
use mathlib.Core.Path.{◌≡◌, refl, sym, ◌∙◌}
use mathlib.Core.List.{List, [], ◌∷◌}
use Prim.Native.Nat.{ℕ, zero, suc, ◌≤◌, ◌<◌}
use native.Mathlib.Omega.{arith}
use borrow.Author.Tests.{ne_eqb}
use Rattle.rules.specs.Kinds.{NOT, PLUS, MINUS}
use Rattle.rules.specs.KindNumbers.{kind_number}
use Rattle.rules.specs.Cells.{WHOLE}
use Rattle.rules.specs.Syntax.{Operator, operator, operators, operator_of}
use Rattle.rules.specs.declared.kinds.Kind.{Kind}
use Rattle.parse.specs.Operators.{level, Operates, Binds, Signs, Signed}
use Rattle.parse.specs.Parts.{prefix_code}
use Rattle.parse.specs.Steps.{Meets}
use Rattle.parse.specs.declared.expressions.Operator as Code
use Rattle.parse.specs.declared.parser.Parser.{Parser}

-- the kind is none of these operators'
abbrev Missing : ℕ → List Operator → Type 0
Missing k [] = Unit {0}
Missing k (o ∷ os) = (k ≡ o.kind → ⊥) × Missing k os

-- such a kind has level 0
none : (k : ℕ) (os : List Operator) → Missing k os → (operator_of k os).level ≡ 0
unfolding operator_of operator
none k [] m = refl
none k (o ∷ os) m = rw (ne_eqb k o.kind m.0) (none k os m.1)

-- a number that no kind has is no operator's
pub no-operator : (k : ℕ) → WHOLE < k → level k ≡ 0
unfolding operators operator
no-operator k h = none k operators (grind arith)

-- the end of the tokens is no operator
operator-ahead : (k : ℕ) → 1 ≤ level k → 1 ≤ k
unfolding operator_of operators operator
operator-ahead zero h = absurd (omega arith)
operator-ahead (suc k) h = omega arith

-- an operator of the level or a tighter one is next
pub binds : (p : Parser) (kind : Kind) (x : Code.Operator) {least : ℕ} → Meets p (Ok kind) → Operates (kind_number kind) (Some x) → least ≤ x.level → Binds p least (Some x)
binds p kind x m o h = rw m.0.0 ((o.0, o.1, o.3, m.0.1 (operator-ahead _ (omega (arith, o.0, o.2)))), h)

-- a number that no kind has is no sign's
pub no-sign : (k : ℕ) → WHOLE < k → prefix_code k ≡ 1
unfolding prefix_code
no-sign k h = rw (ne_eqb k MINUS (λ e. omega arith), ne_eqb k PLUS (λ e. omega arith), ne_eqb k NOT (λ e. omega arith))

-- the end of the tokens is no sign
sign-ahead : (k : ℕ) → (prefix_code k ≡ 1 → ⊥) → 1 ≤ k
unfolding prefix_code
sign-ahead zero h = absurd (h refl)
sign-ahead (suc k) h = omega arith

-- the sign that is next
pub signed : (p : Parser) (kind : Kind) (o : Option ℕ) → Meets p (Ok kind) → Signs (kind_number kind) o → Signed p o
signed p kind None m e = rw m.0.0 e
signed p kind (Some code) m e = rw m.0.0 (e.0, e.1, m.0.1 (sign-ahead _ (λ q. e.1 (sym e.0 ∙ q))))
