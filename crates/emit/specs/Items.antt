-- The bytes of the code of one cell of an expression: an operand's value or slot, an operator's code; unary plus and parentheses give nothing.
use Rattle.std.specs.Prelude.{◌||◌, List, [], ◌∷◌, ℕ, ◌%◌, eqb}
use Rattle.rules.specs.Base.{pick}
use Rattle.rules.specs.Bytes.{put4}
use Rattle.rules.specs.Kinds.{NAME, INT, TRUE, FALSE}
use Rattle.rules.specs.Cells.{UNARY, BINARY}

unfoldable pub item_bytes : ℕ → ℕ → List ℕ
item_bytes tag datum =
    pick (eqb tag INT || eqb tag TRUE || eqb tag FALSE) (λ _. 2 ∷ put4 datum []) (λ _.
    pick (eqb tag NAME) (λ _. 3 ∷ (datum % 256) ∷ []) (λ _.
    pick (eqb tag BINARY) (λ _. (datum % 256) ∷ []) (λ _.
    pick (eqb tag UNARY) (λ _. pick (eqb datum 0) (λ _. []) (λ _. (datum % 256) ∷ [])) (λ _. []))))
