use Rattle.std.proofs.Common.{◌≡◌, refl, ◌∙◌, arith}
use Rattle.rules.specs.Kinds.{BOOL, DINT}
use Rattle.walk.specs.Items.{taken_kind}
use Rattle.walk.proofs.KindTables.{through, taken_else}
use Rattle.walk.proofs.expressions.taken_kind.Goals as goal
use Rattle.walk.proofs.expressions.taken_kind.Goals.{in_default-via-then-code-lt16, in_default-via-else-code-lt16+else-code-lt18+else-code-lt21}

pub returns-in-16 : goal.returns-in-16
unfolding taken_kind
returns-in-16 c = through (λ k. c.args.left ≡ taken_kind k c.args.left) 16 2 (refl, (refl, tt)) c.args.code (omega arith) (omega arith)

pub returns-in-18 : goal.returns-in-18
unfolding taken_kind
returns-in-18 c = c.number.ensures ∙ through (λ k. BOOL ≡ taken_kind k c.args.left) 18 3 (refl, (refl, (refl, tt))) c.args.code (omega arith) (omega arith)

pub returns-in_default : goal.returns-in_default
returns-in_default c =
    let other : DINT ≡ taken_kind c.args.code c.args.left = elim c.in_default.branch [
      | in_default-via-then-code-lt16 w ↦ taken_else _ _ (λ e. omega arith) (λ e. omega arith) (λ e. omega arith) (λ e. omega arith) (λ e. omega arith)
      | in_default-via-else-code-lt16+else-code-lt18+else-code-lt21 w ↦ taken_else _ _ (λ e. omega arith) (λ e. omega arith) (λ e. omega arith) (λ e. omega arith) (λ e. omega arith)
    ] in
    c.number-in_default.ensures ∙ other
