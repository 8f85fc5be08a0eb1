use Rattle.std.proofs.Common.{sym, ◌∙◌, rules, arith}
use Rattle.rules.specs.Tokens.{comment_piece}
use Rattle.scan.specs.Pieces.{shown}
use Rattle.scan.proofs.Nested.{begins, opens, closes, passes, unclosed, closed}
use Rattle.scan.proofs.comments.nested.Goals as goal

pub loop-open-init : goal.loop-open-init
loop-open-init c = begins _ c.requires

pub loop-open-preserved-then-opens : goal.loop-open-preserved-then-opens
loop-open-preserved-then-opens c =
    opens c.loop-open.invariant c.loop-open-test.true (sym c.opens.ensures.value ∙ c.if-opens.true)

pub loop-open-preserved-then-closes : goal.loop-open-preserved-then-closes
loop-open-preserved-then-closes c =
    closes c.loop-open.invariant c.loop-open-test.true
    (sym c.opens.ensures.value ∙ c.if-opens.false)
    (sym c.closes.ensures.value ∙ c.if-closes.true)

pub returns-then-is_empty : goal.returns-then-is_empty
unfolding shown comment_piece
returns-then-is_empty c = rw (unclosed c.loop-open.invariant c.loop-open-test.true (search rules))

pub loop-open-preserved : goal.loop-open-preserved
loop-open-preserved c =
    passes c.loop-open.invariant c.loop-open-test.true
    (sym c.opens.ensures.value ∙ c.if-opens.false)
    (sym c.closes.ensures.value ∙ c.if-closes.false)
    (search rules)

pub returns : goal.returns
unfolding shown comment_piece
returns c = rw (closed c.loop-open.invariant (omega (arith, c.loop-open-test.false)))
