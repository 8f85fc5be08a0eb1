use mathlib.Core.Path.{refl}
use native.Mathlib.Omega.{arith}
use borrow.Author.Tests.{le-ltb}
use Rattle.parse.specs.Steps.{skipped}
use Rattle.parse.proofs.Taking.{takes, misses}
use Rattle.parse.proofs.parser.Parser.take.Goals as goal

pub returns-then-not-is_at-clause-means : goal.returns-then-not-is_at-clause-means
returns-then-not-is_at-clause-means c = misses (omega arith) c.if-not-is_at.ensures (rw c.refusal.ensures refl)

pub returns-then-self-clause-means : goal.returns-then-self-clause-means
returns-then-self-clause-means c = takes (omega arith) c.if-not-is_at.ensures.0 c.skip.ensures.means

pub returns-else-self-clause-paid : goal.returns-else-self-clause-paid
returns-else-self-clause-paid c = λ one. let ahead = c.if-not-is_at.ensures.1 one in absurd (omega arith)

pub returns-else-self-clause-means : goal.returns-else-self-clause-means
unfolding skipped
returns-else-self-clause-means c = takes (omega arith) c.if-not-is_at.ensures.0 (rw (le-ltb _ _ c.if-self.false) (refl, refl))
