use Rattle.std.proofs.Common.{length}
use Rattle.scan.proofs.Nested.{Reading}
use Rattle.scan.proofs.comments.nested.Given as goal

abbrev pub invariant-loop-open : goal.invariant-loop-open
invariant-loop-open l = Reading l.text l.rest l.«open»

abbrev pub decreases-loop-open : goal.decreases-loop-open
decreases-loop-open l = length l.rest
