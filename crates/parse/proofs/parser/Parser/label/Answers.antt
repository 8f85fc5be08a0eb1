use mathlib.Core.Path.{refl}
use native.Mathlib.Omega.{arith}
use Rattle.parse.proofs.Follow.{refused}
use Rattle.parse.proofs.OneLabel.{low-refused, lone-read, ranged-read}
use Rattle.parse.proofs.parser.Parser.label.Goals as goal

pub returns-in_err-constant-clause-means : goal.returns-in_err-constant-clause-means
returns-in_err-constant-clause-means c = refused _ _ _ c.from_residual.ensures.1 (low-refused (omega arith) c.in_err-constant.ensures.means refl)

pub returns-then-not-is_at-clause-means : goal.returns-then-not-is_at-clause-means
returns-then-not-is_at-clause-means c = lone-read (omega arith) c.in_ok-constant.ensures.means c.if-not-is_at.ensures

pub returns-clause-means : goal.returns-clause-means
returns-clause-means c =
    ranged-read (omega arith) c.in_ok-constant.ensures.means c.if-not-is_at.ensures.0 c.skip.ensures.means c.write.ensures.means
    c.constant-2.ensures.means
