use native.Mathlib.Omega.{arith}
use borrow.Author.Rules.{rules}
use Rattle.rules.specs.Syntax.{declarations}
use Rattle.rules.specs.Cells.{decls_cells}
use Rattle.parse.proofs.Follow.{refused}
use Rattle.parse.proofs.Loops.{loops_start}
use Rattle.parse.proofs.Programs.{declares_more, declares-none, declared_all}
use Rattle.parse.proofs.parser.Parser.declarations.Goals as goal

pub loop-self-init : goal.loop-self-init
loop-self-init c = (search rules, loops_start decls_cells declarations 1 1 _ _)

pub loop-self-preserved : goal.loop-self-preserved
loop-self-preserved c = (search rules, declares_more (omega arith) c.loop-self.invariant.1 c.loop-self-test.ensures.0 c.in_ok-declaration.ensures.means (omega (arith, c.in_ok-declaration.ensures)))

pub returns-in_err-declaration-clause-means : goal.returns-in_err-declaration-clause-means
returns-in_err-declaration-clause-means c =
    let more = declares_more (omega arith) c.loop-self.invariant.1 c.loop-self-test.ensures.0 c.in_err-declaration.ensures.means (omega (arith, c.loop-self-test.ensures.1)) in
    λ f h. refused _ _ _ c.from_residual.ensures.1 (declares-none (omega arith) more f h)

pub returns-clause-means : goal.returns-clause-means
returns-clause-means c = declared_all (omega arith) c.loop-self.invariant.1 c.loop-self-test.ensures c.write.ensures.means
