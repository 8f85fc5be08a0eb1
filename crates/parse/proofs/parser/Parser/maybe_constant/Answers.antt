use mathlib.Core.Path.{refl}
use mathlib.Core.Bool.{true}
use mathlib.Core.Option.{none, some}
use native.Mathlib.Omega.{arith}
use Rattle.rules.specs.Syntax.{con_bool, maybe}
use Rattle.rules.specs.Cells.{end_cell, maybe_cells}
use Rattle.parse.proofs.Follow.{begin, is, isn't, skips_on, bind, writes, gives}
use Rattle.parse.proofs.parser.Parser.maybe_constant.Goals as goal

pub returns-then-is_at-clause-means : goal.returns-then-is_at-clause-means
unfolding maybe maybe_cells
returns-then-is_at-clause-means c =
    begin
    (is (omega arith) _ _ _ c.if-is_at.ensures.0
    (skips_on (omega arith) c.skip.ensures.means
    (bind (omega arith) (con_bool 0 true) c.constant.ensures.means (λ e.
    gives (some e) refl))))

pub returns-clause-means : goal.returns-clause-means
unfolding maybe maybe_cells end_cell
returns-clause-means c =
    begin
    (isn't (omega arith) _ _ _ c.if-is_at.ensures
    (writes (omega arith) _ _ _ c.write.ensures.means
    (gives none refl)))
