use Rattle.rules.specs.declared.kinds.Kind.TheVariants.{Name, Int, True, False, Open, Unary, Binary}
use Rattle.rules.proofs.KindLaws.{two_kinds}
use Rattle.std.proofs.Common.{arith}
use Rattle.std.proofs.lemmas.Grind.{common_steps}
use Rattle.cells.specs.Reading.{is_item}
use Rattle.cells.proofs.cell.in_expression.Goals as goal

pub returns-in-Name : goal.returns-in-Name
unfolding is_item
returns-in-Name c = grind (arith, common_steps)

pub returns-in_default : goal.returns-in_default
unfolding is_item
returns-in_default c =
    let d = c.in_default in
    rw (
      two_kinds _ Name d.not-Name,
      two_kinds _ Int d.not-Int,
      two_kinds _ True d.not-True,
      two_kinds _ False d.not-False,
      two_kinds _ Open d.not-Open,
      two_kinds _ Unary d.not-Unary,
      two_kinds _ Binary d.not-Binary,
    )
