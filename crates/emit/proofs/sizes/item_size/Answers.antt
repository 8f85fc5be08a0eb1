use Rattle.std.proofs.Common.{sym}
use Rattle.rules.specs.declared.kinds.Kind.TheVariants.{Name, Int, True, False, Unary, Binary}
use Rattle.rules.proofs.KindLaws.{two_kinds}
use Rattle.emit.specs.Sizes.{item_size}
use Rattle.emit.proofs.sizes.item_size.Goals as goal

pub returns-in_default-kind : goal.returns-in_default-kind
unfolding item_size
returns-in_default-kind c =
    let d = c.in_default-kind in
    rw (
      sym c.in-Ok.ensures,
      two_kinds _ Int d.not-Int,
      two_kinds _ True d.not-True,
      two_kinds _ False d.not-False,
      two_kinds _ Name d.not-Name,
      two_kinds _ Binary d.not-Binary,
      two_kinds _ Unary d.not-Unary,
    )
