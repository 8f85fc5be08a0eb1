use Rattle.rules.specs.declared.kinds.Kind.TheVariants.{Name, Int, True, False, Unary, Binary}
use Rattle.emit.proofs.KindTests.{of_kind, of_three, not_kind, no_kind}
use Rattle.emit.proofs.ItemPuts.{item-value, item-slot, item-binary, item-unary, item-plus, item-none}
use Rattle.emit.proofs.codes.Code.item.Goals as goal

pub returns-in-Int-clause-puts : goal.returns-in-Int-clause-puts
returns-in-Int-clause-puts c = item-value _ _ (of_three c.kind.ensures c.in-Ok.is c.in-Int.is) c.constant.ensures.puts

pub returns-in-Name-clause-puts : goal.returns-in-Name-clause-puts
returns-in-Name-clause-puts c = item-slot _ _ (of_kind c.kind.ensures c.in-Ok.is Name c.in-Name.is) c.with_slot.ensures.puts

pub returns-in-Binary-clause-puts : goal.returns-in-Binary-clause-puts
returns-in-Binary-clause-puts c = item-binary _ _ (of_kind c.kind.ensures c.in-Ok.is Binary c.in-Binary.is) c.operator.ensures.puts

pub returns-then-cell-ne0-clause-puts : goal.returns-then-cell-ne0-clause-puts
returns-then-cell-ne0-clause-puts c = item-unary _ _ (of_kind c.kind.ensures c.in-Ok.is Unary c.in-Unary.is) c.if-cell-ne0.true c.operator-then-cell-ne0.ensures.puts

pub returns-else-cell-ne0-clause-puts : goal.returns-else-cell-ne0-clause-puts
returns-else-cell-ne0-clause-puts c = item-plus _ _ _ _ (of_kind c.kind.ensures c.in-Ok.is Unary c.in-Unary.is) c.if-cell-ne0.false

pub returns-in_default-kind-clause-puts : goal.returns-in_default-kind-clause-puts
returns-in_default-kind-clause-puts c =
    let no = c.in_default-kind in
    let other = not_kind c.kind.ensures c.in-Ok.is in
    item-none _ _ _ _ (other Int no.not-Int) (other True no.not-True) (other False no.not-False) (other Name no.not-Name) (other Binary no.not-Binary) (other Unary no.not-Unary)

pub returns-in_default-clause-puts : goal.returns-in_default-clause-puts
returns-in_default-clause-puts c = let none = no_kind c.kind.ensures c.in_default.is in item-none _ _ _ _ (none Int) (none True) (none False) (none Name) (none Binary) (none Unary)
