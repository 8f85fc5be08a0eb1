use Rattle.std.proofs.Common.{rules, ◌∙◌}
use Rattle.walk.proofs.Refusals.{passed_on}
use Rattle.walk.proofs.Rounds.{list_none}
use Rattle.walk.proofs.WholeWalk.{whole}
use Rattle.walk.proofs.program.Goals as goal

pub returns-in_err-names : goal.returns-in_err-names
returns-in_err-names c =
    let w = c.declarations.new.self in
    rw (passed_on _ c.from_residual.ensures.1) (record { means = whole w.memory.now _ 0 c.in_err-names.ensures.means (list_none _ _ _ _).1 c.declarations.ensures.keeps.lent (search rules) })

pub returns-in_err-list : goal.returns-in_err-list
returns-in_err-list c =
    let w = c.declarations.new.self in
    let lent = c.list.ensures.keeps.lent ∙ c.declarations.ensures.keeps.lent in
    rw (passed_on _ c.from_residual-in_err-list.ensures.1) (record { means = whole w.memory.now _ 0 c.in_ok-names.ensures.means c.in_err-list.ensures.walks.1 lent (search rules) })

pub returns : goal.returns
returns c =
    let w = c.declarations.new.self in
    let lent = c.list.ensures.keeps.lent ∙ c.declarations.ensures.keeps.lent in
    record { means = whole w.memory.now _ c.list.new.self.at c.in_ok-names.ensures.means c.in_ok-list.ensures.walks.1 lent (search rules) }
