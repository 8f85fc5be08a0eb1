use Rattle.std.proofs.Common.{rules, arith, ◌∙◌, sym}
use Rattle.std.proofs.lemmas.Iterator.{YieldsList-from_range}
use Rattle.std.proofs.lemmas.Iterator.Adapters.{option_map_id}
use Rattle.std.proofs.lemmas.Iterator.Search.{find_from_yields_List}
use borrow.Author.Tests.{tests}
use Rattle.rules.specs.Base.{same}
use Rattle.names.specs.Rows.{spelling, row_at}
use Rattle.names.proofs.Rows.{first_row}
use Rattle.names.proofs.find.Goals as goal

pub returns : goal.returns
returns c =
    let a = c.args in
    sym (option_map_id _)
    ∙ find_from_yields_List (λ i. same (spelling a.text.now a.place a.length) (row_at a.text.now a.memory.now i).letters) _ _ c.find.result c.find.ensures.ran (YieldsList-from_range 0 a.count a.count (cc) (omega arith)) (λ x b q k. search (rules, tests))
    ∙ sym (first_row _ a.text.now a.memory.now 0 a.count)
