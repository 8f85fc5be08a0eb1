use Rattle.std.proofs.Common.{rules, arith, ◌∙◌, sym}
use Rattle.std.proofs.lemmas.Iterator.{YieldsList-from_range}
use Rattle.std.proofs.lemmas.Iterator.Search.{all_from_yields_List}
use borrow.Author.Tests.{tests}
use Rattle.names.proofs.Letters.{alike, each_alike}
use Rattle.names.proofs.same.Goals as goal

pub returns : goal.returns
returns c =
    let a = c.args in
    all_from_yields_List (alike a.text.now a.a a.b) _ _ _ c.all.ensures.ran (YieldsList-from_range 0 a.length a.length (cc) (omega arith)) (λ x b q k. search (rules, tests))
    ∙ sym (each_alike a.text.now a.a a.b a.length)
