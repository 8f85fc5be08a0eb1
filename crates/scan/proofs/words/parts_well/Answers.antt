use Rattle.std.proofs.Common.{sym, ◌∙◌, rules, tests}
use Rattle.std.proofs.lemmas.Iterator.Search.{any_from_yields_List}
use Rattle.scan.proofs.Parts.{YieldsList-from_pairs, doubled, parted}
use Rattle.scan.proofs.words.parts_well.Goals as goal

pub returns-then-not-ends_with : goal.returns-then-not-ends_with
returns-then-not-ends_with c =
    let word = c.args.word.now in
    let any = any_from_yields_List doubled _ _ c.any.result c.any.ensures.ran (YieldsList-from_pairs word (cc) (cc)) (λ x b q k. search (rules, tests)) in
    rw (any, ← parted word, sym c.ends_with.ensures.value ∙ c.if-not-ends_with.true)

pub returns-else-not-ends_with : goal.returns-else-not-ends_with
returns-else-not-ends_with c = rw (c.if-not-ends_with.false, ← parted c.args.word.now, sym c.ends_with.ensures.value ∙ c.if-not-ends_with.false)
