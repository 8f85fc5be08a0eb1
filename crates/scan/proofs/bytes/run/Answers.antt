use Rattle.std.proofs.Common.{sym, ◌∙◌, ap, take, rules, tests}
use Rattle.std.proofs.lemmas.Iterator.{YieldsList-from_slice}
use Rattle.std.proofs.lemmas.Iterator.Search.{YieldsList-from_take_while}
use Rattle.std.proofs.lemmas.Iterator.Consumers.{count_from_yields_List}
use Rattle.std.proofs.lemmas.List.Folds.{length-prefix_len}
use Rattle.scan.proofs.Runs.{run_taken}
use Rattle.scan.proofs.bytes.run.Goals as goal

pub returns : goal.returns
returns g c p h =
    let text = c.args.text.now in
    let length = count_from_yields_List c.take_while.result _ c.count-length.ensures.ran
    (YieldsList-from_take_while _ p (YieldsList-from_slice text (cc)) c.take_while.ensures.closure c.take_while.ensures.done
    (λ x b q k. search (rules, tests, h))) in
    ap (λ n. take n text) (length ∙ length-prefix_len p text) ∙ sym (run_taken p text)
