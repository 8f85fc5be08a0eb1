use Rattle.scan.proofs.Reserved.{alike}
use Rattle.scan.proofs.words.same_word.Goals as goal

pub returns : goal.returns
returns c = alike _ _ _ c.eq_ignore_ascii_case.ensures.test
