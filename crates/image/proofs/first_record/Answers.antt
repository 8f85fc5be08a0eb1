use Rattle.image.proofs.Reading.{cut_head, cut_payload, whole}
use Rattle.image.proofs.first_record.Goals as goal

pub returns-in_err-head : goal.returns-in_err-head
returns-in_err-head c = rw c.from_residual.ensures (cut_head _ c.in_err-head.ensures.cases)

pub returns-in_err-payload : goal.returns-in_err-payload
returns-in_err-payload c =
    let h = c.in_ok-head.ensures.cases in
    rw c.from_residual-in_err-payload.ensures (cut_payload _ h.0 h.1 h.2 c.word_of.ensures.0 c.in_err-payload.ensures.cases)

pub returns : goal.returns
returns c =
    let h = c.in_ok-head.ensures.cases in
    let g = c.in_ok-payload.ensures.cases in
    whole _ h.0 h.1 h.2 c.word_of.ensures.0 c.word_of-2.ensures.0 g.0 g.1 g.2
