use Rattle.std.proofs.lemmas.Result.{err_from_is_err_and}
use Rattle.std.proofs.Common.{◌∙◌}
use Rattle.figures.specs.Parts.{part}
use Rattle.figures.proofs.Closings.{past_variables}
use Rattle.figures.proofs.Stated.{refused_states, left_states}
use Rattle.figures.proofs.figures.Goals as goal

pub returns-in_err-walk : goal.returns-in_err-walk
returns-in_err-walk c =
    let p = err_from_is_err_and c.from_residual.result c.from_residual.ensures.1 in
    let did = refused_states _ _ _ _ c.in_err-walk.ensures.means in
    rw (p.1, p.2) (record { means = did.0; leaves = did.1.0; fits = did.1.1 })

pub returns : goal.returns
returns c =
    let memory = c.new-reader.ensures.memory in
    let vars = past_variables (rw (memory, c.new-reader.ensures.at) at c.read_past.ensures.reads) in
    let list = rw (c.read_past.ensures.same ∙ memory) at c.list-all.ensures.means in
    let did = left_states _ _ _ _ _ _ (part c.list-all.new.reader.at c.list-all.result) (c.in_ok-walk.ensures.means, c.in_ok-walk.ensures.fits) vars list c.figure.ensures in
    record { means = did.0; leaves = did.1.0; fits = did.1.1 }
