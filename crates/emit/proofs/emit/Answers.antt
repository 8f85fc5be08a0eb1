use Rattle.std.proofs.lemmas.Result.{err_from_is_err_and}
use Rattle.emit.proofs.Emitted.{refused_emits, finished_emits}
use Rattle.emit.proofs.emit.Goals as goal

pub returns-in_err-stated : goal.returns-in_err-stated
returns-in_err-stated c =
    let p = err_from_is_err_and c.from_residual.result c.from_residual.ensures.1 in
    let stated = c.in_err-stated.ensures in
    let did = refused_emits _ _ _ c.args.image.now _ (stated.means, (stated.leaves, stated.fits)) in
    rw (p.1, p.2) (record { means = did.0; writes = did.1.0; leaves = did.1.1 })

pub returns : goal.returns
returns c =
    let stated = c.in_ok-stated.ensures in
    let did = finished_emits _ _ _ c.args.image.now _ c.finish.result _ (stated.means, (stated.leaves, stated.fits)) c.finish.ensures in
    record { means = did.0; writes = did.1.0; leaves = did.1.1 }
