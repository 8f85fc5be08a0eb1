use Rattle.compile.proofs.Evaluating.{refused-tells, run-tells}
use Rattle.compile.proofs.compile_and_run.Goals as goal

pub returns-in-Ok : goal.returns-in-Ok
returns-in-Ok c =
    let k = c.in-Ok.ensures in
    let told = run-tells _ _ _ _ _ _ _ _ _ c.run-report.result k.means k.writes c.run-report.ensures in
    record { means = told.0; stores = told.1; writes = k.writes; clears = k.clears }

pub returns-in-Err : goal.returns-in-Err
returns-in-Err c =
    let k = c.in-Err.ensures in
    let told = refused-tells _ _ _ _ _ c.args.table.now k.means in
    record { means = told.0; stores = told.1; writes = k.writes; clears = k.clears }
