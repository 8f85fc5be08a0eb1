use mathlib.Core.Path.{sym}
use Rattle.variables.proofs.Values.{vars-length}
use Rattle.variables.proofs.count.Goals as goal

pub returns : goal.returns
returns c = sym (vars-length c.args.vars.now).0
