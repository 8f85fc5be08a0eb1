use Rattle.compile.proofs.Clearing.{clears}
use Rattle.compile.proofs.Evaluating.{fits}
use Rattle.compile.proofs.compile.Goals as goal

pub returns : goal.returns
returns c =
    let f = c.emit-answer.ensures in
    record {
      means = f.means;
      fits = rw c.emit-answer.auto.image (fits _ _ _ _ f.means);
      writes = f.writes;
      clears = clears _ _ _ _ _ _ f.means f.leaves c.clear.ensures;
    }
