use Rattle.image.proofs.Whole.{no_first, no_second, no_third}
use Rattle.image.proofs.three_records.Goals as goal

pub returns-in_err-one : goal.returns-in_err-one
returns-in_err-one c = rw c.from_residual.ensures (no_first _ c.in_err-one.ensures)

pub returns-in_err-two : goal.returns-in_err-two
returns-in_err-two c = rw c.from_residual-in_err-two.ensures (no_second _ c.in_ok-one.ensures c.in_err-two.ensures)

pub returns-in_err-three : goal.returns-in_err-three
returns-in_err-three c = rw c.from_residual-in_err-three.ensures (no_third _ c.in_ok-one.ensures c.in_ok-two.ensures c.in_err-three.ensures)
