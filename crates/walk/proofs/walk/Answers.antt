-- `walk::walk` meets its contract: a text that is not parsed, a program, a text that the walk refuses.
use Rattle.std.proofs.Common.{◌≡◌, refl, length, arith}
use Rattle.walk.proofs.Refusals.{passed_on}
use Rattle.walk.proofs.ParsedTree.{unparsed}
use Rattle.walk.proofs.WholeWalk.{ended, end_free, walk_left, walk-refuses}
use Rattle.walk.proofs.walk.Goals as goal

pub returns-in_err-parse : goal.returns-in_err-parse
returns-in_err-parse c =
    let u = unparsed c.args.text.now c.args.memory.now _ c.in_err-parse.ensures.means in
    rw (passed_on _ c.from_residual.ensures.1) (record { means = u.0; fits = u.1 })

pub overflow_sub-result : goal.overflow_sub-result
overflow_sub-result c =
    let ends = ended _ _ _ c.in_ok-parse.was (c.parse.ensures.means, c.parse.ensures.fits) c.in-Ok.ensures.means in
    (end_free _ _ refl ends).0

pub returns-in-Ok-clause-means : goal.returns-in-Ok-clause-means
returns-in-Ok-clause-means c =
    let ends = ended _ _ _ c.in_ok-parse.was (c.parse.ensures.means, c.parse.ensures.fits) c.in-Ok.ensures.means in
    -- behind the statements memory has its length
    let long : length c.program.new.memory ≡ length c.args.memory.now = omega arith in
    (walk_left _ _ refl long ends c.clear_around.ensures).0

pub returns-in-Ok-clause-fits : goal.returns-in-Ok-clause-fits
returns-in-Ok-clause-fits c =
    let ends = ended _ _ _ c.in_ok-parse.was (c.parse.ensures.means, c.parse.ensures.fits) c.in-Ok.ensures.means in
    let long : length c.program.new.memory ≡ length c.args.memory.now = omega arith in
    (walk_left _ _ refl long ends c.clear_around.ensures).1

pub returns-in-Err-clause-means : goal.returns-in-Err-clause-means
returns-in-Err-clause-means c =
    let ends = ended _ _ _ c.in_ok-parse.was (c.parse.ensures.means, c.parse.ensures.fits) c.in-Err.ensures.means in
    let long : length c.program.new.memory ≡ length c.args.memory.now = omega arith in
    walk-refuses c.in-Err.refusal long ends c.clear.ensures
