-- Where there is a next token its numbers lie before the free ones.
use Prim.Native.Nat.{◌+◌, ◌*◌, ◌≤◌}
use native.Mathlib.Omega.{arith}
use lib.ListN.{length, take, length-take, get_or-eq_default}
use lib.Seq.{get_or-take}
use Rattle.parse.specs.Steps.{token_at}
use Rattle.cells.specs.Laws.{zero_cell}
use Rattle.parse.proofs.parser.Parser.token.Goals as goal

pub returns-then-self : goal.returns-then-self
unfolding token_at
returns-then-self c =
    let p = c.args.self.now in
    let place = get_or-take (3 * p.count) p.memory.now (3 * p.next + 1) 0 (omega arith) in
    let datum = get_or-take (3 * p.count) p.memory.now (3 * p.next + 2) 0 (omega arith) in
    rw (get_or-take (3 * p.count) p.memory.now (3 * p.next) 0 (omega arith), place, datum)

pub returns : goal.returns
unfolding token_at
returns c =
    let p = c.args.self.now in
    let t = take (3 * p.count) p.memory.now in
    let short : length t ≤ 3 * p.next = rw length-take (omega arith) in
    let place = get_or-eq_default t 0 {n = 3 * p.next + 1} (omega arith) in
    let datum = get_or-eq_default t 0 {n = 3 * p.next + 2} (omega arith) in
    let d = c.default.ensures in
    rw (get_or-eq_default t 0 {n = 3 * p.next} short, place, datum) (zero_cell _ d.0 d.1.0 d.1.1)
