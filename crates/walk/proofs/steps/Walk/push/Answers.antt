-- `Walk::push` meets its contract: its two stores are the operand's.
use Rattle.std.proofs.Common.{refl, ◌+◌, length, length-set, arith}
use Rattle.std.proofs.lemmas.Bool.{le-leb, lt-leb}
use native.Mathlib.Numerals.{add-one}
use Rattle.walk.specs.Operands.{pushed, pushed_to}
use Rattle.walk.proofs.steps.Walk.push.Goals as goal

pub returns-then-self-lt2 : goal.returns-then-self-lt2
unfolding pushed pushed_to
returns-then-self-lt2 c =
    let none = lt-leb (c.args.self.now.top + 2) (length c.args.self.now.memory.now) (omega arith) in
    record { lent = refl; numbers = rw none; long = refl; step = refl; top = rw none }

pub returns-then-i-self : goal.returns-then-i-self
unfolding pushed pushed_to
returns-then-i-self c =
    let room = le-leb (c.args.self.now.top + 2) (length c.args.self.now.memory.now) (omega arith) in
    record { lent = refl; numbers = rw (room, c.number_of.ensures, add-one); long = simp length-set; step = refl; top = rw room }

pub returns-else-i-self : goal.returns-else-i-self
unfolding pushed pushed_to
returns-else-i-self c =
    let none = lt-leb (c.args.self.now.top + 2) (length c.args.self.now.memory.now) (omega arith) in
    record { lent = refl; numbers = rw none; long = refl; step = refl; top = rw none }
