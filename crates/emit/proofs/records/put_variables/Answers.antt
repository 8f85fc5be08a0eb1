use mathlib.Core.Path.{refl, ◌∙◌}
use native.Mathlib.Omega.{arith}
use mir.Syntax.{w32}
use mir.Facts.{to_z-of_z}
use borrow.Author.Rules.{sfits_of}
use Rattle.emit.proofs.VariableCells.{write-starts, writes_one, writes_all}
use Rattle.emit.proofs.records.put_variables.Goals as goal

pub loop-k-init : goal.loop-k-init
loop-k-init c = record { core = c.new-from.ensures.memory; same = refl; written = λ vs d l room count. rw c.new-from.ensures.at (write-starts d l) }

pub loop-k-preserved : goal.loop-k-preserved
loop-k-preserved c =
    let i = c.loop-k.invariant in
    record {
      core = c.read-variable.ensures.same ∙ i.core;
      same = c.put_variable.auto.buffer ∙ i.same;
      written = λ vs d l room few.
          writes_one (omega arith) (rw i.core at c.read-variable.ensures.gives) (to_z-of_z {w = w32} (sfits_of c.signed.type_inv) ∙ c.signed.ensures) c.type_of-kind.ensures c.put_variable.ensures.1
          (rw i.core at c.read-variable.ensures.moves) (omega arith) i.same room (i.written vs d l room few);
    }

pub returns : goal.returns
returns c = λ vs count d l room. writes_all (omega arith) (c.loop-k.invariant.written vs d l room count)
