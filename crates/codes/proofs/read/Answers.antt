-- `codes::read` meets its contract: an arm rewrites with its key, then with its operands.
use mathlib.Core.Path.{sym, ◌∙◌}
use Prim.Native.Nat.{◌≤◌}
use native.Mathlib.Omega.{arith}
use lib.ListN.{get_or-eq_default}
use mir.Syntax.{w32}
use mir.Facts.{to_z-of_z}
use borrow.Author.Rules.{sfits_of}
use Rattle.rules.specs.Codes.{SPAN, FIRST, NEXT, BAD, readers, decode_op}
use Rattle.codes.proofs.Bytes.{byte_is, word_is, value_is, pair_is, loop_is}
use Rattle.codes.proofs.read.Goals as goal

pub returns-in-2 : goal.returns-in-2
unfolding decode_op readers
returns-in-2 c =
    let v = to_z-of_z {w = w32} (sfits_of c.value.type_inv) ∙ c.value.ensures in
    rw (c.in-2.is, v) (sym (value_is _ (rw c.in-2.is at c.requires) _))

pub returns-in-3 : goal.returns-in-3
unfolding decode_op readers
returns-in-3 c = rw (c.in-3.is, c.from.ensures) (sym (byte_is _ (rw c.in-3.is at c.requires) _))

pub returns-in-4 : goal.returns-in-4
unfolding decode_op readers
returns-in-4 c = rw (c.in-4.is, c.from-in-4.ensures) (sym (byte_is _ (rw c.in-4.is at c.requires) _))

pub returns-in-21 : goal.returns-in-21
unfolding decode_op readers
returns-in-21 c = rw (c.in-21.is, c.word.ensures.0) (sym (word_is _ (rw c.in-21.is at c.requires) _))

pub returns-in-22 : goal.returns-in-22
unfolding decode_op readers
returns-in-22 c = rw (c.in-22.is, c.word-in-22.ensures.0) (sym (word_is _ (rw c.in-22.is at c.requires) _))

pub returns-in-23 : goal.returns-in-23
unfolding decode_op readers
returns-in-23 c =
    let low = to_z-of_z {w = w32} (sfits_of c.value-in-23.type_inv) ∙ c.value-in-23.ensures in
    let high = to_z-of_z {w = w32} (sfits_of c.value-in-23-2.type_inv) ∙ c.value-in-23-2.ensures in
    rw (c.in-23.is, low, high) (sym (pair_is _ (rw c.in-23.is at c.requires) SPAN))

pub returns-in-24 : goal.returns-in-24
unfolding decode_op readers
returns-in-24 c = rw (c.in-24.is, c.word-in-24.ensures.0) (sym (word_is _ (rw c.in-24.is at c.requires) _))

pub returns-in-26 : goal.returns-in-26
unfolding decode_op readers
returns-in-26 c = rw (c.in-26.is, c.from-in-26.ensures) (sym (byte_is _ (rw c.in-26.is at c.requires) _))

pub returns-in-27 : goal.returns-in-27
unfolding decode_op readers
returns-in-27 c =
    let e = c.counted.ensures in
    rw (c.in-27.is, e.0, e.1, e.2, e.3) (sym (loop_is _ (rw c.in-27.is at c.requires) FIRST))

pub returns-in-28 : goal.returns-in-28
unfolding decode_op readers
returns-in-28 c =
    let e = c.counted-in-28.ensures in
    rw (c.in-28.is, e.0, e.1, e.2, e.3) (sym (loop_is _ (rw c.in-28.is at c.requires) NEXT))

pub returns-in-7-to-20 : goal.returns-in-7-to-20
returns-in-7-to-20 c = c.operator_of.ensures _

pub returns-in_default-2 : goal.returns-in_default-2
unfolding decode_op readers
returns-in_default-2 c =
    let past : 30 ≤ c.args.code = omega arith in
    rw (get_or-eq_default readers (λ r. BAD) past)
