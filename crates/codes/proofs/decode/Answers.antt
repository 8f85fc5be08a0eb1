use mathlib.Core.Path.{sym, ap, ◌∙◌}
use Prim.Native.Nat.{ℕ, ◌+◌}
use lib.ListN.{drop, drop_of_length-le}
use Rattle.std.proofs.lemmas.List.{take_rest}
use Rattle.rules.specs.Codes.{decode_op, decode}
use Rattle.codes.proofs.Bytes.{decode_at}
use Rattle.codes.proofs.Table.{cut}
use Rattle.codes.proofs.decode.Goals as goal

pub returns-in_err-byte : goal.returns-in_err-byte
unfolding decode
returns-in_err-byte c = rw (c.from_residual.ensures, drop_of_length-le _ c.in_err-byte.ensures.lookup.3)

pub returns-then-rest-operands : goal.returns-then-rest-operands
returns-then-rest-operands c =
    let a = c.args in
    let byte = c.in_ok-byte.ensures.lookup.3 in
    sym (decode_at _ _ byte.0 ∙ cut _ _ (rw (take_rest a.code.now (a.at + 1), c.operands.ensures.0, byte.1 0) at c.if-rest-operands.true))

pub returns : goal.returns
returns c =
    let a = c.args in
    let byte = c.in_ok-byte.ensures.lookup.3 in
    (rw (take_rest a.code.now (a.at + 1)) at c.read.ensures)
    ∙ ap (λ (b : ℕ). decode_op b (drop (a.at + 1) a.code.now)) (byte.1 0)
    ∙ sym (decode_at _ _ byte.0)
