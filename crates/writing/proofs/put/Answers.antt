use Rattle.std.proofs.Common.{arith}
use Rattle.writing.proofs.Buffers.{copied, put_out}
use Rattle.writing.proofs.put.Goals as goal
use Rattle.writing.proofs.put.Goals.{then-buffer-at-via-then-buffer-at, then-buffer-at-via-else-buffer-at+then-buffer-at-2}

pub returns-then-buffer-at : goal.returns-then-buffer-at
returns-then-buffer-at c =
    put_out _ _ _ (elim c.then-buffer-at.branch [ then-buffer-at-via-then-buffer-at w ↦ omega arith | then-buffer-at-via-else-buffer-at+then-buffer-at-2 w ↦ omega arith ])

pub returns : goal.returns
returns c = copied _ _ _ _ (omega arith) c.copy_from_slice.ensures.after
