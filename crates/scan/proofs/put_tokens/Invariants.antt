-- The loop keeps that the tokens in memory and those of the rest of the text are the text's; the place passes a byte at least in each turn, and never the end.
use Rattle.std.proofs.Common.{◌-◌, length}
use Rattle.scan.proofs.Scanning.{Going}
use Rattle.scan.proofs.put_tokens.Given as goal

abbrev pub invariant-loop-place : goal.invariant-loop-place
invariant-loop-place l = Going l.text l.initial.memory l.memory l.place l.count

abbrev pub decreases-loop-place : goal.decreases-loop-place
decreases-loop-place l = length l.text - l.place
