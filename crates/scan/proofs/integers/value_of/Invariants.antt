use Rattle.std.proofs.Common.{◌≡◌}
use Rattle.scan.proofs.Digits.{Reading}
use Rattle.scan.proofs.integers.value_of.Given as goal

abbrev pub invariant-loop-x : goal.invariant-loop-x
invariant-loop-x l = (l.length ≡ l.x-index) × Reading l.text l.base l.x-index l.value l.after_digit
