-- std's capital of a byte is the rules'.
use Rattle.std.proofs.Common.{◌≡◌, ℕ, arith}
use Rattle.std.proofs.lemmas.Bool.Decides.{nat_tests}
use Rattle.std.specs.Char.{to_ascii_uppercase}
use Rattle.rules.specs.Tokens.{within, is_small, upper}

pub capital : (x : ℕ) → to_ascii_uppercase x ≡ upper x
unfolding upper is_small within
capital x = grind (arith, nat_tests)
