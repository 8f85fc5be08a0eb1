-- Where the next kind is not that of the end, there is a next token. Assumes nothing.
use mathlib.Core.Path.{◌≡◌, refl}
use mathlib.Core.Bool.{Bool, true, false}
use mathlib.Core.List.{List}
use Prim.Native.Nat.{ℕ, ◌*◌, ◌≤◌, ◌<◌}
use native.Mathlib.Omega.{arith}
use lib.Dec.{ltb}
use lib.ListN.{length, get_or, take, length-take, get_or-eq_default}
use borrow.Author.Tests.{ltb-true, ltb-false}
use Rattle.parse.specs.Steps.{token_at, kind_at, At}

pub some-ahead : (m : List ℕ) (n j a : ℕ) → 1 ≤ kind_at m (At n j a) → j < n
unfolding kind_at token_at
some-ahead m n j a h = go (ltb j n) refl
  where
    go : (b : Bool) → ltb j n ≡ b → j < n
    go true e = ltb-true j n e
    go false e =
        let le = ltb-false j n e in
        let short : length (take (3 * n) m) ≤ 3 * j = rw (length-take (3 * n) m) (omega arith) in
        let z : get_or (take (3 * n) m) (3 * j) 0 ≡ 0 = get_or-eq_default (take (3 * n) m) 0 short in
        absurd (omega arith)
