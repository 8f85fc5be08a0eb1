-- What `put` of `codes` comes to: bytes that are too far out, too many, or for which there is no room are not put. Assumes nothing.
use mathlib.Core.Path.{◌≡◌, refl, ◌∙◌}
use mathlib.Core.Bool.{Bool, true, false, ◌&&◌}
use mathlib.Core.List.{List}
use Prim.Native.Nat.{ℕ, ◌+◌, ◌≤◌}
use lib.ListN.{length}
use borrow.Author.Tests.{leb-true}
use Rattle.writing.specs.Puts.{fits, put_at}
use Rattle.emit.specs.Places.{may_put, code_put, behind_put, Writes}

all_three : (a b c : Bool) → (a && b && c) ≡ true → (a ≡ true) × ((b ≡ true) × (c ≡ true))
all_three true true true e = (refl, (refl, refl))
all_three true true false e = cc
all_three true false c e = cc
all_three false b c e = cc

-- where there is room, the bytes are few, not far out, and fit
pub room : (code : List ℕ) (at : ℕ) (bytes : List ℕ) → may_put code at bytes ≡ true → (at ≤ 16384) × ((length bytes ≤ 16) × (fits code at bytes ≡ true))
unfolding may_put
room code at bytes h =
    let a = all_three _ _ _ h in
    (leb-true at 16384 a.0, (leb-true (length bytes) 16 a.1.0, a.1.1))

-- all of them are put, or none
pub put_done : (code code' : List ℕ) (at : ℕ) (bytes : List ℕ) → may_put code at bytes ≡ true → code' ≡ put_at code at bytes → Writes code code' at bytes (at + length bytes)
unfolding code_put behind_put put_at
put_done code code' at bytes h tried = let f = (room code at bytes h).1.1 in (rw h, tried ∙ rw (h, f))

pub put_none : (code : List ℕ) (at : ℕ) (bytes : List ℕ) → may_put code at bytes ≡ false → Writes code code at bytes at
unfolding code_put behind_put
put_none code at bytes h = (rw h, rw h)
