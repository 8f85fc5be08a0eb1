-- An image that is accepted has room in the buffer. Assumes nothing.
use mathlib.Core.Path.{◌≡◌}
use mathlib.Core.List.{List}
use Prim.Native.Nat.{ℕ, ◌≤◌}
use lib.Dec.{leb}
use lib.ListN.{length}
use borrow.Author.Tests.{leb-true}
use Rattle.rules.specs.Limits.{code_limit}
use Rattle.rules.specs.Base.{ok, need}
use Rattle.rules.specs.Core.{Program}
use Rattle.rules.specs.Translation.{code_of}
use Rattle.rules.specs.Image.{image}
use Rattle.rules.specs.Compile.{accepted, compile}
use Rattle.rules.specs.CoreCells.{program_for}
use Rattle.theorems.specs.WellTyped.{inv, needed}
use Rattle.theorems.specs.Promise.{by_program}
use Rattle.emit.specs.Records.{finished}
use Rattle.emit.proofs.Emitted.{compiled-finished}

-- a program that is asked for its code and its room has room for its image
room : (capacity : ℕ) (text : List ℕ) (q p : Program) → finished capacity (length text) q ≡ ok p → length (image p) ≤ capacity
unfolding finished
room capacity text q p e =
    let c = inv (need (leb (length (code_of q.body)) code_limit) 13 (length text)) _ e in
    let i = inv (need (leb (length (image q)) capacity) 14 (length text)) _ c.2 in
    let given : ok q ≡ ok p = i.2 in
    let same : q ≡ p = cc in
    rw (← same) (leb-true (length (image q)) capacity (needed _ 14 (length text) i.0 i.1))

-- the image of an accepted text is no longer than the buffer
pub in_room : (lent capacity : ℕ) (text i : List ℕ) (c d w : ℕ) → compile lent capacity text ≡ accepted i c d w → length i ≤ capacity
in_room lent capacity text i c d w is = by_program lent capacity text i c d w is (λ i c d w. length i ≤ capacity)
    (λ p e. let q = inv (program_for lent text) (finished capacity (length text)) (rw (compiled-finished lent capacity text) at e) in room capacity text q.0 p q.2)
