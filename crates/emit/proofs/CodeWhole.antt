-- The code of all statements and HALT behind it are the code of the program. Assumes nothing.
use mathlib.Core.Path.{refl}
use mathlib.Core.List as L
use mathlib.Core.List.{[], ◌∷◌, append-nil}
use Prim.Native.Nat.{ℕ}
use native.Mathlib.Omega.{arith}
use Rattle.rules.specs.Codes.{HALT, enc, enc_all}
use Rattle.rules.specs.Translation.{size_l, prog, code_of}
use Rattle.theorems.specs.Sizes.{code-length}
use Rattle.emit.specs.Places.{Put, Writes, ListCode}
use Rattle.emit.specs.Records.{CodeWritten}
use Rattle.emit.specs.Places.{Place}
use Rattle.emit.proofs.Writing.{puts, wrote_put}
use Rattle.emit.proofs.Following.{list_on}

put_halt : {code code' : L.List ℕ} {at r : ℕ} → Writes code code' at (29 ∷ []) r → Put (enc_all (HALT ∷ [])) code code' at r
unfolding enc_all enc
put_halt w = puts (29 ∷ []) (omega arith) w

-- the statements' code from offset 0 on, then HALT, where EXIT outside every loop leads
pub code_whole : {m code code₁ code₂ : L.List ℕ} {at size last : ℕ} {end : Place}
    → ListCode (record { exit = size; fors = 0; levels = 16 }) m code code₁ (record { at = at; code = 0 }) end → Writes code₁ code₂ end.code (29 ∷ []) last
    → CodeWritten m code code₂ at size
unfolding code_of prog
code_whole {m} {size = size} w h l f lies e room =
    let n = code-length l in
    let short = f.short in
    let fors = f.fors in
    let all = list_on {around = record { exit = size; fors = 0; levels = 16 }} l 0 (size_l l) 0 (HALT ∷ []) f.fits record { exit = omega arith; fors = omega arith; nest = f.nests } w refl e refl (λ e₁ lies₁. wrote_put m (put_halt h)) in
    (all.wrote (rw append-nil lies) (omega arith) (omega arith)).2
