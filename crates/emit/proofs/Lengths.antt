-- How many bytes the three records of an image have. Assumes nothing.
use mathlib.Core.Path.{◌≡◌, refl}
use mathlib.Core.List as L
use mathlib.Core.List.{[], ◌∷◌, ◌++◌}
use Prim.Native.Nat.{ℕ, ◌+◌, ◌*◌}
use native.Mathlib.Omega.{arith}
use lib.ListN.{length, length-append}
use Rattle.rules.specs.Bytes.{put2, put4, record_of}
use Rattle.rules.specs.Core.{List, Variable, Program}
use Rattle.rules.specs.Translation.{code_of, size_l}
use Rattle.rules.specs.Depth.{depth_l}
use Rattle.rules.specs.Worst.{worst_l, figure}
use Rattle.rules.specs.Image.{var_bytes, figure_bytes, image}
use Rattle.theorems.specs.Sizes.{code-length}
use Rattle.emit.specs.Records.{records}

-- a variable has five
pub variables-length : (vs : L.List Variable) → length (var_bytes vs) ≡ 5 * length vs
unfolding var_bytes put4
variables-length [] = refl
variables-length (v ∷ vs) = omega (arith, variables-length vs)

-- HALT is one more than the statements' code
pub code_of_length : (l : List) → length (code_of l) ≡ size_l l + 1
unfolding code_of
code_of_length l = code-length l

-- a record has four before its payload
record_length : (k : ℕ) (payload : L.List ℕ) → length (record_of k payload) ≡ 4 + length payload
unfolding record_of put2
record_length k payload = omega arith

-- depth and worst case are six
pub figures-length : (depth worst : ℕ) → length (figure_bytes depth worst) ≡ 6
unfolding figure_bytes put2 put4
figures-length depth worst = refl

-- all three
records-length : (vs : L.List Variable) (l : List) (depth worst : ℕ) → length (records vs l depth worst) ≡ 19 + 5 * length vs + size_l l
unfolding records
records-length vs l depth worst =
    let a = length-append (record_of 1 (var_bytes vs)) (record_of 2 (code_of l) ++ record_of 3 (figure_bytes depth worst)) in
    let b = length-append (record_of 2 (code_of l)) (record_of 3 (figure_bytes depth worst)) in
    let one = record_length 1 (var_bytes vs) in
    let two = record_length 2 (code_of l) in
    let three = record_length 3 (figure_bytes depth worst) in
    omega (arith, variables-length vs, code_of_length l, figures-length depth worst)

-- an image is these records, with the program's figures
pub image-records : (p : Program) → image p ≡ records p.vars p.body (depth_l p.body) (figure (worst_l p.body))
unfolding image records
image-records p = refl

-- so an image has as many
pub image-length : (p : Program) → length (image p) ≡ 19 + 5 * length p.vars + size_l p.body
image-length p = rw (image-records p) (records-length p.vars p.body (depth_l p.body) (figure (worst_l p.body)))
