-- What compiling asks last of a core program: 13 for its code, 14 for the room, or its image is written. Assumes nothing.
use mathlib.Core.Path.{◌≡◌, refl, ap, ◌∙◌}
use mathlib.Core.List as L
use mathlib.Core.List.{◌++◌}
use Prim.Native.Nat.{ℕ, ◌+◌, ◌*◌, ◌%◌, ◌≤◌, ◌<◌}
use native.Mathlib.Nat.{zero-add}
use native.Mathlib.Omega.{arith}
use lib.ListN.{length, drop}
use lib.Seq.{sets, sets-eq}
use borrow.Author.Tests.{le-leb, lt-leb}
use Rattle.rules.specs.Limits.{code_limit, token_numbers, nesting_limit}
use Rattle.rules.specs.Base.{ok, refuse, ◌>>=◌, need}
use Rattle.rules.specs.Core.{Program}
use Rattle.rules.specs.Translation.{code_of, size_l}
use Rattle.rules.specs.Depth.{depth_l}
use Rattle.rules.specs.Worst.{worst_l, figure}
use Rattle.rules.specs.Image.{image}
use Rattle.rules.specs.Compile.{answer, buffer_after}
use Rattle.rules.specs.CoreCells.{variable_cells, body_cells, program_cells}
use Rattle.std.specs.Prelude.{Ok, Err}
use Rattle.rules.specs.declared.compiling.Fault.TheVariants.{LongCode, ShortBuffer}
use Rattle.theorems.specs.Promise.{Fronted}
use Rattle.cells.specs.Reading.{Lies}
use Rattle.cells.specs.Laws.{lies_first, lies_rest}
use Rattle.emit.specs.Sizes.{capped, ListSize}
use Rattle.emit.specs.Records.{VariablesMean, Writable, ImageWritten, finished, Finished}
use Rattle.emit.specs.Records.{Variables}
use Rattle.emit.specs.Sizes.{Sized}
use Rattle.emit.proofs.Lengths.{code_of_length, image-records, image-length}

-- The answers

module _ (capacity end : ℕ) (p : Program) where
  -- the code is too long
  asked_13 : 8191 < size_l p.body → finished capacity end p ≡ refuse 13 end
  unfolding finished need ◌>>=◌
  asked_13 h = let n = code_of_length p.body in rw (lt-leb (length (code_of p.body)) code_limit (omega arith))

  -- the image has no room
  asked_14 : size_l p.body ≤ 8191 → capacity < length (image p) → finished capacity end p ≡ refuse 14 end
  unfolding finished need ◌>>=◌
  asked_14 h k = let n = code_of_length p.body in rw (le-leb (length (code_of p.body)) code_limit (omega arith), lt-leb (length (image p)) capacity k)

  -- nothing is left to ask
  asked_all : size_l p.body ≤ 8191 → length (image p) ≤ capacity → finished capacity end p ≡ ok p
  unfolding finished need ◌>>=◌
  asked_all h k = let n = code_of_length p.body in rw (le-leb (length (code_of p.body)) code_limit (omega arith), le-leb (length (image p)) capacity k)

-- what is written from the start on, and what stays behind it
sets_front : (xs buffer : L.List ℕ) → length xs ≤ length buffer → sets buffer 0 xs ≡ xs ++ drop (length xs) buffer
sets_front xs buffer h = rw zero-add at (sets-eq xs buffer 0 (omega arith))

-- how the program lies, its variables counted and its code's size read
record Sizing (m : L.List ℕ) (v : Variables) (read : ℕ) (p : Program) : Type 0 where
  vars : Lies m token_numbers (variable_cells p.vars)
  body : Lies m v.at (body_cells p.body)
  count : v.count ≡ length p.vars
  size : read ≡ capped (size_l p.body)

module _ (m buffer : L.List ℕ) (v : Variables) (s : Sized) (variables : VariablesMean m v) (list : ListSize m v.at nesting_limit s) (end depth worst : ℕ) where
  -- so it is where it lies behind the tokens
  sizing : (p : Program) → Fronted p → Lies m token_numbers (program_cells p) → Sizing m v s.size p
  unfolding program_cells
  sizing p f l =
      let vars = lies_first (variable_cells p.vars) (body_cells p.body) l in
      let read = variables p.vars f.walked.declared.few vars in
      let body : Lies m v.at (body_cells p.body) = rw read.0 (lies_rest (variable_cells p.vars) (body_cells p.body) l) in
      record { vars = vars; body = body; count = read.1; size = ap (λ (z : Sized). z.size) (list p.body body f.nests) }

  -- 13
  pub refused_13 : 8191 < s.size → Finished m end depth worst buffer buffer (Err (record { fault = LongCode; place = end }))
  unfolding capped answer buffer_after
  refused_13 long p f l d w =
      let z = (sizing p f l).size in
      rw (asked_13 (length buffer) end p (omega arith)) (refl, refl)

  -- 14
  pub refused_14 : s.size ≤ 8191 → length buffer < 19 + 5 * v.count + s.size → Finished m end depth worst buffer buffer (Err (record { fault = ShortBuffer; place = end }))
  unfolding capped answer buffer_after
  refused_14 short room p f l d w =
      let z = sizing p f l in
      let size = z.size in
      let count = z.count in
      let n = image-length p in
      rw (asked_14 (length buffer) end p (omega arith) (omega arith)) (refl, refl)

  module _ (total : ℕ) (buffer' : L.List ℕ) (short : s.size ≤ 8191) (sum : total ≡ 19 + 5 * v.count + s.size) (room : total ≤ length buffer)
      (written : ImageWritten v s.size (depth % 65536) worst m buffer buffer') (p : Program) (f : Fronted p) (l : Lies m token_numbers (program_cells p)) where
    -- a size that is short enough is the code's
    exact : s.size ≡ size_l p.body
    unfolding capped
    exact = let size = (sizing p f l).size in omega arith

    -- and the total is the image's
    whole : total ≡ length (image p)
    whole = let n = image-length p in let e = exact in let c = (sizing p f l).count in omega arith

    -- the image stands at the front
    buffered : depth ≡ depth_l p.body → worst ≡ figure (worst_l p.body) → buffer' ≡ image p ++ drop (length (image p)) buffer
    buffered d w =
        let z = sizing p f l in
        let e = exact in
        let deep = f.walked.deep in
        let fit : Writable p.body = record { fits = f.walked.fits; fors = f.fors; nests = f.nests; short = omega arith } in
        let figures : depth % 65536 ≡ depth_l p.body = omega arith in
        let k = whole in
        written p.vars p.body f.walked.declared fit z.vars z.body z.count e
        ∙ rw (figures, w, ← (image-records p)) (sets_front (image p) buffer (omega arith))

  -- the image is written
  pub written_whole : (total code : ℕ) (buffer' : L.List ℕ) → s.size ≤ 8191 → total ≡ 19 + 5 * v.count + s.size → total ≤ length buffer → code ≡ s.size + 1
      → ImageWritten v s.size (depth % 65536) worst m buffer buffer' → Finished m end depth worst buffer buffer' (Ok (record { image = total; code = code; depth = depth; worst = worst }))
  unfolding answer buffer_after
  written_whole total code buffer' short sum room coded written p f l d w =
      let k = whole total buffer' short sum room written p f l in
      let e = exact total buffer' short sum room written p f l in
      let b = buffered total buffer' short sum room written p f l d w in
      let n = code_of_length p.body in
      let bytes : code ≡ length (code_of p.body) = omega arith in
      rw (asked_all (length buffer) end p (omega arith) (omega arith))
      (rw (k, bytes, d, w), b)
