-- The image of a text, or the refusal: what is asked of the core program that the walk left. Assumes nothing.
use mathlib.Core.Path.{◌≡◌, refl, ap, ◌∙◌}
use mathlib.Core.Bool.{Bool, true, false}
use mathlib.Core.List.{List}
use Prim.Native.Nat.{ℕ, ◌≤◌}
use native.Mathlib.Omega.{arith}
use lib.Dec.{leb}
use lib.ListN.{length, replicate, length-replicate}
use Rattle.rules.specs.Limits.{text_limit, memory_numbers, token_numbers, tree_numbers}
use Rattle.rules.specs.Base.{Res, ok, refuse, ◌>>=◌, need}
use Rattle.rules.specs.Core.{Program}
use Rattle.rules.specs.Depth.{depth_l}
use Rattle.rules.specs.Worst.{worst_l, figure}
use Rattle.rules.specs.Compile.{front, compiled, answer, compile, buffer_after}
use Rattle.rules.specs.CoreCells.{program_cells, program_for, program_left, walked}
use Rattle.std.specs.Prelude.{Result, Ok, Err}
use Rattle.rules.specs.Answers.{fault_number, answer_of, compiled_as, figured}
use Rattle.rules.specs.declared.compiling.Compiled.{Compiled}
use Rattle.rules.specs.declared.compiling.Refusal.{Refusal}
use Rattle.rules.specs.declared.compiling.Stated.{Stated}
use Rattle.theorems.specs.Promise.{front_fits}
use Rattle.cells.specs.Reading.{Lies}
use Rattle.figures.specs.Parts.{ProgramFits}
use Rattle.figures.proofs.Stated.{stored, passed}
use Rattle.emit.specs.Records.{finished, Finished}

-- compiling is the walk, and what is asked last
pub compiled-finished : (lent capacity : ℕ) (text : List ℕ) → compiled lent capacity text ≡ ◌>>=◌ (program_for lent text) (finished capacity (length text))
unfolding compiled program_for finished need ◌>>=◌
compiled-finished lent capacity text = by (leb memory_numbers lent) (leb (length text) text_limit) (front text)
  where
    last : Program → Res Program
    last = finished capacity (length text)

    by : (b c : Bool) (r : Res Program) → ◌>>=◌ (need b 17 0) (λ _. ◌>>=◌ (need c 1 text_limit) (λ _. ◌>>=◌ r last)) ≡ ◌>>=◌ (◌>>=◌ (need b 17 0) (λ _. ◌>>=◌ (need c 1 text_limit) (λ _. r))) last
    by true true (ok p) = refl
    by true true (refuse n q) = refl
    by true false r = refl
    by false c r = refl

-- the walk left the program
program-lies : (text lent m : List ℕ) (p : Program) → program_for (length lent) text ≡ ok p → length (program_cells p) ≤ tree_numbers → m ≡ (program_left (ok p) lent).memory → Lies m token_numbers (program_cells p)
unfolding program_left
program-lies text lent m p e fits same =
    let long = (passed (length lent) text p e).long in
    let n = length-replicate {A = ℕ} (length lent) 0 in
    rw same (stored (replicate (length lent) 0) token_numbers (program_cells p) (omega arith))

module _ (text lent m buffer : List ℕ) where
  -- the answer, and the buffer afterwards
  abbrev Emits : Result Compiled Refusal → List ℕ → Type 0
  Emits r buffer' = (answer_of r ≡ compiled_as (compile (length lent) (length buffer) text)) × (buffer' ≡ buffer_after (compile (length lent) (length buffer) text) buffer)

  -- what compiling answers, by what the walk answers
  by_walk : (o : Res Program) → program_for (length lent) text ≡ o → compile (length lent) (length buffer) text ≡ answer (◌>>=◌ o (finished (length buffer) (length text)))
  unfolding compile
  by_walk o e = ap answer (compiled-finished (length lent) (length buffer) text ∙ ap (λ r. ◌>>=◌ r (finished (length buffer) (length text))) e)

  -- a refusal of the walk
  refusal : (w : Refusal) (o : Res Program) → program_for (length lent) text ≡ o → refuse (fault_number w.fault) w.place ≡ figured o → Emits (Err w) buffer
  unfolding answer buffer_after ◌>>=◌
  refusal w (ok p) h e = let z : ◌≡◌ {A = ℕ} 0 1 = cc in absurd (omega arith)
  refusal w (refuse k r) h e =
      let a : fault_number w.fault ≡ k = cc in
      let b : w.place ≡ r = cc in
      rw (by_walk (refuse k r) h, a, b) (refl, refl)

  -- the walk refused: so does compiling, and the buffer stays as it was
  pub refused_emits : (w : Refusal) → (answer_of {A = Stated} (Err w) ≡ figured (program_for (length lent) text)) × ((m ≡ (walked text lent).memory) × ProgramFits (program_for (length lent) text))
      → (answer_of {A = Compiled} (Err w) ≡ compiled_as (compile (length lent) (length buffer) text)) × ((buffer ≡ buffer_after (compile (length lent) (length buffer) text) buffer) × (m ≡ (walked text lent).memory))
  refused_emits w did = let e = refusal w (program_for (length lent) text) refl did.0 in (e.0, (e.1, did.1.0))

  -- a program that the walk left
  accepting : (buffer' : List ℕ) (r : Result Compiled Refusal) (s : Stated) (o : Res Program) → program_for (length lent) text ≡ o → ProgramFits o → ok s ≡ figured o → m ≡ (program_left o lent).memory
      → Finished m (length text) s.depth s.worst buffer buffer' r → Emits r buffer'
  unfolding ◌>>=◌
  accepting buffer' r s (ok p) h fits e same did =
      let is : s ≡ record { depth = depth_l p.body; worst = figure (worst_l p.body) } = cc in
      rw (by_walk (ok p) h) (did p (front_fits text p (passed (length lent) text p h).fronted) (program-lies text lent m p h fits same) (ap (λ (x : Stated). x.depth) is) (ap (λ (x : Stated). x.worst) is))
  accepting buffer' r s (refuse n q) h fits e same did = let z : ◌≡◌ {A = ℕ} 0 1 = cc in absurd (omega arith)

  -- the walk left a program: what is asked of it last decides
  pub finished_emits : (buffer' : List ℕ) (r : Result Compiled Refusal) (s : Stated)
      → (answer_of (Ok s) ≡ figured (program_for (length lent) text)) × ((m ≡ (walked text lent).memory) × ProgramFits (program_for (length lent) text)) → Finished m (length text) s.depth s.worst buffer buffer' r
      → (answer_of r ≡ compiled_as (compile (length lent) (length buffer) text)) × ((buffer' ≡ buffer_after (compile (length lent) (length buffer) text) buffer) × (m ≡ (walked text lent).memory))
  unfolding walked
  finished_emits buffer' r s did finish =
      let e = accepting buffer' r s (program_for (length lent) text) refl did.1.1 did.0 did.1.0 finish in
      (e.0, (e.1, did.1.0))
