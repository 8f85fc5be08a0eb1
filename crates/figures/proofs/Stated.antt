-- The core program that the walk leaves of a text, and its figures. Assumes nothing.
use mathlib.Core.Path.{◌≡◌, refl, ap, ◌∙◌}
use mathlib.Core.List.{List, ◌++◌, append_assoc}
use Prim.Native.Nat.{ℕ, ◌+◌, ◌≤◌}
use native.Mathlib.Omega.{arith}
use lib.ListN.{length, drop, take, replicate, length-replicate}
use lib.Seq.{sets, sets-eq, length-sets, length-take-le, drop_at}
use borrow.Author.Tests.{leb-true}
use Rattle.rules.specs.Limits.{memory_numbers, token_numbers, tree_numbers, nesting_limit}
use Rattle.rules.specs.Base.{Res, ok, refuse, need}
use Rattle.rules.specs.Core.{Program}
use Rattle.rules.specs.Depth.{depth_l}
use Rattle.rules.specs.Worst.{worst_l, figure}
use Rattle.rules.specs.Compile.{front}
use Rattle.rules.specs.Cells.{Lent, refused_lent}
use Rattle.rules.specs.CoreCells.{variable_cells, body_cells, program_cells, program_for, program_left, walked}
use Rattle.std.specs.Prelude.{Ok as Left, Err as Refused}
use Rattle.rules.specs.Answers.{fault_number, answer_of, left, figured}
use Rattle.rules.specs.declared.compiling.Refusal.{Refusal}
use Rattle.rules.specs.declared.compiling.Stated.{Stated}
use Rattle.theorems.specs.WellTyped.{inv, needed}
use Rattle.theorems.specs.Promise.{front_fits}
use Rattle.ticks.specs.Bounds.{bound_of, cut}
use Rattle.ticks.specs.Laws.{figure_cut}
use Rattle.cells.specs.Reading.{Lies}
use Rattle.cells.specs.Laws.{lies_first, lies_rest}
use Rattle.figures.proofs.Closings.{VariablesMean}
use Rattle.figures.specs.Parts.{Part, shown, ListMeans, ProgramFits}

-- what is stored lies there
pub stored : (l : List ℕ) (i : ℕ) (xs : List ℕ) → i + length xs ≤ length l → Lies (sets l i xs) i xs
stored l i xs h = record {
  rest = drop (i + length xs) l;
  lie = ap (drop i) (sets-eq xs l i h ∙ append_assoc (take i l) xs (drop (i + length xs) l)) ∙ drop_at (take i l) (xs ++ drop (i + length xs) l) i (length-take-le i l (omega arith));
  within = let e = length-sets l i xs in omega arith;
}

-- a program that is given passed the front, in memory of the published length
pub record Passed (lent : ℕ) (text : List ℕ) (p : Program) : Type 0 where
  pub long : memory_numbers ≤ lent
  pub fronted : front text ≡ ok p

pub passed : (lent : ℕ) (text : List ℕ) (p : Program) → program_for lent text ≡ ok p → Passed lent text p
unfolding program_for
passed lent text p e =
    let a = inv (need _ 17 0) _ e in
    let b = inv (need _ 1 _) _ a.2 in
    record { long = leb-true memory_numbers lent (needed _ 17 0 a.0 a.1); fronted = b.2 }

-- a refusal of the walk is the refusal here
refusal_states : (w : Refusal) (R : Res Program) (lent m : List ℕ) → left (Refused w) m ≡ program_left R lent → (refuse (fault_number w.fault) w.place ≡ figured R) × ProgramFits R
unfolding program_left refused_lent
refusal_states w (ok p) lent m e =
    let answers : refuse (fault_number w.fault) w.place ≡ ok (length (program_cells p)) = ap (λ (x : Lent). x.answer) e in
    let z : ◌≡◌ {A = ℕ} 0 1 = cc in
    absurd (omega arith)
refusal_states w (refuse o r) lent m e =
    let answers : refuse (fault_number w.fault) w.place ≡ refuse o r = ap (λ (x : Lent). x.answer) e in
    (cc, tt)

pub refused_states : (text lent m : List ℕ) (w : Refusal) → left (Refused w) m ≡ walked text lent
    → (answer_of {A = Stated} (Refused w) ≡ figured (program_for (length lent) text)) × ((m ≡ (walked text lent).memory) × ProgramFits (program_for (length lent) text))
unfolding walked
refused_states text lent m w e =
    let did = refusal_states w (program_for (length lent) text) lent m e in
    (did.0, (ap (λ (x : Lent). x.memory) e, did.1))

module _ (text lent m : List ℕ) (count at worst : ℕ) (f : Part) (few : count ≤ tree_numbers) (vars : VariablesMean m token_numbers at) (list : ListMeans m at nesting_limit f) (told : worst ≡ figure (bound_of f.worst)) where
  -- the program's cells lie where the walk left them
  module _ (p : Program) (fronted : program_for (length lent) text ≡ ok p) (same : m ≡ sets (replicate (length lent) 0) token_numbers (program_cells p)) (counted : count ≡ length (program_cells p)) where
    lies : Lies m token_numbers (variable_cells p.vars ++ body_cells p.body)
    unfolding program_cells
    lies =
        let long = (passed (length lent) text p fronted).long in
        let n = length-replicate {A = ℕ} (length lent) 0 in
        rw same (stored (replicate (length lent) 0) token_numbers (program_cells p) (omega arith))

    -- depth and worst case are the list's
    read : f ≡ shown (at + length (body_cells p.body)) (depth_l p.body) (worst_l p.body)
    read =
        let fits = front_fits text p (passed (length lent) text p fronted).fronted in
        let e = vars p.vars (lies_first (variable_cells p.vars) (body_cells p.body) lies) in
        list p.body (rw e (lies_rest (variable_cells p.vars) (body_cells p.body) lies)) fits.nests fits.walked.fits

    stated : ok (record { depth = f.depth; worst = worst }) ≡ figured (ok p)
    stated =
        let d : f.depth ≡ depth_l p.body = ap (λ (g : Part). g.depth) read in
        let w : f.worst ≡ cut (worst_l p.body) = ap (λ (g : Part). g.worst) read in
        rw (told, d, w, figure_cut (worst_l p.body))

  by_answer : (R : Res Program) → program_for (length lent) text ≡ R → left (Left count) m ≡ program_left R lent → (ok (record { depth = f.depth; worst = worst }) ≡ figured R) × ProgramFits R
  unfolding program_left refused_lent
  by_answer (ok p) h e =
      let answers : ok count ≡ ok (length (program_cells p)) = ap (λ (x : Lent). x.answer) e in
      let counted : count ≡ length (program_cells p) = cc in
      (stated p h (ap (λ (x : Lent). x.memory) e) counted, omega arith)
  by_answer (refuse n q) h e =
      let answers : ok count ≡ refuse n q = ap (λ (x : Lent). x.answer) e in
      let z : ◌≡◌ {A = ℕ} 0 1 = cc in
      absurd (omega arith)

-- a program that the walk leaves is stated with its figures
pub left_states : (text lent m : List ℕ) (count at worst : ℕ) (f : Part) → (left (Left count) m ≡ walked text lent) × (count ≤ tree_numbers) → VariablesMean m token_numbers at
    → ListMeans m at nesting_limit f → worst ≡ figure (bound_of f.worst)
    → (answer_of (Left (record { depth = f.depth; worst = worst })) ≡ figured (program_for (length lent) text)) × ((m ≡ (walked text lent).memory) × ProgramFits (program_for (length lent) text))
unfolding walked
left_states text lent m count at worst f e vars list told =
    let does = by_answer text lent m count at worst f e.1 vars list told (program_for (length lent) text) refl e.0 in
    (does.0, (ap (λ (x : Lent). x.memory) e.0, does.1))
