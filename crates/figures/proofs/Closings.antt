-- Expressions, labels and variables are cells up to one that closes them, and so read past that one. Assumes nothing.
use mathlib.Core.Path.{◌≡◌, refl, ap}
use mathlib.Core.Bool.{true, false}
use mathlib.Core.List as L
use mathlib.Core.List.{[], ◌∷◌, ◌++◌}
use Prim.Native.Nat.{ℕ, ◌+◌}
use Rattle.std.proofs.Common.{eqb}
use lib.ListN.{length}
use Rattle.rules.specs.Numbers.{Ty, bool, dint}
use Rattle.rules.specs.Bytes.{to_u}
use Rattle.rules.specs.Kinds.{FINISH, COLON, COMMA}
use Rattle.rules.specs.Cells.{cell, end_cell, truth_kind, type_kind, WHOLE}
use Rattle.rules.specs.Core.{Expr, num, flag, var, un, bin, pls, par, Labels, lnil, lab, Variable}
use Rattle.rules.specs.CoreCells.{expr_cells, held_cells, span_cells, variable_cell, variable_cells}
use Rattle.cells.specs.Reading.{Lies}
use Rattle.cells.specs.Runs.{Without, none, next, without_both, Reads, reads_closing}
use Rattle.cells.specs.declared.cell.Cell.{Cell}
use Rattle.figures.specs.Parts.{HeldMeans}

-- such cells, and the one that closes them
record Closed (tag datum : ℕ) (xs : L.List ℕ) : Type 0 where
  pub run : L.List ℕ
  pub without : Without tag run
  pub is : xs ≡ run ++ cell tag 0 datum

-- what is read past that one
past : {m : L.List ℕ} {i tag datum j : ℕ} {c : Cell} {xs : L.List ℕ} → Reads m tag i c j → Closed tag datum xs → Lies m i xs → (j ≡ i + length xs) × (c.datum ≡ datum)
past {datum = d} reads k y =
    let r = reads_closing reads k.run 0 d k.without (rw k.is at y) in
    (rw k.is r.1, ap (λ x. x.datum) r.0)

-- Expressions

-- no cell of an expression is the closing one
pub expr_run : (e : Expr) → Without WHOLE (expr_cells e)
unfolding expr_cells cell truth_kind
expr_run (num z) = next refl none
expr_run (flag true) = next refl none
expr_run (flag false) = next refl none
expr_run (var i) = next refl none
expr_run (un ι o a) = without_both (expr_run a) (next refl none)
expr_run (bin ι o a b) = without_both (without_both (expr_run a) (expr_run b)) (next refl none)
expr_run (pls a) = without_both (expr_run a) (next refl none)
expr_run (par a) = without_both (expr_run a) (next refl none)

pub past_whole : {m : L.List ℕ} {i j : ℕ} {c : Cell} → Reads m WHOLE i c j → HeldMeans m i (record { at = j; depth = c.datum })
unfolding held_cells
past_whole reads more e y = past reads (record { run = expr_cells e; without = expr_run e; is = refl }) y

-- Labels

span_closed : (ls : Labels) → Closed COLON 0 (span_cells ls)
unfolding span_cells cell
span_closed lnil = record { run = []; without = none; is = refl }
span_closed (lab low high ls) =
    let k = span_closed ls in
    record { run = _; without = next refl k.without; is = ap (λ xs. cell COMMA (to_u low) (to_u high) ++ xs) k.is }

abbrev pub SpansMean : L.List ℕ → ℕ → ℕ → Type 0
SpansMean m at r = (ls : Labels) → Lies m at (span_cells ls) → r ≡ at + length (span_cells ls)

pub past_labels : {m : L.List ℕ} {i j : ℕ} {c : Cell} → Reads m COLON i c j → SpansMean m i j
past_labels reads ls y = (past reads (span_closed ls) y).0

-- Variables

variables_closed : (vs : L.List Variable) → Closed FINISH 0 (variable_cells vs)
unfolding variable_cells variable_cell end_cell cell type_kind
variables_closed [] = record { run = []; without = none; is = refl }
variables_closed (v ∷ vs) =
    let k = variables_closed vs in
    record { run = _; without = next (declared v.type) k.without; is = ap (λ xs. variable_cell v ++ xs) k.is }
  where
    declared : (t : Ty) → eqb (type_kind t) FINISH ≡ false
    declared bool = refl
    declared dint = refl

abbrev pub VariablesMean : L.List ℕ → ℕ → ℕ → Type 0
VariablesMean m i r = (vs : L.List Variable) → Lies m i (variable_cells vs) → r ≡ i + length (variable_cells vs)

pub past_variables : {m : L.List ℕ} {i j : ℕ} {c : Cell} → Reads m FINISH i c j → VariablesMean m i j
past_variables reads vs y = (past reads (variables_closed vs) y).0
