-- The cells of an expression and of labels, and the bytes of their code, one by one, as the loops of `expressions` pass and put them. Assumes nothing.
use mathlib.Core.Path.{◌≡◌, refl, ap, subst}
use mathlib.Core.Bool.{Bool, true, false}
use mathlib.Core.List.{List, [], ◌∷◌, ◌++◌, append_assoc, append-nil}
use Prim.Native.Nat.{ℕ, ◌/◌, ◌%◌, ◌≤◌}
use native.Mathlib.Omega.{arith}
use lib.Dec.{eqb}
use Rattle.rules.specs.Numbers.{of_bool}
use Rattle.rules.specs.Bytes.{to_u, put2, put4}
use Rattle.rules.specs.Kinds.{NAME, INT, TRUE, FALSE, OPEN, COMMA, COLON}
use Rattle.rules.specs.Core.{Un, Neg, Not, Bin, Mul, Div, Mod, Add, Sub, Lt, Gt, Le, Ge, Eq, Ne, And, Xor, Or, Expr, num, flag, var, un, bin, pls, par, Labels, lnil, lab}
use Rattle.rules.specs.Codes.{UN, BIN, JNZ, SPAN, un_code, bin_code, enc, enc_all}
use Rattle.rules.specs.Translation.{code_e, code_lb}
use Rattle.rules.specs.Cells.{cell, truth_kind, UNARY, BINARY}
use Rattle.rules.specs.CoreCells.{expr_cells, span_cells}
use Rattle.theorems.specs.Fields.{FitE}
use Rattle.cells.specs.Reading.{is_item}
use Rattle.cells.specs.declared.cell.Cell.{Cell}
use Rattle.emit.specs.Items.{item_bytes}
use Rattle.emit.specs.Places.{Put, Writes}
use Rattle.emit.proofs.CellLoops.{put_then, Passed, none, next, passed_then}
use Rattle.emit.proofs.CodeBytes.{bytes-e, one, two}
use Rattle.emit.proofs.Writing.{puts}

-- Expressions

abbrev pub cell_bytes : Cell → List ℕ
cell_bytes c = item_bytes c.tag c.datum

abbrev Items : List ℕ → List ℕ → Type 0
Items cells bytes = Passed is_item cell_bytes cells bytes

un-passed : (ι : ℕ) (o : Un) → Items (cell UNARY ι (un_code o)) (enc_all (UN o ∷ []))
unfolding cell is_item item_bytes un_code enc enc_all
un-passed ι Neg = next UNARY ι 5 refl none
un-passed ι Not = next UNARY ι 6 refl none

bin-passed : (ι : ℕ) (o : Bin) → Items (cell BINARY ι (bin_code o)) (enc_all (BIN o ∷ []))
unfolding cell is_item item_bytes bin_code enc enc_all
bin-passed ι Mul = next BINARY ι 7 refl none
bin-passed ι Div = next BINARY ι 8 refl none
bin-passed ι Mod = next BINARY ι 9 refl none
bin-passed ι Add = next BINARY ι 10 refl none
bin-passed ι Sub = next BINARY ι 11 refl none
bin-passed ι Lt = next BINARY ι 12 refl none
bin-passed ι Gt = next BINARY ι 13 refl none
bin-passed ι Le = next BINARY ι 14 refl none
bin-passed ι Ge = next BINARY ι 15 refl none
bin-passed ι Eq = next BINARY ι 16 refl none
bin-passed ι Ne = next BINARY ι 17 refl none
bin-passed ι And = next BINARY ι 18 refl none
bin-passed ι Xor = next BINARY ι 19 refl none
bin-passed ι Or = next BINARY ι 20 refl none

-- an operator that gives nothing
nothing_passed : {a x : List ℕ} (t : ℕ) → is_item t ≡ true → item_bytes t 0 ≡ [] → Items a x → Items (a ++ cell t 0 0) x
unfolding cell
nothing_passed {a} {x} t on e v = subst (λ (y : List ℕ). Items (a ++ cell t 0 0) y) (rw (e, append-nil x)) (passed_then v (next t 0 0 on none))

pub expr-passed : (e : Expr) → FitE e → Items (expr_cells e) (enc_all (code_e e []))
unfolding expr_cells cell is_item item_bytes code_e enc enc_all put4 truth_kind of_bool to_u
expr-passed (num z) f = next INT 0 (to_u z) refl none
expr-passed (flag true) f = next TRUE 0 1 refl none
expr-passed (flag false) f = next FALSE 0 0 refl none
expr-passed (var i) f = subst (λ (k : ℕ). Items (cell NAME 0 i) (3 ∷ k ∷ [])) (one i f) (next NAME 0 i refl none)
expr-passed (un ι o a) f = rw (bytes-e a (UN o ∷ [])) (passed_then (expr-passed a f) (un-passed ι o))
expr-passed (bin ι o a b) f =
    rw (bytes-e a (code_e b (BIN o ∷ [])), bytes-e b (BIN o ∷ []), ← (append_assoc (enc_all (code_e a [])) (enc_all (code_e b [])) (enc_all (BIN o ∷ []))))
    (passed_then (passed_then (expr-passed a f.0) (expr-passed b f.1)) (bin-passed ι o))
expr-passed (pls a) f = nothing_passed UNARY refl refl (expr-passed a f)
expr-passed (par a) f = nothing_passed OPEN refl refl (expr-passed a f)

-- Labels

-- what is put for a label: SPAN and JNZ
unfoldable pub label_bytes : ℕ → Cell → List ℕ
label_bytes body c = (23 ∷ put4 c.place (put4 c.datum [])) ++ (24 ∷ (body % 256) ∷ (body / 256 % 256) ∷ [])

pub label_put : (body : ℕ) (c : Cell) {code code₁ code₂ : List ℕ} {at r s : ℕ} → Writes code code₁ at (23 ∷ put4 c.place (put4 c.datum [])) r
    → Writes code₁ code₂ r (24 ∷ (body % 256) ∷ (body / 256 % 256) ∷ []) s → Put (label_bytes body c) code code₂ at s
unfolding label_bytes put4
label_put body c w v = put_then (puts _ (omega arith) w) (puts _ (omega arith) v)

abbrev pub is_comma : ℕ → Bool
is_comma tag = eqb tag COMMA

-- labels without the cell that closes them
unfoldable pub open_cells : Labels → List ℕ
open_cells lnil = []
open_cells (lab lo hi ls) = cell COMMA (to_u lo) (to_u hi) ++ open_cells ls

pub labels-closed : (ls : Labels) → open_cells ls ++ cell COLON 0 0 ≡ span_cells ls
unfolding open_cells span_cells cell
labels-closed lnil = refl
labels-closed (lab lo hi ls) = ap (λ (r : List ℕ). cell COMMA (to_u lo) (to_u hi) ++ r) (labels-closed ls)

pub labels-passed : (ls : Labels) (body : ℕ) → body ≤ 8192 → Passed is_comma (label_bytes body) (open_cells ls) (enc_all (code_lb ls body []))
unfolding open_cells code_lb enc_all enc label_bytes put4 put2
labels-passed lnil body h = none
labels-passed (lab lo hi ls) body h =
    subst (λ (r : List ℕ). Passed is_comma (label_bytes body) (open_cells (lab lo hi ls)) r) same (next COMMA (to_u lo) (to_u hi) refl (labels-passed ls body h))
  where
    rest : List ℕ
    rest = enc_all (code_lb ls body [])

    same : label_bytes body (record { tag = COMMA; place = to_u lo; datum = to_u hi }) ++ rest ≡ enc (SPAN lo hi) (enc (JNZ body) rest)
    same = rw (two body (omega arith))
