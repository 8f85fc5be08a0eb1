-- Parts of code that follow each other, where what a part writes depends on where the one before it ended. Assumes nothing.
use mathlib.Core.Path.{◌≡◌, sym, ap, ◌∙◌, subst}
use mathlib.Core.List as L
use mathlib.Core.List.{List, [], ◌∷◌, ◌++◌}
use Prim.Native.Nat.{ℕ, ◌+◌, ◌≤◌}
use native.Mathlib.Omega.{arith}
use lib.ListN.{length, length-append}
use lib.Seq.{sets}
use Rattle.rules.specs.Core as C
use Rattle.rules.specs.Cells.{cell}
use Rattle.rules.specs.Codes.{Instr, length_of, enc_all}
use Rattle.rules.specs.Translation.{size_e, size_lb, size_s, size_l, code_e, code_lb, code_s, code_l}
use Rattle.rules.specs.CoreCells.{held_cells, span_cells, stmt_cells, body_cells}
use Rattle.theorems.specs.Fields.{FitE, FitLb, FitS, FitL}
use Rattle.theorems.specs.Levels.{fors_s, fors_l, nest_s, nest_l}
use Rattle.cells.specs.Reading.{behind, Lies}
use Rattle.cells.specs.Laws.{lies_first, lies_rest}
use Rattle.emit.specs.Places.{Put, Wrote, Allows, HeldCode, LabelsCode, StatementCode, ListCode}
use Rattle.emit.specs.Places.{Place}
use Rattle.emit.specs.declared.statements.Around.{Around}
use Rattle.emit.proofs.Writing.{wrote_put, wrote_past, wrote_then}
use Rattle.emit.proofs.CodeBytes.{bytes_instr, bytes-e, bytes_lb, bytes-s, bytes-l, length_instr, length-e, length_lb, length-s, length-l}

-- a part is written as promised if it is where its cells lie and where there is room
pub wrote_if : {m a x code code' : List ℕ} {p r : Place} → (Lies m p.at a → p.code + length x ≤ 8192 → Wrote m a x code code' p r) → Wrote m a x code code' p r
wrote_if w = record { wrote = λ l most room. (w l most).wrote l most room }

-- the other part may lean on where the first ended
pub wrote_on : {m a b x y code code₁ code₂ : List ℕ} {p q r : Place}
    → Wrote m a x code code₁ p q → (q.code ≡ p.code + length x → Lies m q.at b → Wrote m b y code₁ code₂ q r) → Wrote m (a ++ b) (x ++ y) code code₂ p r
wrote_on {m} {a} {b} {x} {y} {code} {code₁} {code₂} {p} {q} {r} w v = record { wrote = both }
  where
    both : Lies m p.at (a ++ b) → p.code + length (x ++ y) ≤ 8192 → p.code + length (x ++ y) ≤ length code
        → (r.at ≡ p.at + length (a ++ b)) × (r.code ≡ p.code + length (x ++ y)) × (code₂ ≡ sets code p.code (x ++ y))
    both l most room =
        let n = length-append x y in
        let one = w.wrote (lies_first a b l) (omega arith) (omega arith) in
        let far : Lies m q.at b = subst (λ i. Lies m i b) (sym one.0) (lies_rest a b l) in
        (wrote_then w (v one.1 far)).wrote l most room

-- an instruction, then what follows
pub instr_on : {m b code code₁ code₂ : List ℕ} {p r : Place} {at : ℕ} (i : Instr) (k : L.List Instr)
    → Put (enc_all (i ∷ [])) code code₁ p.code at
    → (at ≡ p.code + length_of i → Wrote m b (enc_all k) code₁ code₂ (record { at = p.at; code = at }) r)
    → Wrote m b (enc_all (i ∷ k)) code code₂ p r
unfolding enc_all
instr_on {m} {p} i k w v = rw (bytes_instr i k) (wrote_on (wrote_put m w) (λ e l. v (e ∙ ap (λ n. p.code + n) (length_instr i))))

-- a cell passed, then what follows
pub past_on : {m b y code code₂ : List ℕ} {p r : Place} {next : ℕ} (t q d : ℕ) → next ≡ behind m p.at
    → (Lies m next b → Wrote m b y code code₂ (record { at = next; code = p.code }) r)
    → Wrote m (cell t q d ++ b) y code code₂ p r
past_on {m} {b} {y} {code} {code₂} {p} {r} t q d e v =
    let go : (i : ℕ) → i ≡ behind m p.at → Wrote m (cell t q d) [] code code p (record { at = i; code = p.code }) = λ i e. rw e (wrote_past m code p t q d) in
    wrote_on (go _ e) (λ n l. v l)

-- an expression, then what follows
pub held_on : {m b code code₁ code₂ : List ℕ} {p q r : Place} (more : ℕ) (e : C.Expr) (k : L.List Instr) → FitE e → HeldCode m code code₁ p q
    → (q.code ≡ p.code + size_e e → Lies m q.at b → Wrote m b (enc_all k) code₁ code₂ q r)
    → Wrote m (held_cells more e ++ b) (enc_all (code_e e k)) code code₂ p r
held_on {p} more e k f w v = rw (bytes-e e k) (wrote_on (w more e f) (λ a l. v (a ∙ ap (λ n. p.code + n) (length-e e)) l))

-- labels, then what follows
pub labels_on : {m b code code₁ code₂ : List ℕ} {p q r : Place} {body : ℕ} (ls : C.Labels) (to : ℕ) (k : L.List Instr)
    → FitLb ls → LabelsCode body m code code₁ p q → body ≡ to → to ≤ 8192
    → (q.code ≡ p.code + size_lb ls → Lies m q.at b → Wrote m b (enc_all k) code₁ code₂ q r)
    → Wrote m (span_cells ls ++ b) (enc_all (code_lb ls to k)) code code₂ p r
labels_on {p} {body} ls to k f w e h v =
    let one = w ls f (omega arith) in
    rw (bytes_lb ls to k) (wrote_on (rw e at one) (λ a l. v (a ∙ ap (λ n. p.code + n) (length_lb ls to)) l))

-- a statement, then what follows
pub statement_on : {m b code code₁ code₂ : List ℕ} {p q r : Place} {around : Around} (x : C.Stmt) (k : L.List Instr)
    → FitS x → Allows around (fors_s x) (nest_s x) → StatementCode around m code code₁ p q
    → (q.code ≡ p.code + size_s x → Lies m q.at b → Wrote m b (enc_all k) code₁ code₂ q r)
    → Wrote m (stmt_cells x ++ b) (enc_all (code_s x p.code around.exit around.fors k)) code code₂ p r
statement_on {p} {around} x k f g w v =
    rw (bytes-s x p.code around.exit around.fors k)
    (wrote_on (w x f g) (λ a l. v (a ∙ ap (λ n. p.code + n) (length-s x p.code around.exit around.fors)) l))

-- a list, then what follows; it starts, leads out and counts loops as it should
pub list_on : {m b code code₁ code₂ : List ℕ} {p q r : Place} {around : Around} (x : C.List) (start exit fors : ℕ) (k : L.List Instr)
    → FitL x → Allows around (fors_l x) (nest_l x) → ListCode around m code code₁ p q → p.code ≡ start → around.exit ≡ exit → around.fors ≡ fors
    → (q.code ≡ start + size_l x → Lies m q.at b → Wrote m b (enc_all k) code₁ code₂ q r)
    → Wrote m (body_cells x ++ b) (enc_all (code_l x start exit fors k)) code code₂ p r
list_on {p} {around} x start exit fors k f g w s e n v =
    rw (← s, ← e, ← n, bytes-l x p.code around.exit around.fors k)
    (wrote_on (w x f g) (λ a l. v (a ∙ cc (s, length-l x p.code around.exit around.fors)) l))
