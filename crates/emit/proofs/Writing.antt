-- Parts of the core program and their code, one behind the other: one law for each kind of step. Assumes nothing.
use mathlib.Core.Path.{◌≡◌, refl, sym, ap, ◌∙◌, subst}
use mathlib.Core.Bool.{true}
use mathlib.Core.List.{List, [], ◌++◌}
use Prim.Native.Nat.{ℕ, ◌+◌, ◌≤◌}
use native.Mathlib.Nat.{add-zero}
use native.Mathlib.Omega.{arith}
use lib.ListN.{length, length-append}
use lib.Seq.{sets, length-sets}
use borrow.Author.Tests.{le-leb}
use Rattle.rules.specs.Cells.{cell}
use Rattle.cells.specs.Reading.{behind, Lies}
use Rattle.cells.specs.Laws.{lies_first, lies_rest, behind_cell}
use Rattle.writing.specs.Puts.{fits}
use Rattle.emit.specs.Places.{may_put, code_put, behind_put, Put, Wrote}
use Rattle.emit.specs.Places.{Place}
use Rattle.writing.proofs.Buffers.{sets_append}

-- the bytes of an instruction are put where there is room
may_put_lem : (code bytes : List ℕ) (at : ℕ) → length bytes ≤ 16 → at + length bytes ≤ 8192 → at + length bytes ≤ length code → may_put code at bytes ≡ true
unfolding may_put fits
may_put_lem code bytes at short most room =
    rw (le-leb at 16384 (omega arith), le-leb (length bytes) 16 short, le-leb (at + length bytes) (length code) room)

pub puts : {code code' : List ℕ} {at r : ℕ} (bytes : List ℕ) → length bytes ≤ 16 → (r ≡ behind_put code at bytes) × (code' ≡ code_put code at bytes) → Put bytes code code' at r
unfolding behind_put code_put
puts {code} {code'} {at} {r} bytes short e = record {
  puts = λ most room. let m = may_put_lem code bytes at short most room in (e.0 ∙ rw m, e.1 ∙ rw m);
}

-- nothing is read and nothing put
pub wrote_nothing : (m code : List ℕ) (p : Place) → Wrote m [] [] code code p p
wrote_nothing m code p = record { wrote = λ l most room. (sym (add-zero p.at), sym (add-zero p.code), refl) }

-- bytes are put, and nothing read
pub wrote_put : (m : List ℕ) {bytes code code' : List ℕ} {p : Place} {r : ℕ} → Put bytes code code' p.code r → Wrote m [] bytes code code' p (record { at = p.at; code = r })
wrote_put m {p} w = record { wrote = λ l most room. let d = w.puts most room in (sym (add-zero p.at), d.0, d.1) }

-- a cell is passed, and nothing put
pub wrote_past : (m code : List ℕ) (p : Place) (t q d : ℕ) → Wrote m (cell t q d) [] code code p (record { at = behind m p.at; code = p.code })
unfolding cell
wrote_past m code p t q d = record {
  wrote = λ l most room. ((behind_cell t q d [] l).0, sym (add-zero p.code), refl);
}

-- one part behind the other
pub wrote_then : {m a b x y code code₁ code₂ : List ℕ} {p q r : Place} → Wrote m a x code code₁ p q → Wrote m b y code₁ code₂ q r → Wrote m (a ++ b) (x ++ y) code code₂ p r
wrote_then {m} {a} {b} {x} {y} {code} {code₁} {code₂} {p} {q} {r} w v = record { wrote = both }
  where
    both : Lies m p.at (a ++ b) → p.code + length (x ++ y) ≤ 8192 → p.code + length (x ++ y) ≤ length code
        → (r.at ≡ p.at + length (a ++ b)) × (r.code ≡ p.code + length (x ++ y)) × (code₂ ≡ sets code p.code (x ++ y))
    both l most room =
        let n = length-append x y in
        let k = length-append a b in
        let one = w.wrote (lies_first a b l) (omega arith) (omega arith) in
        let far : Lies m q.at b = subst (λ i. Lies m i b) (sym one.0) (lies_rest a b l) in
        let size : length code₁ ≡ length code = ap (λ (c : List ℕ). length c) one.2 ∙ length-sets code p.code x in
        let c = one.1 in
        let two = v.wrote far (omega arith) (omega arith) in
        let i = one.0 in
        let j = two.0 in
        let o = two.1 in
        (omega arith, omega arith, two.2 ∙ rw (one.2, one.1) (sets_append code p.code x y))
