-- A loop that passes cells and puts bytes for each, up to a cell at which it ends. Assumes nothing.
use mathlib.Core.Path.{◌≡◌, refl, sym, ap, ◌∙◌, subst}
use mathlib.Core.Bool.{Bool, true, false}
use mathlib.Core.List.{List, [], ◌++◌, append_assoc}
use Prim.Native.Nat.{ℕ, ◌+◌, ◌-◌, ◌≤◌, ◌<◌}
use native.Mathlib.Omega.{arith}
use lib.ListN.{length, length-append}
use lib.Seq.{sets, length-sets}
use Rattle.rules.specs.Cells.{cell}
use Rattle.cells.specs.Reading.{cell_in, behind, Lies}
use Rattle.cells.specs.Laws.{cell_lies, behind_cell, behind_moves, tag_moves}
use Rattle.cells.specs.declared.cell.Cell.{Cell}
use Rattle.emit.specs.Places.{Put, Wrote}
use Rattle.emit.specs.Places.{Place}
use Rattle.writing.proofs.Buffers.{sets_append}
use Rattle.emit.proofs.Writing.{wrote_put, wrote_then}

-- bytes put behind bytes: no cell is read
pub put_then : {x y code code₁ code₂ : List ℕ} {at r s : ℕ} → Put x code code₁ at r → Put y code₁ code₂ r s → Put (x ++ y) code code₂ at s
put_then {at = at} {r = r} w v = record {
  puts = λ most room.
      let both = wrote_then (wrote_put [] {p = record { at = 0; code = at }} w) (wrote_put [] {p = record { at = 0; code = r }} v) in
      let d = both.wrote (record { rest = []; lie = refl; within = omega arith }) most room in
      (d.1, d.2);
}

-- goes: the tags at which the loop goes on; bytes: what it puts for a cell
module _ (goes : ℕ → Bool) (bytes : Cell → List ℕ) where
  -- cells that it passes, and what it puts for them
  pub data Passed : List ℕ → List ℕ → Type 0 where
    none : Passed [] []
    next : (t p d : ℕ) {cells put : List ℕ} → goes t ≡ true → Passed cells put → Passed (cell t p d ++ cells) (bytes (record { tag = t; place = p; datum = d }) ++ put)

  -- of what lies at p and is to be put there, what is ahead when the loop is at q
  pub record Ahead (m code₀ code cells put close : List ℕ) (p q : Place) : Type 0 where
    pub left : List ℕ
    pub more : List ℕ
    pub passed : Passed left more
    pub lies : Lies m q.at (left ++ close)
    pub place : q.at + length left ≡ p.at + length cells
    pub size : q.code + length more ≡ p.code + length put
    pub same : length code ≡ length code₀
    pub stores : sets code q.code more ≡ sets code₀ p.code put

  -- whatever lies at p and has room: the loop has done its part of it
  pub record Going (m code₀ code : List ℕ) (p q : Place) : Type 0 where
    pub going : (cells put : List ℕ) (t i d : ℕ) → goes t ≡ false → Passed cells put → Lies m p.at (cells ++ cell t i d)
        → p.code + length put ≤ 8192 → p.code + length put ≤ length code₀ → Ahead m code₀ code cells put (cell t i d) p q

module _ {goes : ℕ → Bool} {bytes : Cell → List ℕ} where
  -- one behind the other
  pub passed_then : {a b x y : List ℕ} → Passed goes bytes a x → Passed goes bytes b y → Passed goes bytes (a ++ b) (x ++ y)
  unfolding cell
  passed_then none v = v
  passed_then {y = y} (next t p d {put = put} ok w) v = rw (append_assoc (bytes (record { tag = t; place = p; datum = d })) put y) (next t p d ok (passed_then w v))

  pub loop_starts : (m code : List ℕ) (p : Place) → Going goes bytes m code code p p
  loop_starts m code p = record {
    going = λ cells put t i d e w l most room. record { left = cells; more = put; passed = w; lies = l; place = refl; size = refl; same = refl; stores = refl };
  }

  -- a turn: the cell is passed, and its bytes are put
  module _ {m code₀ code code₁ : List ℕ} {p q : Place} {r : ℕ} {c : Cell} (is : c ≡ cell_in m q.at) (on : goes (cell_in m q.at).tag ≡ true) (w : Put (bytes c) code code₁ q.code r) where
    turn : {cells put : List ℕ} (t i d : ℕ) → goes t ≡ false → p.code + length put ≤ 8192 → p.code + length put ≤ length code₀
        → (left more : List ℕ) → Passed goes bytes left more → Lies m q.at (left ++ cell t i d) → q.at + length left ≡ p.at + length cells → q.code + length more ≡ p.code + length put
        → length code ≡ length code₀ → sets code q.code more ≡ sets code₀ p.code put
        → Ahead goes bytes m code₀ code₁ cells put (cell t i d) p (record { at = behind m q.at; code = r })
    unfolding cell
    turn t i d off most room left more none l place size same stores =
        let z : true ≡ false = sym on ∙ ap (λ (c : Cell). goes c.tag) (cell_lies t i d [] l) ∙ off in
        let y : ◌≡◌ {A = ℕ} 0 1 = cc in
        absurd (omega arith)
    turn t i d off most room left more (next u j e {cells = rest} {put = put'} ok v) l place size same stores =
        let k : Cell = record { tag = u; place = j; datum = e } in
        let b = behind_cell u j e (rest ++ cell t i d) l in
        let x : Put (bytes k) code code₁ q.code r = subst (λ (y : Cell). Put (bytes y) code code₁ q.code r) (is ∙ cell_lies u j e (rest ++ cell t i d) l) w in
        let n = length-append (bytes k) put' in
        let done = x.puts (omega arith) (omega arith) in
        let o = done.0 in
        let f = b.0 in
        record {
          left = rest;
          more = put';
          passed = v;
          lies = rw f b.1;
          place = omega arith;
          size = omega arith;
          same = ap (λ (y : List ℕ). length y) done.1 ∙ length-sets code q.code (bytes k) ∙ same;
          stores = rw (done.1, o) (sets_append code q.code (bytes k) put' ∙ stores);
        }

    pub loop_turns : Going goes bytes m code₀ code p q → {j : ℕ} → j ≡ behind m q.at → Going goes bytes m code₀ code₁ p (record { at = j; code = r })
    loop_turns g e = rw e record {
      going = λ cells put t i d off v l most room.
          let a = g.going cells put t i d off v l most room in
          turn t i d off most room a.left a.more a.passed a.lies a.place a.size a.same a.stores;
    }

  -- where the loop ends, nothing is left, all is put, and the last cell is passed
  nothing_left : {m left more : List ℕ} {at : ℕ} (t i d : ℕ) → goes (cell_in m at).tag ≡ false → Passed goes bytes left more → Lies m at (left ++ cell t i d) → (left ≡ []) × (more ≡ [])
  unfolding cell
  nothing_left t i d off none l = (refl, refl)
  nothing_left t i d off (next u j e {cells = rest} ok v) l =
      let z : true ≡ false = sym ok ∙ sym (ap (λ (c : Cell). goes c.tag) (cell_lies u j e (rest ++ cell t i d) l)) ∙ off in
      let y : ◌≡◌ {A = ℕ} 0 1 = cc in
      absurd (omega arith)

  module _ {m code₀ code : List ℕ} {p q : Place} (off : goes (cell_in m q.at).tag ≡ false) where
    pub loop_ends : Going goes bytes m code₀ code p q → {j : ℕ} → j ≡ behind m q.at → {cells put : List ℕ} → Passed goes bytes cells put → (t i d : ℕ) → goes t ≡ false
        → Wrote m (cells ++ cell t i d) put code₀ code p (record { at = j; code = q.code })
    unfolding cell
    loop_ends g h {cells} {put} v t i d e = rw h record { wrote = all }
      where
        all : Lies m p.at (cells ++ cell t i d) → p.code + length put ≤ 8192 → p.code + length put ≤ length code₀
            → (behind m q.at ≡ p.at + length (cells ++ cell t i d)) × (q.code ≡ p.code + length put) × (code ≡ sets code₀ p.code put)
        all l most room =
            let a = g.going cells put t i d e v l most room in
            let k = nothing_left t i d off a.passed a.lies in
            let b = (behind_cell t i d [] (subst (λ (c : List ℕ). Lies m q.at (c ++ cell t i d)) k.0 a.lies)).0 in
            let n = length-append cells (cell t i d) in
            let place : q.at + 0 ≡ p.at + length cells = subst (λ (c : List ℕ). q.at + length c ≡ p.at + length cells) k.0 a.place in
            let size : q.code + 0 ≡ p.code + length put = subst (λ (c : List ℕ). q.code + length c ≡ p.code + length put) k.1 a.size in
            (omega arith, omega arith, subst (λ (c : List ℕ). sets code q.code c ≡ sets code₀ p.code put) k.1 a.stores)

-- a turn moves on, since no cell has the tag 0
pub loop_moves : (goes : ℕ → Bool) (m : List ℕ) (i j : ℕ) → goes 0 ≡ false → goes (cell_in m i).tag ≡ true → j ≡ behind m i → length m - j < length m - i
loop_moves goes m i j zero on e = omega (arith, behind_moves m i, tag_moves m i some)
  where
    some : (cell_in m i).tag ≡ 0 → ⊥
    some h =
        let z : true ≡ false = sym on ∙ ap goes h ∙ zero in
        let y : ◌≡◌ {A = ℕ} 0 1 = cc in
        omega arith
