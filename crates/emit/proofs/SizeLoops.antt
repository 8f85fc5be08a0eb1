-- What the loops that read sizes do: what is read so far, and what is still ahead. Assumes nothing.
use mathlib.Core.Path.{◌≡◌, refl, sym, ap, ◌∙◌, subst}
use mathlib.Core.List.{List, ◌++◌}
use Prim.Native.Nat.{ℕ, ◌+◌, ◌-◌, ◌≤◌}
use native.Mathlib.Nat.{zero-add}
use native.Mathlib.Omega.{arith}
use lib.ListN.{length, length-append}
use Rattle.rules.specs.Cells.{cell}
use Rattle.cells.specs.Reading.{behind, Moves, Lies}
use Rattle.cells.specs.Laws.{lies_first}
use Rattle.emit.specs.Sizes.{capped, sized}
use Rattle.emit.specs.Sizes.{Sized}
use Rattle.emit.proofs.SizeSums.{capped_left, capped_twice, same_sum, Counts, counts_past, counts_behind}

-- of x, which lies where the loop begins, this part lies where it has come to; together they make up the size
pub record Rest {A : Type 0} (cells : A → List ℕ) (size nest : A → ℕ) (m : List ℕ) (levels : ℕ) (s₀ : Sized) (x : A) (s : Sized) : Type 0 where
  pub rest : A
  pub lies : Lies m s.at (cells rest)
  pub few : nest rest ≤ levels
  pub ends : s.at + length (cells rest) ≡ s₀.at + length (cells x)
  pub sums : capped (s.size + size rest) ≡ capped (s₀.size + size x)
  pub whole : capped s.size ≡ s.size

-- the end of a part that lies at s
pub record End {A : Type 0} (cells : A → List ℕ) (size : A → ℕ) (s : Sized) (y : A) (r : Sized) : Type 0 where
  pub ends : r.at ≡ s.at + length (cells y)
  pub sums : r.size ≡ capped (s.size + size y)

module _ {A : Type 0} (cells : A → List ℕ) (size nest : A → ℕ) (m : List ℕ) (levels : ℕ) where
  -- from s₀ to s, whatever lies at s₀
  abbrev pub Loop : Sized → Sized → Type 0
  Loop s₀ s = (x : A) → Lies m s₀.at (cells x) → nest x ≤ levels → Rest cells size nest m levels s₀ x s

  -- the loop's invariant: it began at i
  abbrev pub Looped : ℕ → Sized → Type 0
  Looped i s = (length m - s.at ≤ length m - i) × Loop (record { at = i; size = 0 }) s

  pub loop_start : (i : ℕ) → Looped i (record { at = i; size = 0 })
  unfolding capped
  loop_start i = (omega arith, λ x l few. record { rest = x; lies = l; few = few; ends = refl; sums = refl; whole = refl })

  pub loop_turn : {i : ℕ} {s s' : Sized} → Looped i s → Moves m s.at s'.at → Loop s s' → Looped i s'
  loop_turn {i} {s} {s'} old moves new = (let o = old.0 in omega arith, both)
    where
      both : Loop (record { at = i; size = 0 }) s'
      both x l few =
          let r = old.1 x l few in
          let n = new r.rest r.lies r.few in record {
            rest = n.rest;
            lies = n.lies;
            few = n.few;
            ends = n.ends ∙ r.ends;
            sums = n.sums ∙ r.sums;
            whole = n.whole;
          }

  -- a part is read, and the next one lies behind it
  pub rest_by : {s s' : Sized} {n n' k : ℕ} (y next : A) (a : List ℕ) → cells y ≡ a ++ cells next → Counts m a n n' s.at s'.at → (more : ℕ)
      → s'.size ≡ capped k
      → k ≡ s.size + (more + n') → size y ≡ (more + n) + size next → nest next ≤ levels → Lies m s.at (cells y) → Rest cells size nest m levels s y s'
  rest_by {s} {s'} {n} {n'} {k} y next a e w more adds parts sizes few l =
      let both = subst (λ c. Lies m s.at c) e l in
      let d = w.counts (lies_first a (cells next) both) in
      let z : length (cells y) ≡ length a + length (cells next) = ap (λ (c : List ℕ). length c) e ∙ length-append a (cells next) in record {
        rest = next;
        lies = counts_behind (cells next) w both;
        few = few;
        ends = omega (arith, d.0);
        sums =
            let one : capped (s'.size + size next) ≡ capped (k + size next) = ap (λ z. capped (z + size next)) adds ∙ capped_left _ _ in
            let two : capped (k + size next) ≡ capped ((s.size + more + size next) + n') = ap capped (omega arith) in
            let three : capped ((s.size + more + size next) + n') ≡ capped ((s.size + more + size next) + n) = same_sum _ n' _ n refl d.1 in
            let four : capped ((s.size + more + size next) + n) ≡ capped (s.size + size y) = ap capped (omega arith) in
            one ∙ two ∙ three ∙ four;
        whole = ap capped adds ∙ capped_twice _ ∙ sym adds;
      }

  -- the last part is read
  pub end_by : {s r : Sized} {n n' k : ℕ} (y : A) → Counts m (cells y) n n' s.at r.at → (more : ℕ) → r.size ≡ capped k → k ≡ s.size + (more + n')
      → size y ≡ more + n
      → Lies m s.at (cells y) → End cells size s y r
  end_by {s} {r} {n} {n'} {k} y w more adds parts sizes l =
      let d = w.counts l in record {
        ends = d.0;
        sums =
            let one : capped k ≡ capped ((s.size + more) + n') = ap capped (omega arith) in
            let two : capped ((s.size + more) + n) ≡ capped (s.size + size y) = ap capped (omega arith) in
            adds ∙ one ∙ same_sum _ n' _ n refl d.1 ∙ two;
      }

  -- a cell closes it
  pub end_past : {s : Sized} {j : ℕ} (y : A) (t q d : ℕ) → cells y ≡ cell t q d → size y ≡ 0 → j ≡ behind m s.at → Lies m s.at (cells y)
      → capped s.size ≡ s.size
      → End cells size s y (record { at = j; size = s.size })
  end_past {s} {j} y t q d e none past l whole =
      let w = subst (λ c. Counts m c 0 0 s.at j) (sym e) (counts_past t q d past) in
      end_by y w 0 (sym whole) (omega arith) (omega arith) l

  -- the loop ends: what is still ahead is read
  pub loop_done : {i : ℕ} {s r : Sized} → Looped i s → Moves m s.at r.at
      → ((y : A) → Lies m s.at (cells y) → nest y ≤ levels → capped s.size ≡ s.size → End cells size s y r)
      → record { fine : Moves m i r.at; means : (x : A) → Lies m i (cells x) → nest x ≤ levels → r ≡ sized (i + length (cells x)) (size x) }
  loop_done {i} {s} {r} old moves last = record { fine = let o = old.0 in omega arith; means = all }
    where
      all : (x : A) → Lies m i (cells x) → nest x ≤ levels → r ≡ sized (i + length (cells x)) (size x)
      all x l few =
          let t = old.1 x l few in
          let d = last t.rest t.lies t.few t.whole in
          let a : r.at ≡ i + length (cells x) = d.ends ∙ t.ends in
          let n : r.size ≡ capped (size x) = d.sums ∙ t.sums ∙ ap capped (zero-add (size x)) in
          rw (← a, ← n)
