-- The table of operand lengths against the readers of the rules, by one walk of both lists. Assumes nothing.
use mathlib.Core.Path.{◌≡◌, refl}
use mathlib.Core.Bool.{Bool, true, false}
use mathlib.Core.List.{List, [], ◌∷◌}
use Prim.Native.Nat.{ℕ, zero, suc, max, ◌+◌, ◌≤◌, ◌<◌, zero-le}
use native.Mathlib.Nat.{le-max_left, le-max_right, le_trans}
use native.Mathlib.Omega.{arith}
use lib.Dec.{leb}
use lib.ListN.{get_or, length, drop, length-drop, drop_of_length-le}
use lib.IntN.{ℤ}
use borrow.Author.Tests.{leb-true, leb-false}
use Rattle.rules.specs.Codes.{Instr, BAD, length_of, get1, get2, get4, readers, decode_op, decode}
use Rattle.codes.specs.Table.{lengths, instr_of}
use Rattle.codes.specs.declared.Instruction.{Instruction}
use Rattle.codes.specs.declared.Instruction.TheVariants.{Tick, Const, Load, Store, Unary, Binary, Jump, JumpZero, JumpNot, Span, Drop, Hold, First, Next, Halt}
use Rattle.codes.proofs.Bytes.{decode_at}

-- ---- no code has more than 8 operand bytes
abbrev most : List ℕ → ℕ
most [] = 0
most (n ∷ ns) = max n (most ns)

under : (ns : List ℕ) (b : ℕ) → get_or ns b 0 ≤ most ns
under [] b = zero-le
under (n ∷ ns) zero = le-max_left n (most ns)
under (n ∷ ns) (suc b) = le_trans (under ns b) (le-max_right n (most ns))

pub small : (b : ℕ) → get_or lengths b 0 ≤ 8
small b = under lengths b

-- ---- what a reader makes of the bytes r: BAD, or an instruction with n operand bytes, of which the m still to be read stand in r
data Made (n m : ℕ) (r : List ℕ) (i : Instr) : Type 0 where
  bad : i ≡ BAD → Made n m r i
  whole : m ≤ length r → length_of i ≡ 1 + n → Made n m r i

abbrev Reads : ℕ → ℕ → (List ℕ → Instr) → Type 0
Reads n m f = (r : List ℕ) → Made n m r (f r)

done : {n : ℕ} {i : Instr} → length_of i ≡ 1 + n → Reads n 0 (λ r. i)
done e r = whole zero-le e

more : {n m k : ℕ} {r t : List ℕ} {i : Instr} → (m ≤ length r → k ≤ length t) → Made n m r i → Made n k t i
more f (bad e) = bad e
more f (whole h e) = whole (f h) e

-- one, two or four bytes, and then what the rest of the reader reads
reads1 : {n m : ℕ} (K : ℕ → List ℕ → Instr) → ((a : ℕ) → Reads n m (K a)) → Reads n (1 + m) (λ r. get1 r K)
unfolding get1
reads1 K f [] = bad refl
reads1 K f (a ∷ r) = more (λ h. omega arith) (f a r)

reads2 : {n m : ℕ} (K : ℕ → List ℕ → Instr) → ((a : ℕ) → Reads n m (K a)) → Reads n (2 + m) (λ r. get2 r K)
unfolding get2
reads2 K f [] = bad refl
reads2 K f (a ∷ []) = bad refl
reads2 K f (a ∷ b ∷ r) = more (λ h. omega arith) (f _ r)

reads4 : {n m : ℕ} (K : ℤ → List ℕ → Instr) → ((z : ℤ) → Reads n m (K z)) → Reads n (4 + m) (λ r. get4 r K)
unfolding get4
reads4 K f [] = bad refl
reads4 K f (a ∷ []) = bad refl
reads4 K f (a ∷ b ∷ []) = bad refl
reads4 K f (a ∷ b ∷ c ∷ []) = bad refl
reads4 K f (a ∷ b ∷ c ∷ d ∷ r) = more (λ h. omega arith) (f _ r)

-- each reader reads as many bytes as the table says
infixr 20 ◌&◌
data Rows : List (List ℕ → Instr) → List ℕ → Type 0 where
  end : Rows [] []
  ◌&◌ : {f : List ℕ → Instr} {n : ℕ} {fs : List (List ℕ → Instr)} {ns : List ℕ} → Reads n n f → Rows fs ns → Rows (f ∷ fs) (n ∷ ns)

rows : Rows readers lengths
unfolding readers
rows =
    done refl &
    done refl &
    reads4 _ (λ z. done refl) &
    reads1 _ (λ i. done refl) &
    reads1 _ (λ i. done refl) &
    done refl & done refl &
    done refl & done refl & done refl & done refl & done refl & done refl & done refl &
    done refl & done refl & done refl & done refl & done refl & done refl & done refl &
    reads2 _ (λ a. done refl) &
    reads2 _ (λ a. done refl) &
    reads4 _ (λ a. reads4 _ (λ b. done refl)) &
    reads2 _ (λ a. done refl) &
    done refl &
    reads1 _ (λ l. done refl) &
    reads1 _ (λ l. reads1 _ (λ v. reads4 _ (λ s. reads2 _ (λ a. done refl)))) &
    reads1 _ (λ l. reads1 _ (λ v. reads4 _ (λ s. reads2 _ (λ a. done refl)))) &
    done refl &
    end

row_at : {fs : List (List ℕ → Instr)} {ns : List ℕ} → Rows fs ns → (b : ℕ) → Reads (get_or ns b 0) (get_or ns b 0) (get_or fs b (λ r. BAD))
row_at end b r = bad refl
row_at (f & fs) zero r = f r
row_at (f & fs) (suc b) r = row_at fs b r

made : (b : ℕ) → Reads (get_or lengths b 0) (get_or lengths b 0) (decode_op b)
unfolding decode_op
made = row_at rows

-- ---- the table's rule: a code with fewer bytes than its operands take is bad
pub cut : (b : ℕ) (r : List ℕ) → length r < get_or lengths b 0 → decode_op b r ≡ BAD
cut b r h = elim (made b r) [ bad e ↦ e | whole k e ↦ absurd (omega arith) ]

-- no instruction is longer than the table says
pub long : (b : ℕ) (r : List ℕ) → length_of (decode_op b r) ≤ 1 + get_or lengths b 0
long b r = elim (made b r) [ bad e ↦ rw e (omega arith) | whole k e ↦ omega arith ]

-- an instruction ends where the code ends, or before
pub within : (code : List ℕ) (at : ℕ) → at < length code → at + length_of (decode (drop at code)) ≤ length code
within code at h =
    rw (decode_at code at h)
    (elim (made (get_or code at 0) (drop (at + 1) code)) [ bad e ↦ rw e (omega arith) | whole k e ↦ omega (arith, length-drop (at + 1) code) ])

-- ---- what an instruction is
never_bad : (i : Instruction) → instr_of i ≡ BAD → ⊥
never_bad Tick e = cc
never_bad (Const v) e = cc
never_bad (Load slot) e = cc
never_bad (Store slot) e = cc
never_bad (Unary o) e = cc
never_bad (Binary o) e = cc
never_bad (Jump to) e = cc
never_bad (JumpZero to) e = cc
never_bad (JumpNot to) e = cc
never_bad (Span low high) e = cc
never_bad Drop e = cc
never_bad (Hold level) e = cc
never_bad (First l) e = cc
never_bad (Next l) e = cc
never_bad Halt e = cc

-- it stands within the code
pub there : (code : List ℕ) (at : ℕ) (i : Instruction) → instr_of i ≡ decode (drop at code) → at < length code
unfolding decode
there code at i e = by (leb (length code) at) refl
  where
    by : (t : Bool) → leb (length code) at ≡ t → at < length code
    by true h = absurd (never_bad i (rw (drop_of_length-le code (leb-true (length code) at h)) at e))
    by false h = leb-false (length code) at h
