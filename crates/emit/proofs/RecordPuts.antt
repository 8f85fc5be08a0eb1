-- The three records, put one behind the other from the start of a buffer. Assumes nothing.
use mathlib.Core.Path.{◌≡◌, refl, sym, ap, ◌∙◌}
use mathlib.Core.List as L
use mathlib.Core.List.{[], ◌∷◌, ◌++◌, append_assoc, append-nil}
use Prim.Native.Nat.{ℕ, suc, ◌+◌, ◌-◌, ◌*◌, ◌≤◌}
use native.Mathlib.Nat.{zero-add, add-zero, suc-add}
use native.Mathlib.Omega.{arith}
use lib.ListN.{length, set, take, drop, length-append, length-drop, take-append-drop}
use lib.Seq.{sets, length-sets, length-take-le, take_all, drop-length}
use Rattle.rules.specs.Bytes.{put2, record_of}
use Rattle.rules.specs.Core.{List, Variable}
use Rattle.rules.specs.Translation.{code_of}
use Rattle.rules.specs.Image.{var_bytes, figure_bytes}
use Rattle.writing.specs.Puts.{put_at}
use Rattle.writing.proofs.Buffers.{sets_append, put_in}
use Rattle.emit.specs.Records.{VariablesWritten, CodeWritten, ImageWritten, records}
use Rattle.emit.specs.Records.{Variables}
use Rattle.emit.proofs.Lengths.{variables-length, code_of_length, figures-length}

-- Stores into a part of a list

sets-cons : (x : ℕ) (l : L.List ℕ) (i : ℕ) (xs : L.List ℕ) → sets (x ∷ l) (suc i) xs ≡ x ∷ sets l i xs
sets-cons x l i [] = refl
sets-cons x l i (y ∷ xs) = sets-cons x (set l i y) (suc i) xs

-- what is stored behind a list
sets_behind : (p q : L.List ℕ) (i : ℕ) (xs : L.List ℕ) → sets (p ++ q) (length p + i) xs ≡ p ++ sets q i xs
sets_behind [] q i xs = rw zero-add
sets_behind (x ∷ p) q i xs = rw suc-add (sets-cons x (p ++ q) (length p + i) xs ∙ ap (λ (l : L.List ℕ). x ∷ l) (sets_behind p q i xs))

-- what is stored at the start of all that stands from number k on is stored at k
part-sets : (l xs : L.List ℕ) (k : ℕ) {part : L.List ℕ} → k ≤ length l → part ≡ sets (take (length l - k) (drop k l)) 0 xs
    → take k l ++ (part ++ drop (length l - k) (drop k l)) ≡ sets l k xs
part-sets l xs k {part} h e =
    let n = length-drop k l in
    let all : take (length l - k) (drop k l) ≡ drop k l = take_all (length l - k) (drop k l) (omega arith) in
    let none : drop (length l - k) (drop k l) ≡ [] = rw (← n) (drop-length (drop k l)) in
    let at : length (take k l) + 0 ≡ k = add-zero (length (take k l)) ∙ length-take-le k l h in
    rw (none, append-nil, e, all, ← (sets_behind (take k l) (drop k l) 0 xs), at, take-append-drop k l)

-- A buffer that starts with these bytes, so many, and is otherwise as another was
record Starts (b b' xs : L.List ℕ) (n : ℕ) : Type 0 where
  pub stores : b' ≡ sets b 0 xs
  pub many : length xs ≡ n

starts_none : (b : L.List ℕ) → Starts b b [] 0
starts_none b = record { stores = refl; many = refl }

kept : {b b₁ xs : L.List ℕ} {n : ℕ} → Starts b b₁ xs n → length b₁ ≡ length b
kept {b} {xs = xs} s = ap (λ (l : L.List ℕ). length l) s.stores ∙ length-sets b 0 xs

-- bytes stored behind them
starts-sets : {b b₁ b₂ xs : L.List ℕ} {n k at : ℕ} (ys : L.List ℕ) → Starts b b₁ xs n → at ≡ n → length ys ≡ k → b₂ ≡ sets b₁ at ys → Starts b b₂ (xs ++ ys) (n + k)
starts-sets {b} {xs = xs} ys s e n w = record {
  stores = w ∙ rw (s.stores, e, ← s.many) (rw zero-add at (sets_append b 0 xs ys));
  many = let m = s.many in omega (arith, length-append xs ys);
}

-- bytes put behind them, where there is room
starts_put : {b b₁ b₂ xs : L.List ℕ} {n k at : ℕ} (ys : L.List ℕ) → Starts b b₁ xs n → at ≡ n → length ys ≡ k → at + k ≤ length b → b₂ ≡ put_at b₁ at ys → Starts b b₂ (xs ++ ys) (n + k)
starts_put {b₁ = b₁} {at = at} ys s e n room w = starts-sets ys s e n (w ∙ sym (put_in b₁ at ys (omega (arith, kept s))).1)

-- The records

-- a record's head: the payload's length, and the kind
abbrev record_head : ℕ → ℕ → L.List ℕ
record_head kind n = put2 n (put2 kind [])

head-length : (kind n : ℕ) → length (record_head kind n) ≡ 4
unfolding put2
head-length kind n = refl

record_parts : (kind : ℕ) (payload : L.List ℕ) → record_of kind payload ≡ record_head kind (length payload) ++ payload
unfolding record_of put2
record_parts kind payload = refl

-- head and payload, three times, are the records
records-parts : (vs : L.List Variable) (l : List) (depth worst : ℕ) {a b : ℕ} → a ≡ length (var_bytes vs) → b ≡ length (code_of l)
    → ((((record_head 1 a ++ var_bytes vs) ++ record_head 2 b) ++ code_of l) ++ record_head 3 6) ++ figure_bytes depth worst ≡ records vs l depth worst
unfolding records
records-parts vs l depth worst e n =
    rw (e, n, record_parts 1 (var_bytes vs), record_parts 2 (code_of l), record_parts 3 (figure_bytes depth worst), figures-length depth worst) (simp append_assoc)

-- All three, one behind the other, the code in the part of the buffer behind its head
pub image-written : (i₀ : L.List ℕ) (v : Variables) (depth worst : ℕ) {m i₁ i₂ i₃ part i₅ i₆ : L.List ℕ} {size : ℕ} → 19 + 5 * v.count + size ≤ length i₀
    → i₁ ≡ put_at i₀ 0 (record_head 1 (5 * v.count)) → VariablesWritten v.count m i₁ i₂ → i₃ ≡ put_at i₂ (4 + 5 * v.count) (record_head 2 (size + 1))
    → CodeWritten m (take (length i₃ - (8 + 5 * v.count)) (drop (8 + 5 * v.count) i₃)) part v.at size
    → i₅ ≡ put_at (take (8 + 5 * v.count) i₃ ++ (part ++ drop (length i₃ - (8 + 5 * v.count)) (drop (8 + 5 * v.count) i₃))) (8 + 5 * v.count + (size + 1)) (record_head 3 6)
    → i₆ ≡ put_at i₅ (12 + 5 * v.count + (size + 1)) (figure_bytes depth worst) → ImageWritten v size depth worst m i₀ i₆
image-written i₀ v depth worst {i₃ = i₃} {size = size} room one variables two code three figures vs l declared writable lies-v lies-l count sized =
    let k = 8 + 5 * v.count in
    let n = variables-length vs in
    let c = code_of_length l in
    let s₁ = starts_put (record_head 1 (5 * v.count)) (starts_none i₀) refl (head-length 1 (5 * v.count)) (omega arith) one in
    let s₂ = starts-sets (var_bytes vs) s₁ refl n (variables vs count declared lies-v (omega (arith, kept s₁))) in
    let s₃ = starts_put (record_head 2 (size + 1)) s₂ (omega arith) (head-length 2 (size + 1)) (omega arith) two in
    let d = length-drop k i₃ in
    let t = length-take-le (length i₃ - k) (drop k i₃) (omega arith) in
    let long = kept s₃ in
    let s₄ = starts-sets (code_of l) s₃ (omega arith) c (part-sets i₃ (code_of l) k (omega arith) (code l writable lies-l sized (omega arith))) in
    let s₅ = starts_put (record_head 3 6) s₄ (omega arith) (head-length 3 6) (omega arith) three in
    let s₆ = starts_put (figure_bytes depth worst) s₅ (omega arith) (figures-length depth worst) (omega arith) figures in
    s₆.stores ∙ ap (λ xs. sets i₀ 0 xs) (records-parts vs l depth worst (omega arith) (omega arith))
