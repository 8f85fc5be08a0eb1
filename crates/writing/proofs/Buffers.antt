-- Bytes put into a buffer. Assumes nothing.
use Rattle.std.proofs.Common.{◌≡◌, refl, sym, ◌∙◌, true, false, List, [], ◌∷◌, ◌++◌, ℕ, suc, ◌+◌, ◌-◌, ◌≤◌, ◌<◌, length, set, arith, add-zero, add-suc, suc-add, append_assoc, take, drop}
use Rattle.std.proofs.lemmas.List.Edits.{sets, sets-eq}
use borrow.Author.Tests.{le-leb, lt-leb}
use borrow.Rule.Slice.PartMut.{put_mid, Post-is}
use Rattle.writing.specs.Puts.{fits, put_at}

-- what is stored behind some stores is stored with them
pub sets_append : (l : List ℕ) (i : ℕ) (xs ys : List ℕ) → sets (sets l i xs) (i + length xs) ys ≡ sets l i (xs ++ ys)
sets_append l i [] ys = rw add-zero
sets_append l i (x ∷ xs) ys = rw (add-suc, ← suc-add) (sets_append (set l i x) (suc i) xs ys)

-- all of the bytes fit, or nothing is changed
pub put_in : (l : List ℕ) (at : ℕ) (bytes : List ℕ) → at + length bytes ≤ length l → (true ≡ fits l at bytes) × (sets l at bytes ≡ put_at l at bytes)
unfolding fits put_at
put_in l at bytes h = rw (le-leb _ _ h) (refl, refl)

pub put_out : (l : List ℕ) (at : ℕ) (bytes : List ℕ) → length l < at + length bytes → (false ≡ fits l at bytes) × (l ≡ put_at l at bytes)
unfolding fits put_at
put_out l at bytes h = rw (lt-leb _ _ h) (refl, refl)

-- a part that is copied over is stored
pub copied : (l : List ℕ) (at : ℕ) (bytes : List ℕ) (part : List ℕ) → at + length bytes ≤ length l → part ≡ bytes
    → (true ≡ fits l at bytes) × (put_mid at (at + length bytes - at) l part ≡ put_at l at bytes)
copied l at bytes part h e =
    let p = put_in l at bytes h in
    let rest = Post-is at (at + length bytes) l (omega arith) in
    (p.0, rw (e, rest) (sym (sets-eq bytes l at h ∙ append_assoc (take at l) bytes (drop (at + length bytes) l))) ∙ p.1)
