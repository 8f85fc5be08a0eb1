-- Targets and sizes are exact where there is room for the code. Assumes nothing.
use mathlib.Core.Path.{◌≡◌, ap, ◌∙◌}
use mathlib.Core.List.{List, [], ◌∷◌}
use Prim.Native.Nat.{ℕ, ◌+◌, ◌/◌, ◌%◌, ◌≤◌, ◌<◌}
use native.Mathlib.Omega.{arith}
use lib.IntN.{ℤ}
use Rattle.rules.specs.Bytes.{to_u, put4}
use Rattle.rules.specs.Codes.{JUMP, JZ, FIRST, NEXT, enc_all}
use Rattle.emit.specs.Sizes.{capped, sized}
use Rattle.emit.specs.Places.{ahead, Put, Writes}
use Rattle.emit.specs.Sizes.{Sized}
use Rattle.emit.proofs.CodeBytes.{put_jump, put_jz, put_first, put_next}

-- a target near enough
pub ahead_exact : (at size : ℕ) {t : ℕ} → t ≡ ahead at size → at ≤ 100000 → size ≤ 100000 → t ≡ at + size
ahead_exact at size e h k = e ∙ omega arith

-- a sum of small sizes
pub added_exact : (a b : ℕ) {s : ℕ} → s ≡ capped (a + b) → a + b ≤ 8192 → s ≡ a + b
unfolding capped
added_exact a b e h = e ∙ omega arith

-- the size of a part that fits
pub size_exact : {s : Sized} (at n : ℕ) → s ≡ sized at n → n ≤ 8192 → s.size ≡ n
unfolding capped
size_exact at n e h = ap (λ s. s.size) e ∙ omega arith

-- a jump to where it is to lead
pub jump_to : {code code' : List ℕ} {at t r : ℕ} (z : ℕ) → t ≡ z → z ≤ 8192 → Writes code code' at (21 ∷ (t % 256) ∷ (t / 256 % 256) ∷ []) r → Put (enc_all (JUMP z ∷ [])) code code' at r
jump_to {t} z e h w = rw e at (put_jump t (omega arith) w)

pub jz_to : {code code' : List ℕ} {at t r : ℕ} (z : ℕ) → t ≡ z → z ≤ 8192 → Writes code code' at (22 ∷ (t % 256) ∷ (t / 256 % 256) ∷ []) r → Put (enc_all (JZ z ∷ [])) code code' at r
jz_to {t} z e h w = rw e at (put_jz t (omega arith) w)

-- FIRST and NEXT, whose step is a cell's datum
pub first_to : {code code' : List ℕ} {at t d r : ℕ} (l v : ℕ) (s : ℤ) (z : ℕ) → l < 256 → v < 256 → d ≡ to_u s → t ≡ z → z ≤ 8192
    → Writes code code' at (27 ∷ (l % 256) ∷ (v % 256) ∷ put4 d ((t % 256) ∷ (t / 256 % 256) ∷ [])) r → Put (enc_all (FIRST l v s z ∷ [])) code code' at r
first_to l v s z n i d e h w = put_first l v s z n i (omega arith) (rw (d, e) at w)

pub next_to : {code code' : List ℕ} {at t d r : ℕ} (l v : ℕ) (s : ℤ) (z : ℕ) → l < 256 → v < 256 → d ≡ to_u s → t ≡ z → z ≤ 8192
    → Writes code code' at (28 ∷ (l % 256) ∷ (v % 256) ∷ put4 d ((t % 256) ∷ (t / 256 % 256) ∷ [])) r → Put (enc_all (NEXT l v s z ∷ [])) code code' at r
next_to l v s z n i d e h w = put_next l v s z n i (omega arith) (rw (d, e) at w)
