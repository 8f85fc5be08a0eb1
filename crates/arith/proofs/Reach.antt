-- Signed numbers: how far a choice of two reaches, and an operation on numbers that are read back from their bits. Assumes nothing.
use mathlib.Core.Path.{◌≡◌}
use mathlib.Core.Bool.{Bool, true, false, cond}
use Prim.Native.Nat.{ℕ, ◌≤◌}
use lib.IntN.{ℤ}
use lib.Signed.{mag}
use mir.Syntax.{w32}
use mir.Val.{SFits, to_z, of_z}
use mir.Facts.{to_z-of_z}

pub mag-cond : (c : Bool) (x y : ℤ) (k : ℕ) → mag x ≤ k → mag y ≤ k → mag (cond c x y) ≤ k
mag-cond true x y k p q = p
mag-cond false x y k p q = q

-- an operation reads its two numbers back from their bits
pub two : {A : Type 0} (op : ℤ → ℤ → A) {x y : ℤ} → SFits w32 x → SFits w32 y → op (to_z w32 (of_z w32 x)) (to_z w32 (of_z w32 y)) ≡ op x y
two op f g = rw (to_z-of_z f, to_z-of_z g)
