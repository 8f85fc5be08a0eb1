-- What compiling and evaluating answer, as numbers for C: 0 for an accepted text; what does not apply is 0.
use Rattle.std.specs.Prelude.{ℕ, length}
use Rattle.rules.specs.Base.{Res, ok, refuse}
use Rattle.rules.specs.Compile.{Answer, accepted, refused}
use Rattle.rules.specs.Evaluate.{Told}

-- the answer, and beside an accepted one the bytes of the image and of its code, depth and worst case
pub record Listed : Type 0 where
  pub number : ℕ
  pub place : ℕ
  pub image : ℕ
  pub code : ℕ
  pub depth : ℕ
  pub worst : ℕ

abbrev pub listed : Answer → Listed
listed (accepted i c d w) = record { number = 0; place = 0; image = length i; code = c; depth = d; worst = w }
listed (refused n p) = record { number = n; place = p; image = 0; code = 0; depth = 0; worst = 0 }

-- the outcome and its ticks, or the refusal and its place
pub record Numbered : Type 0 where
  pub number : ℕ
  pub place : ℕ
  pub ticks : ℕ

abbrev pub told : Res Told → Numbered
told (ok t) = record { number = t.outcome; place = 0; ticks = t.ticks }
told (refuse n p) = record { number = n; place = p; ticks = 0 }
