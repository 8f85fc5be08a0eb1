-- FOR's step on signed 32-bit numbers, over ℤ.
use Rattle.std.specs.Prelude.{cond, ℤ, ◌+ℤ◌, Option, None, Some}
use Rattle.rules.specs.Meaning.{passes}

-- the variable plus the step, taken exactly, is the next value unless it ends the loop
unfoldable pub advance_of : ℤ → ℤ → ℤ → Option ℤ
advance_of v step last = cond (passes step (v +ℤ step) last) None (Some (v +ℤ step))
