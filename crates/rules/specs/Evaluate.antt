-- Evaluating a text: what it means, from its bytes, a table and a budget, with no image and no machine.
use mathlib.Core.List as L
use Rattle.std.specs.Prelude.{ℕ, ◌-◌}
use Rattle.rules.specs.Base.{pick, Res, ok, refuse, ◌>>=◌}
use Rattle.rules.specs.Core.{types, Program}
use Rattle.rules.specs.Meaning.{Table, Ans, ans, meaning}
use Rattle.rules.specs.Run.{Report, number, valid}
use Rattle.rules.specs.Compile.{compiled}

-- outcome, ticks, table
pub record Told : Type 0 where
  pub outcome : ℕ
  pub ticks : ℕ
  pub table : Table

unfoldable pub told_of : ℕ → Ans → Told
told_of budget (ans o t k) = record { outcome = number o; ticks = budget - k; table = t }

-- what a run's report tells of these
unfoldable pub told_by : Report → Told
told_by r = record { outcome = r.outcome; ticks = r.ticks; table = r.table }

-- 24, then the meaning
unfoldable pub evaluated : Program → ℕ → Table → Told
evaluated p budget t =
    pick (valid (types p.vars) t) (λ _. told_of budget (meaning (types p.vars) p.body t budget)) (λ _.
    record { outcome = 24; ticks = 0; table = t })

-- the compiler's refusal, or what the text means
unfoldable pub evaluate : ℕ → ℕ → L.List ℕ → ℕ → Table → Res Told
evaluate lent capacity text budget t = do
  p ← compiled lent capacity text
  ok (evaluated p budget t)

-- the table afterwards: a refusal leaves it alone
unfoldable pub table_after : Res Told → Table → Table
table_after (ok told) t = told.table
table_after (refuse n p) t = t
