-- The whole text.
use mathlib.Core.List as L
use Rattle.std.specs.Prelude.{◌≡◌, refl, [], ◌∷◌, ℕ, ◌+◌, ◌≤◌, ℤ, pos, replicate}
use Rattle.std.proofs.Common.{arith}
use Rattle.rules.specs.Core.{List}
use Rattle.rules.specs.Meaning.{Table, done, ans, Out, go, left, halt, exec_l, ans_of, meaning}
use Rattle.rules.specs.Codes.{HALT}
use Rattle.rules.specs.Machine.{view, Code, act, run, start}
use Rattle.rules.specs.Translation.{size_l, prog}
use Rattle.rules.specs.Depth.{depth_l}
use Rattle.theorems.specs.Running.{step_at}
use Rattle.theorems.specs.Levels.{fors_l}
use Rattle.theorems.specs.Expressions.{At, see, see_end}
use Rattle.theorems.specs.Statements.{Fin, f_go, f_left, f_halt, sim_l, rest_l}

-- any budget, any table, any stack limit that is at least the depth
pub correct : (c : Code) (l : List) (t : Table) (B : ℕ) → At c 0 (prog l) → depth_l l ≤ c.cap → fors_l l ≤ 8 → view (run c B (start t)) ≡ meaning c.types l t B
unfolding prog start meaning ans_of act
correct c l t B a d w = sim_l c l (ans_of (exec_l c.types l t B)) B 0 (size_l l) 0 (replicate 8 (pos 0)) t _ a (omega arith) d (omega arith) (fin (exec_l c.types l t B))
  where
    z : At c (0 + size_l l) (HALT ∷ [])
    z = rest_l c l 0 (size_l l) 0 _ a

    stops : (k : ℕ) (h : L.List ℤ) (t : Table) → see c k (0 + size_l l) [] h t ≡ ans done t k
    stops k h t = see_end c k (0 + size_l l) [] h t done (step_at c HALT _ [] h t z.1 z.0)

    fin : (o : Out) → Fin c (ans_of o) (0 + size_l l) (size_l l) 0 (replicate 8 (pos 0)) o
    fin (go t k) = f_go (λ h a. stops k h t)
    fin (left t k) = f_left (λ h a. let e : 0 + size_l l ≡ size_l l = omega arith in rw e at (stops k h t))
    fin (halt o t k) = f_halt refl
