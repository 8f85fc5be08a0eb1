use Rattle.std.proofs.Common.{refl, arith}
use Rattle.walk.proofs.Refusals.{passed_on, moved}
use Rattle.walk.proofs.ExpressionPlaced.{placed_none, moved-placed, valued-means}
use Rattle.walk.proofs.steps.Walk.valued.Goals as goal

pub returns-in_err-v-clause-walks : goal.returns-in_err-v-clause-walks
returns-in_err-v-clause-walks c = rw (passed_on _ c.from_residual.ensures.1) (moved _ _ _ _ _, valued-means c.in_err-v.ensures.walks.1 (placed_none _ _ _ _ _ refl))

pub returns-clause-walks : goal.returns-clause-walks
returns-clause-walks c =
    let h = c.in_ok-v.ensures.walks in
    (omega (arith, h.0, moved-placed _ _ _ _ _ c.placed.ensures.placed), valued-means h.1 c.placed.ensures.placed)
