use Rattle.std.proofs.Common.{refl, arith}
use Rattle.walk.proofs.Moves.{some-ahead}
use Rattle.walk.proofs.Refusals.{passed_on, same, other, keeps_on}
use Rattle.walk.proofs.Along.{headed}
use Rattle.walk.proofs.Closes.{closes, closes_none}
use Rattle.walk.proofs.steps.Walk.declarations.Goals as goal

pub loop-self-init : goal.loop-self-init
loop-self-init c = (record { lent = refl; long = refl }, λ tail R a. a)

pub loop-self-smaller : goal.loop-self-smaller
loop-self-smaller c = omega (arith, c.in_ok-declaration.ensures.walks.0, some-ahead _ _ (other _ _ c.is_at.ensures c.loop-self-test.true))

pub loop-self-preserved : goal.loop-self-preserved
loop-self-preserved c =
    let i = c.loop-self.invariant in
    (keeps_on i.0 c.declaration.ensures.keeps, λ tail R a. c.in_ok-declaration.ensures.walks.1 tail R (other _ _ c.is_at.ensures c.loop-self-test.true) (i.1 tail R a))

pub returns-in_err-declaration-clause-means : goal.returns-in_err-declaration-clause-means
returns-in_err-declaration-clause-means c =
    rw (passed_on _ c.from_residual.ensures.1)
    (λ tail R a. closes_none (c.in_err-declaration.ensures.walks.1 tail R (other _ _ c.is_at.ensures c.loop-self-test.true) (c.loop-self.invariant.1 tail R a)))

pub returns-clause-means : goal.returns-clause-means
returns-clause-means c = λ tail R a. closes (same _ _ c.is_at.ensures c.loop-self-test.false) (headed _ c.head.ensures) (c.loop-self.invariant.1 tail R a)
