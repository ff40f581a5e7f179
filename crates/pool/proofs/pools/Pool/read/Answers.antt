use Rattle.std.proofs.Common.{ap, ◌∙◌, subst, arith}
use Rattle.pool.specs.Reading.Steps.{Gives}
use Rattle.pool.specs.Reading.Pools.{pool_from}
use Rattle.pool.proofs.PoolLemmas.{is_found, pool_again}
use Rattle.pool.proofs.pools.Pool.read.Goals as goal

pub returns-clause-found : goal.returns-clause-found
returns-clause-found c = is_found c.args.bytes.now c.sound_pool.result (λ i. omega (arith, c.type_inv.bytes i))
    c.sound_pool.ensures

pub returns-clause-only : goal.returns-clause-only
returns-clause-only c = λ pool rest fits sound e. subst (λ f. Gives (λ x. (x.0, x.1.now)) c.sound_pool.result f)
    (ap pool_from e ∙ pool_again pool rest fits sound) c.sound_pool.ensures
