use Rattle.std.proofs.Common.{◌∙◌}
use Rattle.pool.proofs.BuilderLemmas.{reported}
use Rattle.pool.proofs.builder.PoolBuilder.number.Goals as goal

pub returns : goal.returns
returns c = rw (← c.self.view_is) (reported c.args.entry.now c.self.inside.numbers.entries c.copied.result
    c.self.invariant.0 (c.copied.ensures ∙ c.get.ensures.value))
