use Rattle.pool.proofs.BuilderLemmas.{Filling}
use Rattle.pool.proofs.builder.PoolBuilder.finish.Given as goal

abbrev pub invariant-loop-entry : goal.invariant-loop-entry
invariant-loop-entry l = Filling l.slots.items l.entry-iterator l.fn.self
