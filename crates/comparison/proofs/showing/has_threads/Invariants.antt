use Rattle.model.specs.Observers.{ideal}
use Rattle.comparison.proofs.Deciding.{Agree}
use Rattle.comparison.proofs.showing.has_threads.Given as goal

-- the first ones are the same
abbrev pub invariant-loop-thread : goal.invariant-loop-thread
invariant-loop-thread l = Agree l.thread (ideal l.world).threads l.threads
