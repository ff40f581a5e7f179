use Rattle.std.proofs.Common.{◌≡◌, ◌++◌, drop, map}
use Rattle.exploration.specs.Observations.{end_of}
use Rattle.exploring.proofs.outcomes.ends_of.Given as goal

-- the ends so far and those that are left are all
abbrev pub invariant-loop-thread : goal.invariant-loop-thread
invariant-loop-thread l = l.ends.items ++ map end_of (drop l.thread-index l.threads) ≡ map end_of l.threads
