use Rattle.std.proofs.Common.{◌≡◌, drop}
use Rattle.std.specs.List.{flat_map}
use Rattle.model.specs.Collector.Reached.{roots_of_thread}
use Rattle.collector.specs.Reaching.{all_noted}
use Rattle.exploring.proofs.walk.note_threads.Given as goal

-- those that are left complete the marking
abbrev pub invariant-loop-thread : goal.invariant-loop-thread
invariant-loop-thread l = all_noted l.reaching (flat_map roots_of_thread (drop l.thread-index l.threads)) ≡ all_noted l.fn.reaching (flat_map roots_of_thread l.threads)
