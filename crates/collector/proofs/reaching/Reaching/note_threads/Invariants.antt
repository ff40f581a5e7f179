use Rattle.std.proofs.Common.{◌≡◌, drop}
use Rattle.std.specs.List.{flat_map}
use Rattle.model.specs.Collector.Reached.{roots_of_thread}
use Rattle.collector.specs.Reaching.{all_noted}
use Rattle.collector.proofs.reaching.Reaching.note_threads.Given as goal

abbrev pub invariant-loop-thread : goal.invariant-loop-thread
invariant-loop-thread g l = all_noted l.self
    (flat_map roots_of_thread (drop l.thread (g.R.References.world l.references).threads))
    ≡ all_noted l.fn.self (flat_map roots_of_thread (g.R.References.world l.references).threads)
