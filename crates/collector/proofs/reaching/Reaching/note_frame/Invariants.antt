use Rattle.std.proofs.Common.{◌≡◌, drop}
use Rattle.model.specs.Worlds.{frames_at}
use Rattle.model.specs.Collector.Places.{entries_at}
use Rattle.collector.specs.Reaching.{all_noted, roots_at}
use Rattle.collector.proofs.reaching.Reaching.note_frame.Given as goal

abbrev pub invariant-loop-entry : goal.invariant-loop-entry
invariant-loop-entry g l = all_noted l.self
    (drop l.entry (entries_at (frames_at (g.R.References.world l.references) l.thread) l.frame))
    ≡ all_noted l.fn.self (roots_at (frames_at (g.R.References.world l.references) l.thread) l.frame)
