use Rattle.std.proofs.Common.{◌≡◌, drop}
use Rattle.std.specs.List.{flat_map}
use Rattle.model.specs.Worlds.{frames_at}
use Rattle.model.specs.Collector.Reached.{roots_of_frame}
use Rattle.collector.specs.Reaching.{all_noted}
use Rattle.collector.proofs.reaching.Reaching.note_frames.Given as goal

abbrev pub invariant-loop-frame : goal.invariant-loop-frame
invariant-loop-frame g l = all_noted l.self
    (flat_map roots_of_frame (drop l.frame (frames_at (g.R.References.world l.references) l.thread)))
    ≡ all_noted l.fn.self (flat_map roots_of_frame (frames_at (g.R.References.world l.references) l.thread))
