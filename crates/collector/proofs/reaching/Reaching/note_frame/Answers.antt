use Rattle.std.proofs.Common.{◌∙◌, ap}
use Rattle.model.specs.Worlds.{frames_at}
use Rattle.model.specs.Collector.Places.{entries_at, root_at}
use Rattle.collector.specs.Reaching.{Marking, all_noted, noted}
use Rattle.collector.proofs.ListsNoted.{step}
use Rattle.collector.proofs.reaching.Reaching.note_frame.Goals as goal

pub loop-entry-init : goal.loop-entry-init
unfolding root_at
loop-entry-init g c =
    ap (λ (m : Marking). all_noted m (entries_at (frames_at (g.R.References.world c.args.references.now) c.args.thread)
    c.args.frame))
    (c.in_ok-note.ensures ∙ ap (noted c.args.self.now) c.method_monitor.ensures)

pub loop-entry-preserved : goal.loop-entry-preserved
unfolding root_at
loop-entry-preserved g c =
    step (entries_at (frames_at (g.R.References.world c.args.references.now) c.args.thread) c.args.frame)
    c.loop-entry.entry c.entries-entry-end.result c.loop-entry.self c.note-in-loop-entry.new.self c.entry.result
    c.in_ok-note-2.ensures c.entry.ensures c.loop-entry-test.true c.entries-entry-end.ensures
    ∙ c.loop-entry.invariant
