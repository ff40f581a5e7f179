use Rattle.std.proofs.Common.{◌∙◌}
use Rattle.model.specs.Collector.Places.{root_at, slots_of}
use Rattle.collector.proofs.ListsNoted.{step}
use Rattle.collector.proofs.reaching.Reaching.note_slots.Goals as goal

pub loop-slot-preserved : goal.loop-slot-preserved
unfolding root_at
loop-slot-preserved g c =
    step (slots_of (g.R.References.world c.args.references.now)) c.loop-slot.slot c.slots-slot-end.result
    c.loop-slot.self c.note.new.self c.slot.result
    c.in_ok-note.ensures c.slot.ensures c.loop-slot-test.true c.slots-slot-end.ensures
    ∙ c.loop-slot.invariant
