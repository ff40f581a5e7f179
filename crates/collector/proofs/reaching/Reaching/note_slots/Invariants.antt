use Rattle.std.proofs.Common.{◌≡◌, drop}
use Rattle.model.specs.Collector.Places.{slots_of}
use Rattle.collector.specs.Reaching.{all_noted}
use Rattle.collector.proofs.reaching.Reaching.note_slots.Given as goal

abbrev pub invariant-loop-slot : goal.invariant-loop-slot
invariant-loop-slot g l = all_noted l.self (drop l.slot (slots_of (g.R.References.world l.references)))
    ≡ all_noted l.fn.self (slots_of (g.R.References.world l.references))
