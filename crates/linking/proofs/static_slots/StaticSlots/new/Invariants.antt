use Rattle.std.proofs.Common.{◌≡◌, ◌++◌, drop, map}
use Rattle.model.specs.Worlds.{opening_slots}
use Rattle.linking.specs.StaticSlots.{slot_of, static_slots}
use Rattle.linking.proofs.static_slots.StaticSlots.new.Given as goal

abbrev pub invariant-loop-class : goal.invariant-loop-class
invariant-loop-class l = l.slots.items ++ map (slot_of l.classes) (opening_slots (drop l.class-index l.program))
    ≡ static_slots l.classes
