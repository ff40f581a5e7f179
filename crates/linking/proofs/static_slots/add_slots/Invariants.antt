use Rattle.std.proofs.Common.{◌≡◌, ◌++◌, drop, map}
use Rattle.linking.specs.StaticSlots.{slot_of, statics_in}
use Rattle.linking.proofs.static_slots.add_slots.Given as goal

abbrev pub invariant-loop-field : goal.invariant-loop-field
invariant-loop-field l =
    l.slots.items ++ map (slot_of l.numbers) (statics_in l.class.name (drop l.field-index l.fields))
    ≡ l.fn.slots.items ++ map (slot_of l.numbers) (statics_in l.class.name l.fields)
