use Rattle.std.proofs.Common.{◌≡◌, ◌++◌, drop, map, filter}
use Rattle.model.specs.Classes.Flags.{is_static_field}
use Rattle.model.specs.Worlds.{opening_slot}
use Rattle.ideal_run.proofs.opening.add_slots.Given as goal

-- the slots of the fields that are left complete those of all
abbrev pub invariant-loop-field : goal.invariant-loop-field
invariant-loop-field l =
    l.slots.items ++ map (opening_slot l.class) (filter is_static_field (drop l.field-index l.fields))
    ≡ l.fn.slots.items ++ map (opening_slot l.class) (filter is_static_field l.fields)
