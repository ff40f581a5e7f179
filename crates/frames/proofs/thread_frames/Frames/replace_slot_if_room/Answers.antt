use Rattle.std.proofs.Common.{arith, refl, [], ◌∷◌}
use Rattle.model.specs.Frames.{running_frame}
use Rattle.model.specs.Values.{units_of_all}
use Rattle.values.specs.Slots.{value_of}
use Rattle.frames.proofs.RunningLemmas.{Sized, stack_is_full, stack_has_room, room_for_value, replaces}
use Rattle.frames.proofs.StackLemmas.{units_of_all-take-drop}
use Rattle.frames.proofs.thread_frames.Frames.replace_slot_if_room.Goals as goal

pub overflow_add-free_units : goal.overflow_add-free_units
overflow_add-free_units c =
    let f = running_frame c.args.self.now in
    let parts = units_of_all-take-drop f.stack c.args.count in
    let free = c.free_units.ensures in
    omega (arith, parts, free, c.units_above-units.ensures)

pub returns-then-free_units-units-clause-step : goal.returns-then-free_units-units-clause-step
returns-then-free_units-units-clause-step c =
    let f = running_frame c.args.self.now in
    let sized : Sized c.args.self.now c.args.count c.units_above-units.result (units_of_all f.stack)
    f.room = record { above_is = c.units_above-units.ensures; taken_is = refl; room_is = refl } in
    let parts = units_of_all-take-drop f.stack c.args.count in
    stack_is_full c.args.self.now _ _ _ _ c.args.next ((value_of c.args.slot) ∷ []) sized (omega arith)

pub push-requires-clause-room : goal.push-requires-clause-room
push-requires-clause-room c =
    let f = running_frame c.args.self.now in
    let sized : Sized c.args.self.now c.args.count c.units_above-units.result (units_of_all f.stack)
    f.room = record { above_is = c.units_above-units.ensures; taken_is = refl; room_is = refl } in
    let parts = units_of_all-take-drop f.stack c.args.count in
    room_for_value c.args.self.now _ _ _ _ _ _ (value_of c.args.slot) c.requires.some c.drop_values.ensures.left sized
    (omega arith)

pub returns-clause-step : goal.returns-clause-step
returns-clause-step c =
    let f = running_frame c.args.self.now in
    let sized : Sized c.args.self.now c.args.count c.units_above-units.result (units_of_all f.stack)
    f.room = record { above_is = c.units_above-units.ensures; taken_is = refl; room_is = refl } in
    let parts = units_of_all-take-drop f.stack c.args.count in
    stack_has_room c.args.self.now _ _ _ _ _ c.args.next ((value_of c.args.slot) ∷ []) sized (omega arith)
    (replaces _ _ _ _ _ _ c.requires.some c.drop_values.ensures.left c.push.ensures)
