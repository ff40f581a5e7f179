use Rattle.std.proofs.Common.{arith}
use Rattle.model.specs.Frames.{running_frame}
use Rattle.frames.proofs.StackLemmas.{units_of_all-take-drop}
use Rattle.frames.proofs.RunningLemmas.{Sized, stack_is_full, stack_has_room}
use Rattle.frames.proofs.PushLemmas.{room_for_values, replaces_all}
use Rattle.frames.proofs.thread_frames.Frames.replace_all_if_room.Goals as goal

pub overflow_sub-taken : goal.overflow_sub-taken
overflow_sub-taken c =
    let parts = units_of_all-take-drop (running_frame c.args.self.now).stack c.args.count in
    omega arith

pub returns-then-taken-units-clause-step : goal.returns-then-taken-units-clause-step
returns-then-taken-units-clause-step c =
    let sized : Sized c.args.self.now c.args.count c.units_above-units.result c.taken.result
    c.room.result = record {
      above_is = c.units_above-units.ensures;
      taken_is = c.taken.ensures.units;
      room_is = c.room.ensures;
    } in
    stack_is_full c.args.self.now _ _ _ _ c.args.next c.args.values.now sized (omega arith)

pub push_all-requires-clause-room : goal.push_all-requires-clause-room
push_all-requires-clause-room c =
    let sized : Sized c.args.self.now c.args.count c.units_above-units.result c.taken.result
    c.room.result = record {
      above_is = c.units_above-units.ensures;
      taken_is = c.taken.ensures.units;
      room_is = c.room.ensures;
    } in
    room_for_values c.args.self.now _ _ _ _ _ _ c.args.values.now c.requires.some c.drop_values.ensures.left sized
    (omega arith)

pub returns-clause-step : goal.returns-clause-step
returns-clause-step c =
    let sized : Sized c.args.self.now c.args.count c.units_above-units.result c.taken.result
    c.room.result = record {
      above_is = c.units_above-units.ensures;
      taken_is = c.taken.ensures.units;
      room_is = c.room.ensures;
    } in
    stack_has_room c.args.self.now _ _ _ _ _ c.args.next c.args.values.now sized (omega arith)
    (replaces_all _ _ _ _ _ c.args.values.now c.requires.some c.drop_values.ensures.left c.push_all.ensures)
