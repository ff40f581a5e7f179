use Rattle.std.proofs.Common.{◌≤◌}
use Rattle.model.specs.Values.{units_of_all}
use Rattle.frames.proofs.PushLemmas.{room_for_no_more, replaces_all}
use Rattle.frames.proofs.thread_frames.Frames.replace_all.Goals as goal

pub push_all-requires-clause-room : goal.push_all-requires-clause-room
push_all-requires-clause-room c =
    let fits : units_of_all c.args.values.now ≤ c.units_above-units.result = rw c.units_above-units.ensures
    c.requires.room in
    room_for_no_more c.args.self.now _ _ _ _ c.args.values.now c.requires.some c.drop_values.ensures.left
    c.drop_values.ensures.room fits

pub returns : goal.returns
returns c = replaces_all _ _ _ _ _ c.args.values.now c.requires.some c.drop_values.ensures.left c.push_all.ensures
