use Rattle.std.proofs.Common.{◌≡◌, drop}
use Rattle.ideal_run.specs.Rooms.{room_left}
use Rattle.ideal_run.proofs.calls.room_left.Given as goal

-- the frames that are left have the room that is left
abbrev pub invariant-loop-frame : goal.invariant-loop-frame
invariant-loop-frame l = room_left l.frames l.room ≡ room_left (drop l.frame-index l.frames) l.left
