use Rattle.std.proofs.Common.{◌≡◌, ◌&&◌, ap, sym, true, false, drop, arith, ◌∙◌}
use Rattle.std.specs.Prelude.{nat_le}
use Rattle.std.proofs.lemmas.Bool.{le-leb, lt-leb}
use Rattle.model.specs.Accounts.{has_room}
use Rattle.model.specs.Frames.{running_frame}
use Rattle.model.specs.Values.{units_of_all}
use Rattle.frames.proofs.StackLemmas.{units_of_all-take-drop}
use Rattle.instructions.proofs.machines.Machine.lacks_unit.Goals as goal

pub overflow_sub-taken : goal.overflow_sub-taken
overflow_sub-taken c =
    let split = units_of_all-take-drop (running_frame c.args.self.now.frames).stack c.args.count in
    omega (arith, split, c.requires.units, c.taken.ensures.units)

pub returns-then-room-taken : goal.returns-then-room-taken
returns-then-room-taken c =
    let f = running_frame c.args.self.now.frames in
    let split = units_of_all-take-drop f.stack c.args.count in
    let full : nat_le f.room (units_of_all (drop c.args.count f.stack)) ≡ true =
    le-leb f.room (units_of_all (drop c.args.count f.stack))
    (omega (arith, split, c.requires.units, c.taken.ensures.units, c.room.ensures, c.if-room-taken.true)) in
    c.has_cell.ensures ∙ sym (ap (λ b. b && has_room c.args.self.now.heap.account c.args.words) full)

pub returns-else-room-taken : goal.returns-else-room-taken
returns-else-room-taken c =
    let f = running_frame c.args.self.now.frames in
    let split = units_of_all-take-drop f.stack c.args.count in
    let full : nat_le f.room (units_of_all (drop c.args.count f.stack)) ≡ false =
    lt-leb f.room (units_of_all (drop c.args.count f.stack))
    (omega (arith, split, c.requires.units, c.taken.ensures.units, c.room.ensures, c.if-room-taken.false)) in
    lt-leb c.room.result _ c.if-room-taken.false
    ∙ sym (ap (λ b. b && has_room c.args.self.now.heap.account c.args.words) full)
