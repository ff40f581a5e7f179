use Rattle.std.proofs.Common.{arith}
use Rattle.frames.proofs.ArgumentLemmas.{Copied, value_next, copied_next, room_for_copy}
use Rattle.values.specs.Slots.{entry_of, value_of}
use Rattle.frames.proofs.arguments.copy_arguments.Goals as goal

pub put_argument-end-requires : goal.put_argument-end-requires
put_argument-end-requires c =
    let copied : Copied c.args.units.now c.args.from c.args.base c.loop-place.place c.loop-place.units
    c.loop-place.end = record { items = c.loop-place.invariant.items; end_is = c.loop-place.invariant.end } in
    let next = value_next c.args.units.now c.args.from c.args.base c.loop-place.place c.loop-place.units
    c.loop-place.end (entry_of c.at-slot.result) copied (omega arith) (omega arith) c.at-slot.ensures in
    let room = room_for_copy c.args.units.now c.args.from c.args.base c.loop-place.place c.args.count c.loop-place.end
    (value_of c.at-slot.result) (omega arith) (omega arith) (omega arith) c.loop-place.invariant.end next in
    omega arith

pub loop-place-preserved : goal.loop-place-preserved
loop-place-preserved c =
    let copied : Copied c.args.units.now c.args.from c.args.base c.loop-place.place c.loop-place.units
    c.loop-place.end = record { items = c.loop-place.invariant.items; end_is = c.loop-place.invariant.end } in
    let next = value_next c.args.units.now c.args.from c.args.base c.loop-place.place c.loop-place.units
    c.loop-place.end (entry_of c.at-slot.result) copied (omega arith) (omega arith) c.at-slot.ensures in
    let room = room_for_copy c.args.units.now c.args.from c.args.base c.loop-place.place c.args.count c.loop-place.end
    (value_of c.at-slot.result) (omega arith) (omega arith) (omega arith) c.loop-place.invariant.end next in
    let more = copied_next c.args.units.now c.args.from c.args.base c.loop-place.place c.loop-place.units
    c.put_argument-end.new.units c.loop-place.end (value_of c.at-slot.result) copied (omega arith) (omega arith)
    (omega arith) next c.put_argument-end.ensures.items in
    let end = c.put_argument-end.ensures.end in
    record {
      items = rw end more.items;
      len = omega arith;
      end = rw end more.end_is;
    }
