use Rattle.std.proofs.Common.{sym}
use Rattle.values.specs.Slots.{entry_of}
use Rattle.frames.proofs.RunningLemmas.{puts_two, puts_over_long}
use Rattle.frames.proofs.thread_frames.Frames.put_long.Goals as goal

pub returns-in-Some-Long : goal.returns-in-Some-Long
returns-in-Some-Long c =
    let there = rw (c.in-Some-Long.is, c.in-Some-Long.field-0-is) at c.local.ensures in
    puts_over_long c.args.self.now _ c.args.index _ (entry_of c.args.slot) (sym there) c.set_two.ensures

pub returns-in-Some-Int : goal.returns-in-Some-Int
returns-in-Some-Int c = puts_two _ _ _ _ _ _ c.requires.some c.free.ensures c.free-in-Some-Int.ensures
    c.set_two-in-Some-Int.ensures
