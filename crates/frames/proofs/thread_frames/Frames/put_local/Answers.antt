use Rattle.frames.proofs.RunningLemmas.{with_local-int, with_local-long, with_local-ref, puts_one}
use Rattle.frames.proofs.thread_frames.Frames.put_local.Goals as goal

pub returns-in-Int : goal.returns-in-Int
returns-in-Int c = rw (with_local-int _ _ _ _ c.in-Int.is, ← c.slot_of.ensures.entry)
    (puts_one _ _ _ _ _ c.requires c.free.ensures c.set_local.ensures)

pub returns-in-Ref : goal.returns-in-Ref
returns-in-Ref c = rw (with_local-ref _ _ _ _ c.in-Ref.is, ← c.slot_of-in-Ref.ensures.entry)
    (puts_one _ _ _ _ _ c.requires c.free-in-Ref.ensures c.set_local-in-Ref.ensures)

pub returns-in-Long : goal.returns-in-Long
returns-in-Long c = rw (with_local-long _ _ _ _ c.in-Long.is, ← c.slot_of-in-Long.ensures.entry) c.put_long.ensures
