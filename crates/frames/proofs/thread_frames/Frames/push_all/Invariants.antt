use Rattle.std.proofs.Common.{◌≡◌, take}
use Rattle.model.specs.Frames.{running_frame, with_running, push_all}
use Rattle.frames.proofs.thread_frames.Frames.push_all.Given as goal

abbrev pub invariant-loop-value : goal.invariant-loop-value
invariant-loop-value l = l.self
    ≡ with_running l.initial.self
    (record (running_frame l.initial.self) {
      stack = push_all (take l.value-index l.values)
          (running_frame l.initial.self).stack;
    })
