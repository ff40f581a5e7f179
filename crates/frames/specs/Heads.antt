use Rattle.std.specs.Prelude.{ℕ, List, slice_get, Option}
use Rattle.std.specs.Option.{option_map}
use Rattle.model.specs.Values.{units_of_all}
use Rattle.model.specs.Frames.{Frame}
use Rattle.frames.specs.declared.heads.FrameHead.{FrameHead}

-- what is told of a frame beside its locals and the values on its stack
abbrev pub head_of : Frame → FrameHead
head_of f = record {
  method = f.method;
  pc = f.pc;
  taken = units_of_all f.stack;
  room = f.room;
  monitor = f.monitor;
  mark = f.mark;
}

-- the same of a thread's frame, frames being counted from the outermost; none where there is no such frame
abbrev pub head_at : List Frame → ℕ → Option FrameHead
head_at frames d = option_map head_of (slice_get frames d)
