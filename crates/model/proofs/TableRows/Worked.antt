-- What the worked rows of the table are written with.
use Rattle.std.specs.Prelude.{ℕ, List, None, Result, Ok, Err}
use Rattle.model.specs.declared.values.Value.{Value}
use Rattle.model.specs.declared.values.Entry.{Entry}
use Rattle.model.specs.declared.turns.Fault.{Fault}
use Rattle.model.specs.declared.turns.Mark.TheVariants.{Unmarked}
use Rattle.model.specs.declared.turns.Abrupt.{Abrupt}
use Rattle.model.specs.declared.turns.Abrupt.TheVariants.{Fault as Faulted}
use Rattle.model.specs.Frames.{Frame, Moved}

-- a frame at this pc with these locals, this stack, its top first, and this room
abbrev pub frame : ℕ → List Entry → List Value → ℕ → Frame
frame pc locals stack room = record {
  method = record { class = 0; method = 0 };
  pc = pc;
  locals = locals;
  stack = stack;
  room = room;
  monitor = None;
  mark = Unmarked;
}

-- an instruction that goes on with this frame and writes these births
abbrev pub goes : Frame → List ℕ → Result Moved Abrupt
goes f writes = Ok (record { frame = f; writes = writes })

abbrev pub fails : Fault → Result Moved Abrupt
fails fault = Err (Faulted fault)
