use Rattle.std.specs.Prelude.{List, Result, Ok, Err}
use Rattle.model.specs.declared.turns.Abrupt.{Abrupt}
use Rattle.model.specs.Frames.{Frame, Moved, with_running}

-- the outcome of a call and the state after it as one: the state, or why there is none
abbrev pub reported : {A E : Type 0} → Result (Unit {0}) E → A → Result A E
reported (Ok u) after = Ok after
reported (Err e) after = Err e

-- a thread's frames after a move of the running one
abbrev pub moved_on : List Frame → Result Moved Abrupt → Result (List Frame) Abrupt
moved_on frames (Ok m) = Ok (with_running frames m.frame)
moved_on frames (Err e) = Err e
