use Rattle.std.specs.Prelude.{ℕ, List, slice_get, Option, Some, None, Result, Ok, Err}
use Rattle.model.specs.declared.turns.Abrupt.{Abrupt}
use Rattle.model.specs.Frames.{Frame, Moved, with_running}

-- what a step's answer and the frames after it tell: these frames and the references written, or why nothing was done
abbrev pub reported_with : Result (List ℕ) Abrupt → List Frame → Result (List Frame × List ℕ) Abrupt
reported_with (Ok written) after = Ok (after, written)
reported_with (Err e) after = Err e

-- a thread's frames after a move of the running one, and what the move wrote
abbrev pub moved_with : List Frame → Result Moved Abrupt → Result (List Frame × List ℕ) Abrupt
moved_with frames (Ok m) = Ok (with_running frames m.frame, m.writes)
moved_with frames (Err e) = Err e

-- the same answer of a step that writes one reference at most: this reference, or that nothing was done
abbrev pub carried : Result (List ℕ) Abrupt → Option (Option ℕ)
carried (Ok written) = Some (slice_get written 0)
carried (Err e) = None
