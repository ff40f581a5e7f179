use Rattle.std.specs.Prelude.{ℕ, ◌+◌, List, [], ◌∷◌, ◌++◌, reverse, take, drop, slice_index_or, Some}
use Rattle.model.specs.Frames.{Frame, no_frame}
use Rattle.model.specs.Unwinding as unwinding
use Rattle.model.specs.Unwinding.{handling, failing}
use Rattle.model.specs.Worlds.{Thread}
use Rattle.model.specs.Worlds.Thread.{Live, Ended}
use Rattle.model.specs.Unwinding.Landing.{Handled, Stopped, Unhandled}
use Rattle.model.specs.Unwinding.Response.{Handles, Fails, Leaves}
use Rattle.ideal_run.specs.declared.unwinding.Response.{Response}
use Rattle.ideal_run.specs.declared.unwinding.Response.TheVariants as response
use Rattle.ideal_run.specs.declared.unwinding.Landing.{Landing}
use Rattle.ideal_run.specs.declared.unwinding.Landing.TheVariants as landing
use Rattle.ideal_run.specs.declared.unwinding.Way.{Way}

-- Where a throwable lands, by how many frames stay below.

abbrev pub response_in : Response → unwinding.Response
response_in (response.Handles handler) = Handles handler
response_in response.Fails = Fails
response_in response.Leaves = Leaves

abbrev pub way_at : List Frame → ℕ → Landing → unwinding.Way
way_at frames below (landing.Handled handler) = record {
  landing = Handled handler
      (slice_index_or frames below no_frame) (reverse (take below frames));
  left = reverse (drop (below + 1) frames);
}
way_at frames below landing.Stopped = record {
  landing = Stopped (slice_index_or frames below no_frame)
      (reverse (take below frames));
  left = reverse (drop (below + 1) frames);
}
way_at frames below landing.Unhandled = record { landing = Unhandled; left = reverse frames }

abbrev pub way_in : List Frame → Way → unwinding.Way
way_in frames way = way_at frames way.below way.landing

-- what becomes of the thread where a throwable lands, its handler having room
abbrev pub thread_landed : ℕ → List ℕ → unwinding.Landing → Thread
thread_landed birth class (Handled handler f callers) = Live (reverse callers ++ handling birth handler f ∷ [])
thread_landed birth class (Stopped f callers) = Live (reverse callers ++ failing f ∷ [])
thread_landed birth class Unhandled = Ended (Some class)
