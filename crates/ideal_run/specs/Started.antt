use Rattle.std.specs.Prelude.{ℕ, [], ◌∷◌, Some, None}
use Rattle.model.specs.declared.places.MethodPlace.{MethodPlace}
use Rattle.model.specs.declared.turns.Fault.TheVariants.{NoMethod}
use Rattle.model.specs.declared.values.Value.TheVariants.{Ref}
use Rattle.model.specs.Callees.{Callee}
use Rattle.model.specs.Callees.Callee.{Own, Coded, NoCode}
use Rattle.model.specs.CodeListings.{CodeListing}
use Rattle.model.specs.Completions.{Completion, Site, with_frame}
use Rattle.model.specs.Completions.Completion.{Goes, Faults}
use Rattle.model.specs.Frames.{replaced}
use Rattle.model.specs.Locals.{called_frame}
use Rattle.model.specs.Table.Threads.{with_more}
use Rattle.model.specs.Worlds.{Thread}
use Rattle.model.specs.Worlds.Thread.{Live, Ended}
use Rattle.ideal_run.specs.Steps.{started_on}

-- A thread that begins on an object, given by the object's birth alone.

abbrev pub thread_of : MethodPlace → CodeListing → ℕ → Thread
thread_of place code birth = Live (called_frame place code.max_locals code.max_stack (Ref (Some birth) ∷ []) ∷ [])

abbrev pub thread_added_on : Site → ℕ → Thread → Completion
thread_added_on s birth thread = Goes
    (with_more (with_frame (started_on s.world birth) s (replaced s.next s.frame 1 []).frame) thread) []

abbrev pub begins_on : Site → ℕ → Callee → Completion
begins_on s birth NoCode = Faults NoMethod
begins_on s birth (Own builtin) = thread_added_on s birth (Ended None)
begins_on s birth (Coded m) = thread_added_on s birth (thread_of m.place m.code birth)
