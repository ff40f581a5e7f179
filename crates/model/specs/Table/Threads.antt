use Rattle.std.specs.Prelude.{ℕ, List, [], ◌∷◌, ◌++◌, length, nat_le, codes, Bool, true, false, Option, Some, None}
use Rattle.std.specs.Prelude.{is_some, Result, Ok, Err, if◌then◌else◌}
use Rattle.model.specs.declared.values.Value.TheVariants.{Ref}
use Rattle.model.specs.declared.turns.Fault.{Fault}
use Rattle.model.specs.declared.turns.Fault.TheVariants.{ThreadLimit, NoMethod, WrongClass}
use Rattle.model.specs.declared.turns.Exception.TheVariants.{NullPointer, IllegalThreadState}
use Rattle.model.specs.Classes.Selection.{selected}
use Rattle.model.specs.Callees.{Callee, callee_of}
use Rattle.model.specs.Callees.Callee.{Own, Coded, NoCode}
use Rattle.model.specs.Frames.{replaced}
use Rattle.model.specs.Locals.{called_frame}
use Rattle.model.specs.Worlds.{World, Thread, Object, is_live}
use Rattle.model.specs.Worlds.Thread.{Live, Ended}
use Rattle.model.specs.Objects.{object_at, class_of, with_object}
use Rattle.model.specs.Completions.{Completion, Site, with_frame, moves_in, raises}
use Rattle.model.specs.Completions.Completion.{Goes, Faults, Waits}

-- Starting a thread, and waiting for its end (the class Thread).

-- ---- start

abbrev pub with_more : World → Thread → World
with_more w thread = record w { threads = w.threads ++ thread ∷ [] }

-- the object knows its thread by the thread's number
abbrev pub numbered : World → ℕ → Object → World
numbered w birth object = with_object w birth (record object { thread = Some (length w.threads) })

-- one thread more, the last
abbrev pub thread_added : Site → ℕ → Object → Thread → List ℕ → Completion
thread_added s birth object thread writes = Goes
    (with_more (with_frame (numbered s.world birth object) s (replaced s.next s.frame 1 []).frame) thread) writes

-- the thread begins with the object in local 0; that of the machine's own method has ended at once
abbrev pub begins : Site → ℕ → Object → Callee → Completion
begins s birth object NoCode = Faults NoMethod
begins s birth object (Own builtin) = thread_added s birth object (Ended None) []
begins s birth object (Coded m) = thread_added s birth object
    (Live (called_frame m.place m.code.max_locals m.code.max_stack (Ref (Some birth) ∷ []) ∷ [])) (birth ∷ [])

-- whether the object was started, and whether 64 threads were
abbrev pub start_if : Completion → Bool → Bool → Completion
start_if start true full = raises IllegalThreadState
start_if start false true = Faults ThreadLimit
start_if start false false = start

abbrev pub starts : Site → ℕ → Option Object → Completion
starts s birth None = Faults WrongClass
starts s birth (Some object) =
    start_if (begins s birth object (callee_of s.program (selected s.program (class_of object.contents) (codes "run")
    (codes "()V"))))
    (is_some object.thread) (nat_le 64 (length s.world.threads))

abbrev pub started : Site → Result (Option ℕ) Fault → Completion
started s (Err fault) = Faults fault
started s (Ok None) = raises NullPointer
started s (Ok (Some birth)) = starts s birth (object_at s.world birth)

-- ---- join

abbrev pub has_live_thread : World → Option ℕ → Bool
has_live_thread w None = false
has_live_thread w (Some t) = is_live w t

abbrev pub thread_if : Option Object → Option ℕ
thread_if None = None
thread_if (Some object) = object.thread

-- a thread that was never started doesn't live
abbrev pub joined : Site → Result (Option ℕ) Fault → Completion
joined s (Err fault) = Faults fault
joined s (Ok None) = raises NullPointer
joined s (Ok (Some birth)) =
    if has_live_thread s.world (thread_if (object_at s.world birth)) then Waits
    else moves_in s.world s (replaced s.next s.frame 1 [])
