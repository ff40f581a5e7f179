-- Worked rows of start and join (java/lang/Thread): birth 3 is the thread's object.
use Rattle.std.specs.Prelude.{◌≡◌, ℕ, pos, [], ◌∷◌, List, replicate, codes, Option, Some, None, refl}
use Rattle.model.specs.declared.values.Value.{Value}
use Rattle.model.specs.declared.values.Value.TheVariants.{Int, Ref}
use Rattle.model.specs.declared.values.Entry.TheVariants.{Unset, Holds}
use Rattle.model.specs.declared.turns.Fault.TheVariants.{StackEmpty, WrongKind, WrongClass, ThreadLimit, NoMethod}
use Rattle.model.specs.declared.turns.Exception.TheVariants.{NullPointer, IllegalThreadState}
use Rattle.model.specs.declared.instructions.Invocation.TheVariants.{Virtual}
use Rattle.model.specs.ClassListings.{ClassListing}
use Rattle.model.specs.Classes.Builtin.{builtin_classes}
use Rattle.model.specs.Classes.Search.{upwards, interfaces_from}
use Rattle.model.specs.Classes.Subclasses.{is_within}
use Rattle.model.specs.Classes.Types.{is_subtype_within}
use Rattle.model.specs.Frames.{Frame}
use Rattle.model.specs.Worlds.{World, Thread, Object}
use Rattle.model.specs.Worlds.Thread.{Live, Ended}
use Rattle.model.specs.Completions.{Completion}
use Rattle.model.specs.Completions.Completion.{Goes, Raises, Faults, Waits}
use Rattle.model.specs.Table.Invokes.{invoked}
use Rattle.model.proofs.TableRows.Sites.{class, method, abstract_method, member, place, frame, object, world, site}

-- D's objects run D's method, T's nothing, N's an abstract one
abbrev program : List ClassListing
program =
    class (codes "D") (codes "java/lang/Thread") [] (method 1 (codes "run") (codes "()V") 2 3 [] ∷ []) ∷
    class (codes "T") (codes "java/lang/Thread") [] [] ∷
    class (codes "N") (codes "java/lang/Thread") [] (abstract_method (codes "run") (codes "()V") ∷ []) ∷
    class (codes "A") (codes "java/lang/Object") [] [] ∷ []

abbrev at : ℕ → List Value → Frame
at pc stack = frame (place 0 0) pc [] stack 2 None

abbrev object_on_one : List Value
object_on_one = Ref (Some 3) ∷ Int (pos 1) ∷ []

-- thread 0 stands there, with other threads after it
abbrev standing : Frame → List Thread → Object → World
standing f others o = world (Live (f ∷ []) ∷ others) (o ∷ [])

abbrev calls : List ℕ → List Value → List Thread → List ℕ → Option ℕ → Completion
calls name stack others of thread =
    invoked (site program (standing (at 6 stack) others (object of None 0 thread)) (at 6 stack) 9) Virtual
    (member (codes "java/lang/Thread") name (codes "()V"))

-- ---- start

abbrev starts : List Thread → List ℕ → Option ℕ → Completion
starts = calls (codes "start") object_on_one

abbrev goes_on : List Thread → List ℕ → Option ℕ → List ℕ → Completion
goes_on others of thread writes = Goes (standing (at 9 (Int (pos 1) ∷ [])) others (object of None 0 thread)) writes

-- the new thread has the object in local 0, and the object its thread's number
start_first : starts [] (codes "D") None
    ≡ goes_on (Live (frame (place 0 0) 0 (Holds (Ref (Some 3)) ∷ Unset ∷ Unset ∷ []) [] 2 None ∷ []) ∷ []) (codes "D")
    (Some 1) (3 ∷ [])
unfolding upwards interfaces_from is_within is_subtype_within builtin_classes
start_first = refl

start_third : starts (Ended None ∷ Live [] ∷ []) (codes "D") None
    ≡ goes_on (Ended None ∷ Live [] ∷ Live (frame (place 0 0) 0 (Holds (Ref (Some 3)) ∷ Unset ∷ Unset ∷ []) [] 2 None
    ∷ []) ∷ []) (codes "D") (Some 3) (3 ∷ [])
unfolding upwards interfaces_from is_within is_subtype_within builtin_classes
start_third = refl

-- the machine's own run ends the thread at once, and writes nothing
start_own_run : starts [] (codes "T") None ≡ goes_on (Ended None ∷ []) (codes "T") (Some 1) []
unfolding upwards interfaces_from is_within is_subtype_within builtin_classes
start_own_run = refl

-- started, then a 65th thread, then no method to run
start_again : starts (replicate 63 (Ended None)) (codes "N") (Some 1) ≡ Raises IllegalThreadState
unfolding upwards interfaces_from is_within is_subtype_within builtin_classes
start_again = refl

start_65th : starts (replicate 63 (Ended None)) (codes "N") None ≡ Faults ThreadLimit
unfolding upwards interfaces_from is_within is_subtype_within builtin_classes
start_65th = refl

start_64th : starts (replicate 62 (Ended None)) (codes "N") None ≡ Faults NoMethod
unfolding upwards interfaces_from is_within is_subtype_within builtin_classes
start_64th = refl

-- ---- join: a thread that lives is waited for, one that has ended or was never started isn't

abbrev joins : List Thread → Option ℕ → Completion
joins others thread = calls (codes "join") object_on_one others (codes "D") thread

join_live : joins (Live [] ∷ []) (Some 1) ≡ Waits
unfolding upwards interfaces_from is_within is_subtype_within builtin_classes
join_live = refl

join_itself : joins [] (Some 0) ≡ Waits
unfolding upwards interfaces_from is_within is_subtype_within builtin_classes
join_itself = refl

join_ended : joins (Ended (Some (codes "X")) ∷ []) (Some 1) ≡ goes_on (Ended (Some (codes "X")) ∷ []) (codes "D")
    (Some 1) []
unfolding upwards interfaces_from is_within is_subtype_within builtin_classes
join_ended = refl

join_unstarted : joins (Live [] ∷ []) None ≡ goes_on (Live [] ∷ []) (codes "D") None []
unfolding upwards interfaces_from is_within is_subtype_within builtin_classes
join_unstarted = refl

-- ---- the object: null, then another class

start_null : calls (codes "start") (Ref None ∷ []) [] (codes "D") None ≡ Raises NullPointer
start_null = refl

join_null : calls (codes "join") (Ref None ∷ []) [] (codes "D") None ≡ Raises NullPointer
join_null = refl

start_wrong_class : starts [] (codes "A") (Some 0) ≡ Faults WrongClass
unfolding upwards interfaces_from is_within is_subtype_within builtin_classes
start_wrong_class = refl

join_wrong_class : calls (codes "join") object_on_one [] (codes "A") (Some 0) ≡ Faults WrongClass
unfolding upwards interfaces_from is_within is_subtype_within builtin_classes
join_wrong_class = refl

start_nothing : calls (codes "start") [] [] (codes "D") None ≡ Faults StackEmpty
start_nothing = refl

join_int : calls (codes "join") (Int (pos 3) ∷ []) [] (codes "D") None ≡ Faults WrongKind
join_int = refl
