-- Worked rows of monitorenter and monitorexit (JVMS 6.5): birth 3 is the object, and thread 0 has it on its stack.
use Rattle.std.specs.Prelude.{◌≡◌, ℕ, pos, [], ◌∷◌, List, codes, Option, Some, None, refl}
use Rattle.model.specs.declared.values.Value.{Value}
use Rattle.model.specs.declared.values.Value.TheVariants.{Int, Ref}
use Rattle.model.specs.declared.turns.Fault.TheVariants.{StackEmpty, WrongKind, WrongClass, MonitorLimit}
use Rattle.model.specs.declared.turns.Exception.TheVariants.{NullPointer, IllegalMonitorState}
use Rattle.model.specs.declared.instructions.MonitorOperation.{MonitorOperation}
use Rattle.model.specs.declared.instructions.MonitorOperation.TheVariants.{Enter, Exit}
use Rattle.model.specs.Classes.Builtin.{builtin_classes}
use Rattle.model.specs.Classes.Subclasses.{is_within}
use Rattle.model.specs.Classes.Types.{is_subtype_within}
use Rattle.model.specs.Frames.{Frame}
use Rattle.model.specs.Worlds.{World}
use Rattle.model.specs.Worlds.Thread.{Live}
use Rattle.model.specs.Completions.{Completion}
use Rattle.model.specs.Completions.Completion.{Goes, Raises, Faults, Waits}
use Rattle.model.specs.Table.Monitors.{monitor_operated}
use Rattle.model.proofs.TableRows.Sites.{place, frame, object, world, site}

abbrev at : ℕ → List Value → Frame
at pc stack = frame (place 0 0) pc [] stack 2 None

-- the object's monitor has this owner and count
abbrev owned : Frame → Option ℕ → ℕ → World
owned f owner count = world (Live (f ∷ []) ∷ Live [] ∷ []) (object (codes "java/lang/Object") owner count None ∷ [])

abbrev operated : MonitorOperation → List Value → Option ℕ → ℕ → Completion
operated operation stack owner count = monitor_operated (site [] (owned (at 5 stack) owner count) (at 5 stack) 6)
    operation

abbrev object_on_one : List Value
object_on_one = Ref (Some 3) ∷ Int (pos 1) ∷ []

-- the object goes from the stack, and nothing is written
abbrev goes_on : Option ℕ → ℕ → Completion
goes_on owner count = Goes (owned (at 6 (Int (pos 1) ∷ [])) owner count) []

-- ---- entry: by nobody's, by one's own, up to 65,535

enter_free : operated Enter object_on_one None 0 ≡ goes_on (Some 0) 1
unfolding is_within is_subtype_within
enter_free = refl

enter_own : operated Enter object_on_one (Some 0) 1 ≡ goes_on (Some 0) 2
unfolding is_within is_subtype_within
enter_own = refl

enter_last : operated Enter object_on_one (Some 0) 65534 ≡ goes_on (Some 0) 65535
unfolding is_within is_subtype_within
enter_last = refl

enter_full : operated Enter object_on_one (Some 0) 65535 ≡ Faults MonitorLimit
unfolding is_within is_subtype_within
enter_full = refl

-- another's: the thread waits, whatever the count
enter_other : operated Enter object_on_one (Some 1) 1 ≡ Waits
unfolding is_within is_subtype_within
enter_other = refl

enter_other_full : operated Enter object_on_one (Some 1) 65535 ≡ Waits
unfolding is_within is_subtype_within
enter_other_full = refl

-- ---- exit: at a count of 0 there is no owner

exit_last : operated Exit object_on_one (Some 0) 1 ≡ goes_on None 0
unfolding is_within is_subtype_within
exit_last = refl

exit_once : operated Exit object_on_one (Some 0) 2 ≡ goes_on (Some 0) 1
unfolding is_within is_subtype_within
exit_once = refl

exit_free : operated Exit object_on_one None 0 ≡ Raises IllegalMonitorState
unfolding is_within is_subtype_within
exit_free = refl

exit_other : operated Exit object_on_one (Some 1) 1 ≡ Raises IllegalMonitorState
unfolding is_within is_subtype_within
exit_other = refl

-- where no object was born there is none to enter, or to leave
enter_unborn : operated Enter (Ref (Some 4) ∷ []) None 0 ≡ Faults WrongClass
unfolding builtin_classes is_within is_subtype_within
enter_unborn = refl

exit_unborn : operated Exit (Ref (Some 4) ∷ []) None 0 ≡ Faults WrongClass
unfolding builtin_classes is_within is_subtype_within
exit_unborn = refl

-- ---- the operand

enter_null : operated Enter (Ref None ∷ []) (Some 1) 1 ≡ Raises NullPointer
enter_null = refl

exit_null : operated Exit (Ref None ∷ []) (Some 1) 1 ≡ Raises NullPointer
exit_null = refl

enter_nothing : operated Enter [] None 0 ≡ Faults StackEmpty
enter_nothing = refl

exit_nothing : operated Exit [] None 0 ≡ Faults StackEmpty
exit_nothing = refl

enter_int : operated Enter (Int (pos 3) ∷ []) None 0 ≡ Faults WrongKind
enter_int = refl

exit_int : operated Exit (Int (pos 3) ∷ []) None 0 ≡ Faults WrongKind
exit_int = refl
