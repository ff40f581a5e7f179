use Rattle.std.specs.Prelude.{ℕ, ◌+◌, List, [], ◌∷◌, ◌++◌, drop, take, slice_get, nat_lt, Bool, true, false, ◌&&◌}
use Rattle.std.specs.Prelude.{if◌then◌else◌, Option, Some, None, is_some, position}
use Rattle.std.specs.List.{find, list_any}
use Rattle.std.specs.Option.{option_map}
use Rattle.model.specs.declared.colours.Colour.{Colour}
use Rattle.model.specs.declared.colours.Phase.{Phase}
use Rattle.model.specs.declared.journals.Limits.{Limits}
use Rattle.model.specs.declared.journals.Row.{Row}
use Rattle.model.specs.declared.places.CodePlace.{CodePlace}
use Rattle.model.specs.declared.turns.Actor.{Actor}
use Rattle.model.specs.declared.turns.Actor.TheVariants.{Thread as ByThread, Collector}
use Rattle.model.specs.declared.turns.Fault.{Fault}
use Rattle.model.specs.declared.turns.Status.{Status}
use Rattle.model.specs.declared.turns.Status.TheVariants.{Running, Finished, Stuck, Faulted}
use Rattle.model.specs.declared.turns.ClassState.{ClassState}
use Rattle.model.specs.Classes.Named.{is_named, class_named}
use Rattle.model.specs.Initialisation.{state_at}
use Rattle.model.specs.declared.views.CellView.{CellView}
use Rattle.model.specs.declared.colours.Cell.{Cell}
use Rattle.model.specs.declared.colours.Cell.TheVariants.{Free, Taken}
use Rattle.model.specs.ClassListings.{ClassListing}
use Rattle.model.specs.Collector.Reached.{is_reached}
use Rattle.model.specs.Frames.{Frame, running}
use Rattle.model.specs.Objects.{object_at}
use Rattle.model.specs.Room.{words_of_cell}
use Rattle.model.specs.Worlds.{World, Thread, Object, frames_at, next_birth}
use Rattle.model.specs.Ready.{is_ready, thread_numbers, some_lives, some_is_ready}
use Rattle.model.specs.Turns.{overflows}
use Rattle.model.specs.Machines.{Recorded, machine_of}

-- What each observer of a world answers: a function of its program and its journal.

abbrev pub ideal : Recorded → World
ideal v = (machine_of v).world

abbrev pub output_of : Recorded → List ℕ
output_of v = (ideal v).output

abbrev pub fault_of : Recorded → Option (Fault × ℕ)
fault_of v = (ideal v).fault

abbrev pub thread_of : Recorded → ℕ → Option Thread
thread_of v t = slice_get (ideal v).threads t

-- ---- where threads stand

abbrev pub place_of_frame : Frame → CodePlace
place_of_frame f = record { method = f.method; pc = f.pc }

abbrev pub place_in : World → ℕ → Option CodePlace
place_in w t = option_map place_of_frame (running (frames_at w t))

-- the instruction at which a thread's running frame stands; none where it was never started or has ended
abbrev pub place_of : Recorded → ℕ → Option CodePlace
place_of v t = place_in (ideal v) t

-- ---- status

abbrev pub status_by : Bool → Bool → Bool → Status
status_by true lives ready = Faulted
status_by false false ready = Finished
status_by false true false = Stuck
status_by false true true = Running

-- a fault; else no thread lives; else none is ready; else it runs
abbrev pub status_in : List ClassListing → World → Status
status_in program w = status_by (is_some w.fault) (some_lives w) (some_is_ready program w)

abbrev pub status_of : Recorded → Status
status_of v = status_in v.program (ideal v)

-- ---- pick

abbrev pub after_actor : ℕ → Actor → ℕ
after_actor n (ByThread t) = t + 1
after_actor n Collector = n

-- the number after the thread of the last thread row, n where there is none
abbrev pub after_last : ℕ → List Row → ℕ
after_last n [] = n
after_last n (row ∷ rows) = after_last (after_actor n row.actor) rows

-- the threads in cyclic order from one on
abbrev pub cyclic_from : ℕ → List ℕ → List ℕ
cyclic_from start threads = drop start threads ++ take start threads

-- the first ready thread after the one that had the last thread row
abbrev pub pick_of : Recorded → Option ℕ
pick_of v = find (is_ready v.program (ideal v)) (cyclic_from (after_last 0 v.journal.rows) (thread_numbers (ideal v)))

-- ---- the output limit

-- a ready thread whose turn would be refused for its output
abbrev pub is_held_by_output : List ClassListing → Limits → World → ℕ → Bool
is_held_by_output program limits w t = is_ready program w t && overflows program limits w t

abbrev pub is_running : Status → Bool
is_running Running = true
is_running Finished = false
is_running Stuck = false
is_running Faulted = false

-- it runs, has steps left, and the output holds some ready thread
abbrev pub output_full_of : Recorded → Bool
output_full_of v =
    is_running (status_of v) && nat_lt (ideal v).rows v.journal.limits.steps
    && list_any (is_held_by_output v.program v.journal.limits (ideal v)) (thread_numbers (ideal v))

-- ---- class states

abbrev pub state_named : List ClassListing → World → List ℕ → ClassState
state_named program w name = state_at w.statics.states (position (is_named name) program)

-- the state of a class by its name, None where there is no such class
abbrev pub class_state_of : Recorded → List ℕ → Option ClassState
class_state_of v name = option_map (λ (c : ClassListing). state_named v.program (ideal v) name)
    (class_named v.program name)

-- ---- the heap

-- the number that the next new object gets
abbrev pub next_birth_of : Recorded → ℕ
next_birth_of v = next_birth (ideal v)

abbrev pub phase_of : Recorded → Phase
phase_of v = (machine_of v).account.phase

abbrev pub held_in : Cell → Option (ℕ × Colour)
held_in Free = None
held_in (Taken birth colour) = Some (birth, colour)

abbrev pub cell_view : ℕ → Cell → CellView
cell_view words cell = record { words = words; held = held_in cell }

-- the words of a cell, and the birth and colour that it holds, if it holds one; None past the last cell
abbrev pub cell_of : Recorded → ℕ → Option CellView
cell_of v c = option_map (cell_view (words_of_cell v.journal.shape c)) (slice_get (machine_of v).account.cells c)

abbrev pub reached_object : World → ℕ → Option Object
reached_object w b = if is_reached w b then object_at w b else None

-- the object of a birth, None where no path from the roots leads to it
abbrev pub object_of : Recorded → ℕ → Option Object
object_of v b = reached_object (ideal v) b
