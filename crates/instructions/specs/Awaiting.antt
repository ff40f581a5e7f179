use Rattle.std.specs.Prelude.{ℕ, List, slice_get, Bool, false, not, Option, Some, None, Result, Ok, Err, if◌then◌else◌}
use Rattle.std.specs.Option.{option_map}
use Rattle.model.specs.declared.builtins.Builtin.{Builtin}
use Rattle.model.specs.declared.builtins.Builtin.TheVariants.{PrintInt, PrintLong, PutByte, Initialize, RunThread}
use Rattle.model.specs.declared.builtins.Builtin.TheVariants.{StartThread, JoinThread}
use Rattle.model.specs.declared.places.MethodPlace.{MethodPlace}
use Rattle.model.specs.declared.turns.Fault.{Fault}
use Rattle.model.specs.ClassListings.{ClassListing}
use Rattle.model.specs.Frames.{Frame, ref_on}
use Rattle.model.specs.Monitors.{may_enter}
use Rattle.model.specs.Signatures.{argument_kinds}
use Rattle.linking.specs.declared.method_tables.Body.{Body}
use Rattle.linking.specs.declared.method_tables.Body.TheVariants.{NoCode, Own, Coded}
use Rattle.linking.specs.declared.operations.Operation.{Operation}
use Rattle.linking.specs.declared.operations.Operation.TheVariants as operation
use Rattle.linking.specs.MethodFacts.{MethodFacts}
use Rattle.linking.specs.Selectors.{Signature, selectors}
use Rattle.instructions.specs.declared.awaiting.Awaited.{Awaited}
use Rattle.instructions.specs.declared.awaiting.Awaited.TheVariants.{Entry, End}
use Rattle.instructions.specs.declared.kinds.Course.{Course}
use Rattle.instructions.specs.declared.kinds.Kind.{Kind}
use Rattle.instructions.specs.CallsByNumbers.{is_kind_of, is_static, known_at, method_monitor, object_found}
use Rattle.instructions.specs.CallsByNumbers.{place_of_number, selected_place}
use Rattle.instructions.specs.HeapMonitors.{monitor_held}
use Rattle.instructions.specs.HeapThreads.{thread_held}
use Rattle.instructions.specs.Heaps.{HeapValue, kind_held}
use Rattle.instructions.specs.MonitorsByNumbers.{is_object}
use Rattle.instructions.specs.Starting.{lives_on}

-- Whether a call, or monitorenter, waits for another thread: for a monitor (JVMS 2.11.10), or for the end of the thread
-- that a call joins.

-- ---- what a method waits for that is called on an object

-- of the machine's own methods, join waits for the end of a thread, and the others for nothing
abbrev pub awaited_of_own : Builtin → Option Awaited
awaited_of_own PrintInt = None
awaited_of_own PrintLong = None
awaited_of_own PutByte = None
awaited_of_own Initialize = None
awaited_of_own RunThread = None
awaited_of_own StartThread = None
awaited_of_own JoinThread = Some End

-- nothing where there is no code to run
abbrev pub awaited_of_body : MethodFacts → ℕ → Body → Option Awaited
awaited_of_body facts birth NoCode = None
awaited_of_body facts birth (Own builtin) = awaited_of_own builtin
awaited_of_body facts birth (Coded max_locals max_stack) = option_map Entry (method_monitor facts (Some birth))

abbrev pub awaited_of_known : ℕ → Option MethodFacts → Option Awaited
awaited_of_known birth None = None
awaited_of_known birth (Some facts) = if is_static facts then None else awaited_of_body facts birth facts.body

abbrev pub awaited_at : List ClassListing → ℕ → Option MethodPlace → Option Awaited
awaited_at program birth None = None
awaited_at program birth (Some place) = awaited_of_known birth (known_at program place)

-- the object is of the class of a number
abbrev pub awaited_as : List ClassListing → ℕ → (Kind → Option MethodPlace) → ℕ → Option Kind → Option Awaited
awaited_as program class method birth None = None
awaited_as program class method birth (Some kind) =
    if is_kind_of program kind class then awaited_at program birth (method kind) else None

-- what is found below the arguments
abbrev pub awaited_on : List ClassListing → HeapValue → ℕ → (Kind → Option MethodPlace) → Result (Option ℕ) Fault
    → Option Awaited
awaited_on program h class method (Err fault) = None
awaited_on program h class method (Ok None) = None
awaited_on program h class method (Ok (Some birth)) = awaited_as program class method birth (kind_held h birth)

-- ---- what an operation waits for

abbrev pub awaited_selected : List ClassListing → HeapValue → Frame → ℕ → Option Signature → Option Awaited
awaited_selected program h f class None = None
awaited_selected program h f class (Some signature) =
    awaited_on program h class (selected_place program signature) (object_found (argument_kinds signature.1) f.stack)

abbrev pub awaited_special : List ClassListing → HeapValue → Frame → ℕ → MethodPlace → Option MethodFacts
    → Option Awaited
awaited_special program h f class place None = None
awaited_special program h f class place (Some facts) =
    awaited_on program h class (λ kind. Some place) (object_found facts.arguments f.stack)

-- the monitor of the object at the top, where there is one
abbrev pub awaited_on_top : List ClassListing → HeapValue → Result (Option ℕ) Fault → Option Awaited
awaited_on_top program h (Err fault) = None
awaited_on_top program h (Ok None) = None
awaited_on_top program h (Ok (Some birth)) = if is_object program (kind_held h birth) then Some (Entry birth) else None

-- what is no call waits for nothing but that
abbrev pub awaited_apart : List ClassListing → HeapValue → Frame → Operation → Option Awaited
awaited_apart program h f operation.Monitorenter = awaited_on_top program h (ref_on f.stack)
awaited_apart program h f other = None

-- a static method waits for nothing
abbrev pub awaited_by : List ClassListing → HeapValue → Frame → Operation → Option Awaited
awaited_by program h f (operation.Invokevirtual class selector) =
    awaited_selected program h f class (slice_get (selectors program) selector)
awaited_by program h f (operation.Invokespecial class declarer method) =
    let place = place_of_number (declarer, method) in awaited_special program h f class place (known_at program place)
awaited_by program h f other = awaited_apart program h f other

-- ---- whether a thread waits for it

-- the thread that was started on the object of a reference goes on, the threads being in these courses
abbrev pub goes_on_in : List Course → HeapValue → Result (Option ℕ) Fault → Bool
goes_on_in courses h (Err fault) = false
goes_on_in courses h (Ok None) = false
goes_on_in courses h (Ok (Some birth)) = lives_on courses (thread_held h birth)

abbrev pub awaits : List Course → ℕ → HeapValue → Frame → Option Awaited → Bool
awaits courses t h f None = false
awaits courses t h f (Some (Entry birth)) = not (may_enter t (monitor_held h birth).owner)
awaits courses t h f (Some End) = goes_on_in courses h (ref_on f.stack)

abbrev pub awaits_thread : List ClassListing → List Course → ℕ → HeapValue → Frame → Operation → Bool
awaits_thread program courses t h f op = awaits courses t h f (awaited_by program h f op)
