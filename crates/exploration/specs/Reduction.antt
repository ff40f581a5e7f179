use Rattle.std.specs.Prelude.{◌≡◌, ◌==◌, ◌+◌, ℕ, List, [], map, drop, reverse, position, slice_get, slice_index_or, Bool, true}
use Rattle.std.specs.Prelude.{false, ◌&&◌, if◌then◌else◌, Option, Some, None, Result, Ok, Err}
use Rattle.std.specs.List.{list_any}
use Rattle.std.specs.Option.{option_len, option_map_or}
use Rattle.model.specs.declared.instructions.Instruction.TheVariants.{Nop, Constant, Local, Stack, Number, Branch}
use Rattle.model.specs.declared.instructions.Instruction.TheVariants.{TableSwitch, LookupSwitch, Return}
use Rattle.model.specs.declared.instructions.Instruction.TheVariants.{Static as StaticField, Field, Array, Class}
use Rattle.model.specs.declared.instructions.Instruction.TheVariants.{Invoke, Throw, Monitor}
use Rattle.model.specs.declared.instructions.Invocation.{Invocation}
use Rattle.model.specs.declared.instructions.Invocation.TheVariants.{Virtual, Special, Static, Interface}
use Rattle.model.specs.declared.journals.Limits.{Limits}
use Rattle.model.specs.declared.listings.Method.{Method}
use Rattle.model.specs.declared.listings.Placed.{Placed}
use Rattle.model.specs.declared.names.Member.{Member}
use Rattle.model.specs.declared.turns.Abrupt.{Abrupt}
use Rattle.model.specs.declared.turns.Actor.TheVariants.{Thread as ThreadActor}
use Rattle.model.specs.declared.turns.ClassState.TheVariants.{Done}
use Rattle.model.specs.declared.turns.Fault.{Fault}
use Rattle.model.specs.declared.turns.Mark.{Mark}
use Rattle.model.specs.declared.turns.Mark.TheVariants.{Unmarked, Waiting, Failing}
use Rattle.model.specs.declared.values.Kind.{Kind}
use Rattle.model.specs.declared.values.Value.{Value}
use Rattle.model.specs.Callees.{CodedMethod, Callee, callee_of}
use Rattle.model.specs.Callees.Callee.{Own, Coded, NoCode}
use Rattle.model.specs.Classes.Flags.{is_synchronized}
use Rattle.model.specs.Classes.Named.{is_named}
use Rattle.model.specs.Classes.Resolution.{resolved_method}
use Rattle.model.specs.Classes.Search.{Declared}
use Rattle.model.specs.Classes.Selection.{selected}
use Rattle.model.specs.Classes.Special.{special_method, superclass_at}
use Rattle.model.specs.Classes.Types.{is_subtype}
use Rattle.model.specs.ClassListings.{ClassListing}
use Rattle.model.specs.Frames.{Frame, Moved, running, with_running, callers, replaced, ref_on, has_room_for}
use Rattle.model.specs.Initialisation.{declares_initializer, is_initializer_if, runs_initializer}
use Rattle.model.specs.Locals.{value_on, frames_of_call}
use Rattle.model.specs.Objects.{class_of}
use Rattle.model.specs.Programs.{instruction_of, method_at}
use Rattle.model.specs.Signatures.{argument_kinds}
use Rattle.model.specs.Worlds.{World, Object, Thread, frames_of, with_thread}
use Rattle.model.specs.Worlds.Thread.{Live}
use Rattle.model.specs.Effects.Choice.{NewObject, NoRoom}
use Rattle.model.specs.Table.Constants.{constant}
use Rattle.model.specs.Table.Locals.{local}
use Rattle.model.specs.Table.Stacks.{rearranged}
use Rattle.model.specs.Table.Numbers.{number}
use Rattle.model.specs.Table.Branches.{branched}
use Rattle.model.specs.Table.Invokes.{arguments_in, fault_in_pops, guarded}
use Rattle.model.specs.Table.Returns.{gives, past_invoke}
use Rattle.model.specs.Table.Switches.{table_switched, lookup_switched}
use Rattle.model.specs.Table.Next.{Listed, class_used, next, asked}
use Rattle.model.specs.Turns.{refusal}
use Rattle.exploration.specs.ClosedLists.{IsAmong}
use Rattle.exploration.specs.Representation.{uncounted}

-- Plain steps: turns that change nothing but their thread's frames, and look at nothing else that a turn can change. No
-- schedule matters to them, so a search may make them at once.

-- ---- what an instruction makes of the running frame

abbrev pub moved_in : List Frame → Result Moved Abrupt → Option (List Frame)
moved_in frames (Err abrupt) = None
moved_in frames (Ok m) = Some (with_running frames m.frame)

-- ---- a return to a caller, from a frame that holds no monitor and runs no initializer

abbrev pub left_to : List ClassListing → List Frame → Option Value → Option Frame → Option (List Frame)
left_to program frames result None = None
left_to program frames result (Some caller) =
    moved_in (callers frames) (past_invoke caller result (instruction_of program caller))

abbrev pub left_with : List ClassListing → List Frame → Option Value → Option (List Frame)
left_with program frames result = left_to program frames result (running (callers frames))

abbrev pub left_if : List ClassListing → List Frame → Result Value Fault → Option (List Frame)
left_if program frames (Err fault) = None
left_if program frames (Ok value) = left_with program frames (Some value)

abbrev pub left_by : List ClassListing → List Frame → Frame → Option Kind → Bool → Option (List Frame)
left_by program frames f kind false = None
left_by program frames f None true = left_with program frames None
left_by program frames f (Some kind) true = left_if program frames (value_on kind f.stack)

abbrev pub unless_held : Option ℕ → Bool → Option (List Frame) → Option (List Frame)
unless_held None false after = after
unless_held None true after = None
unless_held (Some monitor) initializer after = None

abbrev pub returned_plainly : List ClassListing → List Frame → Frame → Option Kind → Option (List Frame)
returned_plainly program frames f kind = unless_held f.monitor (runs_initializer program f)
    (left_by program frames f kind (gives kind (method_at program f.method)))

-- ---- a call of a method with code that is no initializer, for which no monitor is entered

abbrev pub monitor_wanted : Option ℕ → Method → Option ℕ
monitor_wanted object method = if is_synchronized method then object else None

-- n operands go into the locals of a new frame, if there is room for it
abbrev pub entered_if : List Frame → ℕ → CodedMethod → Option ℕ → Bool → Bool → Option (List Frame)
entered_if frames n m (Some monitor) room initializer = None
entered_if frames n m None false initializer = None
entered_if frames n m None true true = None
entered_if frames n m None true false =
    Some (guarded None (frames_of_call frames m.place m.code.max_locals m.code.max_stack n))

abbrev pub called_plainly : List ClassListing → List Frame → ℕ → Option ℕ → Callee → Option (List Frame)
called_plainly program frames n object NoCode = None
called_plainly program frames n object (Own builtin) = None
called_plainly program frames n object (Coded m) = entered_if frames n m (monitor_wanted object m.method)
    (has_room_for frames m.code.max_locals m.code.max_stack) (is_initializer_if (method_at program m.place))

abbrev pub unless_fault : Option Fault → Option (List Frame) → Option (List Frame)
unless_fault None after = after
unless_fault (Some fault) after = None

abbrev pub operands_of : Member → Option ℕ → ℕ
operands_of m object = arguments_in m + option_len object

-- on an object of a class, if that is a class of the member
abbrev pub called_of_class : List ClassListing → List Frame → Member → (List ℕ → Option (Declared Method)) → ℕ
    → Option (List ℕ) → Option (List Frame)
called_of_class program frames m method birth None = None
called_of_class program frames m method birth (Some class) =
    if is_subtype program class m.class
    then called_plainly program frames (operands_of m (Some birth)) (Some birth) (callee_of program (method class))
    else None

abbrev pub called_on_object : List ClassListing → List (List ℕ) → List Frame → Member
    → (List ℕ → Option (Declared Method)) → Result (Option ℕ) Fault → Option (List Frame)
called_on_object program classes frames m method (Err fault) = None
called_on_object program classes frames m method (Ok None) = None
called_on_object program classes frames m method (Ok (Some birth)) =
    called_of_class program frames m method birth (slice_get classes birth)

-- which method is called on an object of a class
abbrev pub method_for : List ClassListing → Frame → Invocation → Member → List ℕ → Option (Declared Method)
method_for program f Static m class = resolved_method program m
method_for program f Virtual m class = selected program class m.name m.descriptor
method_for program f Special m class = special_method program (superclass_at program f.method.class) m
method_for program f (Interface count) m class = selected program class m.name m.descriptor

abbrev pub called_by : List ClassListing → List (List ℕ) → List Frame → Frame → Invocation → Member
    → Option (List Frame)
called_by program classes frames f Static m =
    called_plainly program frames (operands_of m None) None (callee_of program (resolved_method program m))
called_by program classes frames f Virtual m =
    called_on_object program classes frames m (method_for program f Virtual m) (ref_on (drop (arguments_in m) f.stack))
called_by program classes frames f Special m =
    called_on_object program classes frames m (method_for program f Special m) (ref_on (drop (arguments_in m) f.stack))
called_by program classes frames f (Interface count) m =
    called_on_object program classes frames m (method_for program f (Interface count) m) (ref_on (drop (arguments_in m) f.stack))

abbrev pub invoked_plainly : List ClassListing → List (List ℕ) → List Frame → Frame → Invocation → Member
    → Option (List Frame)
invoked_plainly program classes frames f invocation m =
    unless_fault (fault_in_pops (reverse (argument_kinds m.descriptor)) f.stack)
    (called_by program classes frames f invocation m)

-- ---- what a thread's instruction makes of its frames, by the classes of objects; none of one that does more, throws or
-- is at fault

abbrev pub plainly : List ClassListing → List (List ℕ) → List Frame → Frame → ℕ → Listed → Option (List Frame)
plainly program classes frames f after Nop = moved_in frames (Ok (replaced after f 0 []))
plainly program classes frames f after (Constant c) = moved_in frames (constant after c f)
plainly program classes frames f after (Local access) = moved_in frames (local after access f)
plainly program classes frames f after (Stack operation) = moved_in frames (rearranged after operation f)
plainly program classes frames f after (Number operation) = moved_in frames (number after operation f)
plainly program classes frames f after (Branch test target) = moved_in frames (branched after test target f)
plainly program classes frames f after (TableSwitch table) = moved_in frames (table_switched table f)
plainly program classes frames f after (LookupSwitch lookup) = moved_in frames (lookup_switched lookup f)
plainly program classes frames f after (Return kind) = returned_plainly program frames f kind
plainly program classes frames f after (StaticField access member) = None
plainly program classes frames f after (Field access member) = None
plainly program classes frames f after (Array operation) = None
plainly program classes frames f after (Class operation name) = None
plainly program classes frames f after (Invoke invocation member) =
    invoked_plainly program classes frames f invocation member
plainly program classes frames f after Throw = None
plainly program classes frames f after (Monitor operation) = None

abbrev pub plain_at : List ClassListing → List (List ℕ) → List Frame → Frame → Option Placed → Option (List Frame)
plain_at program classes frames f None = None
plain_at program classes frames f (Some i) = plainly program classes frames f i.next i.instruction

abbrev pub plain_by : List ClassListing → List (List ℕ) → List Frame → Frame → Mark → Option (List Frame)
plain_by program classes frames f Unmarked = plain_at program classes frames f (instruction_of program f)
plain_by program classes frames f Waiting = None
plain_by program classes frames f Failing = None

abbrev pub plain_step : List ClassListing → List (List ℕ) → List Frame → Frame → Option (List Frame)
plain_step program classes frames f = plain_by program classes frames f f.mark

-- ---- what it looks at of its world

abbrev pub class_in : Object → List ℕ
class_in o = class_of o.contents

-- the classes of objects, by their births
abbrev pub classes_in : World → List (List ℕ)
classes_in w = map class_in w.objects

-- whether a frame, or one of a thread's, runs an initializer of the class of a place
abbrev pub initialises : List ClassListing → ℕ → Frame → Bool
initialises program class f = runs_initializer program f && f.method.class == class

abbrev pub thread_initialises : List ClassListing → ℕ → Thread → Bool
thread_initialises program class thread = list_any (initialises program class) (frames_of (Some thread))

-- The class of a place is initialised for good. It declares no initializer, so no call enters one.
pub record IsSettledAt (program : List ClassListing) (w : World) (class : ℕ) : Type 0 where
  pub done : slice_index_or w.statics.states class Done ≡ Done
  pub undeclared : option_map_or declares_initializer (slice_get program class) false ≡ false
  pub not_running : list_any (thread_initialises program class) w.threads ≡ false

-- a class that the program doesn't declare is the machine's own
abbrev pub IsSettledIf : List ClassListing → World → Option ℕ → Type 0
IsSettledIf program w None = Unit {0}
IsSettledIf program w (Some class) = IsSettledAt program w class

abbrev pub IsSettled : List ClassListing → World → Option (List ℕ) → Type 0
IsSettled program w None = Unit {0}
IsSettled program w (Some name) = IsSettledIf program w (position (is_named name) program)

-- the class that an instruction uses
abbrev pub used_at : List ClassListing → Option Placed → Option (List ℕ)
used_at program None = None
used_at program (Some i) = class_used program i.instruction

-- a step of a thread's frames in a world
pub record PlainStep (program : List ClassListing) (w : World) (frames after : List Frame) : Type 0 where
  pub frame : Frame
  pub runs : running frames ≡ Some frame
  pub steps : plain_step program (classes_in w) frames frame ≡ Some after
  pub settled : IsSettled program w (used_at program (instruction_of program frame))

-- ---- a world that is some such steps ahead, of any of its threads

pub data GoesAhead (program : List ClassListing) : World → World → Type 0 where
  stays : (w : World) → GoesAhead program w w
  steps : (w v : World) (t : ℕ) (frames after : List Frame) → slice_get w.threads t ≡ Some (Live frames)
      → PlainStep program w frames after → GoesAhead program (with_thread w t (Live after)) v → GoesAhead program w v

-- one of the list stands for a world that is ahead
pub record IsAheadAmong (program : List ClassListing) (states : List World) (w : World) : Type 0 where
  pub world : World
  pub ahead : GoesAhead program w world
  pub among : IsAmong states world

-- a list that has one for a start, and is closed under turns each of which is followed by some such steps
pub record ClosedReduced (program : List ClassListing) (limits : Limits) (no_room : Bool) (start : World)
    (states : List World) : Type 0 where
  pub opening : IsAheadAmong program states (uncounted start)
  pub turned : (k : ℕ) (x : World) (t : ℕ) → slice_get states k ≡ Some x
      → refusal program limits x (ThreadActor t) ≡ None → IsAheadAmong program states (next program x t NewObject).after
  pub without_room : no_room ≡ true → (k : ℕ) (x : World) (t words : ℕ) → slice_get states k ≡ Some x
      → refusal program limits x (ThreadActor t) ≡ None → asked program x t ≡ Some words
      → IsAheadAmong program states (next program x t NoRoom).after
