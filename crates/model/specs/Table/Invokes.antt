use Rattle.std.specs.Prelude.{ℕ, ◌+◌, List, [], ◌∷◌, ◌++◌, length, drop, reverse, not, Option, Some, None, Result, Ok}
use Rattle.std.specs.Prelude.{Err, if◌then◌else◌}
use Rattle.std.specs.Option.{option_len, option_map_or, option_or, option_to_list}
use Rattle.std.specs.Result.{result_err}
use Rattle.model.specs.declared.names.Member.{Member}
use Rattle.model.specs.declared.listings.Method.{Method}
use Rattle.model.specs.declared.values.Kind.{Kind}
use Rattle.model.specs.declared.values.Value.{Value}
use Rattle.model.specs.declared.turns.Fault.{Fault}
use Rattle.model.specs.declared.turns.Fault.TheVariants.{WrongClass, NoMethod, MonitorLimit}
use Rattle.model.specs.declared.turns.Exception.TheVariants.{NullPointer, StackOverflow}
use Rattle.model.specs.declared.instructions.Invocation.{Invocation}
use Rattle.model.specs.declared.instructions.Invocation.TheVariants.{Virtual, Special, Static, Interface}
use Rattle.model.specs.Signatures.{argument_kinds}
use Rattle.model.specs.Classes.Flags.{is_synchronized}
use Rattle.model.specs.Classes.Search.{Declared}
use Rattle.model.specs.Classes.Resolution.{resolved_method}
use Rattle.model.specs.Classes.Selection.{selected}
use Rattle.model.specs.Classes.Special.{special_method, superclass_at}
use Rattle.model.specs.Classes.Types.{is_subtype}
use Rattle.model.specs.Callees.{CodedMethod, Callee, callee_of}
use Rattle.model.specs.Callees.Callee.{Own, Coded, NoCode}
use Rattle.model.specs.Values.{births_of}
use Rattle.model.specs.Frames.{Frame, ref_on, running_frame, with_running, has_room_for}
use Rattle.model.specs.Locals.{value_on, arguments_on, frames_of_call}
use Rattle.model.specs.Worlds.{World, Monitor, free_monitor, with_thread}
use Rattle.model.specs.Worlds.Thread.{Live}
use Rattle.model.specs.Objects.{class_at}
use Rattle.model.specs.Monitors.{may_enter, is_full, entered, monitor_of, with_monitor_of}
use Rattle.model.specs.Completions.{Completion, Site, frames_in, raises}
use Rattle.model.specs.Completions.Completion.{Goes, Faults, Waits}
use Rattle.model.specs.Table.Builtins.{builtin_call}

-- ---- the arguments: popped from the top, the last one first

-- the fault of the first pop that has one; the kinds stand in the order of the pops
abbrev pub fault_in_pops : List Kind → List Value → Option Fault
fault_in_pops [] stack = None
fault_in_pops (kind ∷ kinds) stack = option_or (result_err (value_on kind stack)) (fault_in_pops kinds (drop 1 stack))

abbrev pub with_arguments : Site → Member → Completion → Completion
with_arguments s m further =
    option_map_or Faults (fault_in_pops (reverse (argument_kinds m.descriptor)) s.frame.stack) further

abbrev pub arguments_in : Member → ℕ
arguments_in m = length (argument_kinds m.descriptor)

-- ---- calls

-- a site calls what a reference names, on an object or on none
pub record Call : Type 0 where
  pub site : Site
  pub member : Member
  pub object : Option ℕ

-- so many operands go: the arguments, and the object below them
abbrev pub operands_in : Call → ℕ
operands_in c = arguments_in c.member + option_len c.object

-- ---- the method monitor: that of the object, where the method is synchronized

abbrev pub method_monitor : Call → CodedMethod → Option ℕ
method_monitor c m = if is_synchronized m.method then c.object else None

-- the monitor that the thread is to enter; where there is none, one that is free
abbrev pub monitor_for : Call → CodedMethod → Monitor
monitor_for c m = option_map_or (monitor_of c.site.world) (method_monitor c m) free_monitor

abbrev pub world_entered : Site → Option ℕ → World
world_entered s None = s.world
world_entered s (Some birth) = with_monitor_of s.world birth (entered s.thread (monitor_of s.world birth))

-- ---- the call: operands go into the locals of a new frame, and the caller stays at its invoke instruction

-- the running frame gives this monitor back when it is left
abbrev pub guarded : Option ℕ → List Frame → List Frame
guarded monitor frames = with_running frames (record (running_frame frames) { monitor = monitor })

abbrev pub frames_entered : Call → CodedMethod → List Frame
frames_entered c m =
    guarded (method_monitor c m)
    (frames_of_call (frames_in c.site) m.place m.code.max_locals m.code.max_stack (operands_in c))

-- the arguments are written by rising index, and then the method monitor
abbrev pub enters_frame : Call → CodedMethod → Completion
enters_frame c m =
    Goes (with_thread (world_entered c.site (method_monitor c m)) c.site.thread (Live (frames_entered c m)))
    (births_of (arguments_on (operands_in c) c.site.frame.stack) ++ option_to_list (method_monitor c m))

-- another thread's monitor, then no room for the frame, then F10
abbrev pub enters_method : Call → CodedMethod → Completion
enters_method c m =
    if not (may_enter c.site.thread (monitor_for c m).owner) then Waits
    else if not (has_room_for (frames_in c.site) m.code.max_locals m.code.max_stack) then raises StackOverflow
    else if is_full (monitor_for c m) then Faults MonitorLimit else enters_frame c m

abbrev pub called : Call → Callee → Completion
called c NoCode = Faults NoMethod
called c (Own builtin) = builtin_call c.site builtin
called c (Coded m) = enters_method c m

-- ---- the object, below the arguments: a null, then F6

abbrev pub called_on : Site → Member → (ℕ → Option (Declared Method)) → Result (Option ℕ) Fault → Completion
called_on s m method (Err fault) = Faults fault
called_on s m method (Ok None) = raises NullPointer
called_on s m method (Ok (Some birth)) =
    if not (is_subtype s.program (class_at s.world birth) m.class) then Faults WrongClass
    else called (record { site = s; member = m; object = Some birth }) (callee_of s.program (method birth))

abbrev pub on_object : Site → Member → (ℕ → Option (Declared Method)) → Completion
on_object s m method = with_arguments s m (called_on s m method (ref_on (drop (arguments_in m) s.frame.stack)))

-- ---- which method

-- by the object's class
abbrev pub selected_for : Site → Member → ℕ → Option (Declared Method)
selected_for s m birth = selected s.program (class_at s.world birth) m.name m.descriptor

-- by the superclass of the class whose code calls
abbrev pub special_for : Site → Member → Option (Declared Method)
special_for s m = special_method s.program (superclass_at s.program s.frame.method.class) m

-- the four invokes (JVMS 6.5)
abbrev pub invoked : Site → Invocation → Member → Completion
invoked s Static m =
    with_arguments s m
    (called (record { site = s; member = m; object = None }) (callee_of s.program (resolved_method s.program m)))
invoked s Virtual m = on_object s m (selected_for s m)
invoked s Special m = on_object s m (λ birth. special_for s m)
invoked s (Interface count) m = on_object s m (selected_for s m)
