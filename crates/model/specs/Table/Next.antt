use Rattle.std.specs.Prelude.{ℕ, ℤ, List, [], Option, Some, None, Ok}
use Rattle.model.specs.declared.names.Member.{Member}
use Rattle.model.specs.declared.listings.Placed.{Placed}
use Rattle.model.specs.declared.instructions.Instruction.{Instruction}
use Rattle.model.specs.declared.instructions.Instruction.TheVariants.{Nop, Constant, Local, Stack, Number, Branch}
use Rattle.model.specs.declared.instructions.Instruction.TheVariants.{TableSwitch, LookupSwitch, Return}
use Rattle.model.specs.declared.instructions.Instruction.TheVariants.{Static as StaticField, Field, Array, Class}
use Rattle.model.specs.declared.instructions.Instruction.TheVariants.{Invoke, Throw, Monitor}
use Rattle.model.specs.declared.instructions.ClassOperation.{ClassOperation}
use Rattle.model.specs.declared.instructions.ClassOperation.TheVariants.{New, CheckCast, InstanceOf}
use Rattle.model.specs.declared.instructions.Invocation.{Invocation}
use Rattle.model.specs.declared.instructions.Invocation.TheVariants.{Virtual, Special, Static, Interface}
use Rattle.model.specs.declared.turns.Exception.TheVariants.{ExceptionInInitializer}
use Rattle.model.specs.declared.turns.Fault.TheVariants.{NoInstruction}
use Rattle.model.specs.declared.turns.Mark.{Mark}
use Rattle.model.specs.declared.turns.Mark.TheVariants.{Unmarked, Waiting, Failing}
use Rattle.model.specs.Classes.Resolution.{resolved_field, resolved_method}
use Rattle.model.specs.ClassListings.{ClassListing}
use Rattle.model.specs.Frames.{Frame, running, replaced}
use Rattle.model.specs.Programs.{instruction_of}
use Rattle.model.specs.Worlds.{World, frames_at}
use Rattle.model.specs.Results.{Effect}
use Rattle.model.specs.Effects.{Choice, effect_of}
use Rattle.model.specs.Completions.{Completion, Site, asks, completes, raises}
use Rattle.model.specs.Completions.Completion.{Faults, Waits}
use Rattle.model.specs.Table.Initialisation.{declarer, after_initialising}
use Rattle.model.specs.Table.Constants.{constant}
use Rattle.model.specs.Table.Locals.{local}
use Rattle.model.specs.Table.Stacks.{rearranged}
use Rattle.model.specs.Table.Numbers.{number}
use Rattle.model.specs.Table.Branches.{branched}
use Rattle.model.specs.Table.Switches.{table_switched, lookup_switched}
use Rattle.model.specs.Table.Returns.{returned}
use Rattle.model.specs.Table.Statics.{static_accessed}
use Rattle.model.specs.Table.Fields.{field_accessed}
use Rattle.model.specs.Table.Arrays.{array_operated}
use Rattle.model.specs.Table.Objects.{class_operated}
use Rattle.model.specs.Table.Invokes.{invoked}
use Rattle.model.specs.Table.Throws.{threw}
use Rattle.model.specs.Table.Monitors.{monitor_operated}

-- an instruction of a listing: branches name pcs, members and classes go by name
abbrev pub Listed : Type 0
Listed = Instruction ℕ ℤ ℤ Member Member (List ℕ)

-- each family's case
abbrev pub by_family : Site → Listed → Completion
by_family s Nop = completes s (Ok (replaced s.next s.frame 0 []))
by_family s (Constant c) = completes s (constant s.next c s.frame)
by_family s (Local access) = completes s (local s.next access s.frame)
by_family s (Stack operation) = completes s (rearranged s.next operation s.frame)
by_family s (Number operation) = completes s (number s.next operation s.frame)
by_family s (Branch test target) = completes s (branched s.next test target s.frame)
by_family s (TableSwitch table) = completes s (table_switched table s.frame)
by_family s (LookupSwitch lookup) = completes s (lookup_switched lookup s.frame)
by_family s (Return kind) = returned s kind
by_family s (StaticField access member) = static_accessed s access member
by_family s (Field access member) = field_accessed s access member
by_family s (Array operation) = array_operated s operation
by_family s (Class operation name) = class_operated s operation name
by_family s (Invoke invocation member) = invoked s invocation member
by_family s Throw = threw s
by_family s (Monitor operation) = monitor_operated s operation

-- the class of which an object is made or a static method called
abbrev pub class_of_operation : ClassOperation → List ℕ → Option (List ℕ)
class_of_operation New name = Some name
class_of_operation CheckCast name = None
class_of_operation InstanceOf name = None

abbrev pub class_of_call : List ClassListing → Invocation → Member → Option (List ℕ)
class_of_call program Virtual m = None
class_of_call program Special m = None
class_of_call program Static m = declarer (resolved_method program m)
class_of_call program (Interface count) m = None

-- the class that an instruction uses, so that it is initialised first (JVMS 5.5)
abbrev pub class_used : List ClassListing → Listed → Option (List ℕ)
class_used program Nop = None
class_used program (Constant c) = None
class_used program (Local access) = None
class_used program (Stack operation) = None
class_used program (Number operation) = None
class_used program (Branch test target) = None
class_used program (TableSwitch table) = None
class_used program (LookupSwitch lookup) = None
class_used program (Return kind) = None
class_used program (StaticField access member) = declarer (resolved_field program member)
class_used program (Field access member) = None
class_used program (Array operation) = None
class_used program (Class operation name) = class_of_operation operation name
class_used program (Invoke invocation member) = class_of_call program invocation member
class_used program Throw = None
class_used program (Monitor operation) = None

abbrev pub at_site : Site → Listed → Completion
at_site s i = after_initialising s (class_used s.program i) (by_family s i)

-- past the last instruction: F5
abbrev pub at_instruction : List ClassListing → World → ℕ → Frame → Option Placed → Completion
at_instruction program w t f None = Faults NoInstruction
at_instruction program w t f (Some i) = at_site (record {
  program = program;
  world = w;
  thread = t;
  frame = f;
  next = i.next;
}) i.instruction

-- an initializer that failed gives up with an error of its own
abbrev pub at_mark : List ClassListing → World → ℕ → Frame → Mark → Completion
at_mark program w t f Unmarked = at_instruction program w t f (instruction_of program f)
at_mark program w t f Waiting = Waits
at_mark program w t f Failing = raises ExceptionInInitializer

abbrev pub at_frame : List ClassListing → World → ℕ → Option Frame → Completion
at_frame program w t None = Faults NoInstruction
at_frame program w t (Some f) = at_mark program w t f f.mark

-- what the instruction of a live thread comes to
unfoldable pub completion : List ClassListing → World → ℕ → Completion
completion program w t = at_frame program w t (running (frames_at w t))

-- how many words the turn of a ready thread asks a cell for
abbrev pub asked : List ClassListing → World → ℕ → Option ℕ
asked program w t = asks (completion program w t)

-- the turn of a ready thread
unfoldable pub next : List ClassListing → World → ℕ → Choice → Effect
next program w t choice = effect_of program w t choice (completion program w t)
