use Rattle.std.specs.Prelude.{ℕ, List, length, Bool, true, false, Option, Some, None, Result, Ok, Err}
use Rattle.model.specs.declared.instructions.MonitorOperation.{MonitorOperation}
use Rattle.model.specs.declared.turns.Exception.TheVariants.{NullPointer}
use Rattle.model.specs.declared.turns.Fault.{Fault}
use Rattle.model.specs.ClassListings.{ClassListing}
use Rattle.model.specs.Completions.{Completion, Site, raises}
use Rattle.model.specs.Completions.Completion.{Faults}
use Rattle.model.specs.Frames.{ref_on}
use Rattle.model.specs.Table.Monitors.{operates_if}
use Rattle.linking.specs.ClassTables.{class_tables, is_subtype_in}
use Rattle.instructions.specs.declared.kinds.Kind.{Kind}
use Rattle.instructions.specs.declared.kinds.Kind.TheVariants.{Instance, Array}
use Rattle.instructions.specs.Heaps.{HeapValue, kind_held}

-- What monitorenter and monitorexit come to (JVMS 6.5), by the kinds of objects.

-- what is there is an Object, the first of the machine's own classes
abbrev pub is_object : List ClassListing → Option Kind → Bool
is_object program None = false
is_object program (Some (Instance class)) = is_subtype_in (class_tables program) class (length program)
is_object program (Some (Array type)) = true

abbrev pub operates_by : Site → HeapValue → MonitorOperation → Result (Option ℕ) Fault → Completion
operates_by s h operation (Err fault) = Faults fault
operates_by s h operation (Ok None) = raises NullPointer
operates_by s h operation (Ok (Some birth)) = operates_if s operation birth (is_object s.program (kind_held h birth))

abbrev pub operated_by_monitors : Site → HeapValue → MonitorOperation → Completion
operated_by_monitors s h operation = operates_by s h operation (ref_on s.frame.stack)
