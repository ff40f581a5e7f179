use Rattle.std.specs.Prelude.{codes, ℕ, [], Bool, true, false, Option, Some, None, Result, Ok, Err, if◌then◌else◌}
use Rattle.model.specs.declared.turns.Fault.{Fault}
use Rattle.model.specs.declared.turns.Fault.TheVariants.{MonitorLimit, WrongClass}
use Rattle.model.specs.declared.turns.Exception.TheVariants.{NullPointer, IllegalMonitorState}
use Rattle.model.specs.declared.instructions.MonitorOperation.{MonitorOperation}
use Rattle.model.specs.declared.instructions.MonitorOperation.TheVariants.{Enter, Exit}
use Rattle.model.specs.Frames.{ref_on, replaced}
use Rattle.model.specs.Worlds.{World, Monitor}
use Rattle.model.specs.Monitors.{is_owner, may_enter, is_full, entered, exited, monitor_of, with_monitor_of}
use Rattle.model.specs.Completions.{Completion, Site, moves_in, raises}
use Rattle.model.specs.Completions.Completion.{Faults, Waits}
use Rattle.model.specs.Table.Objects.{is_instance}

-- the operand goes, in a world that differs in the monitor alone
abbrev pub moved_with : Site → World → Completion
moved_with s w = moves_in w s (replaced s.next s.frame 1 [])

-- whether the thread may enter, and whether the count is at its greatest
abbrev pub enter_if : Completion → Bool → Bool → Completion
enter_if entry false full = Waits
enter_if entry true true = Faults MonitorLimit
enter_if entry true false = entry

abbrev pub enters : Site → ℕ → Monitor → Completion
enters s birth m = enter_if (moved_with s (with_monitor_of s.world birth (entered s.thread m)))
    (may_enter s.thread m.owner) (is_full m)

abbrev pub exits : Site → ℕ → Monitor → Completion
exits s birth m = if is_owner s.thread m.owner then moved_with s (with_monitor_of s.world birth (exited m))
    else raises IllegalMonitorState

abbrev pub operates : Site → MonitorOperation → ℕ → Completion
operates s Enter birth = enters s birth (monitor_of s.world birth)
operates s Exit birth = exits s birth (monitor_of s.world birth)

-- on an object that is there
abbrev pub operates_if : Site → MonitorOperation → ℕ → Bool → Completion
operates_if s operation birth there = if there then operates s operation birth else Faults WrongClass

abbrev pub operates_on : Site → MonitorOperation → Result (Option ℕ) Fault → Completion
operates_on s operation (Err fault) = Faults fault
operates_on s operation (Ok None) = raises NullPointer
operates_on s operation (Ok (Some birth)) = operates_if s operation birth (is_instance s (codes "java/lang/Object")
    birth)

-- monitorenter and monitorexit (JVMS 6.5): a null, then F6 where there is no object, a monitor of another thread, F10
abbrev pub monitor_operated : Site → MonitorOperation → Completion
monitor_operated s operation = operates_on s operation (ref_on s.frame.stack)
