use Rattle.std.specs.Prelude.{ℕ, List, [], ◌∷◌, ◌++◌, drop, Option, None, if◌then◌else◌}
use Rattle.std.specs.Option.{option_map_or}
use Rattle.model.specs.declared.instructions.Invocation.{Invocation}
use Rattle.model.specs.declared.instructions.Invocation.TheVariants.{Virtual, Special, Static, Interface}
use Rattle.model.specs.declared.listings.Method.{Method}
use Rattle.model.specs.declared.names.Member.{Member}
use Rattle.model.specs.declared.places.MethodPlace.{MethodPlace}
use Rattle.model.specs.Classes.Flags.{is_synchronized}
use Rattle.model.specs.Classes.Search.{Declared}
use Rattle.model.specs.Classes.Selection.{selected}
use Rattle.model.specs.CodeListings.{CodeListing}
use Rattle.model.specs.Completions.{Completion, Site, frames_in}
use Rattle.model.specs.Completions.Completion.{Goes}
use Rattle.model.specs.Frames.{Frame, with_running}
use Rattle.model.specs.Locals.{called_frame, arguments_on}
use Rattle.model.specs.Monitors.{monitor_of}
use Rattle.model.specs.Objects.{class_at}
use Rattle.model.specs.Table.Invokes.{special_for}
use Rattle.model.specs.Worlds.{World, Monitor, free_monitor, with_thread}
use Rattle.model.specs.Worlds.Thread.{Live}

-- Calls, described by what the code has of them.

abbrev pub monitor_called : Option ℕ → Method → Option ℕ
monitor_called object method = if is_synchronized method then object else None

abbrev pub monitor_wanted : World → Option ℕ → Monitor
monitor_wanted w monitor = option_map_or (monitor_of w) monitor free_monitor

-- the frame of a call
abbrev pub entered_frame : Site → ℕ → Option ℕ → CodeListing → MethodPlace → Frame
entered_frame s n monitor code place = record (called_frame place code.max_locals code.max_stack
    (arguments_on n s.frame.stack)) { monitor = monitor }

-- the caller without so many operands, and the frame of the call above it
abbrev pub enters_with : Site → ℕ → Option ℕ → World → CodeListing → MethodPlace → Completion
enters_with s n monitor after code place =
    Goes (with_thread after s.thread (Live (with_running (frames_in s) (record s.frame { stack = drop n s.frame.stack })
    ++ entered_frame s n monitor code place ∷ []))) []

-- which method is called on an object of a class
abbrev pub found_for : Site → Invocation → Member → List ℕ → Option (Declared Method)
found_for s Virtual m class = selected s.program class m.name m.descriptor
found_for s Special m class = special_for s m
found_for s Static m class = selected s.program class m.name m.descriptor
found_for s (Interface count) m class = selected s.program class m.name m.descriptor

abbrev pub found_by : Site → Invocation → Member → ℕ → Option (Declared Method)
found_by s invocation m birth = found_for s invocation m (class_at s.world birth)
