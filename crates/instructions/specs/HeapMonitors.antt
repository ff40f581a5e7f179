use Rattle.std.specs.Prelude.{ℕ, zero, suc, List, [], ◌∷◌, slice_get, slice_set, Option, Some, None, if◌then◌else◌}
use Rattle.std.specs.Option.{option_map}
use Rattle.model.specs.Monitors.{exited, is_owner}
use Rattle.model.specs.Worlds.{Monitor}
use Rattle.cells.specs.Objects.{monitor_if, monitor_set, object_if}
use Rattle.instructions.specs.Heaps.{HeapValue, held}

-- The monitors of a heap's objects, by references (JVMS 2.11.10).

-- nobody's where there is no object
abbrev pub monitor_held : HeapValue → ℕ → Monitor
monitor_held h reference = monitor_if (held h reference)

-- the object of a reference has another monitor
abbrev pub monitored : HeapValue → ℕ → Monitor → HeapValue
monitored h zero monitor = h
monitored h (suc cell) monitor =
    record h {
      objects = slice_set h.objects cell
          (option_map (monitor_set monitor) (object_if (slice_get h.objects cell)));
    }

-- a frame is left that gives a monitor back, where the thread still owns it
abbrev pub released_in : HeapValue → ℕ → Option ℕ → HeapValue
released_in h t None = h
released_in h t (Some reference) =
    if is_owner t (monitor_held h reference).owner then monitored h reference (exited (monitor_held h reference)) else h

-- the same of several, in order
abbrev pub all_released_in : HeapValue → ℕ → List (Option ℕ) → HeapValue
all_released_in h t [] = h
all_released_in h t (monitor ∷ monitors) = all_released_in (released_in h t monitor) t monitors
