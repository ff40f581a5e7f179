use Rattle.std.specs.Prelude.{ℕ, ◌+◌, ◌-◌, ◌==◌, nat_le, List, [], ◌∷◌, Bool, true, false, Option, Some, None}
use Rattle.std.specs.Prelude.{if◌then◌else◌}
use Rattle.model.specs.Worlds.{World, Object, Monitor, free_monitor}
use Rattle.model.specs.Objects.{object_at, with_object}

-- The monitor of an object (JVMS 2.11.10): who owns it, and how often it was entered.

abbrev pub is_owner : ℕ → Option ℕ → Bool
is_owner t None = false
is_owner t (Some owner) = owner == t

-- nobody's monitor, and one's own, may be entered
abbrev pub may_enter : ℕ → Option ℕ → Bool
may_enter t None = true
may_enter t (Some owner) = owner == t

-- a count goes no higher
abbrev pub is_full : Monitor → Bool
is_full m = nat_le 65535 m.count

abbrev pub entered : ℕ → Monitor → Monitor
entered t m = record { owner = Some t; count = m.count + 1 }

-- at a count of 0 there is no owner
abbrev pub exited : Monitor → Monitor
exited m = if nat_le m.count 1 then free_monitor else record { owner = m.owner; count = m.count - 1 }

-- ---- the monitor of a birth

abbrev pub monitor_if : Option Object → Monitor
monitor_if None = free_monitor
monitor_if (Some object) = object.monitor

abbrev pub monitor_of : World → ℕ → Monitor
monitor_of w birth = monitor_if (object_at w birth)

abbrev pub with_monitor_if : World → ℕ → Monitor → Option Object → World
with_monitor_if w birth monitor None = w
with_monitor_if w birth monitor (Some object) = with_object w birth (record object { monitor = monitor })

-- another monitor of this birth
abbrev pub with_monitor_of : World → ℕ → Monitor → World
with_monitor_of w birth monitor = with_monitor_if w birth monitor (object_at w birth)

-- ---- leaving a frame lowers the count of its method monitor, where the thread still owns it

abbrev pub released : World → ℕ → Option ℕ → World
released w t None = w
released w t (Some birth) = if is_owner t (monitor_of w birth).owner
    then with_monitor_of w birth (exited (monitor_of w birth)) else w

abbrev pub released_all : World → ℕ → List (Option ℕ) → World
released_all w t [] = w
released_all w t (monitor ∷ monitors) = released_all (released w t monitor) t monitors
