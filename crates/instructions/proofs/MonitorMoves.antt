-- What a turn tells that enters the monitor of an object, leaves it, or waits for it.
use Rattle.std.proofs.Common.{◌≡◌, ℕ, List, [], length, Bool, true, false, Option, Some, None, Result, Ok, Err, refl}
use Rattle.std.proofs.Common.{sym, ap, ◌∙◌}
use Rattle.std.specs.Prelude.{if◌then◌else◌}
use Rattle.std.specs.Option.{option_map}
use Rattle.model.specs.declared.instructions.MonitorOperation.TheVariants.{Enter, Exit}
use Rattle.model.specs.declared.turns.Exception.TheVariants.{IllegalMonitorState}
use Rattle.model.specs.declared.turns.Fault.{Fault}
use Rattle.model.specs.declared.turns.Fault.TheVariants.{MonitorLimit}
use Rattle.model.specs.declared.journals.Outcome.{Outcome}
use Rattle.model.specs.ClassListings.{ClassListing}
use Rattle.model.specs.Completions.{Completion, Site, raises}
use Rattle.model.specs.Completions.Completion.{Faults, Goes, Waits}
use Rattle.model.specs.Frames.{Frame, replaced, running_frame, with_running}
use Rattle.model.specs.Monitors.{entered, exited, is_full, is_owner, may_enter, with_monitor_of}
use Rattle.model.specs.Table.Monitors.{enter_if, enters, exits, moved_with, operates}
use Rattle.model.specs.Worlds.{Monitor, World, with_thread}
use Rattle.model.specs.Worlds.Thread.{Live as LiveThread}
use Rattle.join.specs.TurnsOnCells.{CellMachine}
use Rattle.cells.specs.Objects.{StoredObject}
use Rattle.instructions.specs.declared.kinds.Course.TheVariants.{Live}
use Rattle.instructions.specs.declared.kinds.Kind.{Kind}
use Rattle.instructions.specs.declared.machines.Machine.{Machine}
use Rattle.instructions.specs.Acting.{Scene, shown, site_at, reported, turned}
use Rattle.instructions.specs.HeapMonitors.{monitor_held, monitored}
use Rattle.instructions.specs.Heaps.{HeapValue, held, kind_held}
use Rattle.instructions.specs.MonitorsByNumbers.{is_object}
use Rattle.instructions.specs.Shown.{objects_shown}
use Rattle.instructions.proofs.ActingLemmas.{done_in, goes_in}
use Rattle.instructions.proofs.MonitoringLemmas.{monitor-shown, monitored-alone, monitored-shown}
use Rattle.instructions.proofs.Scenes.{frames_shown}

-- what the crate of monitors answers
pub entered-by : (b : Bool) (v w : Monitor)
    → (let r : Result Monitor Fault = Ok w in r ≡ (if b then Err MonitorLimit else Ok v)) → (b ≡ false) × (w ≡ v)
entered-by true v w e = cc
entered-by false v w e = (refl, cc e)

pub refused-by : (b : Bool) (v : Monitor) (fault : Fault)
    → (let r : Result Monitor Fault = Err fault in r ≡ (if b then Err MonitorLimit else Ok v)) → (b ≡ true)
    × (fault ≡ MonitorLimit)
refused-by true v fault e = (refl, cc e)
refused-by false v fault e = cc

-- where there is an object, it is held
record IsThere (h : HeapValue) (reference : ℕ) : Type 0 where
  object : StoredObject Kind
  is : held h reference ≡ Some object

there : (program : List ClassListing) (h : HeapValue) (reference : ℕ) → is_object program (kind_held h reference) ≡ true
    → IsThere h reference
there program h reference = by (held h reference) refl where
  by : (o : Option (StoredObject Kind)) → held h reference ≡ o → is_object program (option_map (λ o. o.kind) o) ≡ true
      → IsThere h reference
  by None is e = cc
  by (Some object) is e = record { object = object; is = is }

module _ (program : List ClassListing) (scene : Scene) (m : Machine) (here : length scene.before ≡ m.thread)
    (next reference : ℕ) where
  abbrev x : CellMachine
  x = shown program scene m Live

  abbrev s : Site
  s = site_at program m x.world next

  abbrev owned : Monitor
  owned = monitor_held m.heap reference

  abbrev moves_to : Monitor → Completion
  moves_to monitor = moved_with s (with_monitor_of x.world reference monitor)

  -- ---- what is chosen

  enters-is : operates s Enter reference ≡ enter_if (moves_to (entered m.thread owned)) (may_enter m.thread owned.owner)
      (is_full owned)
  enters-is = ap (enters s reference) (monitor-shown program m.heap x.world refl reference)

  pub waits-there : may_enter m.thread owned.owner ≡ false → operates s Enter reference ≡ Waits
  waits-there e = enters-is ∙ rw e refl

  pub full-there : may_enter m.thread owned.owner ≡ true → is_full owned ≡ true → operates s Enter reference
      ≡ Faults MonitorLimit
  full-there e f = enters-is ∙ rw (e, f) refl

  pub enters-there : may_enter m.thread owned.owner ≡ true → is_full owned ≡ false → operates s Enter reference
      ≡ moves_to (entered m.thread owned)
  enters-there e f = enters-is ∙ rw (e, f) refl

  abbrev exits_if : Bool → Completion
  exits_if owns = if owns then moves_to (exited owned) else raises IllegalMonitorState

  exits-is : operates s Exit reference ≡ exits_if (is_owner m.thread owned.owner)
  exits-is = ap (exits s reference) (monitor-shown program m.heap x.world refl reference)

  pub exits-there : is_owner m.thread owned.owner ≡ true → operates s Exit reference ≡ moves_to (exited owned)
  exits-there e = exits-is ∙ ap exits_if e

  pub others-there : is_owner m.thread owned.owner ≡ false → operates s Exit reference ≡ raises IllegalMonitorState
  others-there e = exits-is ∙ ap exits_if e

  -- ---- another monitor, and the operand goes

  abbrev goes : World → List Frame → CellMachine × Outcome
  goes w frames = turned program x m.thread (Goes (with_thread w m.thread (LiveThread frames)) [])

  pub monitor_reported : (frames : List Frame) (heap : HeapValue) (monitor : Monitor)
      → is_object program (kind_held m.heap reference) ≡ true
      → frames ≡ with_running m.frames (replaced next (running_frame m.frames) 1 []).frame
      → heap ≡ monitored m.heap reference monitor
      → (let after : Machine = record m { frames = frames; heap = heap } in
      reported x m.thread (shown program scene after) (Ok (done_in Live))
      ≡ turned program x m.thread (moves_to monitor))
  monitor_reported frames heap monitor object frames_are heap_is =
      let after : Machine = record m { frames = frames; heap = heap } in
      let alone = monitored-alone program m.heap reference monitor in
      let found = there program m.heap reference object in
      let w : World = record x.world { objects = objects_shown program (monitored m.heap reference monitor).objects } in
      goes_in program scene m after here w [] refl refl refl
      (sym (ap (λ (h : HeapValue). objects_shown program h.objects) heap_is)) refl refl
      (sym (ap (λ (h : HeapValue). h.account) heap_is ∙ alone.account))
      (ap (λ (h : HeapValue). h.births) heap_is ∙ alone.births)
      ∙ ap (λ (w : World). goes w frames)
      (sym (monitored-shown program m.heap x.world refl reference monitor found.object found.is))
      ∙ ap (goes (with_monitor_of x.world reference monitor))
      (frames_are
      ∙ ap (λ (fs : List Frame). with_running fs (replaced next (running_frame m.frames) 1 []).frame)
      (sym (frames_shown program scene m here)))
