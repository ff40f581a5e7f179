-- Turns that leave as it was what others wait for.
use Rattle.std.proofs.Common.{◌≡◌, ◌||◌, ℕ, zero, suc, List, Option, Some, None, Result, Ok, Err, refl, ap, ◌∙◌, not}
use Rattle.std.specs.Prelude.{slice_get, if◌then◌else◌}
use Rattle.std.specs.Option.{option_map}
use Rattle.model.specs.declared.places.MethodPlace.{MethodPlace}
use Rattle.model.specs.declared.turns.Fault.{Fault}
use Rattle.model.specs.ClassListings.{ClassListing}
use Rattle.model.specs.Frames.{Frame, ref_on}
use Rattle.model.specs.Monitors.{may_enter}
use Rattle.model.specs.Signatures.{argument_kinds}
use Rattle.model.specs.Worlds.{Monitor}
use Rattle.cells.specs.Objects.{StoredObject, monitor_if, object_if, thread_if}
use Rattle.linking.specs.declared.operations.Operation.{Operation}
use Rattle.linking.specs.declared.operations.Operation.TheVariants as operation
use Rattle.linking.specs.MethodFacts.{MethodFacts}
use Rattle.linking.specs.Selectors.{Signature, selectors}
use Rattle.instructions.specs.declared.awaiting.Awaited.{Awaited}
use Rattle.instructions.specs.declared.awaiting.Awaited.TheVariants.{Entry, End}
use Rattle.instructions.specs.declared.kinds.Course.{Course}
use Rattle.instructions.specs.declared.kinds.Kind.{Kind}
use Rattle.instructions.specs.declared.machines.Machine.{Machine}
use Rattle.instructions.specs.Awaiting.{awaited_as, awaited_by, awaited_on, awaited_on_top, awaited_selected}
use Rattle.instructions.specs.Awaiting.{awaited_special, awaits, goes_on_in}
use Rattle.instructions.specs.CallsByNumbers.{known_at, object_found, place_of_number, selected_place}
use Rattle.instructions.specs.Heaps.{held}
use Rattle.instructions.specs.Idle.{KeepsWaiting}
use Rattle.instructions.specs.InitialisingByNumbers.{class_used_by, waits_for}
use Rattle.instructions.specs.MonitorsByNumbers.{is_object}
use Rattle.instructions.specs.Operated.{standing, waits_at, waits_by, waits_if}
use Rattle.instructions.specs.Starting.{lives_on}

-- ---- what leaves it as it was

-- the objects stay
module _ (m new : Machine) (states : new.states.items ≡ m.states.items) (objects : new.heap.objects ≡ m.heap.objects)
  where
    held-same : (reference : ℕ) → held new.heap reference ≡ held m.heap reference
    held-same zero = refl
    held-same (suc cell) = ap (λ os. object_if (slice_get os cell)) objects

    pub objects-wait : KeepsWaiting m new
    objects-wait = record {
      states = states;
      kinds = λ reference. ap (option_map (λ (o : StoredObject Kind). o.kind)) (held-same reference);
      monitors = λ reference. ap monitor_if (held-same reference);
      threads = λ reference. ap thread_if (held-same reference);
    }

-- ---- then a thread waits where it did

module _ (program : List ClassListing) (m new : Machine) (keeps : KeepsWaiting m new) where
  on-same : (class : ℕ) (method : Kind → Option MethodPlace) (r : Result (Option ℕ) Fault)
      → awaited_on program new.heap class method r ≡ awaited_on program m.heap class method r
  on-same class method (Err fault) = refl
  on-same class method (Ok None) = refl
  on-same class method (Ok (Some birth)) = ap (awaited_as program class method birth) (keeps.kinds birth)

  selected-same : (f : Frame) (class : ℕ) (o : Option Signature) → awaited_selected program new.heap f class o
      ≡ awaited_selected program m.heap f class o
  selected-same f class None = refl
  selected-same f class (Some signature) =
      on-same class (selected_place program signature) (object_found (argument_kinds signature.1) f.stack)

  special-same : (f : Frame) (class : ℕ) (place : MethodPlace) (o : Option MethodFacts)
      → awaited_special program new.heap f class place o ≡ awaited_special program m.heap f class place o
  special-same f class place None = refl
  special-same f class place (Some facts) =
      on-same class (λ kind. Some place) (object_found facts.arguments f.stack)

  top-same : (r : Result (Option ℕ) Fault) → awaited_on_top program new.heap r ≡ awaited_on_top program m.heap r
  top-same (Err fault) = refl
  top-same (Ok None) = refl
  top-same (Ok (Some birth)) = ap (λ (kind : Option Kind). if is_object program kind then Some (Entry birth) else None)
      (keeps.kinds birth)

  by-same : (f : Frame) (op : Operation) → awaited_by program new.heap f op ≡ awaited_by program m.heap f op
  by-same f (operation.Invokevirtual class selector) = selected-same f class (slice_get (selectors program) selector)
  by-same f (operation.Invokespecial class declarer method) =
      let place = place_of_number (declarer, method) in special-same f class place (known_at program place)
  by-same f operation.Monitorenter = top-same (ref_on f.stack)
  by-same f _ = refl

  module _ (courses : List Course) (t : ℕ) where
    end-same : (r : Result (Option ℕ) Fault) → goes_on_in courses new.heap r ≡ goes_on_in courses m.heap r
    end-same (Err fault) = refl
    end-same (Ok None) = refl
    end-same (Ok (Some birth)) = ap (lives_on courses) (keeps.threads birth)

    awaits-same : (f : Frame) (o : Option Awaited) → awaits courses t new.heap f o ≡ awaits courses t m.heap f o
    awaits-same f None = refl
    awaits-same f (Some (Entry birth)) = ap (λ (monitor : Monitor). not (may_enter t monitor.owner))
        (keeps.monitors birth)
    awaits-same f (Some End) = end-same (ref_on f.stack)

    step-same : (f : Frame) (op : Operation) → waits_by program courses new t f op ≡ waits_by program courses m t f op
    step-same f op =
        ap (λ states. waits_for program states t (class_used_by program op)
        || awaits courses t new.heap f (awaited_by program new.heap f op)) keeps.states
        ∙ ap (λ b. waits_for program m.states.items t (class_used_by program op) || b)
        (ap (awaits courses t new.heap f) (by-same f op) ∙ awaits-same f (awaited_by program m.heap f op))

    pub waits-kept : (o : Option Frame) → waits_at program courses new t o ≡ waits_at program courses m t o
    waits-kept None = refl
    waits-kept (Some f) = ap (waits_if f.mark) (step-same f (standing program f).operation)
