-- The parts of a new state show the opening world.
use Rattle.std.proofs.Common.{◌≡◌, ℕ, List, [], ◌∷◌, length, map, None, refl, sym, ap, ◌∙◌}
use Rattle.std.specs.Prelude.{replicate}
use Rattle.std.proofs.lemmas.List.{length-map}
use Rattle.model.specs.declared.journals.Limits.{Limits}
use Rattle.model.specs.declared.turns.ClassState.{ClassState}
use Rattle.model.specs.declared.turns.ClassState.TheVariants.{Running}
use Rattle.model.specs.ClassListings.{ClassListing}
use Rattle.model.specs.Frames.{Frame}
use Rattle.model.specs.Initialisation.{claimed_states, first_claim, opening_frames, opening_states}
use Rattle.model.specs.declared.journals.HeapShape.{HeapShape}
use Rattle.model.specs.declared.values.Value.{Value}
use Rattle.model.specs.Limits.{ShapeFits}
use Rattle.model.specs.Naming.{named_field, named_thread}
use Rattle.model.specs.Worlds.{FieldValue, Thread, opening_slots}
use Rattle.model.specs.Worlds.Thread.{Live}
use Rattle.linking.specs.declared.static_slots.Slot.{Slot}
use Rattle.linking.specs.StaticSlots.{slot_of, static_slots}
use Rattle.join.proofs.Lists.{map-same}
use Rattle.join.proofs.ReadingBack.{field_same, thread_same}
use Rattle.instructions.specs.Heaps.{HeapValue, opening_heap}
use Rattle.instructions.specs.Loaded.{fresh, machine_shown}
use Rattle.instructions.specs.Shown.{keyed}
use Rattle.instructions.specs.Threads.{ThreadsValue, all_shown}
use Rattle.instructions.specs.declared.kinds.Course.TheVariants.{Live as LiveCourse}
use Rattle.instructions.proofs.OpeningClaims.{opening-sized}
use Rattle.instructions.proofs.ReturnLemmas.{with_states-length}
use Rattle.instructions.proofs.ShownLemmas.{opening_shown as opening_objects}

-- the slots of a program open with its static fields' values
keyed-opening : (program : List ClassListing) (keys : List FieldValue)
    → keyed keys (map (λ (s : Slot). s.opening) (map (slot_of program) keys)) ≡ keys
keyed-opening program [] = refl
keyed-opening program (k ∷ keys) = ap (λ (rest : List FieldValue). k ∷ rest) (keyed-opening program keys)

-- each static field has a slot
pub opened_slots : (program : List ClassListing) (slots : List Value)
    → slots ≡ map (λ (s : Slot). s.opening) (static_slots program)
    → length slots ≡ length (opening_slots program)
opened_slots program slots e =
    ap length e ∙ length-map (static_slots program) (λ (s : Slot). s.opening)
    ∙ length-map (opening_slots program) (slot_of program)

-- each class has a state
pub claimed_sized : (program : List ClassListing) → length (claimed_states program) ≡ length program
claimed_sized program = with_states-length (Running 0) (first_claim program) (opening_states program)
    ∙ opening-sized program

opening_threads : (program : List ClassListing) (frames : List Frame) → frames ≡ opening_frames program
    → Live frames ∷ [] ≡ map (named_thread (λ b. b)) (Live (opening_frames program) ∷ [])
opening_threads program frames e = ap (λ (t : Thread). t ∷ []) (sym (thread_same (Live (opening_frames program))
    ∙ ap Live (sym e)))

pub opening_shown : (program : List ClassListing) (limits : Limits) (shape : HeapShape) (frames : List Frame)
    (slots : List Value)
    (states : List ClassState) (heap : HeapValue) (output : List ℕ)
    → ShapeFits shape.small shape.medium shape.large → frames ≡ opening_frames program
    → slots ≡ map (λ (s : Slot). s.opening) (static_slots program) → states ≡ claimed_states program
    → heap ≡ opening_heap program shape
    → output ≡ [] → (threads : ThreadsValue) → threads ≡ record { courses = LiveCourse ∷ []; parked = replicate 64 [] }
    → record {
      program = program;
      limits = limits;
      shape = heap.shape;
      machine = machine_shown program (all_shown program threads 0 frames) slots states heap output None 0;
    }
    ≡ fresh program limits shape
opening_shown program limits shape frames slots states heap output fits entered opens claimed heaps empty started
    opened =
    let threads = opening_threads program frames entered in
    let fields : keyed (opening_slots program) slots ≡ map (named_field (λ b. b)) (opening_slots program) =
    ap (keyed (opening_slots program)) opens ∙ keyed-opening program (opening_slots program)
    ∙ sym (map-same (named_field (λ b. b)) field_same (opening_slots program)) in
    rw (opened, heaps, claimed, empty, fields, threads, opening_objects program shape fits) refl
