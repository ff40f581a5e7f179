-- Worked rows of the heap's observers: main of class S puts an S into a static field, another into a field of the
-- first, and drops a third.
use Rattle.std.specs.Prelude.{◌≡◌, ℕ, List, [], ◌∷◌, ◌++◌, true, false, Some, None, codes, refl}
use Rattle.model.specs.declared.colours.Colour.TheVariants.{White, Grey}
use Rattle.model.specs.declared.colours.Phase.TheVariants.{Idle, Statics, Frames}
use Rattle.model.specs.declared.instructions.Access.TheVariants.{Get, Put}
use Rattle.model.specs.declared.instructions.ClassOperation.TheVariants.{New}
use Rattle.model.specs.declared.instructions.Instruction.TheVariants.{Class, Field as InstanceField, Stack, Static}
use Rattle.model.specs.declared.instructions.StackOperation.TheVariants.{Pop}
use Rattle.model.specs.declared.journals.HeapShape.{HeapShape}
use Rattle.model.specs.declared.listings.Field.{Field}
use Rattle.model.specs.declared.names.Member.{Member}
use Rattle.model.specs.declared.journals.Outcome.TheVariants.{Done, Object as ObjectMade}
use Rattle.model.specs.declared.journals.Row.{Row}
use Rattle.model.specs.declared.turns.Actor.TheVariants.{Thread, Collector}
use Rattle.model.specs.declared.values.Value.{Value}
use Rattle.model.specs.declared.values.Value.TheVariants.{Ref}
use Rattle.model.specs.Accounts.{after_turn, shade}
use Rattle.model.specs.ClassListings.{ClassListing}
use Rattle.model.specs.Classes.Builtin.{builtin_classes}
use Rattle.model.specs.Classes.Search.{upwards, interfaces_from}
use Rattle.model.specs.Classes.Subclasses.{is_within}
use Rattle.model.specs.Classes.Types.{is_subtype_within}
use Rattle.model.specs.Collector.Places.{root_at, word_at}
use Rattle.model.specs.Collector.Reached.{leads_within, is_reached}
use Rattle.model.specs.Collector.Table.{collected}
use Rattle.model.specs.Machines.{Recorded, machine_of}
use Rattle.model.specs.Objects.{made_of}
use Rattle.model.specs.Observers.{next_birth_of, phase_of, cell_of, reached_object, object_of}
use Rattle.model.specs.Table.Next.{completion, next}
use Rattle.model.specs.Turns.{refusal}
use Rattle.model.specs.Worlds.{World, Object, plain_object, opening_world, opening_objects}
use Rattle.model.specs.Worlds.Contents.{Instance}
use Rattle.model.proofs.TableRows.Listings.{Sized, return, ample}
use Rattle.model.proofs.TableRows.Stages.{class_of, field, member}

abbrev static_field : List ℕ → List ℕ → Field
static_field name descriptor = record (field name descriptor) { flags = record { 0 = 8 } }

abbrev first : Member
first = member (codes "S") (codes "first") (codes "LS;")

abbrev new : Sized
new = (3, Class New (codes "S"))

abbrev program : List ClassListing
program = class_of (codes "S") (static_field (codes "first") (codes "LS;") ∷ field (codes "next") (codes "LS;") ∷ []) 2
    0 []
    (new ∷ (3, Static Put first) ∷ (3, Static Get first) ∷ new
    ∷ (3, InstanceField Put (member (codes "S") (codes "next") (codes "LS;"))) ∷
    new ∷ (1, Stack Pop) ∷ return ∷ []) ∷ []

abbrev shape : ℕ → ℕ → ℕ → HeapShape
shape small medium large = record { small = small; medium = medium; large = large }

abbrev recorded : HeapShape → List Row → Recorded
recorded heap rows = record {
  program = program;
  journal = record {
    shape = heap;
    limits = ample;
    workers = 1;
    rows = rows;
  };
}

abbrev done : Row
done = record { actor = Thread 0; outcome = Done; worker = 0 }

abbrev made : Row
made = record { actor = Thread 0; outcome = ObjectMade; worker = 0 }

abbrev step : Row
step = record { actor = Collector; outcome = Done; worker = 0 }

-- ---- the opening: one cell of each size

abbrev opened : Recorded
opened = recorded (shape 1 1 1) []

next_at_first : next_birth_of opened ≡ 3
unfolding machine_of
next_at_first = refl

phase_at_first : phase_of opened ≡ Idle
unfolding machine_of
phase_at_first = refl

small_taken : cell_of opened 0 ≡ Some (record { words = 4; held = Some (1, White) })
unfolding machine_of
small_taken = refl

medium_taken : cell_of opened 1 ≡ Some (record { words = 32; held = Some (2, White) })
unfolding machine_of
medium_taken = refl

large_free : cell_of opened 2 ≡ Some (record { words = 256; held = None })
unfolding machine_of
large_free = refl

past_the_last : cell_of opened 3 ≡ None
unfolding machine_of
past_the_last = refl

-- the errors are reached, what was never made isn't, nor is the number 0
error_reached : object_of opened 1 ≡ Some (plain_object (codes "java/lang/OutOfMemoryError"))
unfolding machine_of is_reached leads_within
error_reached = refl

never_made : object_of opened 3 ≡ None
unfolding machine_of is_reached leads_within
never_made = refl

number_zero : object_of opened 0 ≡ None
unfolding machine_of is_reached leads_within
number_zero = refl

-- ---- birth 3 stands in the static field, 4 in a field of 3, and 5 was dropped

abbrev linked : Recorded
linked = recorded (shape 4 1 1) (made ∷ done ∷ done ∷ made ∷ done ∷ made ∷ done ∷ [])

abbrev object : Value → Object
object next = made_of (Instance (codes "S") (record {
  class = codes "S";
  name = codes "next";
  descriptor = codes "LS;";
  value = next;
} ∷ []))

next_of_linked : next_birth_of linked ≡ 6
unfolding machine_of refusal next completion after_turn shade builtin_classes upwards
    interfaces_from is_within is_subtype_within
next_of_linked = refl

from_static : object_of linked 3 ≡ Some (object (Ref (Some 4)))
unfolding machine_of refusal next completion after_turn shade builtin_classes upwards
    interfaces_from is_within is_subtype_within is_reached leads_within
from_static = refl

from_field : object_of linked 4 ≡ Some (object (Ref None))
unfolding machine_of refusal next completion after_turn shade builtin_classes upwards
    interfaces_from is_within is_subtype_within is_reached leads_within
from_field = refl

-- its cell, which is a medium one as no small one was free, still holds it
dropped : object_of linked 5 ≡ None
unfolding machine_of refusal next completion after_turn shade builtin_classes upwards
    interfaces_from is_within is_subtype_within is_reached leads_within
dropped = refl

medium_of_dropped : cell_of linked 4 ≡ Some (record { words = 32; held = Some (5, Grey) })
unfolding machine_of refusal next completion after_turn shade builtin_classes upwards
    interfaces_from is_within is_subtype_within
medium_of_dropped = refl

small_new : cell_of linked 3 ≡ Some (record { words = 4; held = Some (4, Grey) })
unfolding machine_of refusal next completion after_turn shade builtin_classes upwards
    interfaces_from is_within is_subtype_within
small_new = refl

large_still_free : cell_of linked 5 ≡ Some (record { words = 256; held = None })
unfolding machine_of refusal next completion after_turn shade builtin_classes upwards
    interfaces_from is_within is_subtype_within
large_still_free = refl

-- before the third object the medium cell is free
medium_free : cell_of (recorded (shape 4 1 1) (made ∷ [])) 4 ≡ Some (record { words = 32; held = None })
unfolding machine_of refusal next completion after_turn shade builtin_classes upwards
    interfaces_from is_within is_subtype_within
medium_free = refl

small_free : cell_of (recorded (shape 4 1 1) (made ∷ [])) 3 ≡ Some (record { words = 4; held = None })
unfolding machine_of refusal next completion after_turn shade builtin_classes upwards
    interfaces_from is_within is_subtype_within
small_free = refl

-- with two medium cells and a large one, the first object comes into the large one
large_taken : cell_of (recorded (shape 0 2 1) (made ∷ [])) 2 ≡ Some (record { words = 256; held = Some (3, Grey) })
unfolding machine_of refusal next completion after_turn shade builtin_classes upwards
    interfaces_from is_within is_subtype_within
large_taken = refl

-- ---- worlds that no run makes: two objects that lead to each other, from no root; a static slot of a birth that was
-- never made

abbrev with_slot : Value → World
with_slot value = record (opening_world program) {
  statics = record {
    fields = record {
      class = codes "S";
      name = codes "first";
      descriptor = codes "LS;";
      value = value;
    } ∷ [];
    states = [];
  };
  objects = opening_objects ++ object (Ref (Some 4)) ∷ object (Ref (Some 3)) ∷ [];
}

ring_unreached : is_reached (with_slot (Ref None)) 4 ≡ false
unfolding builtin_classes is_reached leads_within
ring_unreached = refl

ring_reached : is_reached (with_slot (Ref (Some 3))) 4 ≡ true
unfolding builtin_classes is_reached leads_within
ring_reached = refl

never_made_reached : is_reached (with_slot (Ref (Some 9))) 9 ≡ true
unfolding builtin_classes is_reached leads_within
never_made_reached = refl

no_object : reached_object (with_slot (Ref (Some 9))) 9 ≡ None
unfolding builtin_classes is_reached leads_within
no_object = refl

-- ---- the collector's first turns: the errors, the one static slot, the first frame

after_errors : phase_of (recorded (shape 1 1 1) (step ∷ [])) ≡ Statics 0
unfolding machine_of refusal shade collected root_at word_at
after_errors = refl

after_slot : phase_of (recorded (shape 1 1 1) (step ∷ step ∷ [])) ≡ Statics 1
unfolding machine_of refusal shade collected root_at word_at
after_slot = refl

after_slots : phase_of (recorded (shape 1 1 1) (step ∷ step ∷ step ∷ [])) ≡ Frames 0 0 0
unfolding machine_of refusal shade collected root_at word_at
after_slots = refl

shaded_error : cell_of (recorded (shape 1 1 1) (step ∷ [])) 0 ≡ Some (record { words = 4; held = Some (1, Grey) })
unfolding machine_of refusal shade collected root_at word_at
shaded_error = refl
