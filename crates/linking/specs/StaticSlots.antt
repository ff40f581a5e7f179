use Rattle.std.specs.Prelude.{ℕ, List, map, filter}
use Rattle.model.specs.declared.listings.Field.{Field}
use Rattle.model.specs.ClassListings.{ClassListing}
use Rattle.model.specs.Classes.Flags.{is_static_field}
use Rattle.model.specs.Worlds.{FieldValue, opening_slot, opening_slots}
use Rattle.linking.specs.declared.static_slots.Slot.{Slot}
use Rattle.linking.specs.ClassNumbers.{class_place}
use Rattle.linking.specs.Storages.{descriptor_storage}

-- the slot of a static field: the place of the class that declares it, what its descriptor keeps, and what it holds at
-- first
abbrev pub slot_of : List ClassListing → FieldValue → Slot
slot_of program f = record {
  class = class_place program f.class;
  storage = descriptor_storage f.descriptor;
  opening = f.value;
}

-- the static ones among a class's fields, as they are at first
abbrev pub statics_in : List ℕ → List Field → List FieldValue
statics_in class fields = map (opening_slot class) (filter is_static_field fields)

-- a slot for each static field, in class and field order
abbrev pub static_slots : List ClassListing → List Slot
static_slots program = map (slot_of program) (opening_slots program)
