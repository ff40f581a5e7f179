use Rattle.std.specs.Prelude.{ℕ, ◌+◌, List, [], ◌∷◌, length, map, filter, slice_get, slice_set, Option, Some, None}
use Rattle.std.specs.Prelude.{Bool, true, false, codes}
use Rattle.std.specs.List.{flat_map}
use Rattle.model.specs.declared.listings.Constant.{Constant}
use Rattle.model.specs.declared.listings.Constant.TheVariants.{Int as IntConstant, Long as LongConstant}
use Rattle.model.specs.declared.listings.Field.{Field}
use Rattle.model.specs.declared.values.Value.{Value}
use Rattle.model.specs.declared.values.Value.TheVariants.{Int, Long}
use Rattle.model.specs.declared.turns.Fault.{Fault}
use Rattle.model.specs.declared.turns.ClassState.{ClassState}
use Rattle.model.specs.ClassListings.{ClassListing}
use Rattle.model.specs.Frames.{Frame, within_limits}
use Rattle.model.specs.Initialisation.{opening_frames, claimed_states}
use Rattle.model.specs.Classes.Flags.{is_static_field}
use Rattle.model.specs.Stores.{Storage, default_in, kept, storage_of}

-- The ideal world (JVMS 2.5, 2.6): what threads, statics, output and objects are on a heap where nothing is ever freed.

-- a thread lives with its frames, outermost first, or has ended: normally, or by an exception of a class
pub data Thread : Type 0 where
  Live : (frames : List Frame) → Thread
  Ended : (by : Option (List ℕ)) → Thread

-- a static field, or a field of an object: the class that declares it, its name and descriptor, and what it holds
pub record FieldValue : Type 0 where
  pub class : List ℕ
  pub name : List ℕ
  pub descriptor : List ℕ
  pub value : Value

-- the static fields in class and field order, and the state of each class in order
pub record Statics : Type 0 where
  pub fields : List FieldValue
  pub states : List ClassState

-- an instance of a class has its fields, the superclass's first; an array of an element type its elements
pub data Contents : Type 0 where
  Instance : (class : List ℕ) (fields : List FieldValue) → Contents
  Array : (element : List ℕ) (values : List Value) → Contents

-- who owns a monitor, and how often it was entered (JVMS 2.11.10)
pub record Monitor : Type 0 where
  pub owner : Option ℕ
  pub count : ℕ

-- the thread is the one that was started on the object
pub record Object : Type 0 where
  pub contents : Contents
  pub monitor : Monitor
  pub thread : Option ℕ

-- objects stand at their birth numbers; at 0 stands one that was never born
pub record World : Type 0 where
  pub threads : List Thread
  pub statics : Statics
  pub output : List ℕ
  pub objects : List Object
  pub fault : Option (Fault × ℕ)
  pub rows : ℕ

-- the number that the next new object gets
abbrev pub next_birth : World → ℕ
next_birth w = length w.objects

abbrev pub frames_of : Option Thread → List Frame
frames_of None = []
frames_of (Some (Live frames)) = frames
frames_of (Some (Ended by)) = []

-- the frames of a thread, none where it was never started or has ended
abbrev pub frames_at : World → ℕ → List Frame
frames_at w t = frames_of (slice_get w.threads t)

abbrev pub lives : Option Thread → Bool
lives None = false
lives (Some (Live frames)) = true
lives (Some (Ended by)) = false

abbrev pub is_live : World → ℕ → Bool
is_live w t = lives (slice_get w.threads t)

-- ---- how a world changes

abbrev pub with_thread : World → ℕ → Thread → World
with_thread w t thread = record w { threads = slice_set w.threads t thread }

abbrev pub with_fault : World → ℕ → Fault → World
with_fault w t fault = record w { fault = Some (fault, t) }

abbrev pub with_class_states : World → List ClassState → World
with_class_states w states = record w { statics = record { fields = w.statics.fields; states = states } }

abbrev pub with_output : World → List ℕ → World
with_output w output = record w { output = output }

abbrev pub counted : World → World
counted w = record w { rows = w.rows + 1 }

-- ---- the opening world

abbrev pub free_monitor : Monitor
free_monitor = record { owner = None; count = 0 }

abbrev pub plain_object : List ℕ → Object
plain_object class = record { contents = Instance class []; monitor = free_monitor; thread = None }

-- birth 1 is thrown where no cell has room, birth 2 where no frame has
abbrev pub opening_objects : List Object
opening_objects = plain_object [] ∷ plain_object (codes "java/lang/OutOfMemoryError")
    ∷ plain_object (codes "java/lang/StackOverflowError") ∷ []

-- what a static field holds at first (JVMS 4.7.2, 5.5): its constant, as a store keeps it, or else null or 0
abbrev pub opening_value : Storage → Option Constant → Value
opening_value storage None = default_in storage
opening_value storage (Some (IntConstant z)) = kept storage (Int z)
opening_value storage (Some (LongConstant z)) = kept storage (Long z)

abbrev pub opening_slot : List ℕ → Field → FieldValue
opening_slot class f = record {
  class = class;
  name = f.name;
  descriptor = f.descriptor;
  value = opening_value (storage_of f.descriptor) f.constant;
}

abbrev pub opening_slots_of : ClassListing → List FieldValue
opening_slots_of c = map (opening_slot c.name) (filter is_static_field c.fields)

-- the static fields, in class and field order
abbrev pub opening_slots : List ClassListing → List FieldValue
opening_slots program = flat_map opening_slots_of program

-- thread 0 stands at the start of main, or of the initializer that main's class wants first
abbrev pub opening_world : List ClassListing → World
opening_world program = record {
  threads = Live (opening_frames program) ∷ [];
  statics = record { fields = opening_slots program; states = claimed_states program };
  output = [];
  objects = opening_objects;
  fault = None;
  rows = 0;
}

-- the frames with which thread 0 opens lie within a thread's limits, else the world is refused: P4
abbrev pub opening_fits : List ClassListing → Bool
opening_fits program = within_limits (opening_frames program)
