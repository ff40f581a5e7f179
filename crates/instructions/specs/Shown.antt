use Rattle.std.specs.Prelude.{ℕ, ◌%◌, List, [], ◌∷◌, ◌++◌, map, replicate, slice_get, nat_le, Option, Some, None}
use Rattle.std.specs.Prelude.{if◌then◌else◌}
use Rattle.model.specs.declared.values.Value.{Value}
use Rattle.model.specs.declared.values.Value.TheVariants.{Ref}
use Rattle.model.specs.ClassListings.{ClassListing}
use Rattle.model.specs.Classes.Layout.{layout}
use Rattle.model.specs.Frames.{Frame}
use Rattle.model.specs.Words.{unwritten}
use Rattle.model.specs.Worlds.{Thread, FieldValue, Contents, Object}
use Rattle.model.specs.Worlds.Thread.{Live as LiveThread, Ended}
use Rattle.model.specs.Worlds.Contents.{Instance as InstanceOf, Array as ArrayOf}
use Rattle.resolve.specs.Numbers.{class_names}
use Rattle.linking.specs.declared.operations.TypeNumber.{TypeNumber}
use Rattle.cells.specs.Objects.{StoredObject}
use Rattle.join.specs.OnCells.{nobody}
use Rattle.instructions.specs.declared.kinds.Kind.{Kind}
use Rattle.instructions.specs.declared.kinds.Kind.TheVariants.{Instance, Array}
use Rattle.instructions.specs.declared.kinds.Course.{Course}
use Rattle.instructions.specs.declared.kinds.Course.TheVariants.{Live, Returned, Threw}

-- What the code keeps by numbers, as a world on cells has it by names.

-- ---- names of numbers

abbrev pub name_or_none : Option (List ℕ) → List ℕ
name_or_none None = []
name_or_none (Some name) = name

-- the name of a class; none past the last one
abbrev pub class_name : List ClassListing → ℕ → List ℕ
class_name program class = name_or_none (slice_get (class_names program) class)

-- the descriptor of what an array holds at last: a letter from 32,768 on, else a class
abbrev pub last_element : List ClassListing → ℕ → List ℕ
last_element program n = if nat_le 32768 n then (n % 256) ∷ [] else 76 ∷ class_name program n ++ 59 ∷ []

-- the descriptor of an element type
abbrev pub type_name : List ClassListing → TypeNumber → List ℕ
type_name program type = replicate type.dimensions 91 ++ last_element program type.element

-- the class of an object; an array's is its descriptor
abbrev pub kind_name : List ClassListing → Kind → List ℕ
kind_name program (Instance class) = class_name program class
kind_name program (Array type) = 91 ∷ type_name program type

-- ---- values with their keys

abbrev pub nameless : FieldValue
nameless = record { class = []; name = []; descriptor = []; value = Ref None }

-- each value under its key; those that no key is left for have none
abbrev pub keyed : List FieldValue → List Value → List FieldValue
keyed keys [] = []
keyed [] (v ∷ vs) = record nameless { value = v } ∷ keyed [] vs
keyed (k ∷ keys) (v ∷ vs) = record k { value = v } ∷ keyed keys vs

-- the keys of the words of a class's objects
abbrev pub field_keys : List ClassListing → ℕ → List FieldValue
field_keys program class = map unwritten (layout program (class_name program class))

-- ---- objects

abbrev pub contents_shown : List ClassListing → Kind → List Value → Contents
contents_shown program (Instance class) words = InstanceOf (class_name program class)
    (keyed (field_keys program class) words)
contents_shown program (Array type) words = ArrayOf (type_name program type) words

abbrev pub object_shown : List ClassListing → Option (StoredObject Kind) → Object
object_shown program None = nobody
object_shown program (Some o) = record {
  contents = contents_shown program o.kind o.words;
  monitor = o.monitor;
  thread = o.thread;
}

-- an object stands at its reference, the number of its cell and one more
abbrev pub objects_shown : List ClassListing → List (Option (StoredObject Kind)) → List Object
objects_shown program objects = nobody ∷ map (object_shown program) objects

-- ---- a world of one thread

-- the class of what is thrown; what is no object has none
abbrev pub kind_name_if : List ClassListing → Option Kind → List ℕ
kind_name_if program None = []
kind_name_if program (Some kind) = kind_name program kind

abbrev pub thread_shown : List ClassListing → Course → List Frame → Thread
thread_shown program Live frames = LiveThread frames
thread_shown program Returned frames = Ended None
thread_shown program (Threw kind) frames = Ended (Some (kind_name_if program kind))
