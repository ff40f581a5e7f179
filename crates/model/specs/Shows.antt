use Rattle.std.specs.Prelude.{◌≡◌, ℕ, List, [], ◌∷◌, map, slice_get, Option, Some, None}
use Rattle.std.specs.Option.{option_map, option_and_then}
use Rattle.model.specs.declared.values.Value.{Value}
use Rattle.model.specs.declared.values.Value.TheVariants.{Int, Long, Ref}
use Rattle.model.specs.declared.values.Entry.{Entry}
use Rattle.model.specs.declared.values.Entry.TheVariants.{Unset, Holds, UpperHalf}
use Rattle.model.specs.declared.turns.Fault.{Fault}
use Rattle.model.specs.Frames.{Frame}
use Rattle.model.specs.Worlds.{World, Thread, FieldValue, Statics, Contents, Monitor, Object, next_birth}
use Rattle.model.specs.Worlds.Thread.{Live, Ended}
use Rattle.model.specs.Worlds.Contents.{Instance, Array}
use Rattle.model.specs.Objects.{object_at}
use Rattle.model.specs.Collector.Places.{Reach}

-- What a machine's world, whose objects stand in cells, shows of the ideal world (JVMS 2.5.3): its
-- references are numbers of cells, and each is read as the birth in that cell.

-- ---- the machine's world as plain data

-- what an object is: an instance of a class, or an array of such elements
pub data ObjectKind : Type 0 where
  OfClass : (class : List ℕ) → ObjectKind
  OfElements : (element : List ℕ) → ObjectKind

-- an object in a cell; a word of it, a field or an element, may be the number of a cell
pub record Held : Type 0 where
  pub birth : ℕ
  pub kind : ObjectKind
  pub words : List Value
  pub monitor : Monitor
  pub thread : Option ℕ

-- a cell is free, or holds an object
abbrev pub HeapCell : Type 0
HeapCell = Option Held

-- threads and static fields hold numbers of cells where those of the ideal world hold births
pub record HeapWorld : Type 0 where
  pub cells : List HeapCell
  pub threads : List Thread
  pub statics : Statics
  pub output : List ℕ
  pub fault : Option (Fault × ℕ)
  pub rows : ℕ
  pub next_birth : ℕ

-- ---- reading a cell's number as a birth; what names a free cell, or none, can't be read

abbrev pub held_in : List HeapCell → ℕ → Option Held
held_in cells c = option_and_then (λ (cell : HeapCell). cell) (slice_get cells c)

abbrev pub birth_in : List HeapCell → ℕ → Option ℕ
birth_in cells c = option_map (λ (held : Held). held.birth) (held_in cells c)

abbrev pub reference_read : List HeapCell → Option ℕ → Option (Option ℕ)
reference_read cells None = Some None
reference_read cells (Some c) = option_map (λ (b : ℕ). Some b) (birth_in cells c)

abbrev pub value_read : List HeapCell → Value → Option Value
value_read cells (Int z) = Some (Int z)
value_read cells (Long z) = Some (Long z)
value_read cells (Ref r) = option_map (λ (reference : Option ℕ). Ref reference) (reference_read cells r)

abbrev pub entry_read : List HeapCell → Entry → Option Entry
entry_read cells Unset = Some Unset
entry_read cells (Holds v) = option_map (λ (value : Value). Holds value) (value_read cells v)
entry_read cells UpperHalf = Some UpperHalf

-- all of a list, each read
abbrev pub and_then : {A : Type 0} → Option A → Option (List A) → Option (List A)
and_then None rest = None
and_then (Some x) None = None
and_then (Some x) (Some xs) = Some (x ∷ xs)

abbrev pub all_read : {A : Type 0} → (A → Option A) → List A → Option (List A)
all_read read [] = Some []
all_read read (x ∷ xs) = and_then (read x) (all_read read xs)

abbrev pub field_with : FieldValue → Option Value → Option FieldValue
field_with f None = None
field_with f (Some v) = Some (record f { value = v })

abbrev pub field_read : List HeapCell → FieldValue → Option FieldValue
field_read cells f = field_with f (value_read cells f.value)

abbrev pub frame_with : Frame → Option (List Entry) → Option (List Value) → Option (Option ℕ) → Option Frame
frame_with f None stack monitor = None
frame_with f (Some locals) None monitor = None
frame_with f (Some locals) (Some stack) None = None
frame_with f (Some locals) (Some stack) (Some monitor) = Some (record f {
  locals = locals;
  stack = stack;
  monitor = monitor;
})

abbrev pub frame_read : List HeapCell → Frame → Option Frame
frame_read cells f = frame_with f (all_read (entry_read cells) f.locals) (all_read (value_read cells) f.stack)
    (reference_read cells f.monitor)

abbrev pub thread_read : List HeapCell → Thread → Option Thread
thread_read cells (Live frames) = option_map (λ (read : List Frame). Live read) (all_read (frame_read cells) frames)
thread_read cells (Ended by) = Some (Ended by)

-- ---- an object of the ideal world and a cell

abbrev pub kind_of_contents : Contents → ObjectKind
kind_of_contents (Instance class fields) = OfClass class
kind_of_contents (Array element values) = OfElements element

abbrev pub values_in : Contents → List Value
values_in (Instance class fields) = map (λ (f : FieldValue). f.value) fields
values_in (Array element values) = values

-- the cell holds an object of this birth
pub record ShowsObject (cells : List HeapCell) (held : Held) (b : ℕ) (o : Object) : Type 0 where
  pub birth : held.birth ≡ b
  pub kind : held.kind ≡ kind_of_contents o.contents
  pub words : all_read (value_read cells) held.words ≡ Some (values_in o.contents)
  pub monitor : held.monitor ≡ o.monitor
  pub thread : held.thread ≡ o.thread

-- some cell holds a birth of the ideal world
pub record HasCell (cells : List HeapCell) (w : World) (b : ℕ) : Type 0 where
  pub cell : ℕ
  pub held : Held
  pub object : Object
  pub is_there : held_in cells cell ≡ Some held
  pub was_made : object_at w b ≡ Some object
  pub shown : ShowsObject cells held b object

-- ---- the whole

-- every reachable birth has a cell, and no birth has two
pub record Shows (m : HeapWorld) (w : World) : Type 0 where
  pub threads : all_read (thread_read m.cells) m.threads ≡ Some w.threads
  pub slots : all_read (field_read m.cells) m.statics.fields ≡ Some w.statics.fields
  pub states : m.statics.states ≡ w.statics.states
  pub output : m.output ≡ w.output
  pub fault : m.fault ≡ w.fault
  pub rows : m.rows ≡ w.rows
  pub births : m.next_birth ≡ next_birth w
  pub objects : (b : ℕ) → Reach w b → HasCell m.cells w b
  pub one : (c d b : ℕ) → birth_in m.cells c ≡ Some b → birth_in m.cells d ≡ Some b → c ≡ d
