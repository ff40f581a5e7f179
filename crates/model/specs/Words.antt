use Rattle.std.specs.Prelude.{ℕ, zero, suc, List, [], ◌∷◌, ◌&&◌, Bool, position, slice_get, slice_set, Option, Some}
use Rattle.std.specs.Prelude.{None}
use Rattle.std.specs.Str.{bytes_eq}
use Rattle.model.specs.declared.listings.Field.{Field}
use Rattle.model.specs.declared.values.Value.{Value}
use Rattle.model.specs.declared.values.Value.TheVariants.{Ref}
use Rattle.model.specs.Values.{births_of}
use Rattle.model.specs.Stores.{default_in, storage_of}
use Rattle.model.specs.Classes.Search.{Declared}
use Rattle.model.specs.Frames.{replaced}
use Rattle.model.specs.Worlds.{World, FieldValue, Contents, Object}
use Rattle.model.specs.Worlds.Contents.{Instance, Array}
use Rattle.model.specs.Objects.{object_at, with_object}
use Rattle.model.specs.Completions.{Completion, Site, with_frame}
use Rattle.model.specs.Completions.Completion.{Goes}

-- Words: what static fields, fields of objects and elements of arrays hold (JVMS 2.5.3, 2.5.4).

-- ---- lists of fields

abbrev pub is_field : Declared Field → FieldValue → Bool
is_field field f =
    bytes_eq f.class field.class && bytes_eq f.name field.member.name && bytes_eq f.descriptor field.member.descriptor

-- where a field stands in the list, by the class that declares it, its name and its descriptor
abbrev pub field_index : List FieldValue → Declared Field → Option ℕ
field_index fields field = position (is_field field) fields

-- a field before it is written
abbrev pub unwritten : Declared Field → FieldValue
unwritten field = record {
  class = field.class;
  name = field.member.name;
  descriptor = field.member.descriptor;
  value = default_in (storage_of field.member.descriptor);
}

-- what a field holds, null past the last one
abbrev pub value_of : Option FieldValue → Value
value_of None = Ref None
value_of (Some f) = f.value

abbrev pub value_at : List FieldValue → ℕ → Value
value_at fields place = value_of (slice_get fields place)

abbrev pub with_value_at : List FieldValue → ℕ → Value → List FieldValue
with_value_at [] place v = []
with_value_at (f ∷ fs) zero v = record f { value = v } ∷ fs
with_value_at (f ∷ fs) (suc place) v = f ∷ with_value_at fs place v

-- ---- statics: a word is a slot

abbrev pub slot_at : World → ℕ → Value
slot_at w slot = value_at w.statics.fields slot

abbrev pub with_slot : World → ℕ → Value → World
with_slot w slot v = record w {
  statics = record {
    fields = with_value_at w.statics.fields slot v;
    states = w.statics.states;
  };
}

-- ---- objects: a word is a field or an element

abbrev pub contents_if : Option Object → Contents
contents_if None = Instance [] []
contents_if (Some o) = o.contents

-- what an object contains; one that was never born is of no class and has no field
abbrev pub contents_at : World → ℕ → Contents
contents_at w birth = contents_if (object_at w birth)

abbrev pub element_or_null : Option Value → Value
element_or_null None = Ref None
element_or_null (Some v) = v

abbrev pub word_of : Contents → ℕ → Value
word_of (Instance class fields) place = value_at fields place
word_of (Array element values) place = element_or_null (slice_get values place)

abbrev pub with_word_in : Contents → ℕ → Value → Contents
with_word_in (Instance class fields) place v = Instance class (with_value_at fields place v)
with_word_in (Array element values) place v = Array element (slice_set values place v)

abbrev pub with_word_of : World → ℕ → ℕ → Value → Option Object → World
with_word_of w birth place v None = w
with_word_of w birth place v (Some o) = with_object w birth (record o { contents = with_word_in o.contents place v })

abbrev pub with_word : World → ℕ → ℕ → Value → World
with_word w birth place v = with_word_of w birth place v (object_at w birth)

-- ---- a store

-- so many operands go, and a value was put into a slot or a word
abbrev pub puts : World → Site → ℕ → Value → Completion
puts after s n v = Goes (with_frame after s (replaced s.next s.frame n []).frame) (births_of (v ∷ []))
