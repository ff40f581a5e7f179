-- What texts are good for: a table beside what stands under the numbers of a pool.
use Rattle.std.specs.Prelude.{◌≡◌, ℕ, List, map, Option}
use Rattle.std.specs.Option.{option_map}
use Rattle.model.specs.Texts.Names.{is_class_name, is_field_name, is_method_name}
use Rattle.model.specs.Texts.Descriptors.{is_field_descriptor, is_array_descriptor, arguments_of}
use Rattle.model.specs.ClassFiles.References.{text_of}
use Rattle.model.specs.declared.class_files.Entry.{Entry}
use Rattle.pool.specs.declared.kinds.TextKind.{TextKind}

-- each test of a text
abbrev pub kind_of : List ℕ → TextKind
kind_of text = record {
  class_name = is_class_name text;
  array = is_array_descriptor text;
  field_name = is_field_name text;
  method_name = is_method_name text;
  field_descriptor = is_field_descriptor text;
  units = arguments_of text;
}

-- the tests of what stands under a number, if it is a text
abbrev pub slot_kind : Option Entry → Option TextKind
slot_kind slot = option_map kind_of (text_of slot)

-- the table of these slots
abbrev pub AreKinds : List (Option Entry) → List (Option TextKind) → Type 0
AreKinds slots kinds = kinds ≡ map slot_kind slots
