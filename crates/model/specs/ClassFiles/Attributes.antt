-- Attributes (JVMS 4.7).
use Rattle.std.specs.Prelude.{◌≡◌, ℕ, ◌^◌, ◌<◌, Bool, true, false, List, ◌++◌, length, is_some, Option, Some, None}
use Rattle.std.specs.List.{flat_map}
use Rattle.model.specs.ClassFiles.Numbers.{u2, u4}
use Rattle.model.specs.ClassFiles.References.{text_at}
use Rattle.model.specs.declared.class_files.Entry.{Entry}

-- an attribute: the number of its name, and its bytes
pub record Attribute : Type 0 where
  pub name : ℕ
  pub info : List ℕ

-- bytes with their number before them
abbrev pub sized_bytes : List ℕ → List ℕ
sized_bytes info = u4 (length info) ++ info

abbrev pub attribute_bytes : Attribute → List ℕ
attribute_bytes a = u2 a.name ++ sized_bytes a.info

abbrev pub attributes_bytes : List Attribute → List ℕ
attributes_bytes attributes = u2 (length attributes) ++ flat_map attribute_bytes attributes

-- what has bytes, with a name that is a text
pub record AttributeFits (pool : List Entry) (a : Attribute) : Type 0 where
  pub name : a.name < 2 ^ 16
  pub text : is_some (text_at pool a.name) ≡ true
  pub info : length a.info < 2 ^ 32

abbrev pub passes : (List ℕ → Bool) → Option (List ℕ) → Bool
passes test None = false
passes test (Some text) = test text
