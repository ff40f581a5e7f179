-- Fields of a class file (JVMS 4.5, 4.7.2).
use Rattle.std.specs.Prelude.{◌≡◌, ℕ, ◌^◌, ◌<◌, Bool, true, false, ◌&&◌, ◌==◌, bit_and, List, [], ◌∷◌, ◌++◌, filter}
use Rattle.std.specs.Prelude.{length, codes, Option, Some, None}
use Rattle.std.specs.List.{AllByRecursion}
use Rattle.std.specs.Str.{bytes_eq}
use Rattle.model.specs.Texts.Names.{is_field_name}
use Rattle.model.specs.Texts.Descriptors.{is_field_descriptor, is_int_type, is_long_type}
use Rattle.model.specs.Texts.Flags.{has, field_flags_agree}
use Rattle.model.specs.ClassFiles.Numbers.{u2}
use Rattle.model.specs.ClassFiles.Pools.{entry_at}
use Rattle.model.specs.ClassFiles.References.{text_at}
use Rattle.model.specs.ClassFiles.Attributes.{Attribute, attributes_bytes, AttributeFits, passes}
use Rattle.model.specs.declared.class_files.Entry.{Entry}
use Rattle.model.specs.declared.class_files.Entry.TheVariants.{Utf8, Integer, Long, Class, Fieldref, Methodref}
use Rattle.model.specs.declared.class_files.Entry.TheVariants.{InterfaceMethodref, NameAndType}
use Rattle.model.specs.declared.class_files.ConstantValue.{ConstantValue}
use Rattle.model.specs.declared.class_files.FieldEntry.{FieldEntry}

-- no other bit than those of field flags, and those that agree (JVMS 4.5)
abbrev pub are_field_flags : ℕ → ℕ → Bool
are_field_flags class flags = bit_and flags 0xff20 == 0 && field_flags_agree class flags

-- an entry may be the value of a field with this descriptor
abbrev pub is_value_of : List ℕ → Option Entry → Bool
is_value_of descriptor None = false
is_value_of descriptor (Some (Utf8 text)) = false
is_value_of descriptor (Some (Integer z)) = is_int_type descriptor
is_value_of descriptor (Some (Long z)) = is_long_type descriptor
is_value_of descriptor (Some (Class name)) = false
is_value_of descriptor (Some (Fieldref class member)) = false
is_value_of descriptor (Some (Methodref class member)) = false
is_value_of descriptor (Some (InterfaceMethodref class member)) = false
is_value_of descriptor (Some (NameAndType name type)) = false

-- a static field's ConstantValue counts
abbrev pub is_constant_value : Bool → List ℕ → Bool
is_constant_value static text = static && bytes_eq text (codes "ConstantValue")

abbrev pub counts : List Entry → Bool → Attribute → Bool
counts pool static a = passes (is_constant_value static) (text_at pool a.name)

abbrev pub constant_attribute : ConstantValue → Attribute
constant_attribute c = record { name = c.name; info = u2 c.value }

abbrev pub constant_attributes : Option ConstantValue → List Attribute
constant_attributes None = []
constant_attributes (Some c) = constant_attribute c ∷ []

-- the value's number has bytes and is of an entry of the right kind
pub record ConstantFits (pool : List Entry) (descriptor : List ℕ) (c : ConstantValue) : Type 0 where
  pub value : c.value < 2 ^ 16
  pub kind : is_value_of descriptor (entry_at pool c.value) ≡ true

abbrev pub ConstantsFit : List Entry → List ℕ → Option ConstantValue → Type 0
ConstantsFit pool descriptor None = Unit {0}
ConstantsFit pool descriptor (Some c) = ConstantFits pool descriptor c

-- the bytes are the field's in a class of these flags: of its attributes a static field's ConstantValue counts
pub record SpellsField (pool : List Entry) (class : ℕ) (bytes : List ℕ) (f : FieldEntry) : Type 0 where
  pub attributes : List Attribute
  pub few : length attributes < 2 ^ 16
  pub fit : AllByRecursion (AttributeFits pool) attributes
  pub bytes_are : bytes ≡ u2 f.flags.0 ++ (u2 f.name ++ (u2 f.descriptor ++ attributes_bytes attributes))
  pub counted : filter (counts pool (has f.flags.0 0x0008)) attributes ≡ constant_attributes f.constant
  pub flags_fit : f.flags.0 < 2 ^ 16
  pub flags_agree : are_field_flags class f.flags.0 ≡ true
  pub name_fits : f.name < 2 ^ 16
  pub name_is : passes is_field_name (text_at pool f.name) ≡ true
  pub descriptor_fits : f.descriptor < 2 ^ 16
  pub type : List ℕ
  pub descriptor_at : text_at pool f.descriptor ≡ Some type
  pub descriptor_is : is_field_descriptor type ≡ true
  pub constant_fits : ConstantsFit pool type f.constant

-- a field's bytes with the attributes that count and no others
abbrev pub field_bytes : FieldEntry → List ℕ
field_bytes f = u2 f.flags.0 ++ (u2 f.name ++ (u2 f.descriptor ++ attributes_bytes (constant_attributes f.constant)))
