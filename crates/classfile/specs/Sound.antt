-- What the parts of a class file must be so that they may stand in one.
use Rattle.std.specs.Prelude.{◌≡◌, ℕ, ◌^◌, ◌<◌, Bool, true, false, ◌&&◌, List, Option, Some, None}
use Rattle.model.specs.Texts.Names.{is_field_name}
use Rattle.model.specs.Texts.Descriptors.{is_field_descriptor}
use Rattle.model.specs.Texts.Flags.{has}
use Rattle.model.specs.ClassFiles.Attributes.{passes}
use Rattle.model.specs.ClassFiles.Codes.{CodePart, SpellsCode}
use Rattle.model.specs.ClassFiles.Fields.{are_field_flags, is_constant_value, is_value_of, SpellsField, field_bytes}
use Rattle.model.specs.ClassFiles.Heads.{is_class}
use Rattle.model.specs.ClassFiles.Methods.{MethodPart, SpellsMethod}
use Rattle.model.specs.ClassFiles.Pools.{entry_at}
use Rattle.model.specs.ClassFiles.References.{text_at}
use Rattle.model.specs.declared.class_files.ConstantValue.{ConstantValue}
use Rattle.model.specs.declared.class_files.Entry.{Entry}
use Rattle.model.specs.declared.class_files.FieldEntry.{FieldEntry}
use Rattle.classfile.specs.Reading.Methods.{is_code_name}
use Rattle.classfile.specs.Writing.{code_info, method_bytes}

-- ---- fields

abbrev pub is_constant : List Entry → Bool → List ℕ → Option ConstantValue → Bool
is_constant pool static type None = true
is_constant pool static type (Some c) = passes (is_constant_value static) (text_at pool c.name)
    && is_value_of type (entry_at pool c.value)

abbrev pub is_type : List Entry → Bool → Option ConstantValue → List ℕ → Bool
is_type pool static constant type = is_field_descriptor type && is_constant pool static type constant

abbrev pub is_field : List Entry → ℕ → ℕ → ℕ → ℕ → Option ConstantValue → Bool
is_field pool class flags name descriptor constant =
    are_field_flags class flags && passes is_field_name (text_at pool name)
    && passes (is_type pool (has flags 0x0008) constant) (text_at pool descriptor)

-- its numbers have bytes
abbrev pub ConstantBounds : Option ConstantValue → Type 0
ConstantBounds None = Unit {0}
ConstantBounds (Some c) = (c.name < 2 ^ 16) × (c.value < 2 ^ 16)

-- a field that some bytes spell
abbrev pub FieldStands : List Entry → ℕ → FieldEntry → Type 0
FieldStands pool class f = SpellsField pool class (field_bytes f) f

-- ---- methods

-- a Code attribute that some bytes spell under the right name
pub record CodeStands (pool : List Entry) (c : CodePart) : Type 0 where
  pub name : c.name < 2 ^ 16
  pub named : passes is_code_name (text_at pool c.name) ≡ true
  pub spells : SpellsCode pool (code_info c) c

abbrev pub CodesStand : List Entry → Bool → Option CodePart → Type 0
CodesStand pool wanted None = wanted ≡ false
CodesStand pool wanted (Some c) = (wanted ≡ true) × CodeStands pool c

-- a method that some bytes spell
abbrev pub MethodStands : List Entry → ℕ → MethodPart → Type 0
MethodStands pool class m = SpellsMethod pool class (method_bytes m) m

-- ---- the class

abbrev pub ClassStands : List Entry → ℕ → Type 0
ClassStands pool n = (n < 2 ^ 16) × (is_class pool n ≡ true)
