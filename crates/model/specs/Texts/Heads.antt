use Rattle.std.specs.Prelude.{ℕ, ◌+◌, pos, negsuc, Bool, not, ◌&&◌, ◌||◌, nat_le, bit_or, List, [], ◌∷◌, Option, Some}
use Rattle.std.specs.Prelude.{None, codes, if◌then◌else◌}
use Rattle.std.specs.Option.{option_map, option_and_then}
use Rattle.std.specs.Str.{bytes_eq}
use Rattle.model.specs.declared.flags.ClassFlags.{ClassFlags}
use Rattle.model.specs.declared.flags.MethodFlags.{MethodFlags}
use Rattle.model.specs.declared.listings.Constant.{Constant as FieldValue}
use Rattle.model.specs.declared.listings.Constant.TheVariants as value
use Rattle.model.specs.declared.listings.Field.{Field}
use Rattle.model.specs.Texts.Descriptors.{arguments_of, is_field_descriptor, is_int_type, is_long_type}
use Rattle.model.specs.Texts.Flags.{class_flags, interface_flags, field_flags, method_flags, with_flag, flags_and_word}
use Rattle.model.specs.Texts.Flags.{class_flags_agree, field_flags_agree, method_flags_agree, has}
use Rattle.model.specs.Texts.Names.{is_class_name, is_field_name, is_method_name}
use Rattle.model.specs.Texts.Operands.{class_named, before_parenthesis, from_parenthesis, only, only_number}
use Rattle.model.specs.Texts.Statements.{Statement}
use Rattle.model.specs.Texts.Tables.{named}

-- the words after a directive
abbrev pub following : List ℕ → Statement → Option (List (List ℕ))
following directive None = None
following directive (Some []) = None
following directive (Some (word ∷ words)) = if bytes_eq word directive then Some words else None

-- what a `.class` or an `.interface` says
pub record ClassHead : Type 0 where
  pub flags : ClassFlags
  pub name : List ℕ

abbrev pub class_head : Option (ℕ × List ℕ) → Option ClassHead
class_head None = None
class_head (Some (flags, name)) =
    if is_class_name name && class_flags_agree flags then Some (record { flags = record { 0 = flags }; name = name })
    else None

-- INTERFACE and ABSTRACT are added
abbrev pub interface_head : Option (ℕ × List ℕ) → Option ClassHead
interface_head None = None
interface_head (Some (flags, name)) =
    if is_class_name name then Some (record { flags = record { 0 = bit_or flags 0x0600 }; name = name }) else None

abbrev pub head_by : List ℕ → List (List ℕ) → Option ClassHead
head_by directive words =
    if bytes_eq directive (codes ".class") then class_head (flags_and_word class_flags words)
    else if bytes_eq directive (codes ".interface") then interface_head (flags_and_word interface_flags words) else None

-- the head of a class or of an interface
abbrev pub class_of : Statement → Option ClassHead
class_of None = None
class_of (Some []) = None
class_of (Some (word ∷ words)) = head_by word words

-- an interface's superclass is Object (JVMS 4.1)
abbrev pub superclass_named : ℕ → List ℕ → Option (List ℕ)
superclass_named class name =
    if is_class_name name && (not (has class 0x0200) || bytes_eq name (codes "java/lang/Object")) then Some name
    else None

-- the superclass of a class with these flags
abbrev pub super_of : ClassFlags → Statement → Option (List ℕ)
super_of class s = option_and_then (λ words. option_and_then (superclass_named class.0) (only words))
    (following (codes ".super") s)

abbrev pub interface_of : Statement → Option (List ℕ)
interface_of s = option_and_then (λ words. option_and_then class_named (only words)) (following (codes ".implements") s)

-- the words of a `.field`; those of its value stand after a `=`
pub record FieldWords : Type 0 where
  pub flags : ℕ
  pub name : List ℕ
  pub descriptor : List ℕ
  pub value : Option (List (List ℕ))

-- words of which the last two are a name and a descriptor and the others flags: the flags, with those given before
abbrev pub declared : Option ℕ → List ℕ → List ℕ → List (List ℕ) → Option FieldWords
declared None name descriptor words = None
declared (Some flags) name descriptor [] = Some (record {
  flags = flags;
  name = name;
  descriptor = descriptor;
  value = None;
})
declared (Some flags) name descriptor (next ∷ words) =
    if bytes_eq next (codes "=")
    then Some (record { flags = flags; name = name; descriptor = descriptor; value = Some words })
    else declared (with_flag flags (named field_flags name)) descriptor next words

abbrev pub field_words : List (List ℕ) → Option FieldWords
field_words [] = None
field_words (word ∷ []) = None
field_words (name ∷ descriptor ∷ words) = declared (Some 0) name descriptor words

-- a static field of a type of one letter may begin with a number (JVMS 4.7.2)
abbrev pub value_of : Bool → List ℕ → List (List ℕ) → Option FieldValue
value_of static descriptor words =
    if static && is_int_type descriptor
    then option_map value.Int (only_number (negsuc 2147483647) (pos 2147483647) words)
    else if static && is_long_type descriptor
    then option_map value.Long (only_number (negsuc 9223372036854775807) (pos 9223372036854775807) words)
    else None

abbrev pub field_with : FieldWords → Option FieldValue → Field
field_with f constant = record {
  flags = record { 0 = f.flags };
  name = f.name;
  descriptor = f.descriptor;
  constant = constant;
}

-- the value that a field has, if it has one
abbrev pub constant_of : Bool → List ℕ → Option (List (List ℕ)) → Option (Option FieldValue)
constant_of static descriptor None = Some None
constant_of static descriptor (Some words) = option_map Some (value_of static descriptor words)

abbrev pub field_spelled : ℕ → FieldWords → Option Field
field_spelled class f =
    if is_field_name f.name && is_field_descriptor f.descriptor && field_flags_agree class f.flags
    then option_map (field_with f) (constant_of (has f.flags 0x0008) f.descriptor f.value) else None

-- a field of a class with these flags
abbrev pub field_of : ClassFlags → Statement → Option Field
field_of class s = option_and_then (λ words. option_and_then (field_spelled class.0) (field_words words))
    (following (codes ".field") s)

-- what a `.method` says
pub record MethodHead : Type 0 where
  pub flags : MethodFlags
  pub name : List ℕ
  pub descriptor : List ℕ

-- the units of a method's arguments, with the object where it is not static
abbrev pub units_with_object : ℕ → ℕ → ℕ
units_with_object flags units = if has flags 0x0008 then units else units + 1

abbrev pub method_spelled : ℕ → ℕ → List ℕ → List ℕ → Option ℕ → Option MethodHead
method_spelled class flags name descriptor None = None
method_spelled class flags name descriptor (Some units) =
    if is_method_name name && nat_le (units_with_object flags units) 255 && method_flags_agree class flags
    then Some (record { flags = record { 0 = flags }; name = name; descriptor = descriptor }) else None

abbrev pub method_head : ℕ → Option (ℕ × List ℕ) → Option MethodHead
method_head class None = None
method_head class (Some (flags, word)) =
    let descriptor = from_parenthesis word in method_spelled class flags (before_parenthesis word) descriptor
    (arguments_of descriptor)

-- a method's head, in a class with these flags
abbrev pub method_of : ClassFlags → Statement → Option MethodHead
method_of class s = option_and_then (λ words. method_head class.0 (flags_and_word method_flags words))
    (following (codes ".method") s)
