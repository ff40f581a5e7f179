-- Methods of a class file (JVMS 4.6).
use Rattle.std.specs.Prelude.{◌≡◌, ℕ, ◌+◌, ◌^◌, ◌<◌, Bool, true, false, not, ◌&&◌, ◌==◌, nat_le, bit_and, List, [], ◌∷◌}
use Rattle.std.specs.Prelude.{◌++◌, filter, length, codes, Option, Some, None, if◌then◌else◌}
use Rattle.std.specs.List.{AllByRecursion}
use Rattle.std.specs.Str.{bytes_eq}
use Rattle.model.specs.Texts.Names.{is_method_name}
use Rattle.model.specs.Texts.Descriptors.{arguments_of}
use Rattle.model.specs.Texts.Flags.{has, method_flags_agree}
use Rattle.model.specs.ClassFiles.Numbers.{u2}
use Rattle.model.specs.ClassFiles.References.{text_at}
use Rattle.model.specs.ClassFiles.Attributes.{Attribute, attributes_bytes, AttributeFits, passes}
use Rattle.model.specs.ClassFiles.Codes.{CodePart, SpellsCode}
use Rattle.model.specs.declared.class_files.Entry.{Entry}
use Rattle.model.specs.declared.flags.MethodFlags.{MethodFlags}

-- a method of a class file: the numbers of its name and its descriptor, and its code, if it has some
pub record MethodPart : Type 0 where
  pub flags : MethodFlags
  pub name : ℕ
  pub descriptor : ℕ
  pub code : Option CodePart

-- no other bit than those of method flags (JVMS 4.6)
abbrev pub are_method_flags : ℕ → ℕ → Bool
are_method_flags class flags = bit_and flags 0xfac0 == 0 && method_flags_agree class flags

-- a method has code that is neither abstract nor native
abbrev pub wants_code : ℕ → Bool
wants_code flags = not (has flags 0x0400) && not (has flags 0x0100)

-- the arguments take 255 units at most, with the object that a method that isn't static is called on (JVMS 4.3.3)
abbrev pub units_fit : Bool → Option ℕ → Bool
units_fit static None = false
units_fit static (Some units) = nat_le (if static then units else units + 1) 255

abbrev pub is_code : List Entry → Attribute → Bool
is_code pool a = passes (λ text. bytes_eq text (codes "Code")) (text_at pool a.name)

-- a method with code has one Code attribute, and one without has none (JVMS 4.7.3)
abbrev pub SpellCode : List Entry → Bool → List Attribute → Option CodePart → Type 0
SpellCode pool wanted attributes None = (wanted ≡ false) × (attributes ≡ [])
SpellCode pool wanted attributes (Some c) = (wanted ≡ true) × (info : List ℕ)
    × (attributes ≡ record { name = c.name; info = info } ∷ []) × SpellsCode pool info c

-- the bytes are the method's in a class of these flags
pub record SpellsMethod (pool : List Entry) (class : ℕ) (bytes : List ℕ) (m : MethodPart) : Type 0 where
  pub flags_fit : m.flags.0 < 2 ^ 16
  pub flags_agree : are_method_flags class m.flags.0 ≡ true
  pub name_fits : m.name < 2 ^ 16
  pub name_is : passes is_method_name (text_at pool m.name) ≡ true
  pub descriptor_fits : m.descriptor < 2 ^ 16
  pub descriptor_is : passes (λ text. units_fit (has m.flags.0 0x0008) (arguments_of text)) (text_at pool m.descriptor)
      ≡ true
  pub attributes : List Attribute
  pub few : length attributes < 2 ^ 16
  pub fit : AllByRecursion (AttributeFits pool) attributes
  pub code_is : SpellCode pool (wants_code m.flags.0) (filter (is_code pool) attributes) m.code
  pub bytes_are : bytes ≡ u2 m.flags.0 ++ (u2 m.name ++ (u2 m.descriptor ++ attributes_bytes attributes))
