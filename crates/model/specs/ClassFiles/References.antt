-- What the entries of a pool name (JVMS 4.4.1, 4.4.2, 4.4.6).
use Rattle.std.specs.Prelude.{◌≡◌, ℕ, Bool, false, ◌&&◌, ◌||◌, nat_le, List, [], ◌∷◌, Option, Some, None, if◌then◌else◌}
use Rattle.std.specs.List.{AllByRecursion}
use Rattle.model.specs.Texts.Names.{is_class_name, is_field_name, is_method_name}
use Rattle.model.specs.Texts.Descriptors.{is_field_descriptor, is_array_descriptor, arguments_of}
use Rattle.model.specs.ClassFiles.Pools.{entry_at}
use Rattle.model.specs.declared.class_files.FormatFault.{FormatFault}
use Rattle.model.specs.declared.class_files.FormatFault.TheVariants.{Index, Name}
use Rattle.model.specs.declared.class_files.Entry.{Entry}
use Rattle.model.specs.declared.class_files.Entry.TheVariants.{Utf8, Integer, Long, Class, Fieldref, Methodref}
use Rattle.model.specs.declared.class_files.Entry.TheVariants.{InterfaceMethodref, NameAndType}

abbrev pub text_of : Option Entry → Option (List ℕ)
text_of None = None
text_of (Some (Utf8 text)) = Some text
text_of (Some (Integer z)) = None
text_of (Some (Long z)) = None
text_of (Some (Class name)) = None
text_of (Some (Fieldref class member)) = None
text_of (Some (Methodref class member)) = None
text_of (Some (InterfaceMethodref class member)) = None
text_of (Some (NameAndType name descriptor)) = None

-- the number of a class's name
abbrev pub class_of : Option Entry → Option ℕ
class_of None = None
class_of (Some (Utf8 text)) = None
class_of (Some (Integer z)) = None
class_of (Some (Long z)) = None
class_of (Some (Class name)) = Some name
class_of (Some (Fieldref class member)) = None
class_of (Some (Methodref class member)) = None
class_of (Some (InterfaceMethodref class member)) = None
class_of (Some (NameAndType name descriptor)) = None

-- the numbers of a name and a descriptor
abbrev pub name_and_type_of : Option Entry → Option (ℕ × ℕ)
name_and_type_of None = None
name_and_type_of (Some (Utf8 text)) = None
name_and_type_of (Some (Integer z)) = None
name_and_type_of (Some (Long z)) = None
name_and_type_of (Some (Class name)) = None
name_and_type_of (Some (Fieldref class member)) = None
name_and_type_of (Some (Methodref class member)) = None
name_and_type_of (Some (InterfaceMethodref class member)) = None
name_and_type_of (Some (NameAndType name descriptor)) = Some (name, descriptor)

-- the text under a number
abbrev pub text_at : List Entry → ℕ → Option (List ℕ)
text_at pool n = text_of (entry_at pool n)

-- a class entry names a class or, by a descriptor, an array (JVMS 4.4.1)
abbrev pub names_class : List ℕ → Bool
names_class text = is_class_name text || is_array_descriptor text

abbrev pub fits_units : Option ℕ → Bool
fits_units None = false
fits_units (Some units) = nat_le units 255

abbrev pub is_field : List ℕ → List ℕ → Bool
is_field name descriptor = is_field_name name && is_field_descriptor descriptor

-- a method's arguments take 255 units at most (JVMS 4.3.3)
abbrev pub is_method : List ℕ → List ℕ → Bool
is_method name descriptor = is_method_name name && fits_units (arguments_of descriptor)

abbrev pub is_member : List ℕ → List ℕ → Bool
is_member name descriptor = is_field name descriptor || is_method name descriptor

-- what is wrong with a class's name
abbrev pub class_fault : Option (List ℕ) → Option FormatFault
class_fault None = Some Index
class_fault (Some name) = if names_class name then None else Some Name

-- what is wrong with a name and a descriptor
abbrev pub pair_fault : Option (List ℕ) → Option (List ℕ) → Option FormatFault
pair_fault None descriptor = Some Index
pair_fault (Some name) None = Some Index
pair_fault (Some name) (Some descriptor) = if is_member name descriptor then None else Some Name

-- what is wrong with a reference to a member: a NameAndType that names no texts has the fault itself
abbrev pub texts_fault : (List ℕ → List ℕ → Bool) → Option (List ℕ) → Option (List ℕ) → Option FormatFault
texts_fault test None descriptor = None
texts_fault test (Some name) None = None
texts_fault test (Some name) (Some descriptor) = if test name descriptor then None else Some Name

abbrev pub member_fault : List Entry → (List ℕ → List ℕ → Bool) → Option ℕ → Option (ℕ × ℕ) → Option FormatFault
member_fault pool test None member = Some Index
member_fault pool test (Some name) None = Some Index
member_fault pool test (Some name) (Some member) = texts_fault test (text_at pool member.0) (text_at pool member.1)

-- what is wrong with what an entry names
abbrev pub entry_fault : List Entry → Entry → Option FormatFault
entry_fault pool (Utf8 text) = None
entry_fault pool (Integer z) = None
entry_fault pool (Long z) = None
entry_fault pool (Class name) = class_fault (text_at pool name)
entry_fault pool (Fieldref class member) = member_fault pool is_field (class_of (entry_at pool class))
    (name_and_type_of (entry_at pool member))
entry_fault pool (Methodref class member) = member_fault pool is_method (class_of (entry_at pool class))
    (name_and_type_of (entry_at pool member))
entry_fault pool (InterfaceMethodref class member) = member_fault pool is_method (class_of (entry_at pool class))
    (name_and_type_of (entry_at pool member))
entry_fault pool (NameAndType name descriptor) = pair_fault (text_at pool name) (text_at pool descriptor)

-- each entry names what it should
abbrev pub AreSound : List Entry → Type 0
AreSound pool = AllByRecursion (λ e. entry_fault pool e ≡ None) pool

abbrev pub or_else : Option FormatFault → Option FormatFault → Option FormatFault
or_else None other = other
or_else (Some fault) other = Some fault

-- what is wrong with a pool: the fault of its first entry that has one
abbrev pub first_fault : List Entry → List Entry → Option FormatFault
first_fault pool [] = None
first_fault pool (e ∷ es) = or_else (entry_fault pool e) (first_fault pool es)
