use Rattle.std.specs.Prelude.{ℕ, ◌+◌, ◌-◌, ◌%◌, ◌==◌, List, length, nat_le, nat_lt, Bool, true, false, ◌&&◌, ◌||◌, not}
use Rattle.std.specs.Prelude.{Option, Some, None, if◌then◌else◌}
use Rattle.model.specs.declared.instructions.ElementKind.{ElementKind}
use Rattle.model.specs.declared.instructions.ElementKind.TheVariants.{Int as IntElement, Long as LongElement}
use Rattle.model.specs.declared.instructions.ElementKind.TheVariants.{Ref as RefElement, Byte as ByteElement}
use Rattle.model.specs.declared.instructions.ElementKind.TheVariants.{Char as CharElement, Short as ShortElement}
use Rattle.model.specs.declared.values.Value.{Value}
use Rattle.model.specs.declared.values.Value.TheVariants.{Ref}
use Rattle.model.specs.ClassListings.{ClassListing}
use Rattle.model.specs.Stores.{default_in, storage_by}
use Rattle.linking.specs.declared.operations.TypeNumber.{TypeNumber}
use Rattle.linking.specs.ClassTables.{class_tables, is_subtype_in}
use Rattle.cells.specs.Objects.{StoredObject}
use Rattle.instructions.specs.declared.kinds.Kind.{Kind}
use Rattle.instructions.specs.declared.kinds.Kind.TheVariants.{Instance, Array}

-- Types by numbers (JVMS 4.4.1): dimensions, and what an array holds at last, the number of a class or of a letter.

-- ---- which numbers are of types

-- the letters of bytes, chars, shorts, ints and longs
abbrev pub is_number_letter : ℕ → Bool
is_number_letter letter = letter == 66 || letter == 67 || letter == 83 || letter == 73 || letter == 74

-- the letters' numbers are above those of classes
abbrev pub is_letter : ℕ → Bool
is_letter element = nat_le 32768 element

-- what an array may hold at last: numbers of a letter, or a class of the program or one of the machine's own 23
abbrev pub is_element : List ClassListing → ℕ → Bool
is_element program element =
    if is_letter element then is_number_letter (element - 32768) else nat_lt element (length program + 23)

-- the element type of arrays of numbers
abbrev pub letter_type : ℕ → TypeNumber
letter_type letter = record { dimensions = 0; element = 32768 + letter }

-- ---- what arrays of a type hold

-- an element before it is written
abbrev pub element_default : TypeNumber → Value
element_default type =
    if type.dimensions == 0 && is_letter type.element then default_in (storage_by (type.element % 256)) else Ref None

abbrev pub holds_letter : TypeNumber → ℕ → Bool
holds_letter type letter = type.dimensions == 0 && type.element == 32768 + letter

-- objects and arrays
abbrev pub holds_references : TypeNumber → Bool
holds_references type = not (type.dimensions == 0 && is_letter type.element)

-- what an opcode for elements of a kind wants
abbrev pub holds : ElementKind → TypeNumber → Bool
holds IntElement type = holds_letter type 73
holds LongElement type = holds_letter type 74
holds RefElement type = holds_references type
holds ByteElement type = holds_letter type 66
holds CharElement type = holds_letter type 67
holds ShortElement type = holds_letter type 83

abbrev pub is_array_of_kind : ElementKind → Option Kind → Bool
is_array_of_kind kind None = false
is_array_of_kind kind (Some (Instance class)) = false
is_array_of_kind kind (Some (Array type)) = holds kind type

-- ---- what an object is of (JVMS 6.5, instanceof)

-- Object is the first of the machine's own classes
abbrev pub object_class : List ClassListing → ℕ
object_class program = length program

-- what arrays hold at last: the same numbers, or objects of a class below the other
abbrev pub is_element_below : List ClassListing → ℕ → ℕ → Bool
is_element_below program element above =
    if is_letter element then element == above else is_subtype_in (class_tables program) element above

-- arrays of a type are of Object, of arrays of Object with fewer dimensions, and of arrays with as many dimensions of
-- what is above their last elements
abbrev pub is_array_below : List ClassListing → TypeNumber → TypeNumber → Bool
is_array_below program type above =
    if nat_le above.dimensions type.dimensions then above.element == object_class program
    else above.dimensions == type.dimensions + 1 && is_element_below program type.element above.element

abbrev pub is_kind_of : List ClassListing → Kind → TypeNumber → Bool
is_kind_of program (Instance class) above =
    above.dimensions == 0 && is_subtype_in (class_tables program) class above.element
is_kind_of program (Array type) above = is_array_below program type above

-- what is no object is of no type
abbrev pub is_object_of : List ClassListing → Option (StoredObject Kind) → TypeNumber → Bool
is_object_of program None type = false
is_object_of program (Some object) type = is_kind_of program object.kind type

-- an array of objects takes those that are of its element type
abbrev pub takes_object : List ClassListing → Option Kind → Option (StoredObject Kind) → Bool
takes_object program None object = true
takes_object program (Some (Instance class)) object = true
takes_object program (Some (Array type)) object = not (holds_references type) || is_object_of program object type
