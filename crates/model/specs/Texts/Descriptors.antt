use Rattle.std.specs.Prelude.{ℕ, ◌+◌, Bool, false, ◌&&◌, ◌||◌, ◌==◌, nat_le, List, [], ◌∷◌, length, drop, codes, Option}
use Rattle.std.specs.Prelude.{Some, None, if◌then◌else◌}
use Rattle.std.specs.List.{list_all, position_or_len, before_first}
use Rattle.std.specs.Str.{bytes_eq}
use Rattle.model.specs.Signatures.{dimensions, argument_types, argument_units, result_type}
use Rattle.model.specs.Texts.Names.{are_parts, fits}

-- Which words are descriptors (JVMS 4.3). How a method's descriptor is cut into types is said in Signatures.

-- the descriptors of the types that an int holds, and that of a long (JVMS 4.3.2)
abbrev pub is_int_type : List ℕ → Bool
is_int_type word = bytes_eq word (codes "B") || bytes_eq word (codes "C") || bytes_eq word (codes "S")
    || bytes_eq word (codes "I")

abbrev pub is_long_type : List ℕ → Bool
is_long_type word = bytes_eq word (codes "J")

-- a class's type: `L`, the parts of its name, and a `;` that ends the word
abbrev pub is_class_type : List ℕ → Bool
is_class_type [] = false
is_class_type (b ∷ bs) =
    b == 76 && position_or_len (λ c. c == 59) bs + 1 == length bs && are_parts false (before_first (λ c. c == 59) bs)

-- a type that is no array
abbrev pub is_element_type : List ℕ → Bool
is_element_type word = is_int_type word || is_long_type word || is_class_type word

-- a type: an array has 255 dimensions at most
abbrev pub is_type : List ℕ → Bool
is_type word = nat_le (dimensions word) 255 && is_element_type (drop (dimensions word) word)

-- a field's descriptor is one type
abbrev pub is_field_descriptor : List ℕ → Bool
is_field_descriptor word = fits word && is_type word

-- an array's descriptor, which names its class (JVMS 4.4.1)
abbrev pub is_array_descriptor : List ℕ → Bool
is_array_descriptor [] = false
is_array_descriptor (b ∷ bs) = b == 91 && is_field_descriptor (b ∷ bs)

-- what a method returns: a type, or nothing
abbrev pub is_result : List ℕ → Bool
is_result word = bytes_eq word (codes "V") || is_type word

-- a method's descriptor (JVMS 4.3.3): the types of its arguments stand in parentheses before its result
abbrev pub is_method_descriptor : List ℕ → Bool
is_method_descriptor [] = false
is_method_descriptor (b ∷ bs) =
    b == 40 && fits (b ∷ bs) && list_all is_type (argument_types (b ∷ bs)) && is_result (result_type (b ∷ bs))

-- the units of a method's arguments, if the word is its descriptor
abbrev pub arguments_of : List ℕ → Option ℕ
arguments_of word = if is_method_descriptor word then Some (argument_units word) else None
