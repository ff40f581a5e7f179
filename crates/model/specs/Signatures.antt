use Rattle.std.specs.Prelude.{ℕ, zero, suc, ◌+◌, ◌==◌, List, [], ◌∷◌, length, map, take, drop, Option, Some, None}
use Rattle.std.specs.Prelude.{if◌then◌else◌}
use Rattle.std.specs.List.{sum_by, prefix_len, position_or_len, before_first, after_first}
use Rattle.model.specs.declared.values.Kind.{Kind}
use Rattle.model.specs.Stores.{descriptor_kind}
use Rattle.model.specs.Locals.{entries_of}

-- What a method takes and gives, by its descriptor (JVMS 4.3.3, 2.11.1). Which descriptors are good ones is said in
-- Texts/Descriptors.

-- how many `[` stand before a type: the dimensions of an array
abbrev pub dimensions : List ℕ → ℕ
dimensions bytes = prefix_len (λ b. b == 91) bytes

-- the bytes of a type that is no array (JVMS 4.3.2): `L` stands before a name that `;` ends, and else it is a letter
abbrev pub element_length : List ℕ → ℕ
element_length [] = 0
element_length (b ∷ bs) = if b == 76 then 2 + position_or_len (λ c. c == 59) bs else 1

-- the bytes of the first of the types in a row
abbrev pub type_length : List ℕ → ℕ
type_length bytes = dimensions bytes + element_length (drop (dimensions bytes) bytes)

-- the types in a row, so many at most
abbrev pub types_within : ℕ → List ℕ → List (List ℕ)
types_within zero bytes = []
types_within (suc n) [] = []
types_within (suc n) (b ∷ bs) =
    take (type_length (b ∷ bs)) (b ∷ bs) ∷ types_within n (drop (type_length (b ∷ bs)) (b ∷ bs))

-- the types in a row: each has a byte at least
abbrev pub types_in : List ℕ → List (List ℕ)
types_in bytes = types_within (length bytes) bytes

-- the descriptors of a method's arguments, in order: they stand in parentheses
abbrev pub argument_types : List ℕ → List (List ℕ)
argument_types descriptor = types_in (before_first (λ b. b == 41) (drop 1 descriptor))

-- the kinds of a method's arguments
abbrev pub argument_kinds : List ℕ → List Kind
argument_kinds descriptor = map descriptor_kind (argument_types descriptor)

-- the units of values of these types: a long has two, every other one
abbrev pub units_of_types : List (List ℕ) → ℕ
units_of_types types = sum_by entries_of (map descriptor_kind types)

-- the units of a method's arguments
abbrev pub argument_units : List ℕ → ℕ
argument_units descriptor = units_of_types (argument_types descriptor)

-- the descriptor of a method's result, or `V`, which stands after the `)`
abbrev pub result_type : List ℕ → List ℕ
result_type descriptor = after_first (λ b. b == 41) descriptor

-- `V` is no value
abbrev pub kind_if_value : List ℕ → Option Kind
kind_if_value [] = None
kind_if_value (b ∷ bs) = if b == 86 then None else Some (descriptor_kind (b ∷ bs))

-- the kind of a method's result, if it has one
abbrev pub result_kind : List ℕ → Option Kind
result_kind descriptor = kind_if_value (result_type descriptor)
