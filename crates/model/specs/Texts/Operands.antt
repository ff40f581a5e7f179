use Rattle.std.specs.Prelude.{ℕ, ℤ, ◌&&◌, ◌||◌, ◌==◌, nat_le, List, [], ◌∷◌, drop, Option, Some, None, codes}
use Rattle.std.specs.Prelude.{if◌then◌else◌}
use Rattle.std.specs.List.{before_first, before_last, after_last, position_or_len}
use Rattle.std.specs.Option.{option_and_then}
use Rattle.model.specs.declared.instructions.Primitive.{Primitive}
use Rattle.model.specs.declared.instructions.Primitive.TheVariants as primitive
use Rattle.model.specs.declared.names.Member.{Member}
use Rattle.model.specs.Texts.Descriptors.{arguments_of, is_field_descriptor, is_array_descriptor}
use Rattle.model.specs.Texts.Names.{is_part, is_class_name, is_field_name, is_method_name}
use Rattle.model.specs.Texts.Numbers.{number_in, natural_to}

-- the one operand
abbrev pub only : List (List ℕ) → Option (List ℕ)
only [] = None
only (word ∷ []) = Some word
only (word ∷ next ∷ words) = None

-- the two operands
abbrev pub both : List (List ℕ) → Option (List ℕ × List ℕ)
both [] = None
both (word ∷ []) = None
both (word ∷ next ∷ []) = Some (word, next)
both (word ∷ next ∷ other ∷ words) = None

-- the one operand, a number from low to high
abbrev pub only_number : ℤ → ℤ → List (List ℕ) → Option ℤ
only_number low high words = option_and_then (number_in low high) (only words)

-- the one operand, a number without a sign
abbrev pub only_natural : ℕ → List (List ℕ) → Option ℕ
only_natural high words = option_and_then (natural_to high) (only words)

-- a word up to its first parenthesis, and from there on
abbrev pub before_parenthesis : List ℕ → List ℕ
before_parenthesis word = before_first (λ b. b == 40) word

abbrev pub from_parenthesis : List ℕ → List ℕ
from_parenthesis word = drop (position_or_len (λ b. b == 40) word) word

-- a path of a class and a member, whose name stands after the last slash
abbrev pub class_in : List ℕ → List ℕ
class_in path = before_last (λ b. b == 47) path

abbrev pub name_in : List ℕ → List ℕ
name_in path = after_last (λ b. b == 47) path

-- a method with its class and descriptor, spelled class/name(ARGS)RESULT
abbrev pub member_spelled : List ℕ → List ℕ → List ℕ → Option ℕ → Option Member
member_spelled class name descriptor None = None
member_spelled class name descriptor (Some units) =
    if is_class_name class && is_method_name name && nat_le units 255
    then Some (record { class = class; name = name; descriptor = descriptor }) else None

abbrev pub method_named : List ℕ → Option Member
method_named word =
    let path = before_parenthesis word in
    let descriptor = from_parenthesis word in
    member_spelled (class_in path) (name_in path) descriptor (arguments_of descriptor)

-- a field with its class, spelled class/name, and its descriptor
abbrev pub field_spelled : List ℕ → List ℕ → List ℕ → Option Member
field_spelled class name descriptor =
    if is_class_name class && is_field_name name && is_field_descriptor descriptor
    then Some (record { class = class; name = name; descriptor = descriptor }) else None

abbrev pub field_named : List ℕ → List ℕ → Option Member
field_named path descriptor = field_spelled (class_in path) (name_in path) descriptor

-- a class, or where arrays may stand too an array's descriptor
abbrev pub class_named : List ℕ → Option (List ℕ)
class_named word = if is_class_name word then Some word else None

abbrev pub type_named : List ℕ → Option (List ℕ)
type_named word = if is_class_name word || is_array_descriptor word then Some word else None

-- a label
abbrev pub label_named : List ℕ → Option (List ℕ)
label_named word = if is_part word then Some word else None

-- the primitive types of elements
abbrev pub primitives : List (List ℕ × Primitive)
primitives =
    (codes "char", primitive.Char) ∷ (codes "byte", primitive.Byte) ∷ (codes "short", primitive.Short) ∷
    (codes "int", primitive.Int) ∷ (codes "long", primitive.Long) ∷ []
