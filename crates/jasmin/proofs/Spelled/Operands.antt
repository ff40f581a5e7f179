-- Numbers and names have the ranges and forms that a listing asks for.
use Rattle.std.proofs.Common.{◌≡◌, ℕ, ℤ, true, ◌&&◌, ◌||◌, List, refl, subst, sym, Some, None, Option}
use Rattle.std.specs.Prelude.{IfSome, if◌then◌else◌, nat_le, int_le}
use Rattle.model.specs.ClassFiles.References.{names_class, fits_units}
use Rattle.model.specs.Texts.Descriptors.{arguments_of, is_field_descriptor, is_array_descriptor}
use Rattle.model.specs.Texts.Names.{is_class_name, is_field_name, is_method_name}
use Rattle.model.specs.Texts.Numbers.{number_in, number_of, natural_to, natural_of}
use Rattle.model.specs.Texts.Operands.{only, only_number, only_natural, class_named, type_named, field_named}
use Rattle.model.specs.Texts.Operands.{field_spelled, method_named, member_spelled, class_in, name_in}
use Rattle.model.specs.Texts.Operands.{before_parenthesis, from_parenthesis}
use Rattle.model.specs.Texts.Spelled.{is_in, field_is_named, method_is_named}
use Rattle.jasmin.proofs.Spelled.Partial.{of_any, of_if, regrouped}

pub number_fits : (low high : ℤ) (word : List ℕ) → IfSome (number_in low high word) (λ z. is_in low high z ≡ true)
number_fits low high word =
    of_any (λ z. is_in low high z ≡ true) (λ z. if int_le low z && int_le z high then Some z else None) (number_of word)
    (λ z. of_if (λ z. is_in low high z ≡ true) (int_le low z && int_le z high) z (λ h. h))

pub natural_fits : (high : ℕ) (word : List ℕ) → IfSome (natural_to high word) (λ n. nat_le n high ≡ true)
natural_fits high word =
    of_any (λ n. nat_le n high ≡ true) (λ n. if nat_le n high then Some n else None) (natural_of word)
    (λ n. of_if (λ n. nat_le n high ≡ true) (nat_le n high) n (λ h. h))

-- the one operand
pub only_number_fits : (low high : ℤ) (words : List (List ℕ))
    → IfSome (only_number low high words) (λ z. is_in low high z ≡ true)
only_number_fits low high words = of_any (λ z. is_in low high z ≡ true) (number_in low high) (only words)
    (number_fits low high)

pub only_natural_fits : (high : ℕ) (words : List (List ℕ)) → IfSome (only_natural high words) (λ n. nat_le n high
    ≡ true)
only_natural_fits high words = of_any (λ n. nat_le n high ≡ true) (natural_to high) (only words) (natural_fits high)

-- names
pub class_fits : (word : List ℕ) → IfSome (class_named word) (λ c. is_class_name c ≡ true)
class_fits word = of_if (λ c. is_class_name c ≡ true) (is_class_name word) word (λ h. h)

pub type_fits : (word : List ℕ) → IfSome (type_named word) (λ c. names_class c ≡ true)
type_fits word = of_if (λ c. names_class c ≡ true) (is_class_name word || is_array_descriptor word) word (λ h. h)

field_spelled_fits : (class name descriptor : List ℕ)
    → IfSome (field_spelled class name descriptor) (λ m. field_is_named m ≡ true)
field_spelled_fits class name descriptor =
    of_if (λ m. field_is_named m ≡ true) (is_class_name class && is_field_name name && is_field_descriptor descriptor)
    (record { class = class; name = name; descriptor = descriptor })
    (regrouped (is_class_name class) (is_field_name name) (is_field_descriptor descriptor))

pub field_fits : (path descriptor : List ℕ) → IfSome (field_named path descriptor) (λ m. field_is_named m ≡ true)
field_fits path descriptor = field_spelled_fits (class_in path) (name_in path) descriptor

member_fits : (class name descriptor : List ℕ) (units : Option ℕ) → arguments_of descriptor ≡ units
    → IfSome (member_spelled class name descriptor units) (λ m. method_is_named m ≡ true)
member_fits class name descriptor None e = tt
member_fits class name descriptor (Some units) e =
    of_if (λ m. method_is_named m ≡ true) (is_class_name class && is_method_name name && nat_le units 255)
    (record { class = class; name = name; descriptor = descriptor })
    (λ h. subst (λ a. (is_class_name class && (is_method_name name && fits_units a)) ≡ true) (sym e)
    (regrouped (is_class_name class) (is_method_name name) (nat_le units 255) h))

pub method_fits : (word : List ℕ) → IfSome (method_named word) (λ m. method_is_named m ≡ true)
method_fits word = member_fits (class_in (before_parenthesis word)) (name_in (before_parenthesis word))
    (from_parenthesis word) (arguments_of (from_parenthesis word)) refl
