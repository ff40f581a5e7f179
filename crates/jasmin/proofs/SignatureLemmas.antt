-- Words that name a member, by what they are cut into.
use Rattle.std.proofs.Common.{◌≡◌, ℕ, true, false, ◌&&◌, List, [], refl, Some, None}
use Rattle.std.specs.Prelude.{nat_le}
use Rattle.model.specs.Texts.Descriptors.{arguments_of, is_field_descriptor}
use Rattle.model.specs.Texts.Flags.{method_flags_agree}
use Rattle.model.specs.Texts.Heads.{method_head, units_with_object}
use Rattle.model.specs.Texts.Operands.{before_parenthesis, from_parenthesis, class_in, name_in, method_named}
use Rattle.model.specs.Texts.Operands.{field_named}
use Rattle.model.specs.Texts.Names.{is_class_name, is_field_name, is_method_name}

pub no_arguments : (word : List ℕ) → arguments_of (from_parenthesis word) ≡ None → method_named word ≡ None
no_arguments word h = rw h refl

no_class : (name : List ℕ) (units : ℕ) → (is_class_name [] && is_method_name name && nat_le units 255) ≡ false
no_class name units = refl

-- a path without a slash names no class
pub no_slash : (word path : List ℕ) (units : ℕ) → path ≡ before_parenthesis word → arguments_of (from_parenthesis word)
    ≡ Some units
    → class_in path ≡ [] → method_named word ≡ None
no_slash word path units p a h = let g = rw p at h in rw (a, g) refl

pub member_not : (word path class name : List ℕ) (units : ℕ) → path ≡ before_parenthesis word
    → arguments_of (from_parenthesis word) ≡ Some units
    → class ≡ class_in path → name ≡ name_in path
    → (is_class_name class && is_method_name name && nat_le units 255) ≡ false → method_named word ≡ None
member_not word path class name units p a c n h = let g = rw (c, n, p) at h in rw (a, g) refl

pub member_is : (word path class name descriptor : List ℕ) (units : ℕ) → path ≡ before_parenthesis word → descriptor
    ≡ from_parenthesis word → arguments_of (from_parenthesis word) ≡ Some units
    → class ≡ class_in path → name ≡ name_in path
    → (is_class_name class && is_method_name name && nat_le units 255) ≡ true → method_named word
    ≡ Some (record { class = class; name = name; descriptor = descriptor })
member_is word path class name descriptor units p d a c n h = let g = rw (c, n, p) at h in rw (a, g, c, n, p, d) refl

pub field_no_slash : (path descriptor : List ℕ) → class_in path ≡ [] → field_named path descriptor ≡ None
field_no_slash path descriptor h = rw h refl

pub field_not : (path descriptor class name : List ℕ) → class ≡ class_in path → name ≡ name_in path
    → (is_class_name class && is_field_name name && is_field_descriptor descriptor) ≡ false
    → field_named path descriptor ≡ None
field_not path descriptor class name c n h = let g = rw (c, n) at h in rw g refl

pub field_is : (path descriptor class name : List ℕ) → class ≡ class_in path → name ≡ name_in path
    → (is_class_name class && is_field_name name && is_field_descriptor descriptor) ≡ true → field_named path descriptor
    ≡ Some (record { class = class; name = name; descriptor = descriptor })
field_is path descriptor class name c n h = let g = rw (c, n) at h in rw (g, c, n) refl

pub head_without : (class flags : ℕ) (word : List ℕ) → arguments_of (from_parenthesis word) ≡ None
    → method_head class (Some (flags, word)) ≡ None
head_without class flags word h = rw h refl

pub head_not : (class flags : ℕ) (word name : List ℕ) (units : ℕ) → name ≡ before_parenthesis word
    → arguments_of (from_parenthesis word) ≡ Some units
    → (is_method_name name && nat_le (units_with_object flags units) 255 && method_flags_agree class flags) ≡ false
    → method_head class (Some (flags, word)) ≡ None
head_not class flags word name units n a h = let g = rw n at h in rw (a, g) refl

pub head_is : (class flags : ℕ) (word name descriptor : List ℕ) (units : ℕ) → name ≡ before_parenthesis word
    → descriptor ≡ from_parenthesis word → arguments_of (from_parenthesis word) ≡ Some units
    → (is_method_name name && nat_le (units_with_object flags units) 255 && method_flags_agree class flags) ≡ true
    → method_head class (Some (flags, word))
    ≡ Some (record { flags = record { 0 = flags }; name = name; descriptor = descriptor })
head_is class flags word name descriptor units n d a h = let g = rw n at h in rw (a, g, n, d) refl

pub ruleset signatures = (
  no_arguments,
  no_slash,
  member_not,
  member_is,
  field_no_slash,
  field_not,
  field_is,
  head_without,
  head_not,
  head_is,
)
