use Rattle.std.specs.Prelude.{ℕ, Bool, false, not, ◌&&◌, ◌||◌, ◌==◌, nat_le, List, [], ◌∷◌, length, codes}
use Rattle.std.specs.Prelude.{if◌then◌else◌}
use Rattle.std.specs.List.{list_all}
use Rattle.std.specs.Str.{bytes_eq}
use Rattle.model.specs.Texts.Numbers.{is_digit}

-- a letter, an underscore or a dollar sign
abbrev pub begins_part : ℕ → Bool
begins_part b = (nat_le 65 b && nat_le b 90) || (nat_le 97 b && nat_le b 122) || b == 95 || b == 36

abbrev pub continues_part : ℕ → Bool
continues_part b = begins_part b || is_digit b

-- a name part, as a member's name or a label is one
abbrev pub is_part : List ℕ → Bool
is_part [] = false
is_part (b ∷ bs) = begins_part b && list_all continues_part bs

-- whether a byte may stand in parts joined by slashes, within a part that has begun or not
abbrev pub joins : Bool → ℕ → Bool
joins begun b = if b == 47 then begun else if begun then continues_part b else begins_part b

-- parts joined by slashes, the first of which has begun or not
abbrev pub are_parts : Bool → List ℕ → Bool
are_parts begun [] = begun
are_parts begun (b ∷ bs) = joins begun b && are_parts (not (b == 47)) bs

-- names and descriptors have 65,535 bytes at most (JVMS 4.4.7)
abbrev pub fits : List ℕ → Bool
fits word = nat_le (length word) 65535

-- a class's name
abbrev pub is_class_name : List ℕ → Bool
is_class_name word = fits word && are_parts false word

-- a field's name
abbrev pub is_field_name : List ℕ → Bool
is_field_name word = fits word && is_part word

-- a method's name, of which two are special (JVMS 2.9)
abbrev pub is_method_name : List ℕ → Bool
is_method_name word = bytes_eq word (codes "<init>") || bytes_eq word (codes "<clinit>") || is_field_name word
