use Rattle.std.specs.Prelude.{◌≡◌, ℕ, List, map}
use Rattle.std.specs.List.{position_or_len}
use Rattle.std.specs.Map.{lookup}
use Rattle.std.specs.Str.{bytes_eq}
use Rattle.model.specs.ClassListings.{ClassListing}
use Rattle.resolve.specs.declared.keys.NameKey.{NameKey}
use Rattle.resolve.specs.Numbers.{class_names, class_number}

-- Classes have numbers: those of a program from 0 on in order, and after them the machine's own.

-- the number of the class of a name; where none has it, how many classes there are
abbrev pub class_place : List ClassListing → List ℕ → ℕ
class_place program name = position_or_len (bytes_eq name) (class_names program)

-- the names that are keys
abbrev pub names_now : List NameKey → List (List ℕ)
names_now names = map (λ name. name.bytes.now) names

-- names with their places
abbrev pub Entries : Type 0
Entries = List (NameKey × ℕ)

-- the names of all classes in order, and entries that find the first of each name
pub record AreNumbers (program : List ClassListing) (names : List NameKey) (entries : Entries) : Type 0 where
  pub names_are : names_now names ≡ class_names program
  pub found : (name : NameKey) → lookup (λ k. bytes_eq name.bytes.now k.bytes.now) entries
      ≡ class_number program name.bytes.now
