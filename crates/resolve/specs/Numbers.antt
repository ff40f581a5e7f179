use Rattle.std.specs.Prelude.{ℕ, List, ◌++◌, map, Option}
use Rattle.std.specs.List.{position}
use Rattle.std.specs.Str.{bytes_eq}
use Rattle.model.specs.ClassListings.{ClassListing}
use Rattle.model.specs.Classes.Builtin.{builtin_classes}

abbrev pub name_of : ClassListing → List ℕ
name_of c = c.name

-- all classes, the machine's own last
abbrev pub all_classes : List ClassListing → List ClassListing
all_classes program = program ++ builtin_classes

-- and their names
abbrev pub class_names : List ClassListing → List (List ℕ)
class_names program = map name_of program ++ map name_of builtin_classes

-- the number of a class: the first place of its name among these
abbrev pub class_number : List ClassListing → List ℕ → Option ℕ
class_number program name = position (bytes_eq name) (class_names program)
