use Rattle.std.specs.Prelude.{List, Bool, false, ◌||◌, not, nat_lt, count_by, is_none, Option, Some, None}
use Rattle.std.specs.List.{list_any}
use Rattle.model.specs.ClassListings.{ClassListing}
use Rattle.model.specs.Classes.Flags.{is_interface, is_final}
use Rattle.model.specs.Classes.Named.{is_named, class_named, parents_of}

-- L1: two classes of the program have this class's name
unfoldable pub is_class_twice : List ClassListing → ClassListing → Bool
is_class_twice program c = nat_lt 1 (count_by (is_named c.name) program)

-- L2: a superclass or superinterface of the class isn't there
unfoldable pub has_missing_parent : List ClassListing → ClassListing → Bool
has_missing_parent program c = list_any (λ name. is_none (class_named program name)) (parents_of c)

-- a class that isn't there is no fault of this rule
abbrev pub is_no_superclass : Option ClassListing → Bool
is_no_superclass None = false
is_no_superclass (Some c) = is_interface c || is_final c

abbrev pub is_no_superinterface : Option ClassListing → Bool
is_no_superinterface None = false
is_no_superinterface (Some c) = not (is_interface c)

-- L4: the superclass is an interface or final, or a superinterface is no interface
unfoldable pub has_wrong_parent : List ClassListing → ClassListing → Bool
has_wrong_parent program c =
    is_no_superclass (class_named program c.superclass)
    || list_any (λ name. is_no_superinterface (class_named program name)) c.interfaces
