use Rattle.std.specs.Prelude.{◌≡◌, ℕ, List, [], ◌∷◌, Bool, true, false, ◌&&◌, ◌||◌, is_none, is_some, filter, length}
use Rattle.std.specs.Prelude.{Option, Some, None}
use Rattle.std.specs.List.{find, flat_map, list_all}
use Rattle.std.specs.Map.{lookup}
use Rattle.std.specs.Option.{option_map}
use Rattle.std.specs.Str.{bytes_eq}
use Rattle.model.specs.ClassListings.{ClassListing}
use Rattle.model.specs.Accepted.Cycles.{is_on_cycle}
use Rattle.model.specs.Classes.Named.{listed, parents_named, parents_of}
use Rattle.model.specs.Classes.Search.{interfaces_from}
use Rattle.model.specs.Classes.Subclass.{HasName}
use Rattle.model.specs.Classes.Subclasses.{enough_steps}
use Rattle.resolve.specs.Reached.{with_names}
use Rattle.resolve.specs.declared.keys.NameKey.{NameKey}

-- the superinterfaces that a class declares and all that they extend, to so many steps: in the order of the search,
-- each once
abbrev pub interfaces_once : ℕ → List ClassListing → ClassListing → List (List ℕ)
interfaces_once steps program c = with_names [] (interfaces_from steps program c.interfaces)

-- under names of classes, lists of their superinterfaces
abbrev pub Lists : Type 0
Lists = List ℕ → Option (List (List ℕ))

-- the list that a map's entries have under a name
abbrev pub lists_in : List (NameKey × List (List ℕ)) → Lists
lists_in entries name = lookup (λ k. bytes_eq name k.bytes.now) entries

-- an interface, and after it what its list has
abbrev pub with_list : List ℕ → Option (List (List ℕ)) → List (List ℕ)
with_list name None = name ∷ []
with_list name (Some list) = name ∷ list

abbrev pub all_following : Lists → List (List ℕ) → List (List ℕ)
all_following lists names = flat_map (λ name. with_list name (lists name)) names

-- a name that has a list, or is no class of the program
abbrev pub is_settled : List ClassListing → Lists → List ℕ → Bool
is_settled program lists name = is_some (lists name) || is_none (listed program name)

abbrev pub is_class_ready : List ClassListing → Lists → List ℕ → Option ClassListing → Bool
is_class_ready program lists name None = false
is_class_ready program lists name (Some c) = is_none (lists name) && list_all (is_settled program lists) (parents_of c)

-- a class of the program that has no list, while its parents are settled
abbrev pub is_ready : List ClassListing → Lists → List ℕ → Bool
is_ready program lists name = is_class_ready program lists name (listed program name)

-- how many classes have no list
abbrev pub missing : List ClassListing → Lists → ℕ
missing program lists = length (filter (λ (c : ClassListing). is_none (lists c.name)) program)

-- going upwards from this name ends, as long as it goes through classes of the program
pub data Ends (program : List ClassListing) : List ℕ → Type 0 where
  ends : {name : List ℕ} → ((p : List ℕ) → HasName (parents_named program name) p → is_some (listed program p) ≡ true
      → Ends program p) → Ends program name

abbrev pub IsAcyclic : List ClassListing → Type 0
IsAcyclic program = find (is_on_cycle program) program ≡ None

abbrev pub IsEntry : List ClassListing → List ℕ → Option (List (List ℕ)) → Type 0
IsEntry program name None = Unit {0}
IsEntry program name (Some list) =
    Ends program name × (IsAcyclic program → Some list ≡ option_map (interfaces_once (enough_steps program) program)
    (listed program name))

-- each list was made after those of the parents; where no class is above itself, it has the superinterfaces in the
-- order of the search
abbrev pub AreLists : List ClassListing → Lists → Type 0
AreLists program lists = (name : List ℕ) → IsEntry program name (lists name)

abbrev pub first_ready : List ClassListing → Lists → Option ClassListing
first_ready program lists = find (λ (c : ClassListing). is_ready program lists c.name) program

-- no class is ready
abbrev pub AreFull : List ClassListing → Lists → Type 0
AreFull program lists = first_ready program lists ≡ None

-- each of these classes is the first of the program with its name
abbrev pub AreFirst : List ClassListing → List ClassListing → Type 0
AreFirst program [] = Unit {0}
AreFirst program (c ∷ cs) = (Some c ≡ listed program c.name) × AreFirst program cs
