use Rattle.std.proofs.Common.{◌≡◌, ℕ, List, [], ◌∷◌, Bool, true, false, cond, ◌&&◌, Option, Some, None, refl, ap}
use Rattle.std.specs.List.{find, list_all}
use Rattle.std.specs.Option.{option_map, option_to_list}
use Rattle.std.specs.Str.{bytes_eq}
use Rattle.model.specs.ClassListings.{ClassListing}
use Rattle.model.specs.Classes.Builtin.{builtin_classes}
use Rattle.model.specs.Classes.Named.{is_named, builtin, listed, or_else, parents_in}
use Rattle.model.specs.Classes.Search.{interfaces_in, interfaces_named}

-- ---- the machine's own classes have a superclass and no superinterfaces

abbrev is_nil : List (List ℕ) → Bool
is_nil [] = true
is_nil (x ∷ xs) = false

abbrev is_plain : ClassListing → Bool
is_plain c = is_nil c.interfaces

abbrev superclass_of : ClassListing → List ℕ
superclass_of c = c.superclass

nil-from : (xs : List (List ℕ)) → is_nil xs ≡ true → xs ≡ []
nil-from [] h = refl
nil-from (x ∷ xs) h = cc

and-left : (a b : Bool) → (a && b) ≡ true → a ≡ true
and-left true b h = refl
and-left false b h = h

and-right : (a b : Bool) → (a && b) ≡ true → b ≡ true
and-right true b h = h
and-right false b h = cc

parents_in-cond : (b : Bool) (c : ClassListing) (rest : Option ClassListing) → c.interfaces ≡ []
    → parents_in rest ≡ option_to_list (option_map superclass_of rest)
    → parents_in (cond b (Some c) rest) ≡ option_to_list (option_map superclass_of (cond b (Some c) rest))
parents_in-cond true c rest plain others = ap (λ names. c.superclass ∷ names) plain
parents_in-cond false c rest plain others = others

parents_in-find : (cs : List ClassListing) (name : List ℕ) → list_all is_plain cs ≡ true
    → parents_in (find (is_named name) cs) ≡ option_to_list (option_map superclass_of (find (is_named name) cs))
parents_in-find [] name plain = refl
parents_in-find (c ∷ cs) name plain =
    parents_in-cond (bytes_eq c.name name) c (find (is_named name) cs)
    (nil-from c.interfaces (and-left (is_plain c) (list_all is_plain cs) plain))
    (parents_in-find cs name (and-right (is_plain c) (list_all is_plain cs) plain))

all_plain : list_all is_plain builtin_classes ≡ true
unfolding builtin_classes
all_plain = refl

pub parents_in-builtin : (name : List ℕ) → parents_in (builtin name)
    ≡ option_to_list (option_map superclass_of (builtin name))
parents_in-builtin name = parents_in-find builtin_classes name all_plain

no_interfaces-cond : (b : Bool) (c : ClassListing) (rest : Option ClassListing) → c.interfaces ≡ [] → interfaces_in rest
    ≡ []
    → interfaces_in (cond b (Some c) rest) ≡ []
no_interfaces-cond true c rest plain others = plain
no_interfaces-cond false c rest plain others = others

no_interfaces-find : (cs : List ClassListing) (name : List ℕ) → list_all is_plain cs ≡ true
    → interfaces_in (find (is_named name) cs) ≡ []
no_interfaces-find [] name plain = refl
no_interfaces-find (c ∷ cs) name plain =
    no_interfaces-cond (bytes_eq c.name name) c (find (is_named name) cs)
    (nil-from c.interfaces (and-left (is_plain c) (list_all is_plain cs) plain))
    (no_interfaces-find cs name (and-right (is_plain c) (list_all is_plain cs) plain))

interfaces-either : (name : List ℕ) (first : Option ClassListing) → interfaces_in (or_else first (builtin name)) ≡
    interfaces_in first
interfaces-either name None = no_interfaces-find builtin_classes name all_plain
interfaces-either name (Some c) = refl

-- only classes of the program have superinterfaces
pub interfaces_named-listed : (program : List ClassListing) (name : List ℕ) → interfaces_named program name ≡
    interfaces_in (listed program name)
interfaces_named-listed program name = interfaces-either name (listed program name)
