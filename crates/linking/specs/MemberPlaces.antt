use Rattle.std.specs.Prelude.{◌≡◌, ℕ, List, ◌&&◌, Bool, position, slice_get, map, Option, Some, None}
use Rattle.std.specs.Map.{lookup}
use Rattle.std.specs.Str.{bytes_eq}
use Rattle.model.specs.declared.listings.Field.{Field}
use Rattle.model.specs.declared.listings.Method.{Method}
use Rattle.model.specs.ClassListings.{ClassListing}
use Rattle.model.specs.Classes.Layout.{layout}
use Rattle.model.specs.Classes.Search.{Declared}
use Rattle.model.specs.Worlds.{FieldValue, opening_slots}
use Rattle.resolve.specs.declared.keys.NameKey.{NameKey}
use Rattle.linking.specs.declared.member_places.MemberPlaces.{MemberPlaces}

-- ---- members by the class that declares them, their name and their descriptor

pub record Key : Type 0 where
  pub class : List ℕ
  pub name : List ℕ
  pub descriptor : List ℕ

abbrev pub is_key : Key → Key → Bool
is_key key k = bytes_eq k.class key.class && bytes_eq k.name key.name && bytes_eq k.descriptor key.descriptor

abbrev pub key_shown : (NameKey × NameKey) × NameKey → Key
key_shown k = record { class = k.0.0.bytes.now; name = k.0.1.bytes.now; descriptor = k.1.bytes.now }

abbrev pub field_key : Declared Field → Key
field_key d = record { class = d.class; name = d.member.name; descriptor = d.member.descriptor }

abbrev pub method_key : Declared Method → Key
method_key d = record { class = d.class; name = d.member.name; descriptor = d.member.descriptor }

-- the place that a map has for a key
abbrev pub place_of : MemberPlaces → Key → Option ℕ
place_of p key = lookup (λ k. is_key (key_shown k) key) p.places.entries

-- for each key the first place at which it stands in a list
abbrev pub Places : MemberPlaces → List Key → Type 0
Places p keys = (key : Key) → place_of p key ≡ position (is_key key) keys

-- ---- the slots of static fields, the words of objects, and the places of methods

abbrev pub slot_key : FieldValue → Key
slot_key f = record { class = f.class; name = f.name; descriptor = f.descriptor }

abbrev pub slot_keys : List ClassListing → List Key
slot_keys program = map slot_key (opening_slots program)

abbrev pub word_keys : List ClassListing → ClassListing → List Key
word_keys program c = map field_key (layout program c.name)

abbrev pub declared_key : List ℕ → Method → Key
declared_key class m = record { class = class; name = m.name; descriptor = m.descriptor }

abbrev pub method_keys : ClassListing → List Key
method_keys c = map (declared_key c.name) c.methods

-- for a class the places of some keys
abbrev pub ArePlacesOf : (ClassListing → List Key) → Option ClassListing → Option MemberPlaces → Type 0
ArePlacesOf keys None None = Unit {0}
ArePlacesOf keys None (Some p) = ⊥
ArePlacesOf keys (Some c) None = ⊥
ArePlacesOf keys (Some c) (Some p) = Places p (keys c)

-- the same for each class by its number
abbrev pub HavePlaces : (ClassListing → List Key) → List ClassListing → List MemberPlaces → Type 0
HavePlaces keys classes places = (n : ℕ) → ArePlacesOf keys (slice_get classes n) (slice_get places n)
