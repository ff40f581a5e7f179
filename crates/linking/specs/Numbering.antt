use Rattle.std.specs.Prelude.{◌≡◌, List}
use Rattle.model.specs.ClassListings.{ClassListing}
use Rattle.resolve.specs.Numbers.{all_classes}
use Rattle.linking.specs.declared.member_places.MemberPlaces.{MemberPlaces}
use Rattle.linking.specs.MemberPlaces.{HavePlaces, Places, method_keys, slot_keys, word_keys}

-- the selectors of a program, and the slots, words and places of its fields and methods
pub record AreNumbers (program selectors : List ClassListing) (slots : MemberPlaces)
    (words methods : List MemberPlaces) : Type 0 where
  pub selectors_are : selectors ≡ program
  pub slots_are : Places slots (slot_keys program)
  pub words_are : HavePlaces (word_keys program) (all_classes program) words
  pub methods_are : HavePlaces method_keys (all_classes program) methods
