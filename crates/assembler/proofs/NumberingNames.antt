-- The numbers of closed items name what the items say.
use Rattle.std.proofs.Common.{◌≡◌, ℕ, true, List, [], ◌∷◌, map, refl, sym, ◌∙◌, ap}
use Rattle.std.specs.Option.{unwrap_or}
use Rattle.std.proofs.lemmas.Bool.{and_parts, or_right}
use Rattle.model.specs.ClassFiles.References.{text_of, class_of, name_and_type_of}
use Rattle.model.specs.ClassFiles.Listing.{name_at, class_at, referred, reference_of, member_of, member_at}
use Rattle.model.specs.ClassFiles.Items.{Item, is_same_item, is_item_of}
use Rattle.model.specs.ClassFiles.Items.Item.{text_item, int_item, long_item, class_item, name_item, field_item}
use Rattle.model.specs.ClassFiles.Items.Item.{method_item, interface_item}
use Rattle.model.specs.declared.names.Member.{Member}
use Rattle.assembler.specs.Numbering.{number_of, entry_of, entries_of, item_of, items_of, named_by, are_items_of}
use Rattle.assembler.specs.Numbering.{AreClosed}
use Rattle.assembler.proofs.NumberingItems.{one_of, among_first, named_are}
use Rattle.assembler.proofs.NumberingEntries.{entry_under}

-- ---- what a number names

pub text_named : (items : List Item) (text : List ℕ) → is_item_of items (text_item text) ≡ true
    → name_at (entries_of items) (number_of items (text_item text)) ≡ text
text_named items text h = ap (λ e. unwrap_or (text_of e) []) (entry_under items (text_item text) h)

pub class_named : (items : List Item) (name : List ℕ) → AreClosed items → is_item_of items (class_item name) ≡ true
    → class_at (entries_of items) (number_of items (class_item name)) ≡ name
class_named items name closed h =
    ap (λ e. name_at (entries_of items) (unwrap_or (class_of e) 0)) (entry_under items (class_item name) h)
    ∙ text_named items name (one_of items (text_item name ∷ []) (text_item name)
    (named_are items (class_item name) closed h) (among_first (text_item name) []))

-- the names that a name-and-type has
pub name_texts : (items : List Item) (name descriptor : List ℕ) → AreClosed items
    → is_item_of items (name_item name descriptor) ≡ true
    → (is_item_of items (text_item name) ≡ true) × (is_item_of items (text_item descriptor) ≡ true)
name_texts items name descriptor closed h =
    let both = and_parts (is_item_of items (text_item name)) (are_items_of items (text_item descriptor ∷ []))
    (named_are items (name_item name descriptor) closed h) in
    (both.0, (and_parts (is_item_of items (text_item descriptor)) true both.1).0)

-- the class, the name and the descriptor under the numbers that a reference has
pub referred_is : (items : List Item) (m : Member) → AreClosed items → is_item_of items (class_item m.class) ≡ true
    → is_item_of items (name_item m.name m.descriptor) ≡ true
    → referred (entries_of items) (
      number_of items (class_item m.class),
      number_of items (name_item m.name m.descriptor),
    ) ≡ m
referred_is items m closed hc hn =
    let texts = name_texts items m.name m.descriptor closed hn in
    let pool = entries_of items in
    ap (λ e. member_of pool (class_at pool (number_of items (class_item m.class))) (unwrap_or (name_and_type_of e) (
      0,
      0,
    ))) (entry_under items (name_item m.name m.descriptor) hn)
    ∙ ap (λ (c : List ℕ). record {
      class = c;
      name = name_at pool (number_of items (text_item m.name));
      descriptor = name_at pool (number_of items (text_item m.descriptor));
    }) (class_named items m.class closed hc)
    ∙ ap (λ (n : List ℕ). record {
      class = m.class;
      name = n;
      descriptor = name_at pool (number_of items (text_item m.descriptor));
    }) (text_named items m.name texts.0)
    ∙ ap (λ (d : List ℕ). record { class = m.class; name = m.name; descriptor = d })
    (text_named items m.descriptor texts.1)

-- both that a reference names are there
pub reference_parts : (items : List Item) (m : Member)
    → are_items_of items (class_item m.class ∷ name_item m.name m.descriptor ∷ []) ≡ true
    → (is_item_of items (class_item m.class) ≡ true) × (is_item_of items (name_item m.name m.descriptor) ≡ true)
reference_parts items m h =
    let both = and_parts (is_item_of items (class_item m.class))
    (are_items_of items (name_item m.name m.descriptor ∷ [])) h in
    (both.0, (and_parts (is_item_of items (name_item m.name m.descriptor)) true both.1).0)

pub field_named : (items : List Item) (m : Member) → AreClosed items → is_item_of items (field_item m) ≡ true
    → member_at (entries_of items) (number_of items (field_item m)) ≡ m
field_named items m closed h =
    let parts = reference_parts items m (named_are items (field_item m) closed h) in
    ap (λ e. referred (entries_of items) (reference_of e)) (entry_under items (field_item m) h)
    ∙ referred_is items m closed parts.0 parts.1

pub method_named : (items : List Item) (m : Member) → AreClosed items → is_item_of items (method_item m) ≡ true
    → member_at (entries_of items) (number_of items (method_item m)) ≡ m
method_named items m closed h =
    let parts = reference_parts items m (named_are items (method_item m) closed h) in
    ap (λ e. referred (entries_of items) (reference_of e)) (entry_under items (method_item m) h)
    ∙ referred_is items m closed parts.0 parts.1

pub interface_named : (items : List Item) (m : Member) → AreClosed items → is_item_of items (interface_item m) ≡ true
    → member_at (entries_of items) (number_of items (interface_item m)) ≡ m
interface_named items m closed h =
    let parts = reference_parts items m (named_are items (interface_item m) closed h) in
    ap (λ e. referred (entries_of items) (reference_of e)) (entry_under items (interface_item m) h)
    ∙ referred_is items m closed parts.0 parts.1

-- ---- an entry says its item

pub says : (items : List Item) (x : Item) → AreClosed items → are_items_of items (named_by x) ≡ true
    → item_of (entries_of items) (entry_of items x) ≡ x
says items (text_item text) closed named = refl
says items (int_item z) closed named = refl
says items (long_item z) closed named = refl
says items (class_item name) closed named = ap class_item
    (text_named items name (one_of items (text_item name ∷ []) (text_item name) named
    (among_first (text_item name) [])))
says items (name_item name descriptor) closed named =
    let both = and_parts (is_item_of items (text_item name)) (are_items_of items (text_item descriptor ∷ [])) named in
    ap (λ n. name_item n (name_at (entries_of items) (number_of items (text_item descriptor))))
    (text_named items name both.0)
    ∙ ap (name_item name) (text_named items descriptor (and_parts (is_item_of items (text_item descriptor)) true
    both.1).0)
says items (field_item m) closed named = let parts = reference_parts items m named
    in ap field_item (referred_is items m closed parts.0 parts.1)
says items (method_item m) closed named = let parts = reference_parts items m named
    in ap method_item (referred_is items m closed parts.0 parts.1)
says items (interface_item m) closed named = let parts = reference_parts items m named in ap
    interface_item (referred_is items m closed parts.0 parts.1)

say_all : (items xs : List Item) → AreClosed items → ((x : Item) → is_item_of xs x ≡ true → is_item_of items x ≡ true)
    → map (item_of (entries_of items)) (map (entry_of items) xs) ≡ xs
say_all items [] closed each = refl
say_all items (x ∷ xs) closed each =
    ap (λ y. y ∷ map (item_of (entries_of items)) (map (entry_of items) xs))
    (says items x closed (named_are items x closed (each x (among_first x xs))))
    ∙ ap (λ ys. x ∷ ys) (say_all items xs closed (λ y h. each y (or_right (is_same_item y x) (is_item_of xs y) h)))

pub items_back : (items : List Item) → AreClosed items → items_of (entries_of items) ≡ items
items_back items closed = say_all items items closed (λ x h. h)

-- different items have different entries
pub one_entry : (items : List Item) (x y : Item) → AreClosed items → are_items_of items (named_by x) ≡ true
    → are_items_of items (named_by y) ≡ true → entry_of items x ≡ entry_of items y → x ≡ y
one_entry items x y closed nx ny e = sym (says items x closed nx) ∙ ap (item_of (entries_of items)) e
    ∙ says items y closed ny
