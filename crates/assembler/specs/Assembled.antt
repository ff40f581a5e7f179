-- The class file of a listing, with the numbers that a pool of items gives (JVMS 4.1).
use Rattle.std.specs.Prelude.{◌≡◌, ℕ, ◌^◌, ◌<◌, Bool, true, bit_or, List, [], ◌++◌, map, codes, Option, Some, None}
use Rattle.std.specs.Prelude.{if◌then◌else◌}
use Rattle.std.specs.Option.{option_map}
use Rattle.model.specs.Bytecode.{IsCode}
use Rattle.model.specs.ClassFiles.Classes.{ClassPart}
use Rattle.model.specs.ClassFiles.Codes.{CodePart}
use Rattle.model.specs.ClassFiles.Items.{Item, with_items, items_count, listing_items}
use Rattle.model.specs.ClassFiles.Items.Item.{text_item, int_item, class_item}
use Rattle.model.specs.ClassFiles.Methods.{MethodPart}
use Rattle.model.specs.ClassListings.{ClassListing}
use Rattle.model.specs.CodeListings.{CodeListing}
use Rattle.model.specs.Texts.Flags.{has}
use Rattle.model.specs.Texts.ListingOfTree.{listing_of}
use Rattle.model.specs.Texts.Spelled.{stand_from}
use Rattle.model.specs.Texts.Trees.{Tree}
use Rattle.model.specs.Texts.Widths.{used_in_methods}
use Rattle.model.specs.declared.flags.ClassFlags.{ClassFlags}
use Rattle.model.specs.declared.listings.Method.{Method}
use Rattle.classfile.specs.Made.{BodyPart, made}
use Rattle.assembler.specs.Numbering.{number_of, entries_of, numbered_placed, numbered_row, numbered_field}

abbrev pub class_number : List Item → List ℕ → ℕ
class_number items name = number_of items (class_item name)

abbrev pub assembled_code : List Item → CodeListing → CodePart
assembled_code items c = record {
  name = number_of items (text_item (codes "Code"));
  max_stack = c.max_stack;
  max_locals = c.max_locals;
  instructions = map (numbered_placed items) c.instructions;
  rows = map (numbered_row items) c.rows;
}

abbrev pub assembled_method : List Item → Method → MethodPart
assembled_method items m = record {
  flags = m.flags;
  name = number_of items (text_item m.name);
  descriptor = number_of items (text_item m.descriptor);
  code = option_map (assembled_code items) m.code;
}

-- a class has SUPER, an interface hasn't (JVMS 4.1)
abbrev pub file_flags : ClassFlags → ClassFlags
file_flags flags = if has flags.0 0x0200 then flags else (record { 0 = bit_or flags.0 0x0020 })

-- a class file but its pool, with these flags
abbrev pub body_with : List Item → ClassFlags → ClassListing → BodyPart
body_with items flags l = record {
  flags = flags;
  class = class_number items l.name;
  superclass = class_number items l.superclass;
  interfaces = map (class_number items) l.interfaces;
  fields = map (numbered_field items) l.fields;
  methods = map (assembled_method items) l.methods;
}

abbrev pub class_with : List Item → ClassFlags → ClassListing → ClassPart
class_with items flags l = made (entries_of items) (body_with items flags l)

abbrev pub assembled_body : List Item → ClassListing → BodyPart
assembled_body items l = body_with items (file_flags l.flags) l

-- the class file of a listing
abbrev pub assembled : List Item → ClassListing → ClassPart
assembled items l = class_with items (file_flags l.flags) l

-- ---- a pool that grows

-- between two pools these items were added
abbrev pub Grows : List Item → List Item → List Item → Type 0
Grows old added new = (later : List Item) → with_items old (added ++ later) ≡ with_items new later

-- the same, and the value is what it will be in the whole pool, whatever is added later
abbrev pub Stays : {A : Type 0} → List Item → List Item → List Item → (List Item → A) → A → Type 0
Stays old added new value x = (later : List Item) → (with_items old (added ++ later) ≡ with_items new later)
    × (x ≡ value (with_items new later))

-- the pool has room for its items
abbrev pub HasRoom : List Item → Type 0
HasRoom items = items_count items < 2 ^ 16

-- ---- code that has bytes

-- instructions stand one after the other
abbrev pub code_stands : Option CodeListing → Bool
code_stands None = true
code_stands (Some c) = stand_from 0 c.instructions

-- with numbers for names they have bytes
abbrev pub HasCode : List Item → Option CodeListing → Type 0
HasCode items None = Unit {0}
HasCode items (Some c) = (bytes : List ℕ) × IsCode bytes (map (numbered_placed items) c.instructions)

-- ---- the class file of a text's tree

-- what stands in the pool: first the numbers that `ldc` uses, in their order
abbrev pub tree_items : Tree → List Item
tree_items t = map int_item (used_in_methods t.methods) ++ listing_items (listing_of t)

-- the class file of a text's tree
unfoldable pub assembled_tree : Tree → ClassPart
assembled_tree t = assembled (with_items [] (tree_items t)) (listing_of t)
