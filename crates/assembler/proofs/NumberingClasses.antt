-- Code and methods that are written with numbers are listed by the names that they had.
use Rattle.std.proofs.Common.{◌≡◌, ℕ, true, List, [], ◌∷◌, ◌++◌, map, Option, Some, None, refl, ap, ◌∙◌}
use Rattle.std.specs.Prelude.{codes}
use Rattle.std.specs.List.{flat_map}
use Rattle.std.specs.Option.{option_map}
use Rattle.model.specs.ClassListings.{ClassListing}
use Rattle.model.specs.CodeListings.{CodeListing}
use Rattle.model.specs.ClassFiles.Items.{Item, class_items, placed_items, row_items, code_items, method_items}
use Rattle.model.specs.ClassFiles.Items.{field_items, listing_items}
use Rattle.model.specs.ClassFiles.Items.Item.{text_item, class_item}
use Rattle.model.specs.ClassFiles.Listing.{name_at, class_at, listed_code, listed_field, listed_flags, listed_method}
use Rattle.model.specs.ClassFiles.Listing.{listing_of}
use Rattle.model.specs.declared.flags.ClassFlags.{ClassFlags}
use Rattle.model.specs.declared.listings.ExceptionRow.{ExceptionRow}
use Rattle.model.specs.declared.listings.Field.{Field}
use Rattle.model.specs.declared.listings.Method.{Method}
use Rattle.model.specs.declared.listings.Placed.{Placed}
use Rattle.assembler.specs.Numbering.{number_of, entries_of, are_items_of, AreClosed, numbered_field}
use Rattle.assembler.specs.Assembled.{assembled_code, assembled_method, class_with}
use Rattle.assembler.proofs.NumberingNames.{text_named, class_named}
use Rattle.assembler.proofs.NumberingListed.{only_there, class_there, all_parts, all_again, all_placed, all_rows}
use Rattle.assembler.proofs.NumberingListed.{all_fields, all_classes}

pub code_listed : (items : List Item) (c : CodeListing) → AreClosed items → are_items_of items (code_items (Some c))
    ≡ true → listed_code (entries_of items) (assembled_code items c) ≡ c
code_listed items c closed all =
    let parts = all_parts items (flat_map placed_items c.instructions) (flat_map row_items c.rows)
    (all_parts items (text_item (codes "Code") ∷ []) (flat_map placed_items c.instructions
    ++ flat_map row_items c.rows) all).1 in
    ap (λ (rs : List ExceptionRow). record {
      max_stack = c.max_stack;
      max_locals = c.max_locals;
      rows = rs;
      instructions = (listed_code (entries_of items) (assembled_code items c)).instructions;
    })
    (all_rows items c.rows closed parts.1)
    ∙ ap (λ (ps : List Placed). record {
      max_stack = c.max_stack;
      max_locals = c.max_locals;
      rows = c.rows;
      instructions = ps;
    }) (all_placed items c.instructions closed parts.0)

body_listed : (items : List Item) (code : Option CodeListing) → AreClosed items → are_items_of items (code_items code)
    ≡ true → option_map (listed_code (entries_of items)) (option_map (assembled_code items) code) ≡ code
body_listed items None closed all = refl
body_listed items (Some c) closed all = ap Some (code_listed items c closed all)

pub method_listed : (items : List Item) (m : Method) → AreClosed items → are_items_of items (method_items m) ≡ true
    → listed_method (entries_of items) (assembled_method items m) ≡ m
method_listed items m closed all =
    let first = all_parts items (text_item m.name ∷ []) (text_item m.descriptor ∷ code_items m.code) all in
    let second = all_parts items (text_item m.descriptor ∷ []) (code_items m.code) first.1 in
    let body = option_map (listed_code (entries_of items)) (option_map (assembled_code items) m.code) in
    ap (λ (n : List ℕ). record {
      flags = m.flags;
      name = n;
      descriptor = name_at (entries_of items) (number_of items (text_item m.descriptor));
      code = body;
    })
    (text_named items m.name (only_there items (text_item m.name) first.0))
    ∙ ap (λ (d : List ℕ). record { flags = m.flags; name = m.name; descriptor = d; code = body })
    (text_named items m.descriptor (only_there items (text_item m.descriptor) second.0))
    ∙ ap (λ (c : Option CodeListing). record { flags = m.flags; name = m.name; descriptor = m.descriptor; code = c })
    (body_listed items m.code closed second.1)

pub all_methods : (items : List Item) (ms : List Method) → AreClosed items
    → are_items_of items (flat_map method_items ms) ≡ true
    → map (listed_method (entries_of items)) (map (assembled_method items) ms) ≡ ms
all_methods items ms closed all = all_again (listed_method (entries_of items)) (assembled_method items) method_items
    items ms (λ m h. method_listed items m closed h) all

-- the parts of a listing's items
pub record ListingParts (items : List Item) (l : ClassListing) : Type 0 where
  pub name : are_items_of items (class_items l.name) ≡ true
  pub superclass : are_items_of items (class_items l.superclass) ≡ true
  pub interfaces : are_items_of items (flat_map class_items l.interfaces) ≡ true
  pub fields : are_items_of items (flat_map field_items l.fields) ≡ true
  pub methods : are_items_of items (flat_map method_items l.methods) ≡ true

pub listing_parts : (items : List Item) (l : ClassListing) → are_items_of items (listing_items l) ≡ true
    → ListingParts items l
unfolding listing_items
listing_parts items l all =
    let members = flat_map field_items l.fields ++ flat_map method_items l.methods in
    let a = all_parts items (class_items l.name) (class_items l.superclass
    ++ (flat_map class_items l.interfaces ++ members)) all in
    let b = all_parts items (class_items l.superclass) (flat_map class_items l.interfaces ++ members) a.1 in
    let c = all_parts items (flat_map class_items l.interfaces) members b.1 in
    let d = all_parts items (flat_map field_items l.fields) (flat_map method_items l.methods) c.1 in
    record { name = a.0; superclass = b.0; interfaces = c.0; fields = d.0; methods = d.1 }

-- ---- a class

-- the class file is listed as the listing that it was made of
pub class_listed : (items : List Item) (flags : ClassFlags) (l : ClassListing) → AreClosed items
    → are_items_of items (listing_items l) ≡ true → listed_flags flags ≡ l.flags → listing_of (class_with items flags l)
    ≡ l
unfolding listing_of
class_listed items flags l closed all kept =
    let parts = listing_parts items l all in
    let pool = entries_of items in
    let interfaces = map (class_at pool) (map (λ name. number_of items (class_item name)) l.interfaces) in
    let fields = map (listed_field pool) (map (numbered_field items) l.fields) in
    let methods = map (listed_method pool) (map (assembled_method items) l.methods) in
    let superclass = class_at pool (number_of items (class_item l.superclass)) in
    ap (λ (n : List ℕ). record {
      name = n;
      flags = listed_flags flags;
      superclass = superclass;
      interfaces = interfaces;
      fields = fields;
      methods = methods;
    }) (class_named items l.name closed (class_there items l.name parts.name))
    ∙ ap (λ (f : ClassFlags). record {
      name = l.name;
      flags = f;
      superclass = superclass;
      interfaces = interfaces;
      fields = fields;
      methods = methods;
    }) kept
    ∙ ap (λ (n : List ℕ). record {
      name = l.name;
      flags = l.flags;
      superclass = n;
      interfaces = interfaces;
      fields = fields;
      methods = methods;
    })
    (class_named items l.superclass closed (class_there items l.superclass parts.superclass))
    ∙ ap (λ (ns : List (List ℕ)). record {
      name = l.name;
      flags = l.flags;
      superclass = l.superclass;
      interfaces = ns;
      fields = fields;
      methods = methods;
    }) (all_classes items l.interfaces closed parts.interfaces)
    ∙ ap (λ (fs : List Field). record {
      name = l.name;
      flags = l.flags;
      superclass = l.superclass;
      interfaces = l.interfaces;
      fields = fs;
      methods = methods;
    }) (all_fields items l.fields closed parts.fields)
    ∙ ap (λ (ms : List Method). record {
      name = l.name;
      flags = l.flags;
      superclass = l.superclass;
      interfaces = l.interfaces;
      fields = l.fields;
      methods = ms;
    }) (all_methods items l.methods closed parts.methods)
