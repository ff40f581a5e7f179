use Rattle.std.proofs.Common.{◌≡◌, ◌++◌, List, map, ℕ, true, sym, ◌∙◌, ap, subst}
use Rattle.std.specs.List.{flat_map, list_all, AllByRecursion}
use Rattle.model.specs.ClassListings.{ClassListing}
use Rattle.model.specs.ClassFiles.Items.{Item, with_items, class_items, field_items, method_items, listing_items}
use Rattle.model.specs.ClassFiles.Methods.{MethodPart}
use Rattle.model.specs.declared.class_files.FieldEntry.{FieldEntry}
use Rattle.model.specs.declared.flags.ClassFlags.{ClassFlags}
use Rattle.model.specs.declared.listings.Field.{Field}
use Rattle.model.specs.declared.listings.Method.{Method}
use Rattle.classfile.specs.Made.{BodyPart}
use Rattle.assembler.specs.Assembled.{Stays, HasRoom, HasCode, code_stands, class_number, assembled_method}
use Rattle.assembler.specs.Assembled.{assembled_body}
use Rattle.assembler.specs.Numbering.{numbered_field}
use Rattle.assembler.specs.declared.error.AsmError.TheVariants as error
use Rattle.assembler.proofs.StayingLaws as laws
use Rattle.assembler.proofs.numbered_class.body.Goals as goal

pub returns-in_err-class-clause-only : goal.returns-in_err-class-clause-only
unfolding listing_items
returns-in_err-class-clause-only c =
    let l : ClassListing = record {
      name = c.listing.inside.name;
      flags = c.listing.inside.flags;
      superclass = c.listing.inside.superclass;
      interfaces = c.listing.inside.interfaces.items;
      fields = c.listing.inside.fields.items;
      methods = c.listing.inside.methods.items;
    } in
    let has : List Item → Type 0 = λ items. HasRoom items × AllByRecursion (λ m. HasCode items m.code) l.methods in
    let only : (later : List Item) → HasRoom (with_items c.args.numbers.now (listing_items l ++ later))
    → AllByRecursion (λ m. HasCode (with_items c.args.numbers.now (listing_items l ++ later)) m.code) l.methods
    → c.in_err-class.field-0.0
    ≡ error.Memory = λ later room code. (laws.first_fails has c.args.numbers.now (class_items l.name)
    ((class_items l.superclass)
    ++ ((flat_map class_items l.interfaces)
    ++ ((flat_map field_items l.fields) ++ (flat_map method_items l.methods))))
    (λ later p. c.in_err-class.ensures.only later p.0)) later (room, code) in
    laws.given_on c.from_residual.result c.in_err-class.field-0.0 (λ e. (later : List Item)
    → HasRoom (with_items c.args.numbers.now (listing_items c.args.listing.now ++ later))
    → AllByRecursion (λ m. HasCode (with_items c.args.numbers.now (listing_items c.args.listing.now ++ later))
    m.code) c.args.listing.now.methods → e ≡ error.Memory) c.from_residual.ensures.1
    (subst (λ (k : ClassListing). (later : List Item)
    → HasRoom (with_items c.args.numbers.now (listing_items k ++ later))
    → AllByRecursion (λ m. HasCode (with_items c.args.numbers.now (listing_items k ++ later)) m.code) k.methods
    → c.in_err-class.field-0.0 ≡ error.Memory) c.listing.view_is only)

pub returns-in_err-class-2-clause-only : goal.returns-in_err-class-2-clause-only
unfolding listing_items
returns-in_err-class-2-clause-only c =
    let l : ClassListing = record {
      name = c.listing.inside.name;
      flags = c.listing.inside.flags;
      superclass = c.listing.inside.superclass;
      interfaces = c.listing.inside.interfaces.items;
      fields = c.listing.inside.fields.items;
      methods = c.listing.inside.methods.items;
    } in
    let has : List Item → Type 0 = λ items. HasRoom items × AllByRecursion (λ m. HasCode items m.code) l.methods in
    let only : (later : List Item) → HasRoom (with_items c.args.numbers.now (listing_items l ++ later))
    → AllByRecursion (λ m. HasCode (with_items c.args.numbers.now (listing_items l ++ later)) m.code) l.methods
    → c.in_err-class-2.field-0.0
    ≡ error.Memory = λ later room code. (laws.second_fails has c.args.numbers.now c.class.new.self
    (class_items l.name) ((class_items l.superclass)
    ++ ((flat_map class_items l.interfaces)
    ++ ((flat_map field_items l.fields) ++ (flat_map method_items l.methods))))
    (λ items. class_number items l.name) c.in_ok-class.field-0 c.in_ok-class.ensures.found
    (laws.first_fails has c.class.new.self (class_items l.superclass) ((flat_map class_items l.interfaces)
    ++ ((flat_map field_items l.fields) ++ (flat_map method_items l.methods)))
    (λ later p. c.in_err-class-2.ensures.only later p.0))) later (room, code) in
    laws.given_on c.from_residual-in_err-class-2.result c.in_err-class-2.field-0.0 (λ e. (later : List Item)
    → HasRoom (with_items c.args.numbers.now (listing_items c.args.listing.now ++ later))
    → AllByRecursion (λ m. HasCode (with_items c.args.numbers.now (listing_items c.args.listing.now ++ later))
    m.code) c.args.listing.now.methods → e ≡ error.Memory) c.from_residual-in_err-class-2.ensures.1
    (subst (λ (k : ClassListing). (later : List Item)
    → HasRoom (with_items c.args.numbers.now (listing_items k ++ later))
    → AllByRecursion (λ m. HasCode (with_items c.args.numbers.now (listing_items k ++ later)) m.code) k.methods
    → c.in_err-class-2.field-0.0 ≡ error.Memory) c.listing.view_is only)

pub returns-in_err-classes-clause-only : goal.returns-in_err-classes-clause-only
unfolding listing_items
returns-in_err-classes-clause-only c =
    let l : ClassListing = record {
      name = c.listing.inside.name;
      flags = c.listing.inside.flags;
      superclass = c.listing.inside.superclass;
      interfaces = c.listing.inside.interfaces.items;
      fields = c.listing.inside.fields.items;
      methods = c.listing.inside.methods.items;
    } in
    let has : List Item → Type 0 = λ items. HasRoom items × AllByRecursion (λ m. HasCode items m.code) l.methods in
    let only : (later : List Item) → HasRoom (with_items c.args.numbers.now (listing_items l ++ later))
    → AllByRecursion (λ m. HasCode (with_items c.args.numbers.now (listing_items l ++ later)) m.code) l.methods
    → c.in_err-classes.field-0.0
    ≡ error.Memory = λ later room code. (laws.second_fails has c.args.numbers.now c.class.new.self
    (class_items l.name) ((class_items l.superclass)
    ++ ((flat_map class_items l.interfaces)
    ++ ((flat_map field_items l.fields) ++ (flat_map method_items l.methods))))
    (λ items. class_number items l.name) c.in_ok-class.field-0 c.in_ok-class.ensures.found
    (laws.second_fails has c.class.new.self c.class-2.new.self (class_items l.superclass)
    ((flat_map class_items l.interfaces)
    ++ ((flat_map field_items l.fields) ++ (flat_map method_items l.methods)))
    (λ items. class_number items l.superclass) c.in_ok-class-2.field-0 c.in_ok-class-2.ensures.found
    (laws.first_fails has c.class-2.new.self (flat_map class_items l.interfaces) ((flat_map field_items l.fields)
    ++ (flat_map method_items l.methods)) (λ later p. subst (λ (xs : List (List ℕ)). (later : List Item)
    → HasRoom (with_items c.class-2.new.self (flat_map class_items xs ++ later)) → c.in_err-classes.field-0.0
    ≡ error.Memory) c.as_slice.ensures.value c.in_err-classes.ensures.only later p.0)))) later (room, code) in
    laws.given_on c.from_residual-in_err-classes.result c.in_err-classes.field-0.0 (λ e. (later : List Item)
    → HasRoom (with_items c.args.numbers.now (listing_items c.args.listing.now ++ later))
    → AllByRecursion (λ m. HasCode (with_items c.args.numbers.now (listing_items c.args.listing.now ++ later))
    m.code) c.args.listing.now.methods → e ≡ error.Memory) c.from_residual-in_err-classes.ensures.1
    (subst (λ (k : ClassListing). (later : List Item)
    → HasRoom (with_items c.args.numbers.now (listing_items k ++ later))
    → AllByRecursion (λ m. HasCode (with_items c.args.numbers.now (listing_items k ++ later)) m.code) k.methods
    → c.in_err-classes.field-0.0 ≡ error.Memory) c.listing.view_is only)

pub returns-in_err-fields-clause-only : goal.returns-in_err-fields-clause-only
unfolding listing_items
returns-in_err-fields-clause-only c =
    let l : ClassListing = record {
      name = c.listing.inside.name;
      flags = c.listing.inside.flags;
      superclass = c.listing.inside.superclass;
      interfaces = c.listing.inside.interfaces.items;
      fields = c.listing.inside.fields.items;
      methods = c.listing.inside.methods.items;
    } in
    let has : List Item → Type 0 = λ items. HasRoom items × AllByRecursion (λ m. HasCode items m.code) l.methods in
    let only : (later : List Item) → HasRoom (with_items c.args.numbers.now (listing_items l ++ later))
    → AllByRecursion (λ m. HasCode (with_items c.args.numbers.now (listing_items l ++ later)) m.code) l.methods
    → c.in_err-fields.field-0.0
    ≡ error.Memory = λ later room code. (laws.second_fails has c.args.numbers.now c.class.new.self
    (class_items l.name) ((class_items l.superclass)
    ++ ((flat_map class_items l.interfaces)
    ++ ((flat_map field_items l.fields) ++ (flat_map method_items l.methods))))
    (λ items. class_number items l.name) c.in_ok-class.field-0 c.in_ok-class.ensures.found
    (laws.second_fails has c.class.new.self c.class-2.new.self (class_items l.superclass)
    ((flat_map class_items l.interfaces)
    ++ ((flat_map field_items l.fields) ++ (flat_map method_items l.methods)))
    (λ items. class_number items l.superclass) c.in_ok-class-2.field-0 c.in_ok-class-2.ensures.found
    (laws.second_fails has c.class-2.new.self c.classes.new.numbers (flat_map class_items l.interfaces)
    ((flat_map field_items l.fields) ++ (flat_map method_items l.methods))
    (λ items. map (class_number items) l.interfaces) c.in_ok-classes.field-0.items
    (subst (λ (xs : List (List ℕ)). Stays c.class-2.new.self (flat_map class_items xs) c.classes.new.numbers
    (λ items. map (class_number items) xs) c.in_ok-classes.field-0.items) c.as_slice.ensures.value
    c.in_ok-classes.ensures.found) (laws.first_fails has c.classes.new.numbers (flat_map field_items l.fields)
    (flat_map method_items l.methods) (λ later p. subst (λ (xs : List Field). (later : List Item)
    → HasRoom (with_items c.classes.new.numbers (flat_map field_items xs ++ later)) → c.in_err-fields.field-0.0
    ≡ error.Memory) c.as_slice-2.ensures.value c.in_err-fields.ensures.only later p.0))))) later (room, code) in
    laws.given_on c.from_residual-in_err-fields.result c.in_err-fields.field-0.0 (λ e. (later : List Item)
    → HasRoom (with_items c.args.numbers.now (listing_items c.args.listing.now ++ later))
    → AllByRecursion (λ m. HasCode (with_items c.args.numbers.now (listing_items c.args.listing.now ++ later))
    m.code) c.args.listing.now.methods → e ≡ error.Memory) c.from_residual-in_err-fields.ensures.1
    (subst (λ (k : ClassListing). (later : List Item)
    → HasRoom (with_items c.args.numbers.now (listing_items k ++ later))
    → AllByRecursion (λ m. HasCode (with_items c.args.numbers.now (listing_items k ++ later)) m.code) k.methods
    → c.in_err-fields.field-0.0 ≡ error.Memory) c.listing.view_is only)

pub returns-in_err-methods-clause-only : goal.returns-in_err-methods-clause-only
unfolding listing_items
returns-in_err-methods-clause-only c =
    let l : ClassListing = record {
      name = c.listing.inside.name;
      flags = c.listing.inside.flags;
      superclass = c.listing.inside.superclass;
      interfaces = c.listing.inside.interfaces.items;
      fields = c.listing.inside.fields.items;
      methods = c.listing.inside.methods.items;
    } in
    let has : List Item → Type 0 = λ items. HasRoom items × AllByRecursion (λ m. HasCode items m.code) l.methods in
    let only : (later : List Item) → HasRoom (with_items c.args.numbers.now (listing_items l ++ later))
    → AllByRecursion (λ m. HasCode (with_items c.args.numbers.now (listing_items l ++ later)) m.code) l.methods
    → c.in_err-methods.field-0.0
    ≡ error.Memory = λ later room code. (laws.second_fails has c.args.numbers.now c.class.new.self
    (class_items l.name) ((class_items l.superclass)
    ++ ((flat_map class_items l.interfaces)
    ++ ((flat_map field_items l.fields) ++ (flat_map method_items l.methods))))
    (λ items. class_number items l.name) c.in_ok-class.field-0 c.in_ok-class.ensures.found
    (laws.second_fails has c.class.new.self c.class-2.new.self (class_items l.superclass)
    ((flat_map class_items l.interfaces)
    ++ ((flat_map field_items l.fields) ++ (flat_map method_items l.methods)))
    (λ items. class_number items l.superclass) c.in_ok-class-2.field-0 c.in_ok-class-2.ensures.found
    (laws.second_fails has c.class-2.new.self c.classes.new.numbers (flat_map class_items l.interfaces)
    ((flat_map field_items l.fields) ++ (flat_map method_items l.methods))
    (λ items. map (class_number items) l.interfaces) c.in_ok-classes.field-0.items
    (subst (λ (xs : List (List ℕ)). Stays c.class-2.new.self (flat_map class_items xs) c.classes.new.numbers
    (λ items. map (class_number items) xs) c.in_ok-classes.field-0.items) c.as_slice.ensures.value
    c.in_ok-classes.ensures.found) (laws.second_fails has c.classes.new.numbers c.fields.new.numbers
    (flat_map field_items l.fields) (flat_map method_items l.methods)
    (λ items. map (numbered_field items) l.fields) c.in_ok-fields.field-0.items
    (subst (λ (xs : List Field). Stays c.classes.new.numbers (flat_map field_items xs) c.fields.new.numbers
    (λ items. map (numbered_field items) xs) c.in_ok-fields.field-0.items) c.as_slice-2.ensures.value
    c.in_ok-fields.ensures.found) (λ later p. subst (λ (xs : List Method). (later : List Item)
    → HasRoom (with_items c.fields.new.numbers (flat_map method_items xs ++ later))
    → AllByRecursion (λ m. HasCode (with_items c.fields.new.numbers (flat_map method_items xs ++ later)) m.code)
    xs → c.in_err-methods.field-0.0 ≡ error.Memory) c.as_slice-3.ensures.value c.in_err-methods.ensures.only later
    p.0 p.1))))) later (room, code) in
    laws.given_on c.from_residual-in_err-methods.result c.in_err-methods.field-0.0 (λ e. (later : List Item)
    → HasRoom (with_items c.args.numbers.now (listing_items c.args.listing.now ++ later))
    → AllByRecursion (λ m. HasCode (with_items c.args.numbers.now (listing_items c.args.listing.now ++ later))
    m.code) c.args.listing.now.methods → e ≡ error.Memory) c.from_residual-in_err-methods.ensures.1
    (subst (λ (k : ClassListing). (later : List Item)
    → HasRoom (with_items c.args.numbers.now (listing_items k ++ later))
    → AllByRecursion (λ m. HasCode (with_items c.args.numbers.now (listing_items k ++ later)) m.code) k.methods
    → c.in_err-methods.field-0.0 ≡ error.Memory) c.listing.view_is only)

pub methods-requires : goal.methods-requires
methods-requires c = subst (λ (ms : List Method). list_all (λ m. code_stands m.code) ms ≡ true)
    (sym (c.as_slice-3.ensures.value ∙ ap (λ l. l.methods) c.listing.view_is)) c.requires

pub returns-clause-found : goal.returns-clause-found
unfolding listing_items
returns-clause-found c =
    let l : ClassListing = record {
      name = c.listing.inside.name;
      flags = c.listing.inside.flags;
      superclass = c.listing.inside.superclass;
      interfaces = c.listing.inside.interfaces.items;
      fields = c.listing.inside.fields.items;
      methods = c.listing.inside.methods.items;
    } in
    let value : ℕ × (ℕ × (List ℕ × (List FieldEntry × List MethodPart)))
    → BodyPart = λ x. record {
      flags = c.file_flags.result;
      class = x.0;
      superclass = x.1.0;
      interfaces = x.1.1.0;
      fields = x.1.1.1.0;
      methods = x.1.1.1.1;
    } in
    let made = laws.stays_as c.args.numbers.now c.methods.new.numbers ((class_items l.name) ++ ((class_items l.superclass) ++ ((flat_map class_items l.interfaces) ++ ((flat_map field_items l.fields) ++ (flat_map method_items l.methods))))) (λ items. (class_number items l.name, (class_number items l.superclass, (map (class_number items) l.interfaces, (map (numbered_field items) l.fields, (map (assembled_method items) l.methods)))))) (c.in_ok-class.field-0, (c.in_ok-class-2.field-0, (c.in_ok-classes.field-0.items, (c.in_ok-fields.field-0.items, c.in_ok-methods.field-0.items)))) value (laws.stays_then c.args.numbers.now c.class.new.self c.methods.new.numbers (class_items l.name) ((class_items l.superclass) ++ ((flat_map class_items l.interfaces) ++ ((flat_map field_items l.fields) ++ (flat_map method_items l.methods)))) (λ items. class_number items l.name) (λ items. (class_number items l.superclass, (map (class_number items) l.interfaces, (map (numbered_field items) l.fields, (map (assembled_method items) l.methods))))) c.in_ok-class.field-0 (c.in_ok-class-2.field-0, (c.in_ok-classes.field-0.items, (c.in_ok-fields.field-0.items, c.in_ok-methods.field-0.items))) c.in_ok-class.ensures.found (laws.stays_then c.class.new.self c.class-2.new.self c.methods.new.numbers (class_items l.superclass) ((flat_map class_items l.interfaces) ++ ((flat_map field_items l.fields) ++ (flat_map method_items l.methods))) (λ items. class_number items l.superclass) (λ items. (map (class_number items) l.interfaces, (map (numbered_field items) l.fields, (map (assembled_method items) l.methods)))) c.in_ok-class-2.field-0 (c.in_ok-classes.field-0.items, (c.in_ok-fields.field-0.items, c.in_ok-methods.field-0.items)) c.in_ok-class-2.ensures.found (laws.stays_then c.class-2.new.self c.classes.new.numbers c.methods.new.numbers (flat_map class_items l.interfaces) ((flat_map field_items l.fields) ++ (flat_map method_items l.methods)) (λ items. map (class_number items) l.interfaces) (λ items. (map (numbered_field items) l.fields, (map (assembled_method items) l.methods))) c.in_ok-classes.field-0.items (c.in_ok-fields.field-0.items, c.in_ok-methods.field-0.items) (subst (λ (xs : List (List ℕ)). Stays c.class-2.new.self (flat_map class_items xs) c.classes.new.numbers (λ items. map (class_number items) xs) c.in_ok-classes.field-0.items) c.as_slice.ensures.value c.in_ok-classes.ensures.found) (laws.stays_then c.classes.new.numbers c.fields.new.numbers c.methods.new.numbers (flat_map field_items l.fields) (flat_map method_items l.methods) (λ items. map (numbered_field items) l.fields) (λ items. (map (assembled_method items) l.methods)) c.in_ok-fields.field-0.items c.in_ok-methods.field-0.items (subst (λ (xs : List Field). Stays c.classes.new.numbers (flat_map field_items xs) c.fields.new.numbers (λ items. map (numbered_field items) xs) c.in_ok-fields.field-0.items) c.as_slice-2.ensures.value c.in_ok-fields.ensures.found) (subst (λ (xs : List Method). Stays c.fields.new.numbers (flat_map method_items xs) c.methods.new.numbers (λ items. map (assembled_method items) xs) c.in_ok-methods.field-0.items) c.as_slice-3.ensures.value c.in_ok-methods.ensures.found))))) in
    let flags : (items : List Item) (f : ClassFlags) → BodyPart = λ items f. record {
      flags = f;
      class = class_number items l.name;
      superclass = class_number items l.superclass;
      interfaces = map (class_number items) l.interfaces;
      fields = map (numbered_field items) l.fields;
      methods = map (assembled_method items) l.methods;
    } in
    subst (λ (k : ClassListing). Stays {A = BodyPart} c.args.numbers.now (listing_items k) c.methods.new.numbers
    (λ items. assembled_body items k) (value (
      c.in_ok-class.field-0,
      (
        c.in_ok-class-2.field-0,
        (c.in_ok-classes.field-0.items, (c.in_ok-fields.field-0.items, c.in_ok-methods.field-0.items)),
      ),
    )))
    c.listing.view_is
    (subst (λ (f : ClassFlags). Stays {A = BodyPart} c.args.numbers.now (listing_items l) c.methods.new.numbers
    (λ items. flags items f) (value (
      c.in_ok-class.field-0,
      (
        c.in_ok-class-2.field-0,
        (c.in_ok-classes.field-0.items, (c.in_ok-fields.field-0.items, c.in_ok-methods.field-0.items)),
      ),
    )))
    c.file_flags.ensures made)
