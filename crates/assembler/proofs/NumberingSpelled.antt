-- The items of a text's listing are well formed.
use Rattle.std.proofs.Common.{◌≡◌, ℕ, ℤ, Bool, true, not, List, [], ◌∷◌, ◌++◌, map, Option, Some, None, refl, sym, ap}
use Rattle.std.proofs.Common.{◌∙◌, inl, inr}
use Rattle.std.specs.Prelude.{codes}
use Rattle.std.specs.List.{flat_map, list_all}
use Rattle.std.specs.Str.{bytes_eq}
use Rattle.std.proofs.lemmas.Bool.{and_parts, and_from, or_cases, or_left, or_right, true≢false}
use Rattle.std.proofs.lemmas.List.Folds.{list_all-append}
use Rattle.model.specs.ClassListings.{ClassListing}
use Rattle.model.specs.CodeListings.{CodeListing}
use Rattle.model.specs.ClassFiles.Items.{Item, is_same_item, is_item_of, with_items, class_items, name_items}
use Rattle.model.specs.ClassFiles.Items.{member_items, constant_items, array_items, call_items, instruction_items}
use Rattle.model.specs.ClassFiles.Items.{placed_items, catch_items, row_items, code_items, method_items, value_items}
use Rattle.model.specs.ClassFiles.Items.{field_items, listing_items}
use Rattle.model.specs.ClassFiles.Items.Item.{text_item, int_item, long_item, class_item, name_item, field_item}
use Rattle.model.specs.ClassFiles.Items.Item.{method_item, interface_item}
use Rattle.model.specs.ClassFiles.Methods.{wants_code, units_fit}
use Rattle.model.specs.ClassFiles.References.{names_class, is_field, is_method, is_member, fits_units}
use Rattle.model.specs.Table.Next.{Listed}
use Rattle.model.specs.Texts.Descriptors.{is_field_descriptor, is_array_descriptor, arguments_of}
use Rattle.model.specs.Texts.Flags.{has}
use Rattle.model.specs.Texts.Names.{is_class_name, is_field_name, is_method_name}
use Rattle.model.specs.Texts.Spelled.{is_int, is_long, constant_is_spelled, array_is_spelled, class_is_spelled}
use Rattle.model.specs.Texts.Spelled.{field_is_named, method_is_named, count_is_spelled, operands_are_spelled}
use Rattle.model.specs.Texts.Spelled.{instruction_is_spelled, catch_is_spelled, row_is_spelled, code_is_spelled}
use Rattle.model.specs.Texts.Spelled.{body_is_spelled, method_is_spelled, value_is_spelled, field_is_spelled}
use Rattle.model.specs.Texts.Spelled.{is_spelled}
use Rattle.model.specs.declared.instructions.ArrayOperation.{ArrayOperation}
use Rattle.model.specs.declared.instructions.ArrayOperation.TheVariants as array
use Rattle.model.specs.declared.instructions.ClassOperation.{ClassOperation}
use Rattle.model.specs.declared.instructions.ClassOperation.TheVariants as class
use Rattle.model.specs.declared.instructions.Constant.{Constant as Pushed}
use Rattle.model.specs.declared.instructions.Constant.TheVariants as pushed
use Rattle.model.specs.declared.instructions.Instruction.TheVariants as instruction
use Rattle.model.specs.declared.instructions.Invocation.{Invocation}
use Rattle.model.specs.declared.instructions.Invocation.TheVariants as invocation
use Rattle.model.specs.declared.listings.Constant.{Constant}
use Rattle.model.specs.declared.listings.Constant.TheVariants as constant
use Rattle.model.specs.declared.listings.ExceptionRow.{ExceptionRow}
use Rattle.model.specs.declared.listings.Field.{Field}
use Rattle.model.specs.declared.listings.Method.{Method}
use Rattle.model.specs.declared.listings.Placed.{Placed}
use Rattle.model.specs.declared.names.Member.{Member}
use Rattle.model.proofs.PlainNames.{class_word_plain, field_name_plain, method_name_plain, field_descriptor_plain}
use Rattle.model.proofs.PlainNames.{called_descriptor_plain, own_descriptor_plain}
use Rattle.assembler.specs.Numbering.{is_well_formed}
use Rattle.assembler.proofs.NumberingItems.{same_is, among_first, with_items_only}
use Rattle.assembler.proofs.NumberingTexts.{written}

-- ---- lists of well formed items

abbrev Good : List Item → Type 0
Good xs = list_all is_well_formed xs ≡ true

one_good : (x : Item) → is_well_formed x ≡ true → Good (x ∷ [])
one_good x h = and_from (is_well_formed x) true h refl

more_good : (x : Item) (xs : List Item) → is_well_formed x ≡ true → Good xs → Good (x ∷ xs)
more_good x xs h g = and_from (is_well_formed x) (list_all is_well_formed xs) h g

pub both_good : (xs ys : List Item) → Good xs → Good ys → Good (xs ++ ys)
both_good xs ys left right = list_all-append is_well_formed xs ys
    ∙ and_from (list_all is_well_formed xs) (list_all is_well_formed ys) left right

-- the items of things that pass a test
all_good : {A : Type 0} (test : A → Bool) (f : A → List Item) (xs : List A) → ((x : A) → test x ≡ true → Good (f x))
    → list_all test xs ≡ true → Good (flat_map f xs)
all_good test f [] each h = refl
all_good test f (x ∷ xs) each h = let p = and_parts (test x) (list_all test xs) h
    in both_good (f x) (flat_map f xs) (each x p.0) (all_good test f xs each p.1)

pub good_one : (xs : List Item) (x : Item) → Good xs → is_item_of xs x ≡ true → is_well_formed x ≡ true
good_one [] x good h = absurd (true≢false (sym h))
good_one (y ∷ xs) x good h =
    let p = and_parts (is_well_formed y) (list_all is_well_formed xs) good in
    elim (or_cases (is_same_item x y) (is_item_of xs x) h) [
      | inl s ↦ ap is_well_formed (same_is x y s) ∙ p.0
      | inr r ↦ good_one xs x p.1 r
    ]

pub good_from : (xs : List Item) → ((x : Item) → is_item_of xs x ≡ true → is_well_formed x ≡ true) → Good xs
good_from [] each = refl
good_from (x ∷ xs) each = more_good x xs (each x (among_first x xs))
    (good_from xs (λ y h. each y (or_right (is_same_item y x) (is_item_of xs y) h)))

-- a pool of well formed items
pub pool_is_good : (xs : List Item) → list_all is_well_formed xs ≡ true → list_all is_well_formed (with_items [] xs)
    ≡ true
pool_is_good xs good =
    good_from (with_items [] xs) (λ x h. elim (with_items_only [] xs x h) [
      | inl n ↦ absurd (true≢false (sym n))
      | inr r ↦ good_one xs x good r
    ])

-- ---- classes and members

class_good : (name : List ℕ) → names_class name ≡ true → Good (class_items name)
class_good name h = more_good (text_item name) (class_item name ∷ []) (written name (class_word_plain name h))
    (one_good (class_item name) h)

plain_class_good : (name : List ℕ) → is_class_name name ≡ true → Good (class_items name)
plain_class_good name h = class_good name (or_left (is_class_name name) (is_array_descriptor name) h)

member_good : (x : Item) (m : Member) → is_class_name m.class ≡ true → is_well_formed (text_item m.name) ≡ true
    → is_well_formed (text_item m.descriptor) ≡ true → is_member m.name m.descriptor ≡ true → is_well_formed x ≡ true
    → Good (member_items x m)
member_good x m owner name descriptor pair own =
    both_good (class_items m.class) (name_items m.name m.descriptor ++ x ∷ []) (plain_class_good m.class owner)
    (more_good (text_item m.name) (text_item m.descriptor ∷ name_item m.name m.descriptor ∷ x ∷ []) name
    (more_good (text_item m.descriptor) (name_item m.name m.descriptor ∷ x ∷ []) descriptor
    (more_good (name_item m.name m.descriptor) (x ∷ []) pair (one_good x own))))

named_field_good : (m : Member) → field_is_named m ≡ true → Good (member_items (field_item m) m)
named_field_good m h =
    let p = and_parts (is_class_name m.class) (is_field m.name m.descriptor) h in
    let q = and_parts (is_field_name m.name) (is_field_descriptor m.descriptor) p.1 in
    member_good (field_item m) m p.0 (written m.name (field_name_plain m.name q.0))
    (written m.descriptor (field_descriptor_plain m.descriptor q.1))
    (or_left (is_field m.name m.descriptor) (is_method m.name m.descriptor) p.1) p.1

named_method_good : (x : Item) (m : Member) → method_is_named m ≡ true
    → (is_method m.name m.descriptor ≡ true → is_well_formed x ≡ true) → Good (member_items x m)
named_method_good x m h own =
    let p = and_parts (is_class_name m.class) (is_method m.name m.descriptor) h in
    let q = and_parts (is_method_name m.name) (fits_units (arguments_of m.descriptor)) p.1 in
    member_good x m p.0 (written m.name (method_name_plain m.name q.0))
    (written m.descriptor (called_descriptor_plain m.descriptor q.1)) (or_right (is_field m.name m.descriptor)
    (is_method m.name m.descriptor) p.1) (own p.1)

-- ---- instructions

constant_good : (c : Pushed ℤ ℤ) → constant_is_spelled c ≡ true → Good (constant_items c)
constant_good pushed.Null h = refl
constant_good (pushed.SmallInt n) h = refl
constant_good (pushed.SmallLong n) h = refl
constant_good (pushed.Byte z) h = refl
constant_good (pushed.Short z) h = refl
constant_good (pushed.Int width z) h = one_good (int_item z) h
constant_good (pushed.Long z) h = one_good (long_item z) h

array_good : (op : ArrayOperation (List ℕ)) → array_is_spelled op ≡ true → Good (array_items op)
array_good (array.New type) h = refl
array_good (array.NewOf name) h = class_good name h
array_good array.Length h = refl
array_good (array.Load kind) h = refl
array_good (array.Store kind) h = refl

class_op_good : (op : ClassOperation) (name : List ℕ) → class_is_spelled op name ≡ true → Good (class_items name)
class_op_good class.New name h = plain_class_good name h
class_op_good class.CheckCast name h = class_good name h
class_op_good class.InstanceOf name h = class_good name h

call_good : (how : Invocation) (m : Member) → method_is_named m ≡ true → Good (call_items how m)
call_good invocation.Virtual m h = named_method_good (method_item m) m h (λ g. g)
call_good invocation.Special m h = named_method_good (method_item m) m h (λ g. g)
call_good invocation.Static m h = named_method_good (method_item m) m h (λ g. g)
call_good (invocation.Interface count) m h = named_method_good (interface_item m) m h (λ g. g)

instruction_good : (i : Listed) → operands_are_spelled i ≡ true → Good (instruction_items i)
instruction_good instruction.Nop h = refl
instruction_good (instruction.Constant c) h = constant_good c h
instruction_good (instruction.Local a) h = refl
instruction_good (instruction.Stack op) h = refl
instruction_good (instruction.Number op) h = refl
instruction_good (instruction.Branch test target) h = refl
instruction_good (instruction.TableSwitch s) h = refl
instruction_good (instruction.LookupSwitch s) h = refl
instruction_good (instruction.Return kind) h = refl
instruction_good (instruction.Static access m) h = named_field_good m h
instruction_good (instruction.Field access m) h = named_field_good m h
instruction_good (instruction.Array op) h = array_good op h
instruction_good (instruction.Class op name) h = class_op_good op name h
instruction_good (instruction.Invoke how m) h = call_good how m (and_parts (count_is_spelled how) (method_is_named m)
    h).1
instruction_good instruction.Throw h = refl
instruction_good (instruction.Monitor op) h = refl

placed_good : (ps : List Placed) (p : Placed) → instruction_is_spelled ps p ≡ true → Good (placed_items p)
placed_good ps p h = instruction_good p.instruction (and_parts (operands_are_spelled p.instruction) _ h).0

-- ---- code

catch_good : (c : Option (List ℕ)) → catch_is_spelled c ≡ true → Good (catch_items c)
catch_good None h = refl
catch_good (Some name) h = plain_class_good name (and_parts (is_class_name name) (not (bytes_eq name (codes "all")))
    h).0

row_good : (ps : List Placed) (r : ExceptionRow) → row_is_spelled ps r ≡ true → Good (row_items r)
row_good ps r h = catch_good r.class (and_parts _ (catch_is_spelled r.class) h).1

code_good : (c : CodeListing) → code_is_spelled c ≡ true → Good (code_items (Some c))
code_good c h =
    let p = and_parts _ (list_all (row_is_spelled c.instructions) c.rows) h in
    let q = and_parts _ (list_all (instruction_is_spelled c.instructions) c.instructions) p.0 in
    more_good (text_item (codes "Code")) (flat_map placed_items c.instructions ++ flat_map row_items c.rows) refl
    (both_good (flat_map placed_items c.instructions) (flat_map row_items c.rows)
    (all_good (instruction_is_spelled c.instructions) placed_items c.instructions (placed_good c.instructions) q.1)
    (all_good (row_is_spelled c.instructions) row_items c.rows (row_good c.instructions) p.1))

body_good : (wanted : Bool) (code : Option CodeListing) → body_is_spelled wanted code ≡ true → Good (code_items code)
body_good wanted None h = refl
body_good wanted (Some c) h = code_good c (and_parts wanted (code_is_spelled c) h).1

-- ---- members

method_good : (class : ℕ) (m : Method) → method_is_spelled class m ≡ true → Good (method_items m)
method_good class m h =
    let p = and_parts _ (body_is_spelled (wants_code m.flags.0) m.code) h in
    let q = and_parts _ (units_fit (has m.flags.0 0x0008) (arguments_of m.descriptor)) p.0 in
    let r = and_parts _ (is_method_name m.name) q.0 in
    more_good (text_item m.name) (text_item m.descriptor ∷ code_items m.code)
    (written m.name (method_name_plain m.name r.1))
    (more_good (text_item m.descriptor) (code_items m.code)
    (written m.descriptor (own_descriptor_plain (has m.flags.0 0x0008) m.descriptor q.1))
    (body_good (wants_code m.flags.0) m.code p.1))

value_good : (static : Bool) (descriptor : List ℕ) (value : Option Constant) → value_is_spelled static descriptor value
    ≡ true → Good (value_items value)
value_good static descriptor None h = refl
value_good static descriptor (Some (constant.Int z)) h = more_good (text_item (codes "ConstantValue")) (int_item z ∷ [])
    refl (one_good (int_item z) (and_parts _ (is_int z) h).1)
value_good static descriptor (Some (constant.Long z)) h = more_good (text_item (codes "ConstantValue")) (long_item z
    ∷ []) refl (one_good (long_item z) (and_parts _ (is_long z) h).1)

field_good : (class : ℕ) (f : Field) → field_is_spelled class f ≡ true → Good (field_items f)
field_good class f h =
    let p = and_parts _ (value_is_spelled (has f.flags.0 0x0008) f.descriptor f.constant) h in
    let q = and_parts _ (is_field_descriptor f.descriptor) p.0 in
    let r = and_parts _ (is_field_name f.name) q.0 in
    more_good (text_item f.name) (text_item f.descriptor ∷ value_items f.constant)
    (written f.name (field_name_plain f.name r.1))
    (more_good (text_item f.descriptor) (value_items f.constant)
    (written f.descriptor (field_descriptor_plain f.descriptor q.1)) (value_good (has f.flags.0 0x0008) f.descriptor
    f.constant p.1))

-- ---- a class

pub listing_good : (l : ClassListing) → is_spelled l ≡ true → list_all is_well_formed (listing_items l) ≡ true
unfolding is_spelled listing_items
listing_good l h =
    let ldc = and_parts _ _ h in
    let methods = and_parts _ (list_all (method_is_spelled l.flags.0) l.methods) ldc.0 in
    let fields = and_parts _ (list_all (field_is_spelled l.flags.0) l.fields) methods.0 in
    let interfaces = and_parts _ (list_all is_class_name l.interfaces) fields.0 in
    let superclass = and_parts _ (is_class_name l.superclass) interfaces.0 in
    let name = and_parts _ (is_class_name l.name) superclass.0 in
    let members = flat_map field_items l.fields ++ flat_map method_items l.methods in
    both_good (class_items l.name) (class_items l.superclass ++ (flat_map class_items l.interfaces ++ members))
    (plain_class_good l.name name.1)
    (both_good (class_items l.superclass) (flat_map class_items l.interfaces ++ members)
    (plain_class_good l.superclass superclass.1)
    (both_good (flat_map class_items l.interfaces) members (all_good is_class_name class_items l.interfaces
    plain_class_good interfaces.1)
    (both_good (flat_map field_items l.fields) (flat_map method_items l.methods)
    (all_good (field_is_spelled l.flags.0) field_items l.fields (field_good l.flags.0) fields.1)
    (all_good (method_is_spelled l.flags.0) method_items l.methods (method_good l.flags.0) methods.1))))

ints_good : (zs : List ℤ) → list_all is_int zs ≡ true → Good (map int_item zs)
ints_good [] h = refl
ints_good (z ∷ zs) h = let p = and_parts (is_int z) (list_all is_int zs) h
    in more_good (int_item z) (map int_item zs) p.0 (ints_good zs p.1)

-- the pool of a text's listing, and of ints before it
pub spelled_pool_is_good : (zs : List ℤ) (l : ClassListing) → list_all is_int zs ≡ true → is_spelled l ≡ true
    → list_all is_well_formed (with_items [] (map int_item zs ++ listing_items l)) ≡ true
spelled_pool_is_good zs l ints spelled = pool_is_good (map int_item zs ++ listing_items l)
    (both_good (map int_item zs) (listing_items l) (ints_good zs ints) (listing_good l spelled))
