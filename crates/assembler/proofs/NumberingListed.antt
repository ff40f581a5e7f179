-- What is written with numbers is listed by the names that it had.
use Rattle.std.proofs.Common.{◌≡◌, ℕ, true, eqb, cond, List, [], ◌∷◌, ◌++◌, map, Option, Some, None, refl, ◌∙◌, ap}
use Rattle.std.specs.Prelude.{ℤ, codes}
use Rattle.std.specs.List.{flat_map}
use Rattle.std.specs.Option.{option_map, option_and_then}
use Rattle.model.specs.ClassFiles.Pools.{entry_at}
use Rattle.model.specs.ClassFiles.Listing.{name_at, class_at, member_at, int_of, long_of, value_of, listed_constant}
use Rattle.model.specs.ClassFiles.Listing.{listed_array, listed, placed, listed_row, listed_field}
use Rattle.model.specs.ClassFiles.Items.{Item, is_item_of, class_items, name_items, member_items, constant_items}
use Rattle.model.specs.ClassFiles.Items.{array_items, call_items, instruction_items, placed_items, catch_items}
use Rattle.model.specs.ClassFiles.Items.{row_items, value_item, value_items, field_items}
use Rattle.model.specs.ClassFiles.Items.Item.{text_item, int_item, long_item, class_item, field_item, method_item}
use Rattle.model.specs.ClassFiles.Items.Item.{interface_item}
use Rattle.model.specs.Table.Next.{Listed}
use Rattle.model.specs.declared.instructions.ArrayOperation.{ArrayOperation}
use Rattle.model.specs.declared.instructions.ArrayOperation.TheVariants as array
use Rattle.model.specs.declared.instructions.Constant.{Constant as Pushed}
use Rattle.model.specs.declared.instructions.Constant.TheVariants as pushed
use Rattle.model.specs.declared.instructions.Instruction.TheVariants as instruction
use Rattle.model.specs.declared.instructions.Invocation.{Invocation}
use Rattle.model.specs.declared.instructions.Invocation.TheVariants as invocation
use Rattle.model.specs.declared.listings.Constant.{Constant}
use Rattle.model.specs.declared.listings.Constant.TheVariants as constant
use Rattle.model.specs.declared.listings.ExceptionRow.{ExceptionRow}
use Rattle.model.specs.declared.listings.Field.{Field}
use Rattle.model.specs.declared.listings.Placed.{Placed}
use Rattle.model.specs.declared.names.Member.{Member}
use Rattle.assembler.specs.Numbering.{number_of, entries_of, are_items_of, AreClosed, numbered_constant, numbered_array}
use Rattle.assembler.specs.Numbering.{called_item, numbered, numbered_placed, numbered_catch, numbered_row}
use Rattle.assembler.specs.Numbering.{numbered_value, numbered_field}
use Rattle.assembler.proofs.NumberingItems.{one_of, all_from, among_left, among_right, among_first}
use Rattle.assembler.proofs.NumberingEntries.{entry_under, number_of_positive}
use Rattle.assembler.proofs.NumberingNames.{text_named, class_named, field_named, method_named, interface_named}

-- ---- what is among a part's items

pub only_there : (items : List Item) (x : Item) → are_items_of items (x ∷ []) ≡ true → is_item_of items x ≡ true
only_there items x all = one_of items (x ∷ []) x all (among_first x [])

pub class_there : (items : List Item) (name : List ℕ) → are_items_of items (class_items name) ≡ true
    → is_item_of items (class_item name) ≡ true
class_there items name all = one_of items (class_items name) (class_item name) all
    (among_right (text_item name ∷ []) (class_item name ∷ []) (class_item name) (among_first (class_item name) []))

pub member_there : (items : List Item) (x : Item) (m : Member) → are_items_of items (member_items x m) ≡ true
    → is_item_of items x ≡ true
member_there items x m all =
    one_of items (member_items x m) x all (among_right (class_items m.class) (name_items m.name m.descriptor ++ x ∷ [])
    x (among_right (name_items m.name m.descriptor) (x ∷ []) x (among_first x [])))

pub all_parts : (items xs ys : List Item) → are_items_of items (xs ++ ys) ≡ true → (are_items_of items xs ≡ true)
    × (are_items_of items ys ≡ true)
all_parts items xs ys all = (
  all_from items xs (λ x h. one_of items (xs ++ ys) x all (among_left xs ys x h)),
  all_from items ys (λ x h. one_of items (xs ++ ys) x all (among_right xs ys x h)),
)

-- ---- instructions

constant_listed : (items : List Item) (c : Pushed ℤ ℤ) → are_items_of items (constant_items c) ≡ true
    → listed_constant (entries_of items) (numbered_constant items c) ≡ c
constant_listed items pushed.Null all = refl
constant_listed items (pushed.SmallInt n) all = refl
constant_listed items (pushed.SmallLong n) all = refl
constant_listed items (pushed.Byte z) all = refl
constant_listed items (pushed.Short z) all = refl
constant_listed items (pushed.Int width z) all = ap (λ e. pushed.Int width (int_of e))
    (entry_under items (int_item z) (only_there items (int_item z) all))
constant_listed items (pushed.Long z) all = ap (λ e. pushed.Long (long_of e))
    (entry_under items (long_item z) (only_there items (long_item z) all))

array_listed : (items : List Item) (op : ArrayOperation (List ℕ)) → AreClosed items
    → are_items_of items (array_items op) ≡ true → listed_array (entries_of items) (numbered_array items op) ≡ op
array_listed items (array.New type) closed all = refl
array_listed items (array.NewOf name) closed all = ap array.NewOf
    (class_named items name closed (class_there items name all))
array_listed items array.Length closed all = refl
array_listed items (array.Load kind) closed all = refl
array_listed items (array.Store kind) closed all = refl

call_listed : (items : List Item) (how : Invocation) (m : Member) → AreClosed items
    → are_items_of items (call_items how m) ≡ true → member_at (entries_of items) (number_of items (called_item how m))
    ≡ m
call_listed items invocation.Virtual m closed all = method_named items m closed
    (member_there items (method_item m) m all)
call_listed items invocation.Special m closed all = method_named items m closed
    (member_there items (method_item m) m all)
call_listed items invocation.Static m closed all = method_named items m closed
    (member_there items (method_item m) m all)
call_listed items (invocation.Interface count) m closed all =
    interface_named items m closed (member_there items (interface_item m) m all)

-- an instruction of the listing
pub listed_numbered : (items : List Item) (i : Listed) → AreClosed items → are_items_of items (instruction_items i)
    ≡ true → listed (entries_of items) (numbered items i) ≡ i
listed_numbered items instruction.Nop closed all = refl
listed_numbered items (instruction.Constant c) closed all = ap instruction.Constant (constant_listed items c all)
listed_numbered items (instruction.Local a) closed all = refl
listed_numbered items (instruction.Stack op) closed all = refl
listed_numbered items (instruction.Number op) closed all = refl
listed_numbered items (instruction.Branch test target) closed all = refl
listed_numbered items (instruction.TableSwitch s) closed all = refl
listed_numbered items (instruction.LookupSwitch s) closed all = refl
listed_numbered items (instruction.Return kind) closed all = refl
listed_numbered items (instruction.Static access m) closed all = ap (instruction.Static access)
    (field_named items m closed (member_there items (field_item m) m all))
listed_numbered items (instruction.Field access m) closed all = ap (instruction.Field access)
    (field_named items m closed (member_there items (field_item m) m all))
listed_numbered items (instruction.Array op) closed all = ap instruction.Array (array_listed items op closed all)
listed_numbered items (instruction.Class op name) closed all = ap (instruction.Class op)
    (class_named items name closed (class_there items name all))
listed_numbered items (instruction.Invoke how m) closed all = ap (instruction.Invoke how)
    (call_listed items how m closed all)
listed_numbered items instruction.Throw closed all = refl
listed_numbered items (instruction.Monitor op) closed all = refl

placed_numbered : (items : List Item) (p : Placed) → AreClosed items → are_items_of items (placed_items p) ≡ true
    → placed (entries_of items) (numbered_placed items p) ≡ p
placed_numbered items p closed all = ap (λ (i : Listed). record { pc = p.pc; next = p.next; instruction = i })
    (listed_numbered items p.instruction closed all)

-- lists of what each is itself again
pub all_again : {A B : Type 0} (back : B → A) (there : A → B) (named : A → List Item) (items : List Item) (xs : List A)
    → ((x : A) → are_items_of items (named x) ≡ true → back (there x) ≡ x) → are_items_of items (flat_map named xs)
    ≡ true → map back (map there xs) ≡ xs
all_again back there named items [] each all = refl
all_again back there named items (x ∷ xs) each all =
    let parts = all_parts items (named x) (flat_map named xs) all in
    ap (λ y. y ∷ map back (map there xs)) (each x parts.0)
    ∙ ap (λ ys. x ∷ ys) (all_again back there named items xs each parts.1)

-- the instructions of code
pub all_placed : (items : List Item) (ps : List Placed) → AreClosed items
    → are_items_of items (flat_map placed_items ps) ≡ true
    → map (placed (entries_of items)) (map (numbered_placed items) ps) ≡ ps
all_placed items ps closed all = all_again (placed (entries_of items)) (numbered_placed items) placed_items items ps
    (λ p h. placed_numbered items p closed h) all

-- ---- rows

catch_listed : (items : List Item) (class : Option (List ℕ)) → AreClosed items → are_items_of items (catch_items class)
    ≡ true
    → cond (eqb (numbered_catch items class) 0) None (Some (class_at (entries_of items) (numbered_catch items class)))
    ≡ class
catch_listed items None closed all = refl
catch_listed items (Some name) closed all =
    let there = class_there items name all in
    ap (λ b. cond b None (Some (class_at (entries_of items) (number_of items (class_item name)))))
    (number_of_positive items (class_item name) there)
    ∙ ap Some (class_named items name closed there)

-- a row of the listing
pub row_listed : (items : List Item) (r : ExceptionRow) → AreClosed items → are_items_of items (row_items r) ≡ true
    → listed_row (entries_of items) (numbered_row items r) ≡ r
row_listed items r closed all = ap (λ (c : Option (List ℕ)). record {
  start = r.start;
  end = r.end;
  handler = r.handler;
  class = c;
}) (catch_listed items r.class closed all)

pub all_rows : (items : List Item) (rs : List ExceptionRow) → AreClosed items
    → are_items_of items (flat_map row_items rs) ≡ true
    → map (listed_row (entries_of items)) (map (numbered_row items) rs) ≡ rs
all_rows items rs closed all = all_again (listed_row (entries_of items)) (numbered_row items) row_items items rs
    (λ r h. row_listed items r closed h) all

-- ---- fields

value_named : (items : List Item) (c : Constant) → is_item_of items (value_item c) ≡ true
    → value_of (entry_at (entries_of items) (number_of items (value_item c))) ≡ Some c
value_named items (constant.Int z) there = ap value_of (entry_under items (int_item z) there)
value_named items (constant.Long z) there = ap value_of (entry_under items (long_item z) there)

pub value_there : (items : List Item) (c : Constant) → are_items_of items (value_items (Some c)) ≡ true
    → is_item_of items (value_item c) ≡ true
value_there items c all = only_there items (value_item c) (all_parts items (text_item (codes "ConstantValue") ∷ [])
    (value_item c ∷ []) all).1

value_listed : (items : List Item) (value : Option Constant) → are_items_of items (value_items value) ≡ true
    → option_and_then (λ c. value_of (entry_at (entries_of items) c.value)) (option_map (numbered_value items) value)
    ≡ value
value_listed items None all = refl
value_listed items (Some c) all = value_named items c (value_there items c all)

-- a field of the listing
pub field_listed : (items : List Item) (f : Field) → AreClosed items → are_items_of items (field_items f) ≡ true
    → listed_field (entries_of items) (numbered_field items f) ≡ f
field_listed items f closed all =
    let first = all_parts items (text_item f.name ∷ []) (text_item f.descriptor ∷ value_items f.constant) all in
    let second = all_parts items (text_item f.descriptor ∷ []) (value_items f.constant) first.1 in
    let value : Option Constant = option_and_then (λ c. value_of (entry_at (entries_of items) c.value))
    (option_map (numbered_value items) f.constant) in
    ap (λ (n : List ℕ). record {
      flags = f.flags;
      name = n;
      descriptor = name_at (entries_of items) (number_of items (text_item f.descriptor));
      constant = value;
    })
    (text_named items f.name (only_there items (text_item f.name) first.0))
    ∙ ap (λ (d : List ℕ). record { flags = f.flags; name = f.name; descriptor = d; constant = value })
    (text_named items f.descriptor (only_there items (text_item f.descriptor) second.0))
    ∙ ap (λ (c : Option Constant). record { flags = f.flags; name = f.name; descriptor = f.descriptor; constant = c })
    (value_listed items f.constant second.1)

pub all_fields : (items : List Item) (fs : List Field) → AreClosed items → are_items_of items (flat_map field_items fs)
    ≡ true → map (listed_field (entries_of items)) (map (numbered_field items) fs) ≡ fs
all_fields items fs closed all = all_again (listed_field (entries_of items)) (numbered_field items) field_items items fs
    (λ f h. field_listed items f closed h) all

-- ---- classes by their names

pub all_classes : (items : List Item) (names : List (List ℕ)) → AreClosed items
    → are_items_of items (flat_map class_items names) ≡ true
    → map (class_at (entries_of items)) (map (λ name. number_of items (class_item name)) names) ≡ names
all_classes items names closed all =
    all_again (class_at (entries_of items)) (λ name. number_of items (class_item name)) class_items items names
    (λ name h. class_named items name closed (class_there items name h)) all
