-- The pool of well formed items is one that a class file can have, and numbers are of the kinds that are wanted.
use Rattle.std.proofs.Common.{◌≡◌, ℕ, ℤ, pos, negsuc, ◌^◌, ◌<◌, Bool, true, ◌||◌, eqb, cond, List, [], ◌∷◌, map, length}
use Rattle.std.proofs.Common.{Option, Some, None, refl, ◌∙◌, ap, arith}
use Rattle.std.specs.Prelude.{nat_le, FitsSigned}
use Rattle.std.specs.Int.{w32, w64}
use Rattle.std.specs.List.{list_all, AllByRecursion}
use Rattle.std.specs.Option.{option_map, option_and_then}
use Rattle.std.proofs.lemmas.Bool.{and_parts, or_right, leb-true}
use Rattle.model.specs.ClassFiles.Attributes.{passes}
use Rattle.model.specs.ClassFiles.Codes.{tag_of, has_tag, is_sound_constant, is_sound_array, is_sound_class}
use Rattle.model.specs.ClassFiles.Codes.{is_sound_invocation, is_sound, RowFits}
use Rattle.model.specs.ClassFiles.Entries.{is_text_byte, EntryFits}
use Rattle.model.specs.ClassFiles.Fields.{is_value_of, ConstantsFit}
use Rattle.model.specs.ClassFiles.Heads.{is_class}
use Rattle.model.specs.ClassFiles.Pools.{entry_at, PoolFits}
use Rattle.model.specs.ClassFiles.References.{text_of, text_at, class_of, name_and_type_of, names_class, is_field}
use Rattle.model.specs.ClassFiles.References.{is_method, is_member, class_fault, pair_fault, texts_fault, member_fault}
use Rattle.model.specs.ClassFiles.References.{entry_fault, AreSound}
use Rattle.model.specs.ClassFiles.Items.{Item, is_item_of, constant_items, array_items, call_items, instruction_items}
use Rattle.model.specs.ClassFiles.Items.{catch_items, row_items, value_item, value_items}
use Rattle.model.specs.ClassFiles.Items.Item.{text_item, int_item, long_item, class_item, name_item, field_item}
use Rattle.model.specs.ClassFiles.Items.Item.{method_item, interface_item}
use Rattle.model.specs.Table.Next.{Listed}
use Rattle.model.specs.Texts.Names.{is_class_name}
use Rattle.model.specs.Texts.Spelled.{is_int, is_long, operands_are_spelled, class_is_spelled, value_is_spelled}
use Rattle.model.specs.declared.class_files.Entry.{Entry}
use Rattle.model.specs.declared.class_files.FormatFault.{FormatFault}
use Rattle.model.specs.declared.class_files.FormatFault.TheVariants.{Name}
use Rattle.model.specs.declared.instructions.ArrayOperation.{ArrayOperation}
use Rattle.model.specs.declared.instructions.ArrayOperation.TheVariants as array
use Rattle.model.specs.declared.instructions.ClassOperation.{ClassOperation}
use Rattle.model.specs.declared.instructions.ClassOperation.TheVariants as class
use Rattle.model.specs.declared.instructions.Constant.{Constant as Pushed}
use Rattle.model.specs.declared.instructions.Constant.TheVariants as pushed
use Rattle.model.specs.declared.instructions.Instruction.TheVariants as instruction
use Rattle.model.specs.declared.instructions.Invocation.{Invocation}
use Rattle.model.specs.declared.instructions.Invocation.TheVariants as invocation
use Rattle.model.specs.declared.listings.Constant.{Constant}
use Rattle.model.specs.declared.listings.Constant.TheVariants as constant
use Rattle.model.specs.declared.listings.ExceptionRow.{ExceptionRow}
use Rattle.model.specs.declared.names.Member.{Member}
use Rattle.assembler.specs.Numbering.{number_of, entry_of, entries_of, named_by, are_items_of, AreClosed, IsPool}
use Rattle.assembler.specs.Numbering.{is_well_formed, numbered_constant, numbered_array, called_item, numbered}
use Rattle.assembler.specs.Numbering.{numbered_catch, numbered_row, numbered_value}
use Rattle.assembler.proofs.NumberingItems.{all_from, named_are}
use Rattle.assembler.proofs.NumberingEntries.{entry_under, count_is}
use Rattle.assembler.proofs.NumberingNames.{name_texts, reference_parts}
use Rattle.assembler.proofs.NumberingCounts.{number_fits}
use Rattle.assembler.proofs.NumberingListed.{only_there, class_there, member_there, value_there}

-- ---- what entries name

pub text_under : (items : List Item) (text : List ℕ) → is_item_of items (text_item text) ≡ true
    → text_at (entries_of items) (number_of items (text_item text)) ≡ Some text
text_under items text there = ap text_of (entry_under items (text_item text) there)

faultless : (b : Bool) (fault : FormatFault) → b ≡ true → cond b None (Some fault) ≡ None
faultless b fault h = rw h refl

reference_sound : (test : List ℕ → List ℕ → Bool) (items : List Item) (m : Member) → AreClosed items
    → are_items_of items (class_item m.class ∷ name_item m.name m.descriptor ∷ []) ≡ true → test m.name m.descriptor
    ≡ true
    → member_fault (entries_of items) test
    (class_of (entry_at (entries_of items) (number_of items (class_item m.class))))
    (name_and_type_of (entry_at (entries_of items) (number_of items (name_item m.name m.descriptor)))) ≡ None
reference_sound test items m closed named good =
    let parts = reference_parts items m named in
    let texts = name_texts items m.name m.descriptor closed parts.1 in
    let pool = entries_of items in
    ap (λ e. member_fault pool test (class_of e)
    (name_and_type_of (entry_at pool (number_of items (name_item m.name m.descriptor)))))
    (entry_under items (class_item m.class) parts.0)
    ∙ ap (λ e. member_fault pool test (Some (number_of items (text_item m.class))) (name_and_type_of e))
    (entry_under items (name_item m.name m.descriptor) parts.1)
    ∙ ap (λ t. texts_fault test t (text_at pool (number_of items (text_item m.descriptor))))
    (text_under items m.name texts.0)
    ∙ ap (texts_fault test (Some m.name)) (text_under items m.descriptor texts.1)
    ∙ faultless (test m.name m.descriptor) Name good

entry_sound : (items : List Item) (x : Item) → AreClosed items → are_items_of items (named_by x) ≡ true
    → is_well_formed x ≡ true → entry_fault (entries_of items) (entry_of items x) ≡ None
entry_sound items (text_item text) closed named good = refl
entry_sound items (int_item z) closed named good = refl
entry_sound items (long_item z) closed named good = refl
entry_sound items (class_item name) closed named good = ap class_fault
    (text_under items name (only_there items (text_item name) named)) ∙ faultless (names_class name) Name good
entry_sound items (name_item name descriptor) closed named good =
    let both = and_parts (is_item_of items (text_item name)) (are_items_of items (text_item descriptor ∷ [])) named in
    ap (λ t. pair_fault t (text_at (entries_of items) (number_of items (text_item descriptor))))
    (text_under items name both.0)
    ∙ ap (pair_fault (Some name)) (text_under items descriptor (only_there items (text_item descriptor) both.1))
    ∙ faultless (is_member name descriptor) Name good
entry_sound items (field_item m) closed named good = reference_sound is_field items m closed named good
entry_sound items (method_item m) closed named good = reference_sound is_method items m closed named good
entry_sound items (interface_item m) closed named good = reference_sound is_method items m closed named good

-- what holds of the entry of each item that is there and well formed
all_entries : (P : Entry → Type 0) (items xs : List Item) → ((x : Item) → is_item_of items x ≡ true → is_well_formed x
    ≡ true → P (entry_of items x))
    → are_items_of items xs ≡ true → list_all is_well_formed xs ≡ true → AllByRecursion P (map (entry_of items) xs)
all_entries P items [] each there good = tt
all_entries P items (x ∷ xs) each there good =
    let a = and_parts (is_item_of items x) (are_items_of items xs) there in
    let b = and_parts (is_well_formed x) (list_all is_well_formed xs) good in
    (each x a.0 b.0, all_entries P items xs each a.1 b.1)

all_there : (items : List Item) → are_items_of items items ≡ true
all_there items = all_from items items (λ x h. h)

pub pool_is_sound : (items : List Item) → AreClosed items → list_all is_well_formed items ≡ true
    → AreSound (entries_of items)
pool_is_sound items closed good =
    all_entries (λ e. entry_fault (entries_of items) e ≡ None) items items
    (λ x h g. entry_sound items x closed (named_are items x closed h) g) (all_there items) good

-- ---- what has bytes

pub int_fits : (z : ℤ) → is_int z ≡ true → FitsSigned w32 z
int_fits (pos n) h = let both = and_parts true (nat_le n 2147483647) h
    in record { sfits = omega (arith, leb-true n 2147483647 both.1) }
int_fits (negsuc n) h = let both = and_parts (nat_le n 2147483647) true h
    in record { sfits = omega (arith, leb-true n 2147483647 both.0) }

pub long_fits : (z : ℤ) → is_long z ≡ true → FitsSigned w64 z
long_fits (pos n) h = let both = and_parts true (nat_le n 9223372036854775807) h
    in record { sfits = omega (arith, leb-true n 9223372036854775807 both.1) }
long_fits (negsuc n) h = let both = and_parts (nat_le n 9223372036854775807) true h
    in record { sfits = omega (arith, leb-true n 9223372036854775807 both.0) }

reference_fits : (items : List Item) (m : Member) → IsPool items
    → are_items_of items (class_item m.class ∷ name_item m.name m.descriptor ∷ []) ≡ true
    → (number_of items (class_item m.class) < 2 ^ 16) × (number_of items (name_item m.name m.descriptor) < 2 ^ 16)
reference_fits items m pool named =
    let parts = reference_parts items m named in (
      number_fits items (class_item m.class) pool parts.0,
      number_fits items (name_item m.name m.descriptor) pool
          parts.1,
    )

entry_fits : (items : List Item) (x : Item) → IsPool items → are_items_of items (named_by x) ≡ true → is_well_formed x
    ≡ true → EntryFits (entry_of items x)
entry_fits items (text_item text) pool named good =
    let both = and_parts (nat_le (length text) 65535) (list_all is_text_byte text) good in
    (omega (arith, leb-true (length text) 65535 both.0), both.1)
entry_fits items (int_item z) pool named good = int_fits z good
entry_fits items (long_item z) pool named good = long_fits z good
entry_fits items (class_item name) pool named good = number_fits items (text_item name) pool
    (only_there items (text_item name) named)
entry_fits items (name_item name descriptor) pool named good =
    let both = and_parts (is_item_of items (text_item name)) (are_items_of items (text_item descriptor ∷ [])) named in (
      number_fits items (text_item name) pool both.0,
      number_fits items (text_item descriptor) pool (only_there items (text_item descriptor) both.1),
    )
entry_fits items (field_item m) pool named good = reference_fits items m pool named
entry_fits items (method_item m) pool named good = reference_fits items m pool named
entry_fits items (interface_item m) pool named good = reference_fits items m pool named

pub pool_fits : (items : List Item) → IsPool items → list_all is_well_formed items ≡ true → PoolFits (entries_of items)
pool_fits items pool good = (
  omega (arith, count_is items, pool.fits),
  all_entries EntryFits items items (λ x h g. entry_fits items x pool (named_are items x pool.closed h) g)
      (all_there items) good,
)

-- ---- the kinds of what instructions name

pub class_is : (items : List Item) (name : List ℕ) → AreClosed items → is_item_of items (class_item name) ≡ true
    → is_class_name name ≡ true → is_class (entries_of items) (number_of items (class_item name)) ≡ true
class_is items name closed there good =
    ap (λ e. passes is_class_name (option_and_then (text_at (entries_of items)) (class_of e)))
    (entry_under items (class_item name) there)
    ∙ ap (passes is_class_name)
    (text_under items name (only_there items (text_item name) (named_are items (class_item name) closed there)))
    ∙ good

-- the tag under an item's number
tag_is : (items : List Item) (x : Item) (tag : ℕ) → is_item_of items x ≡ true
    → eqb (tag_of (Some (entry_of items x))) tag ≡ true → has_tag (entries_of items) tag (number_of items x) ≡ true
tag_is items x tag there is = ap (λ e. eqb (tag_of e) tag) (entry_under items x there) ∙ is

constant_sound : (items : List Item) (c : Pushed ℤ ℤ) → are_items_of items (constant_items c) ≡ true
    → is_sound_constant (entries_of items) (numbered_constant items c) ≡ true
constant_sound items pushed.Null all = refl
constant_sound items (pushed.SmallInt n) all = refl
constant_sound items (pushed.SmallLong n) all = refl
constant_sound items (pushed.Byte z) all = refl
constant_sound items (pushed.Short z) all = refl
constant_sound items (pushed.Int width z) all = tag_is items (int_item z) 3 (only_there items (int_item z) all) refl
constant_sound items (pushed.Long z) all = tag_is items (long_item z) 5 (only_there items (long_item z) all) refl

array_sound : (items : List Item) (op : ArrayOperation (List ℕ)) → are_items_of items (array_items op) ≡ true
    → is_sound_array (entries_of items) (numbered_array items op) ≡ true
array_sound items (array.New type) all = refl
array_sound items (array.NewOf name) all = tag_is items (class_item name) 7 (class_there items name all) refl
array_sound items array.Length all = refl
array_sound items (array.Load kind) all = refl
array_sound items (array.Store kind) all = refl

class_sound : (items : List Item) (op : ClassOperation) (name : List ℕ) → AreClosed items
    → is_item_of items (class_item name) ≡ true → class_is_spelled op name ≡ true
    → is_sound_class (entries_of items) op (number_of items (class_item name)) ≡ true
class_sound items class.New name closed there spelled = class_is items name closed there spelled
class_sound items class.CheckCast name closed there spelled = tag_is items (class_item name) 7 there refl
class_sound items class.InstanceOf name closed there spelled = tag_is items (class_item name) 7 there refl

call_sound : (items : List Item) (how : Invocation) (m : Member) → are_items_of items (call_items how m) ≡ true
    → is_sound_invocation (entries_of items) how (number_of items (called_item how m)) ≡ true
call_sound items invocation.Virtual m all = tag_is items (method_item m) 10 (member_there items (method_item m) m all)
    refl
call_sound items invocation.Special m all = tag_is items (method_item m) 10 (member_there items (method_item m) m all)
    refl
call_sound items invocation.Static m all = tag_is items (method_item m) 10 (member_there items (method_item m) m all)
    refl
call_sound items (invocation.Interface count) m all = tag_is items (interface_item m) 11
    (member_there items (interface_item m) m all) refl

-- an instruction of a listing names entries of the kinds that it wants
pub numbered_is_sound : (items : List Item) (i : Listed) → AreClosed items → are_items_of items (instruction_items i)
    ≡ true → operands_are_spelled i ≡ true → is_sound (entries_of items) (numbered items i) ≡ true
numbered_is_sound items instruction.Nop closed all spelled = refl
numbered_is_sound items (instruction.Constant c) closed all spelled = constant_sound items c all
numbered_is_sound items (instruction.Local a) closed all spelled = refl
numbered_is_sound items (instruction.Stack op) closed all spelled = refl
numbered_is_sound items (instruction.Number op) closed all spelled = refl
numbered_is_sound items (instruction.Branch test target) closed all spelled = refl
numbered_is_sound items (instruction.TableSwitch s) closed all spelled = refl
numbered_is_sound items (instruction.LookupSwitch s) closed all spelled = refl
numbered_is_sound items (instruction.Return kind) closed all spelled = refl
numbered_is_sound items (instruction.Static access m) closed all spelled = tag_is items (field_item m) 9
    (member_there items (field_item m) m all) refl
numbered_is_sound items (instruction.Field access m) closed all spelled = tag_is items (field_item m) 9
    (member_there items (field_item m) m all) refl
numbered_is_sound items (instruction.Array op) closed all spelled = array_sound items op all
numbered_is_sound items (instruction.Class op name) closed all spelled = class_sound items op name closed
    (class_there items name all) spelled
numbered_is_sound items (instruction.Invoke how m) closed all spelled = call_sound items how m all
numbered_is_sound items instruction.Throw closed all spelled = refl
numbered_is_sound items (instruction.Monitor op) closed all spelled = refl

-- ---- rows and values

pub row_fits : (items : List Item) (r : ExceptionRow) → IsPool items → r.start < 2 ^ 16 → r.end < 2 ^ 16
    → r.handler < 2 ^ 16 → are_items_of items (row_items r) ≡ true → RowFits (entries_of items) (numbered_row items r)
row_fits items r pool start end handler all = record {
  start = start;
  end = end;
  handler = handler;
  class = few r.class all;
  kind = caught r.class all;
}
  where
    few : (c : Option (List ℕ)) → are_items_of items (catch_items c) ≡ true → numbered_catch items c < 2 ^ 16
    few None h = omega arith
    few (Some name) h = number_fits items (class_item name) pool (class_there items name h)

    caught : (c : Option (List ℕ)) → are_items_of items (catch_items c) ≡ true
        → (eqb (numbered_catch items c) 0 || has_tag (entries_of items) 7 (numbered_catch items c)) ≡ true
    caught None h = refl
    caught (Some name) h =
        or_right (eqb (number_of items (class_item name)) 0)
        (has_tag (entries_of items) 7 (number_of items (class_item name)))
        (tag_is items (class_item name) 7 (class_there items name h) refl)

-- the value of a field that a text can give it
pub values_fit : (items : List Item) (static : Bool) (descriptor : List ℕ) (value : Option Constant) → IsPool items
    → are_items_of items (value_items value) ≡ true → value_is_spelled static descriptor value ≡ true
    → ConstantsFit (entries_of items) descriptor (option_map (numbered_value items) value)
values_fit items static descriptor None pool all spelled = tt
values_fit items static descriptor (Some c) pool all spelled =
    let there = value_there items c all in
    record { value = number_fits items (value_item c) pool there; kind = kind_of c there spelled }
  where
    kind_of : (v : Constant) → is_item_of items (value_item v) ≡ true → value_is_spelled static descriptor (Some v)
        ≡ true → is_value_of descriptor (entry_at (entries_of items) (number_of items (value_item v))) ≡ true
    kind_of (constant.Int z) there is = ap (is_value_of descriptor) (entry_under items (int_item z) there)
        ∙ (and_parts static _ (and_parts _ (is_int z) is).0).1
    kind_of (constant.Long z) there is = ap (is_value_of descriptor) (entry_under items (long_item z) there)
        ∙ (and_parts static _ (and_parts _ (is_long z) is).0).1
