-- Numbers in place of what they name: the entries of a pool made of items, and the parts of a class with the numbers
-- that the pool has for them (JVMS 4.4).
use Rattle.std.specs.Prelude.{◌≡◌, ℕ, ◌+◌, ◌^◌, ◌<◌, ℤ, Bool, true, false, ◌&&◌, List, [], ◌∷◌, ◌++◌, map, length}
use Rattle.std.specs.Prelude.{nat_le, codes, Option, Some, None, if◌then◌else◌}
use Rattle.std.specs.List.{list_all}
use Rattle.std.specs.Option.{option_map}
use Rattle.model.specs.Bytecode.Opcodes.{Instr}
use Rattle.model.specs.ClassFiles.Codes.{CodeRow}
use Rattle.model.specs.ClassFiles.Entries.{is_text_byte}
use Rattle.model.specs.ClassFiles.References.{names_class, is_field, is_method, is_member}
use Rattle.model.specs.Texts.Spelled.{is_int, is_long}
use Rattle.model.specs.ClassFiles.Items.{Item, is_same_item, is_item_of, numbers_taken, items_count, class_items}
use Rattle.model.specs.ClassFiles.Items.{name_items, value_item}
use Rattle.model.specs.ClassFiles.Items.Item.{text_item, int_item, long_item, class_item, name_item, field_item}
use Rattle.model.specs.ClassFiles.Items.Item.{method_item, interface_item}
use Rattle.model.specs.ClassFiles.Listing.{name_at, referred}
use Rattle.model.specs.Table.Next.{Listed}
use Rattle.model.specs.declared.bytecode.Located.{Located}
use Rattle.model.specs.declared.class_files.ConstantValue.{ConstantValue}
use Rattle.model.specs.declared.class_files.Entry.{Entry}
use Rattle.model.specs.declared.class_files.Entry.TheVariants.{Utf8, Integer, Long, Class, Fieldref, Methodref}
use Rattle.model.specs.declared.class_files.Entry.TheVariants.{InterfaceMethodref, NameAndType}
use Rattle.model.specs.declared.class_files.FieldEntry.{FieldEntry}
use Rattle.model.specs.declared.instructions.ArrayOperation.{ArrayOperation}
use Rattle.model.specs.declared.instructions.ArrayOperation.TheVariants as array
use Rattle.model.specs.declared.instructions.Constant.{Constant as Pushed}
use Rattle.model.specs.declared.instructions.Constant.TheVariants as pushed
use Rattle.model.specs.declared.instructions.Instruction.TheVariants as instruction
use Rattle.model.specs.declared.instructions.Invocation.{Invocation}
use Rattle.model.specs.declared.instructions.Invocation.TheVariants as invocation
use Rattle.model.specs.declared.listings.Constant.{Constant}
use Rattle.model.specs.declared.listings.ExceptionRow.{ExceptionRow}
use Rattle.model.specs.declared.listings.Field.{Field}
use Rattle.model.specs.declared.listings.Placed.{Placed}
use Rattle.model.specs.declared.names.Member.{Member}

-- ---- numbers of items

-- the number of an item where the first of the items has the number n; 0 where it isn't there
abbrev pub number_from : ℕ → List Item → Item → ℕ
number_from n [] item = 0
number_from n (x ∷ xs) item = if is_same_item item x then n else number_from (n + numbers_taken x) xs item

-- the number of an item: one more than the numbers that the items before it take
abbrev pub number_of : List Item → Item → ℕ
number_of items item = number_from 1 items item

-- ---- entries

-- an item as an entry, which has the numbers of what it names
abbrev pub entry_of : List Item → Item → Entry
entry_of items (text_item text) = Utf8 text
entry_of items (int_item z) = Integer z
entry_of items (long_item z) = Long z
entry_of items (class_item name) = Class (number_of items (text_item name))
entry_of items (name_item name descriptor) = NameAndType (number_of items (text_item name))
    (number_of items (text_item descriptor))
entry_of items (field_item m) = Fieldref (number_of items (class_item m.class))
    (number_of items (name_item m.name m.descriptor))
entry_of items (method_item m) = Methodref (number_of items (class_item m.class))
    (number_of items (name_item m.name m.descriptor))
entry_of items (interface_item m) = InterfaceMethodref (number_of items (class_item m.class))
    (number_of items (name_item m.name m.descriptor))

-- the pool of the items
abbrev pub entries_of : List Item → List Entry
entries_of items = map (entry_of items) items

-- ---- and back

-- what an entry says
abbrev pub item_of : List Entry → Entry → Item
item_of pool (Utf8 text) = text_item text
item_of pool (Integer z) = int_item z
item_of pool (Long z) = long_item z
item_of pool (Class name) = class_item (name_at pool name)
item_of pool (Fieldref class member) = field_item (referred pool (class, member))
item_of pool (Methodref class member) = method_item (referred pool (class, member))
item_of pool (InterfaceMethodref class member) = interface_item (referred pool (class, member))
item_of pool (NameAndType name descriptor) = name_item (name_at pool name) (name_at pool descriptor)

abbrev pub items_of : List Entry → List Item
items_of pool = map (item_of pool) pool

-- ---- items that can be a pool

-- the items that an item names
abbrev pub named_by : Item → List Item
named_by (text_item text) = []
named_by (int_item z) = []
named_by (long_item z) = []
named_by (class_item name) = text_item name ∷ []
named_by (name_item name descriptor) = text_item name ∷ text_item descriptor ∷ []
named_by (field_item m) = class_item m.class ∷ name_item m.name m.descriptor ∷ []
named_by (method_item m) = class_item m.class ∷ name_item m.name m.descriptor ∷ []
named_by (interface_item m) = class_item m.class ∷ name_item m.name m.descriptor ∷ []

-- whether all of the second items are among the first
abbrev pub are_items_of : List Item → List Item → Bool
are_items_of items [] = true
are_items_of items (x ∷ xs) = is_item_of items x && are_items_of items xs

-- after these items each further one follows those that it names, and stands once
abbrev pub AreClosedAfter : List Item → List Item → Type 0
AreClosedAfter before [] = Unit {0}
AreClosedAfter before (x ∷ xs) =
    (are_items_of before (named_by x) ≡ true) × (is_item_of before x ≡ false) × AreClosedAfter (before ++ x ∷ []) xs

-- each item follows those that it names, and stands once
abbrev pub AreClosed : List Item → Type 0
AreClosed items = AreClosedAfter [] items

-- items that can be a pool: its count is at most 65,535
pub record IsPool (items : List Item) : Type 0 where
  pub closed : AreClosed items
  pub fits : items_count items < 2 ^ 16

-- whether an item can be written, and what a class file may say: texts are of the ASCII characters but NUL
abbrev pub is_well_formed : Item → Bool
is_well_formed (text_item text) = nat_le (length text) 65535 && list_all is_text_byte text
is_well_formed (int_item z) = is_int z
is_well_formed (long_item z) = is_long z
is_well_formed (class_item name) = names_class name
is_well_formed (name_item name descriptor) = is_member name descriptor
is_well_formed (field_item m) = is_field m.name m.descriptor
is_well_formed (method_item m) = is_method m.name m.descriptor
is_well_formed (interface_item m) = is_method m.name m.descriptor

-- what an entry says in the pool of the items
unfoldable pub said : List Item → Entry → Item
said items entry = item_of (entries_of items) entry

-- an entry is that of an item, and what it names is there
pub record IsEntry (items : List Item) (entry : Entry) : Type 0 where
  pub entry_is : entry ≡ entry_of items (said items entry)
  pub named : are_items_of items (named_by (said items entry)) ≡ true

-- what a reference to a member names, each after what it names itself
abbrev pub reference_items : Member → List Item
reference_items m = class_items m.class ++ name_items m.name m.descriptor

-- and the numbers that it has
abbrev pub reference_numbers : Member → List Item → ℕ × ℕ
reference_numbers m items = (number_of items (class_item m.class), number_of items (name_item m.name m.descriptor))

-- ---- the parts of a class, with numbers for names

abbrev pub numbered_constant : List Item → Pushed ℤ ℤ → Pushed ℕ ℕ
numbered_constant items pushed.Null = pushed.Null
numbered_constant items (pushed.SmallInt n) = pushed.SmallInt n
numbered_constant items (pushed.SmallLong n) = pushed.SmallLong n
numbered_constant items (pushed.Byte z) = pushed.Byte z
numbered_constant items (pushed.Short z) = pushed.Short z
numbered_constant items (pushed.Int width z) = pushed.Int width (number_of items (int_item z))
numbered_constant items (pushed.Long z) = pushed.Long (number_of items (long_item z))

abbrev pub numbered_array : List Item → ArrayOperation (List ℕ) → ArrayOperation ℕ
numbered_array items (array.New type) = array.New type
numbered_array items (array.NewOf name) = array.NewOf (number_of items (class_item name))
numbered_array items array.Length = array.Length
numbered_array items (array.Load kind) = array.Load kind
numbered_array items (array.Store kind) = array.Store kind

-- the item of the method that a call names
abbrev pub called_item : Invocation → Member → Item
called_item invocation.Virtual m = method_item m
called_item invocation.Special m = method_item m
called_item invocation.Static m = method_item m
called_item (invocation.Interface count) m = interface_item m

abbrev pub numbered : List Item → Listed → Instr
numbered items instruction.Nop = instruction.Nop
numbered items (instruction.Constant c) = instruction.Constant (numbered_constant items c)
numbered items (instruction.Local a) = instruction.Local a
numbered items (instruction.Stack op) = instruction.Stack op
numbered items (instruction.Number op) = instruction.Number op
numbered items (instruction.Branch test target) = instruction.Branch test target
numbered items (instruction.TableSwitch s) = instruction.TableSwitch s
numbered items (instruction.LookupSwitch s) = instruction.LookupSwitch s
numbered items (instruction.Return kind) = instruction.Return kind
numbered items (instruction.Static access m) = instruction.Static access (number_of items (field_item m))
numbered items (instruction.Field access m) = instruction.Field access (number_of items (field_item m))
numbered items (instruction.Array op) = instruction.Array (numbered_array items op)
numbered items (instruction.Class op name) = instruction.Class op (number_of items (class_item name))
numbered items (instruction.Invoke how m) = instruction.Invoke how (number_of items (called_item how m))
numbered items instruction.Throw = instruction.Throw
numbered items (instruction.Monitor op) = instruction.Monitor op

abbrev pub numbered_placed : List Item → Placed → Located
numbered_placed items p = record { pc = p.pc; next = p.next; instruction = numbered items p.instruction }

-- 0 takes anything
abbrev pub numbered_catch : List Item → Option (List ℕ) → ℕ
numbered_catch items None = 0
numbered_catch items (Some name) = number_of items (class_item name)

abbrev pub numbered_row : List Item → ExceptionRow → CodeRow
numbered_row items row = record {
  start = row.start;
  end = row.end;
  handler = row.handler;
  class = numbered_catch items row.class;
}

abbrev pub numbered_value : List Item → Constant → ConstantValue
numbered_value items c = record {
  name = number_of items (text_item (codes "ConstantValue"));
  value = number_of items (value_item c);
}

abbrev pub numbered_field : List Item → Field → FieldEntry
numbered_field items f = record {
  flags = f.flags;
  name = number_of items (text_item f.name);
  descriptor = number_of items (text_item f.descriptor);
  constant = option_map (numbered_value items) f.constant;
}
