-- What a class file of a listing has in its constant pool (JVMS 4.4), told by what it says and not by numbers.
use Rattle.std.specs.Prelude.{ℕ, ◌+◌, ℤ, Bool, false, ◌&&◌, ◌||◌, List, [], ◌∷◌, ◌++◌, codes, sum_by, Option, Some}
use Rattle.std.specs.Prelude.{None, if◌then◌else◌}
use Rattle.std.specs.List.{flat_map}
use Rattle.std.specs.Ordering.{int_eq}
use Rattle.std.specs.Str.{bytes_eq}
use Rattle.model.specs.ClassListings.{ClassListing}
use Rattle.model.specs.CodeListings.{CodeListing}
use Rattle.model.specs.Table.Next.{Listed}
use Rattle.model.specs.declared.instructions.ArrayOperation.{ArrayOperation}
use Rattle.model.specs.declared.instructions.ArrayOperation.TheVariants as array
use Rattle.model.specs.declared.instructions.Constant.{Constant as Pushed}
use Rattle.model.specs.declared.instructions.Constant.TheVariants as pushed
use Rattle.model.specs.declared.instructions.Instruction.TheVariants as instruction
use Rattle.model.specs.declared.instructions.Invocation.{Invocation}
use Rattle.model.specs.declared.instructions.Invocation.TheVariants as invocation
use Rattle.model.specs.declared.listings.Constant.{Constant}
use Rattle.model.specs.declared.listings.Constant.TheVariants as constant
use Rattle.model.specs.declared.listings.ExceptionRow.{ExceptionRow}
use Rattle.model.specs.declared.listings.Field.{Field}
use Rattle.model.specs.declared.listings.Method.{Method}
use Rattle.model.specs.declared.listings.Placed.{Placed}
use Rattle.model.specs.declared.names.Member.{Member}

-- an entry by what it says
pub data Item : Type 0 where
  text_item : List ℕ → Item
  int_item : ℤ → Item
  long_item : ℤ → Item
  class_item : List ℕ → Item
  name_item : List ℕ → List ℕ → Item
  field_item : Member → Item
  method_item : Member → Item
  interface_item : Member → Item

abbrev pub is_same_member : Member → Member → Bool
is_same_member a b = bytes_eq a.class b.class && bytes_eq a.name b.name && bytes_eq a.descriptor b.descriptor

abbrev pub is_same_text : List ℕ → Item → Bool
is_same_text text (text_item other) = bytes_eq text other
is_same_text text item = false

abbrev pub is_same_int : ℤ → Item → Bool
is_same_int z (int_item other) = int_eq z other
is_same_int z item = false

abbrev pub is_same_long : ℤ → Item → Bool
is_same_long z (long_item other) = int_eq z other
is_same_long z item = false

abbrev pub is_same_class : List ℕ → Item → Bool
is_same_class name (class_item other) = bytes_eq name other
is_same_class name item = false

abbrev pub is_same_name : List ℕ → List ℕ → Item → Bool
is_same_name name descriptor (name_item other type) = bytes_eq name other && bytes_eq descriptor type
is_same_name name descriptor item = false

abbrev pub is_same_field : Member → Item → Bool
is_same_field m (field_item other) = is_same_member m other
is_same_field m item = false

abbrev pub is_same_method : Member → Item → Bool
is_same_method m (method_item other) = is_same_member m other
is_same_method m item = false

abbrev pub is_same_interface : Member → Item → Bool
is_same_interface m (interface_item other) = is_same_member m other
is_same_interface m item = false

-- whether items are of one kind and say the same
abbrev pub is_same_item : Item → Item → Bool
is_same_item (text_item text) other = is_same_text text other
is_same_item (int_item z) other = is_same_int z other
is_same_item (long_item z) other = is_same_long z other
is_same_item (class_item name) other = is_same_class name other
is_same_item (name_item name descriptor) other = is_same_name name descriptor other
is_same_item (field_item m) other = is_same_field m other
is_same_item (method_item m) other = is_same_method m other
is_same_item (interface_item m) other = is_same_interface m other

abbrev pub is_item_of : List Item → Item → Bool
is_item_of [] item = false
is_item_of (x ∷ xs) item = is_same_item item x || is_item_of xs item

-- items with one more: one that is there is kept once, and a new one goes last
abbrev pub with_item : List Item → Item → List Item
with_item items item = if is_item_of items item then items else items ++ item ∷ []

-- items with more of them, in their order
abbrev pub with_items : List Item → List Item → List Item
with_items items [] = items
with_items items (x ∷ xs) = with_items (with_item items x) xs

-- a Long takes two numbers of the pool (JVMS 4.4.5)
abbrev pub numbers_taken : Item → ℕ
numbers_taken (text_item text) = 1
numbers_taken (int_item z) = 1
numbers_taken (long_item z) = 2
numbers_taken (class_item name) = 1
numbers_taken (name_item name descriptor) = 1
numbers_taken (field_item m) = 1
numbers_taken (method_item m) = 1
numbers_taken (interface_item m) = 1

-- the count that a pool of these items gives: one more than the numbers taken
abbrev pub items_count : List Item → ℕ
items_count items = 1 + sum_by numbers_taken items

-- ---- an entry after those that it names, in the order of its own numbers

abbrev pub class_items : List ℕ → List Item
class_items name = text_item name ∷ class_item name ∷ []

abbrev pub name_items : List ℕ → List ℕ → List Item
name_items name descriptor = text_item name ∷ text_item descriptor ∷ name_item name descriptor ∷ []

abbrev pub member_items : Item → Member → List Item
member_items item m = class_items m.class ++ (name_items m.name m.descriptor ++ item ∷ [])

-- ---- what the parts of a class name

abbrev pub constant_items : Pushed ℤ ℤ → List Item
constant_items pushed.Null = []
constant_items (pushed.SmallInt n) = []
constant_items (pushed.SmallLong n) = []
constant_items (pushed.Byte z) = []
constant_items (pushed.Short z) = []
constant_items (pushed.Int width z) = int_item z ∷ []
constant_items (pushed.Long z) = long_item z ∷ []

abbrev pub array_items : ArrayOperation (List ℕ) → List Item
array_items (array.New type) = []
array_items (array.NewOf name) = class_items name
array_items array.Length = []
array_items (array.Load kind) = []
array_items (array.Store kind) = []

abbrev pub call_items : Invocation → Member → List Item
call_items invocation.Virtual m = member_items (method_item m) m
call_items invocation.Special m = member_items (method_item m) m
call_items invocation.Static m = member_items (method_item m) m
call_items (invocation.Interface count) m = member_items (interface_item m) m

abbrev pub instruction_items : Listed → List Item
instruction_items instruction.Nop = []
instruction_items (instruction.Constant c) = constant_items c
instruction_items (instruction.Local a) = []
instruction_items (instruction.Stack op) = []
instruction_items (instruction.Number op) = []
instruction_items (instruction.Branch test target) = []
instruction_items (instruction.TableSwitch s) = []
instruction_items (instruction.LookupSwitch s) = []
instruction_items (instruction.Return kind) = []
instruction_items (instruction.Static access m) = member_items (field_item m) m
instruction_items (instruction.Field access m) = member_items (field_item m) m
instruction_items (instruction.Array op) = array_items op
instruction_items (instruction.Class op name) = class_items name
instruction_items (instruction.Invoke how m) = call_items how m
instruction_items instruction.Throw = []
instruction_items (instruction.Monitor op) = []

abbrev pub placed_items : Placed → List Item
placed_items p = instruction_items p.instruction

abbrev pub catch_items : Option (List ℕ) → List Item
catch_items None = []
catch_items (Some name) = class_items name

abbrev pub row_items : ExceptionRow → List Item
row_items row = catch_items row.class

-- code: the attribute's name, the instructions, then the classes that rows take
abbrev pub code_items : Option CodeListing → List Item
code_items None = []
code_items (Some c) = text_item (codes "Code") ∷ (flat_map placed_items c.instructions ++ flat_map row_items c.rows)

abbrev pub method_items : Method → List Item
method_items m = text_item m.name ∷ text_item m.descriptor ∷ code_items m.code

abbrev pub value_item : Constant → Item
value_item (constant.Int z) = int_item z
value_item (constant.Long z) = long_item z

abbrev pub value_items : Option Constant → List Item
value_items None = []
value_items (Some c) = text_item (codes "ConstantValue") ∷ value_item c ∷ []

abbrev pub field_items : Field → List Item
field_items f = text_item f.name ∷ text_item f.descriptor ∷ value_items f.constant

-- what a class names, in the order of its file
unfoldable pub listing_items : ClassListing → List Item
listing_items l =
    class_items l.name ++ (class_items l.superclass ++ (flat_map class_items l.interfaces
    ++ (flat_map field_items l.fields ++ flat_map method_items l.methods)))
