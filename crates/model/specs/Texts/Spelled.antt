-- Which listings are those of texts: what a text can spell, told of the listing alone.
use Rattle.std.specs.Prelude.{ℕ, ◌+◌, ℤ, pos, negsuc, Bool, true, not, ◌&&◌, ◌||◌, ◌==◌, nat_le, int_le, List, [], ◌∷◌}
use Rattle.std.specs.Prelude.{length, codes, Option, Some, None}
use Rattle.std.specs.List.{flat_map, list_all, list_any}
use Rattle.std.specs.Str.{bytes_eq}
use Rattle.model.specs.declared.instructions.ArrayOperation.{ArrayOperation}
use Rattle.model.specs.declared.instructions.ArrayOperation.TheVariants as array
use Rattle.model.specs.declared.instructions.ClassOperation.{ClassOperation}
use Rattle.model.specs.declared.instructions.ClassOperation.TheVariants as class
use Rattle.model.specs.declared.instructions.Constant.{Constant}
use Rattle.model.specs.declared.instructions.Constant.TheVariants as constant
use Rattle.model.specs.declared.instructions.Increment.{Increment}
use Rattle.model.specs.declared.instructions.Increment.TheVariants as increment
use Rattle.model.specs.declared.instructions.Instruction.TheVariants as instruction
use Rattle.model.specs.declared.instructions.Invocation.{Invocation}
use Rattle.model.specs.declared.instructions.Invocation.TheVariants as invocation
use Rattle.model.specs.declared.instructions.Local.{Local}
use Rattle.model.specs.declared.instructions.Local.TheVariants as «local»
use Rattle.model.specs.declared.instructions.LocalAccess.{LocalAccess}
use Rattle.model.specs.declared.instructions.LocalAccess.TheVariants as access
use Rattle.model.specs.declared.instructions.Width.TheVariants.{Narrow, Wide}
use Rattle.model.specs.declared.listings.Constant.{Constant as FieldValue}
use Rattle.model.specs.declared.listings.Constant.TheVariants as value
use Rattle.model.specs.declared.listings.ExceptionRow.{ExceptionRow}
use Rattle.model.specs.declared.listings.Field.{Field}
use Rattle.model.specs.declared.listings.Method.{Method}
use Rattle.model.specs.declared.listings.Placed.{Placed}
use Rattle.model.specs.declared.names.Member.{Member}
use Rattle.model.specs.ClassFiles.Fields.{are_field_flags}
use Rattle.model.specs.ClassFiles.Heads.{are_class_flags}
use Rattle.model.specs.ClassFiles.Methods.{are_method_flags, wants_code, units_fit}
use Rattle.model.specs.ClassFiles.References.{names_class, is_field, is_method}
use Rattle.model.specs.ClassListings.{ClassListing}
use Rattle.model.specs.CodeListings.{CodeListing}
use Rattle.model.specs.Sizes.{size_at}
use Rattle.model.specs.Switches.{Table, Lookup}
use Rattle.model.specs.Table.Next.{Listed}
use Rattle.model.specs.Texts.Assembling.{end_from}
use Rattle.model.specs.Texts.Descriptors.{arguments_of, is_field_descriptor, is_int_type, is_long_type}
use Rattle.model.specs.Texts.Disassembling.{targets}
use Rattle.model.specs.Texts.Flags.{has}
use Rattle.model.specs.Texts.Names.{is_class_name, is_field_name, is_method_name}
use Rattle.model.specs.Texts.Widths.{different}

-- ---- operands

-- a number from low to high
abbrev pub is_in : ℤ → ℤ → ℤ → Bool
is_in low high z = int_le low z && int_le z high

abbrev pub is_byte : ℤ → Bool
is_byte z = is_in (negsuc 127) (pos 127) z

abbrev pub is_short : ℤ → Bool
is_short z = is_in (negsuc 32767) (pos 32767) z

abbrev pub is_int : ℤ → Bool
is_int z = is_in (negsuc 2147483647) (pos 2147483647) z

abbrev pub is_long : ℤ → Bool
is_long z = is_in (negsuc 9223372036854775807) (pos 9223372036854775807) z

-- a number of two bytes
abbrev pub is_u2 : ℕ → Bool
is_u2 n = nat_le n 65535

abbrev pub constant_is_spelled : Constant ℤ ℤ → Bool
constant_is_spelled constant.Null = true
constant_is_spelled (constant.SmallInt n) = true
constant_is_spelled (constant.SmallLong n) = true
constant_is_spelled (constant.Byte z) = is_byte z
constant_is_spelled (constant.Short z) = is_short z
constant_is_spelled (constant.Int width z) = is_int z
constant_is_spelled (constant.Long z) = is_long z

abbrev pub index_is_spelled : Local → Bool
index_is_spelled («local».First n) = true
index_is_spelled («local».Byte n) = nat_le n 255
index_is_spelled («local».Wide n) = is_u2 n

abbrev pub increment_is_spelled : Increment → Bool
increment_is_spelled (increment.Byte n z) = nat_le n 255 && is_byte z
increment_is_spelled (increment.Wide n z) = is_u2 n && is_short z

abbrev pub access_is_spelled : LocalAccess → Bool
access_is_spelled (access.Load k l) = index_is_spelled l
access_is_spelled (access.Store k l) = index_is_spelled l
access_is_spelled (access.Increment i) = increment_is_spelled i

-- a table has a target
abbrev pub table_is_spelled : Table ℕ → Bool
table_is_spelled t = is_int t.low && nat_le 1 (length t.targets)

abbrev pub lookup_is_spelled : Lookup ℕ → Bool
lookup_is_spelled l = list_all (λ p. is_int p.0) l.pairs

abbrev pub array_is_spelled : ArrayOperation (List ℕ) → Bool
array_is_spelled (array.New p) = true
array_is_spelled (array.NewOf c) = names_class c
array_is_spelled array.Length = true
array_is_spelled (array.Load k) = true
array_is_spelled (array.Store k) = true

-- a new object has a class; what is tested against may be an array too
abbrev pub class_is_spelled : ClassOperation → List ℕ → Bool
class_is_spelled class.New c = is_class_name c
class_is_spelled class.CheckCast c = names_class c
class_is_spelled class.InstanceOf c = names_class c

abbrev pub field_is_named : Member → Bool
field_is_named m = is_class_name m.class && is_field m.name m.descriptor

abbrev pub method_is_named : Member → Bool
method_is_named m = is_class_name m.class && is_method m.name m.descriptor

-- a call of an interface's method has a count of 1 to 255
abbrev pub count_is_spelled : Invocation → Bool
count_is_spelled invocation.Virtual = true
count_is_spelled invocation.Special = true
count_is_spelled invocation.Static = true
count_is_spelled (invocation.Interface n) = nat_le 1 n && nat_le n 255

-- the operands of an instruction have the ranges and forms that a text has for them
abbrev pub operands_are_spelled : Listed → Bool
operands_are_spelled instruction.Nop = true
operands_are_spelled (instruction.Constant c) = constant_is_spelled c
operands_are_spelled (instruction.Local a) = access_is_spelled a
operands_are_spelled (instruction.Stack op) = true
operands_are_spelled (instruction.Number op) = true
operands_are_spelled (instruction.Branch t target) = true
operands_are_spelled (instruction.TableSwitch t) = table_is_spelled t
operands_are_spelled (instruction.LookupSwitch l) = lookup_is_spelled l
operands_are_spelled (instruction.Return kind) = true
operands_are_spelled (instruction.Static a m) = field_is_named m
operands_are_spelled (instruction.Field a m) = field_is_named m
operands_are_spelled (instruction.Array op) = array_is_spelled op
operands_are_spelled (instruction.Class op c) = class_is_spelled op c
operands_are_spelled (instruction.Invoke how m) = count_is_spelled how && method_is_named m
operands_are_spelled instruction.Throw = true
operands_are_spelled (instruction.Monitor op) = true

-- ---- code

-- instructions stand one after the other from a pc on
abbrev pub stand_from : ℕ → List Placed → Bool
stand_from pc [] = true
stand_from pc (p ∷ ps) = p.pc == pc && p.next == pc + size_at pc p.instruction && stand_from p.next ps

-- the pc of an instruction
abbrev pub is_pc : List Placed → ℕ → Bool
is_pc ps n = list_any (λ p. p.pc == n) ps

-- the pc of an instruction, or the one after the last
abbrev pub is_bound : List Placed → ℕ → Bool
is_bound ps n = is_pc ps n || end_from 0 ps == n

abbrev pub instruction_is_spelled : List Placed → Placed → Bool
instruction_is_spelled ps p = operands_are_spelled p.instruction && list_all (is_pc ps) (targets p.instruction)

-- `all` stands for anything, and for no class of this name
abbrev pub catch_is_spelled : Option (List ℕ) → Bool
catch_is_spelled None = true
catch_is_spelled (Some name) = is_class_name name && not (bytes_eq name (codes "all"))

abbrev pub row_is_spelled : List Placed → ExceptionRow → Bool
row_is_spelled ps r = is_bound ps r.start && is_bound ps r.end && is_pc ps r.handler && catch_is_spelled r.class

abbrev pub code_is_spelled : CodeListing → Bool
code_is_spelled c =
    is_u2 c.max_stack && is_u2 c.max_locals && stand_from 0 c.instructions
    && list_all (instruction_is_spelled c.instructions) c.instructions && list_all (row_is_spelled c.instructions)
    c.rows

-- ---- members

-- a method has code exactly where its flags want some
abbrev pub body_is_spelled : Bool → Option CodeListing → Bool
body_is_spelled wanted None = not wanted
body_is_spelled wanted (Some c) = wanted && code_is_spelled c

-- a method of a class with these flags
abbrev pub method_is_spelled : ℕ → Method → Bool
method_is_spelled class m =
    is_u2 m.flags.0 && are_method_flags class m.flags.0 && is_method_name m.name
    && units_fit (has m.flags.0 0x0008) (arguments_of m.descriptor) && body_is_spelled (wants_code m.flags.0) m.code

-- a static field of a type of one letter may have a value
abbrev pub value_is_spelled : Bool → List ℕ → Option FieldValue → Bool
value_is_spelled static descriptor None = true
value_is_spelled static descriptor (Some (value.Int z)) = static && is_int_type descriptor && is_int z
value_is_spelled static descriptor (Some (value.Long z)) = static && is_long_type descriptor && is_long z

-- a field of a class with these flags
abbrev pub field_is_spelled : ℕ → Field → Bool
field_is_spelled class f =
    is_u2 f.flags.0 && are_field_flags class f.flags.0 && is_field_name f.name && is_field_descriptor f.descriptor
    && value_is_spelled (has f.flags.0 0x0008) f.descriptor f.constant

-- ---- a class

-- the number that an `ldc` names by one byte
abbrev pub narrow_constant : Constant ℤ ℤ → List ℤ
narrow_constant constant.Null = []
narrow_constant (constant.SmallInt n) = []
narrow_constant (constant.SmallLong n) = []
narrow_constant (constant.Byte z) = []
narrow_constant (constant.Short z) = []
narrow_constant (constant.Int Narrow z) = z ∷ []
narrow_constant (constant.Int Wide z) = []
narrow_constant (constant.Long z) = []

abbrev pub narrow_number : Listed → List ℤ
narrow_number instruction.Nop = []
narrow_number (instruction.Constant c) = narrow_constant c
narrow_number (instruction.Local a) = []
narrow_number (instruction.Stack op) = []
narrow_number (instruction.Number op) = []
narrow_number (instruction.Branch t target) = []
narrow_number (instruction.TableSwitch t) = []
narrow_number (instruction.LookupSwitch l) = []
narrow_number (instruction.Return kind) = []
narrow_number (instruction.Static a m) = []
narrow_number (instruction.Field a m) = []
narrow_number (instruction.Array op) = []
narrow_number (instruction.Class op c) = []
narrow_number (instruction.Invoke how m) = []
narrow_number instruction.Throw = []
narrow_number (instruction.Monitor op) = []

abbrev pub numbers_of_code : Option CodeListing → List ℤ
numbers_of_code None = []
numbers_of_code (Some c) = flat_map (λ p. narrow_number p.instruction) c.instructions

-- the numbers that `ldc` uses in a class, in order
abbrev pub ldc_numbers : List Method → List ℤ
ldc_numbers ms = flat_map (λ m. numbers_of_code m.code) ms

-- a class's flags without SUPER, and an interface's superclass
abbrev pub head_is_spelled : ℕ → List ℕ → Bool
head_is_spelled flags superclass =
    is_u2 flags && are_class_flags flags && not (has flags 0x0020)
    && (not (has flags 0x0200) || bytes_eq superclass (codes "java/lang/Object"))

-- whether the listing is that of some text
unfoldable pub is_spelled : ClassListing → Bool
is_spelled l =
    head_is_spelled l.flags.0 l.superclass && is_class_name l.name && is_class_name l.superclass
    && list_all is_class_name l.interfaces
    && list_all (field_is_spelled l.flags.0) l.fields && list_all (method_is_spelled l.flags.0) l.methods
    && nat_le (length (different (ldc_numbers l.methods))) 255
