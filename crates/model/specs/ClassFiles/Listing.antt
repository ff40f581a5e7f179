-- What a class file declares, with names in place of pool numbers (JVMS 4). A number of a class file names what it
-- should; of one that doesn't, nothing is said but that its name has no bytes.
use Rattle.std.specs.Prelude.{ℕ, ℤ, pos, ◌==◌, bit_and, List, [], map, Option, Some, None, if◌then◌else◌}
use Rattle.std.specs.Option.{option_map, option_and_then, unwrap_or}
use Rattle.model.specs.Bytecode.Opcodes.{Instr}
use Rattle.model.specs.ClassListings.{ClassListing}
use Rattle.model.specs.CodeListings.{CodeListing}
use Rattle.model.specs.ClassFiles.Classes.{ClassPart}
use Rattle.model.specs.ClassFiles.Codes.{CodePart, CodeRow}
use Rattle.model.specs.ClassFiles.Methods.{MethodPart}
use Rattle.model.specs.ClassFiles.Pools.{entry_at}
use Rattle.model.specs.ClassFiles.References.{text_at, class_of, name_and_type_of}
use Rattle.model.specs.Table.Next.{Listed}
use Rattle.model.specs.declared.bytecode.Located.{Located}
use Rattle.model.specs.declared.class_files.Entry.{Entry}
use Rattle.model.specs.declared.class_files.Entry.TheVariants.{Integer, Long, Fieldref, Methodref, InterfaceMethodref}
use Rattle.model.specs.declared.class_files.FieldEntry.{FieldEntry}
use Rattle.model.specs.declared.flags.ClassFlags.{ClassFlags}
use Rattle.model.specs.declared.instructions.ArrayOperation.{ArrayOperation}
use Rattle.model.specs.declared.instructions.ArrayOperation.TheVariants as array
use Rattle.model.specs.declared.instructions.Constant.{Constant as Pushed}
use Rattle.model.specs.declared.instructions.Constant.TheVariants as pushed
use Rattle.model.specs.declared.instructions.Instruction.TheVariants as instruction
use Rattle.model.specs.declared.listings.Constant.{Constant}
use Rattle.model.specs.declared.listings.Constant.TheVariants as constant
use Rattle.model.specs.declared.listings.ExceptionRow.{ExceptionRow}
use Rattle.model.specs.declared.listings.Field.{Field}
use Rattle.model.specs.declared.listings.Method.{Method}
use Rattle.model.specs.declared.listings.Placed.{Placed}
use Rattle.model.specs.declared.names.Member.{Member}

-- ---- what numbers name

abbrev pub name_at : List Entry → ℕ → List ℕ
name_at pool n = unwrap_or (text_at pool n) []

-- the class or the array under a number
abbrev pub class_at : List Entry → ℕ → List ℕ
class_at pool n = name_at pool (unwrap_or (class_of (entry_at pool n)) 0)

-- the numbers of a reference's class and of its name and descriptor
abbrev pub reference_of : Option Entry → ℕ × ℕ
reference_of (Some (Fieldref class member)) = (class, member)
reference_of (Some (Methodref class member)) = (class, member)
reference_of (Some (InterfaceMethodref class member)) = (class, member)
reference_of entry = (0, 0)

abbrev pub member_of : List Entry → List ℕ → ℕ × ℕ → Member
member_of pool class names = record { class = class; name = name_at pool names.0; descriptor = name_at pool names.1 }

abbrev pub referred : List Entry → ℕ × ℕ → Member
referred pool reference = member_of pool (class_at pool reference.0)
    (unwrap_or (name_and_type_of (entry_at pool reference.1)) (0, 0))

-- the member that the reference under a number names
abbrev pub member_at : List Entry → ℕ → Member
member_at pool n = referred pool (reference_of (entry_at pool n))

abbrev pub int_of : Option Entry → ℤ
int_of (Some (Integer z)) = z
int_of entry = pos 0

abbrev pub long_of : Option Entry → ℤ
long_of (Some (Long z)) = z
long_of entry = pos 0

-- ---- instructions

abbrev pub listed_constant : List Entry → Pushed ℕ ℕ → Pushed ℤ ℤ
listed_constant pool pushed.Null = pushed.Null
listed_constant pool (pushed.SmallInt n) = pushed.SmallInt n
listed_constant pool (pushed.SmallLong n) = pushed.SmallLong n
listed_constant pool (pushed.Byte z) = pushed.Byte z
listed_constant pool (pushed.Short z) = pushed.Short z
listed_constant pool (pushed.Int width n) = pushed.Int width (int_of (entry_at pool n))
listed_constant pool (pushed.Long n) = pushed.Long (long_of (entry_at pool n))

abbrev pub listed_array : List Entry → ArrayOperation ℕ → ArrayOperation (List ℕ)
listed_array pool (array.New type) = array.New type
listed_array pool (array.NewOf n) = array.NewOf (class_at pool n)
listed_array pool array.Length = array.Length
listed_array pool (array.Load kind) = array.Load kind
listed_array pool (array.Store kind) = array.Store kind

abbrev pub listed : List Entry → Instr → Listed
listed pool instruction.Nop = instruction.Nop
listed pool (instruction.Constant c) = instruction.Constant (listed_constant pool c)
listed pool (instruction.Local a) = instruction.Local a
listed pool (instruction.Stack op) = instruction.Stack op
listed pool (instruction.Number op) = instruction.Number op
listed pool (instruction.Branch test target) = instruction.Branch test target
listed pool (instruction.TableSwitch s) = instruction.TableSwitch s
listed pool (instruction.LookupSwitch s) = instruction.LookupSwitch s
listed pool (instruction.Return kind) = instruction.Return kind
listed pool (instruction.Static access n) = instruction.Static access (member_at pool n)
listed pool (instruction.Field access n) = instruction.Field access (member_at pool n)
listed pool (instruction.Array op) = instruction.Array (listed_array pool op)
listed pool (instruction.Class op n) = instruction.Class op (class_at pool n)
listed pool (instruction.Invoke how n) = instruction.Invoke how (member_at pool n)
listed pool instruction.Throw = instruction.Throw
listed pool (instruction.Monitor op) = instruction.Monitor op

abbrev pub placed : List Entry → Located → Placed
placed pool x = record { pc = x.pc; next = x.next; instruction = listed pool x.instruction }

-- ---- code, members, classes

-- the number 0 takes anything
abbrev pub listed_row : List Entry → CodeRow → ExceptionRow
listed_row pool r = record {
  start = r.start;
  end = r.end;
  handler = r.handler;
  class = if r.class == 0 then None
      else Some (class_at pool r.class);
}

abbrev pub listed_code : List Entry → CodePart → CodeListing
listed_code pool c = record {
  max_stack = c.max_stack;
  max_locals = c.max_locals;
  rows = map (listed_row pool) c.rows;
  instructions = map (placed pool) c.instructions;
}

-- the value of a ConstantValue
abbrev pub value_of : Option Entry → Option Constant
value_of (Some (Integer z)) = Some (constant.Int z)
value_of (Some (Long z)) = Some (constant.Long z)
value_of entry = None

abbrev pub listed_field : List Entry → FieldEntry → Field
listed_field pool f = record {
  flags = f.flags;
  name = name_at pool f.name;
  descriptor = name_at pool f.descriptor;
  constant = option_and_then (λ c. value_of (entry_at pool c.value)) f.constant;
}

abbrev pub listed_method : List Entry → MethodPart → Method
listed_method pool m = record {
  flags = m.flags;
  name = name_at pool m.name;
  descriptor = name_at pool m.descriptor;
  code = option_map (listed_code pool) m.code;
}

-- a class's flags but SUPER
abbrev pub listed_flags : ClassFlags → ClassFlags
listed_flags flags = record { 0 = bit_and flags.0 0xffdf }

abbrev pub listing_in : List Entry → ClassPart → ClassListing
listing_in pool c = record {
  name = class_at pool c.head.class;
  flags = listed_flags c.head.flags;
  superclass = class_at pool c.head.superclass;
  interfaces = map (class_at pool) c.head.interfaces;
  fields = map (listed_field pool) c.head.fields;
  methods = map (listed_method pool) c.methods;
}

-- the listing of a class file
unfoldable pub listing_of : ClassPart → ClassListing
listing_of c = listing_in c.head.pool c
