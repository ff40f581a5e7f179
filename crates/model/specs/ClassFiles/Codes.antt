-- Code attributes (JVMS 4.7.3).
use Rattle.std.specs.Prelude.{◌≡◌, ℕ, ◌^◌, ◌<◌, Bool, true, ◌||◌, ◌==◌, List, ◌++◌, length, Option, Some, None}
use Rattle.std.specs.List.{AllByRecursion}
use Rattle.model.specs.Bytecode.{IsCode}
use Rattle.model.specs.Bytecode.Opcodes.{Instr}
use Rattle.model.specs.ClassFiles.Numbers.{u2}
use Rattle.model.specs.ClassFiles.Pools.{entry_at}
use Rattle.model.specs.ClassFiles.Attributes.{Attribute, sized_bytes, attributes_bytes, AttributeFits}
use Rattle.model.specs.ClassFiles.Heads.{is_class, list_bytes}
use Rattle.model.specs.declared.bytecode.Located.{Located}
use Rattle.model.specs.declared.class_files.Entry.{Entry}
use Rattle.model.specs.declared.class_files.Entry.TheVariants.{Utf8, Integer, Long, Class, Fieldref, Methodref}
use Rattle.model.specs.declared.class_files.Entry.TheVariants.{InterfaceMethodref, NameAndType}
use Rattle.model.specs.declared.instructions.Constant.{Constant}
use Rattle.model.specs.declared.instructions.Constant.TheVariants as constant
use Rattle.model.specs.declared.instructions.ArrayOperation.{ArrayOperation}
use Rattle.model.specs.declared.instructions.ArrayOperation.TheVariants as array
use Rattle.model.specs.declared.instructions.ClassOperation.{ClassOperation}
use Rattle.model.specs.declared.instructions.ClassOperation.TheVariants as class
use Rattle.model.specs.declared.instructions.Invocation.{Invocation}
use Rattle.model.specs.declared.instructions.Invocation.TheVariants as invoke
use Rattle.model.specs.declared.instructions.Instruction.TheVariants as instruction

-- a row of an exception table, with the number of the class that it takes; 0 takes anything
pub record CodeRow : Type 0 where
  pub start : ℕ
  pub end : ℕ
  pub handler : ℕ
  pub class : ℕ

-- a Code attribute: the number of its name, limits, instructions and rows
pub record CodePart : Type 0 where
  pub name : ℕ
  pub max_stack : ℕ
  pub max_locals : ℕ
  pub instructions : List Located
  pub rows : List CodeRow

-- the tag of an entry, 0 where there is none
abbrev pub tag_of : Option Entry → ℕ
tag_of None = 0
tag_of (Some (Utf8 text)) = 1
tag_of (Some (Integer z)) = 3
tag_of (Some (Long z)) = 5
tag_of (Some (Class name)) = 7
tag_of (Some (Fieldref owner member)) = 9
tag_of (Some (Methodref owner member)) = 10
tag_of (Some (InterfaceMethodref owner member)) = 11
tag_of (Some (NameAndType name descriptor)) = 12

abbrev pub has_tag : List Entry → ℕ → ℕ → Bool
has_tag pool tag n = tag_of (entry_at pool n) == tag

abbrev pub is_sound_constant : List Entry → Constant ℕ ℕ → Bool
is_sound_constant pool constant.Null = true
is_sound_constant pool (constant.SmallInt n) = true
is_sound_constant pool (constant.SmallLong n) = true
is_sound_constant pool (constant.Byte z) = true
is_sound_constant pool (constant.Short z) = true
is_sound_constant pool (constant.Int width n) = has_tag pool 3 n
is_sound_constant pool (constant.Long n) = has_tag pool 5 n

abbrev pub is_sound_array : List Entry → ArrayOperation ℕ → Bool
is_sound_array pool (array.New type) = true
is_sound_array pool (array.NewOf n) = has_tag pool 7 n
is_sound_array pool array.Length = true
is_sound_array pool (array.Load kind) = true
is_sound_array pool (array.Store kind) = true

-- what new makes is no array
abbrev pub is_sound_class : List Entry → ClassOperation → ℕ → Bool
is_sound_class pool class.New n = is_class pool n
is_sound_class pool class.CheckCast n = has_tag pool 7 n
is_sound_class pool class.InstanceOf n = has_tag pool 7 n

abbrev pub is_sound_invocation : List Entry → Invocation → ℕ → Bool
is_sound_invocation pool invoke.Virtual n = has_tag pool 10 n
is_sound_invocation pool invoke.Special n = has_tag pool 10 n
is_sound_invocation pool invoke.Static n = has_tag pool 10 n
is_sound_invocation pool (invoke.Interface count) n = has_tag pool 11 n

-- the number that an instruction has is of an entry of the kind that it wants (JVMS 4.9.1)
abbrev pub is_sound : List Entry → Instr → Bool
is_sound pool instruction.Nop = true
is_sound pool (instruction.Constant c) = is_sound_constant pool c
is_sound pool (instruction.Local a) = true
is_sound pool (instruction.Stack op) = true
is_sound pool (instruction.Number op) = true
is_sound pool (instruction.Branch test target) = true
is_sound pool (instruction.TableSwitch s) = true
is_sound pool (instruction.LookupSwitch s) = true
is_sound pool (instruction.Return kind) = true
is_sound pool (instruction.Static access n) = has_tag pool 9 n
is_sound pool (instruction.Field access n) = has_tag pool 9 n
is_sound pool (instruction.Array op) = is_sound_array pool op
is_sound pool (instruction.Class op n) = is_sound_class pool op n
is_sound pool (instruction.Invoke how n) = is_sound_invocation pool how n
is_sound pool instruction.Throw = true
is_sound pool (instruction.Monitor op) = true

abbrev pub row_bytes : CodeRow → List ℕ
row_bytes r = u2 r.start ++ (u2 r.end ++ (u2 r.handler ++ u2 r.class))

-- what has bytes, and takes a class or anything
pub record RowFits (pool : List Entry) (r : CodeRow) : Type 0 where
  pub start : r.start < 2 ^ 16
  pub end : r.end < 2 ^ 16
  pub handler : r.handler < 2 ^ 16
  pub class : r.class < 2 ^ 16
  pub kind : (r.class == 0 || has_tag pool 7 r.class) ≡ true

-- the bytes of a Code attribute are the code's; attributes in it don't count
pub record SpellsCode (pool : List Entry) (info : List ℕ) (c : CodePart) : Type 0 where
  pub stack_fits : c.max_stack < 2 ^ 16
  pub locals_fit : c.max_locals < 2 ^ 16
  pub code : List ℕ
  pub is_code : IsCode code c.instructions
  pub sound : AllByRecursion (λ x. is_sound pool x.instruction ≡ true) c.instructions
  pub rows_few : length c.rows < 2 ^ 16
  pub rows_fit : AllByRecursion (RowFits pool) c.rows
  pub attributes : List Attribute
  pub attributes_few : length attributes < 2 ^ 16
  pub attributes_fit : AllByRecursion (AttributeFits pool) attributes
  pub info_is : info ≡ u2 c.max_stack
      ++ (u2 c.max_locals ++ (sized_bytes code ++ (list_bytes row_bytes c.rows ++ attributes_bytes attributes)))
