use Rattle.std.specs.Prelude.{ℕ, ℤ, pos, negsuc, List, [], ◌∷◌, Option, Some, None, codes, if◌then◌else◌}
use Rattle.std.specs.Option.{option_map, option_and_then}
use Rattle.std.specs.Str.{bytes_eq}
use Rattle.model.specs.declared.instructions.ArrayOperation.TheVariants as array
use Rattle.model.specs.declared.instructions.ClassOperation.{ClassOperation}
use Rattle.model.specs.declared.instructions.ClassOperation.TheVariants as class
use Rattle.model.specs.declared.instructions.Constant.TheVariants as constant
use Rattle.model.specs.declared.instructions.Instruction.{Instruction}
use Rattle.model.specs.declared.instructions.Instruction.TheVariants as instruction
use Rattle.model.specs.declared.instructions.Invocation.TheVariants as invocation
use Rattle.model.specs.declared.instructions.Width.TheVariants as width
use Rattle.model.specs.declared.mnemonics.Mnemonic.{Mnemonic}
use Rattle.model.specs.declared.mnemonics.Mnemonic.TheVariants.{Nop, Null, SmallInt, SmallLong, Byte, Short, Int, Long}
use Rattle.model.specs.declared.mnemonics.Mnemonic.TheVariants.{Local, FirstLocal, Stack, Number, Branch, Return}
use Rattle.model.specs.declared.mnemonics.Mnemonic.TheVariants.{Static, Field, NewArray, NewArrayOf, ArrayLength}
use Rattle.model.specs.declared.mnemonics.Mnemonic.TheVariants.{ArrayLoad, ArrayStore, Class, Invoke, InvokeInterface}
use Rattle.model.specs.declared.mnemonics.Mnemonic.TheVariants.{Throw, Monitor}
use Rattle.model.specs.declared.names.Member.{Member}
use Rattle.model.specs.Texts.Locals.{local_by}
use Rattle.model.specs.Texts.Mnemonics.{mnemonic_of}
use Rattle.model.specs.Texts.Numbers.{number_in}
use Rattle.model.specs.Texts.Operands.{only, both, only_number, method_named, field_named, class_named, type_named}
use Rattle.model.specs.Texts.Operands.{label_named, primitives}
use Rattle.model.specs.Texts.Tables.{named}

-- an instruction of a text: branches name labels, and what the constant pool would hold stands in place
abbrev pub Written : Type 0
Written = Instruction (List ℕ) ℤ ℤ Member Member (List ℕ)

-- what stands alone, with no operand
abbrev pub alone : Written → List (List ℕ) → Option Written
alone i [] = Some i
alone i (word ∷ words) = None

-- the field that two operands name
abbrev pub field_of : List (List ℕ) → Option Member
field_of words = option_and_then (λ p. field_named p.0 p.1) (both words)

-- a new object has a class; what is tested against may be an array too
abbrev pub operand_of : ClassOperation → List ℕ → Option (List ℕ)
operand_of class.New word = class_named word
operand_of class.CheckCast word = type_named word
operand_of class.InstanceOf word = type_named word

-- a call of an interface's method, with a count of 1 to 255
abbrev pub interface_call : Option Member → Option ℤ → Option Written
interface_call None count = None
interface_call (Some m) None = None
interface_call (Some m) (Some (pos n)) = Some (instruction.Invoke (invocation.Interface n) m)
interface_call (Some m) (Some (negsuc n)) = None

-- an instruction by its mnemonic and its operands
abbrev pub instruction_by : Mnemonic → List (List ℕ) → Option Written
instruction_by Nop words = alone instruction.Nop words
instruction_by Null words = alone (instruction.Constant constant.Null) words
instruction_by (SmallInt n) words = alone (instruction.Constant (constant.SmallInt n)) words
instruction_by (SmallLong n) words = alone (instruction.Constant (constant.SmallLong n)) words
instruction_by Byte words = option_map (λ z. instruction.Constant (constant.Byte z))
    (only_number (negsuc 127) (pos 127) words)
instruction_by Short words = option_map (λ z. instruction.Constant (constant.Short z))
    (only_number (negsuc 32767) (pos 32767) words)
instruction_by (Int width) words = option_map (λ z. instruction.Constant (constant.Int width z))
    (only_number (negsuc 2147483647) (pos 2147483647) words)
instruction_by Long words = option_map (λ z. instruction.Constant (constant.Long z))
    (only_number (negsuc 9223372036854775807) (pos 9223372036854775807) words)
instruction_by (Local m) words = option_map instruction.Local (local_by width.Narrow m words)
instruction_by (FirstLocal access) words = alone (instruction.Local access) words
instruction_by (Stack operation) words = alone (instruction.Stack operation) words
instruction_by (Number operation) words = alone (instruction.Number operation) words
instruction_by (Branch test) words = option_map (λ l. instruction.Branch test l)
    (option_and_then label_named (only words))
instruction_by (Return kind) words = alone (instruction.Return kind) words
instruction_by (Static access) words = option_map (λ m. instruction.Static access m) (field_of words)
instruction_by (Field access) words = option_map (λ m. instruction.Field access m) (field_of words)
instruction_by NewArray words = option_map (λ p. instruction.Array (array.New p))
    (option_and_then (named primitives) (only words))
instruction_by NewArrayOf words = option_map (λ c. instruction.Array (array.NewOf c))
    (option_and_then type_named (only words))
instruction_by ArrayLength words = alone (instruction.Array array.Length) words
instruction_by (ArrayLoad kind) words = alone (instruction.Array (array.Load kind)) words
instruction_by (ArrayStore kind) words = alone (instruction.Array (array.Store kind)) words
instruction_by (Class operation) words = option_map (λ c. instruction.Class operation c)
    (option_and_then (operand_of operation) (only words))
instruction_by (Invoke invocation) words = option_map (λ m. instruction.Invoke invocation m)
    (option_and_then method_named (only words))
instruction_by InvokeInterface words = option_and_then (λ p.
    interface_call (method_named p.0) (number_in (pos 1) (pos 255) p.1)) (both words)
instruction_by Throw words = alone instruction.Throw words
instruction_by (Monitor operation) words = alone (instruction.Monitor operation) words

-- an instruction after `wide`, which asks for the wide form of a local
abbrev pub wide_by : Mnemonic → List (List ℕ) → Option Written
wide_by (Local m) words = option_map instruction.Local (local_by width.Wide m words)
wide_by m words = None

abbrev pub wide_instruction : List (List ℕ) → Option Written
wide_instruction [] = None
wide_instruction (word ∷ words) = option_and_then (λ m. wide_by m words) (mnemonic_of word)

-- an instruction: its mnemonic and its operands
abbrev pub instruction_of : List (List ℕ) → Option Written
instruction_of [] = None
instruction_of (word ∷ words) =
    if bytes_eq word (codes "wide") then wide_instruction words else option_and_then (λ m. instruction_by m words)
    (mnemonic_of word)
