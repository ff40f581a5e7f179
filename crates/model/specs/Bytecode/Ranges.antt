-- What numbers an instruction's operands have room for (JVMS 4.9.1).
use Rattle.std.specs.Prelude.{ℕ, ℤ, ◌^◌, ◌<◌, ◌≤◌, ◌<ℤ◌, List, [], ◌∷◌, length}
use Rattle.std.specs.Int.{w8, w16, w32}
use Rattle.std.specs.Int.RustNames.{FitsSigned}
use Rattle.std.specs.List.{AllByRecursion}
use Rattle.model.specs.Bytecode.Fields.{offset}
use Rattle.model.specs.Bytecode.Opcodes.{Instr}
use Rattle.model.specs.Bytecode.Operands.{branch_width, table_high}
use Rattle.model.specs.Switches.{Table, Lookup}
use Rattle.model.specs.declared.instructions.Width.TheVariants.{Narrow, Wide}
use Rattle.model.specs.declared.instructions.Constant.{Constant}
use Rattle.model.specs.declared.instructions.Constant.TheVariants as constant
use Rattle.model.specs.declared.instructions.Local.TheVariants as local
use Rattle.model.specs.declared.instructions.Increment.TheVariants as increment
use Rattle.model.specs.declared.instructions.LocalAccess.{LocalAccess}
use Rattle.model.specs.declared.instructions.LocalAccess.TheVariants as access
use Rattle.model.specs.declared.instructions.ArrayOperation.{ArrayOperation}
use Rattle.model.specs.declared.instructions.ArrayOperation.TheVariants as array
use Rattle.model.specs.declared.instructions.Invocation.{Invocation}
use Rattle.model.specs.declared.instructions.Invocation.TheVariants as invoke
use Rattle.model.specs.declared.instructions.Instruction.TheVariants as instruction

-- a pool number in one byte or two, and bytes and shorts with their sign
abbrev pub ConstantFits : Constant ℕ ℕ → Type 0
ConstantFits constant.Null = Unit {0}
ConstantFits (constant.SmallInt n) = Unit {0}
ConstantFits (constant.SmallLong n) = Unit {0}
ConstantFits (constant.Byte z) = FitsSigned w8 z
ConstantFits (constant.Short z) = FitsSigned w16 z
ConstantFits (constant.Int Narrow n) = n < 2 ^ 8
ConstantFits (constant.Int Wide n) = n < 2 ^ 16
ConstantFits (constant.Long n) = n < 2 ^ 16

-- a local in one byte or, after wide, in two
abbrev pub AccessFits : LocalAccess → Type 0
AccessFits (access.Load k (local.First n)) = Unit {0}
AccessFits (access.Load k (local.Byte n)) = n < 2 ^ 8
AccessFits (access.Load k (local.Wide n)) = n < 2 ^ 16
AccessFits (access.Store k (local.First n)) = Unit {0}
AccessFits (access.Store k (local.Byte n)) = n < 2 ^ 8
AccessFits (access.Store k (local.Wide n)) = n < 2 ^ 16
AccessFits (access.Increment (increment.Byte n z)) = (n < 2 ^ 8) × FitsSigned w8 z
AccessFits (access.Increment (increment.Wide n z)) = (n < 2 ^ 16) × FitsSigned w16 z

-- each key is above the one before it
abbrev pub AreRisingFrom : ℤ → List (ℤ × ℕ) → Type 0
AreRisingFrom key [] = Unit {0}
AreRisingFrom key (p ∷ pairs) = (key <ℤ p.0) × AreRisingFrom p.0 pairs

-- keys rise from the first pair on
abbrev pub AreRising : List (ℤ × ℕ) → Type 0
AreRising [] = Unit {0}
AreRising (p ∷ pairs) = AreRisingFrom p.0 pairs

-- some target is there, low and high are ints
pub record TableFits (pc : ℕ) (s : Table ℕ) : Type 0 where
  pub some : 1 ≤ length s.targets
  pub low : FitsSigned w32 s.low
  pub high : FitsSigned w32 (table_high s)
  pub default : FitsSigned w32 (offset pc s.default)
  pub targets : AllByRecursion (λ t. FitsSigned w32 (offset pc t)) s.targets

-- the count is an int, and the keys rise
pub record LookupFits (pc : ℕ) (s : Lookup ℕ) : Type 0 where
  pub few : length s.pairs < 2 ^ 31
  pub default : FitsSigned w32 (offset pc s.default)
  pub pairs : AllByRecursion (λ p. FitsSigned w32 p.0 × FitsSigned w32 (offset pc p.1)) s.pairs
  pub rising : AreRising s.pairs

-- the class of anewarray is a pool number in two bytes
abbrev pub ArrayFits : ArrayOperation ℕ → Type 0
ArrayFits (array.New type) = Unit {0}
ArrayFits (array.NewOf n) = n < 2 ^ 16
ArrayFits array.Length = Unit {0}
ArrayFits (array.Load k) = Unit {0}
ArrayFits (array.Store k) = Unit {0}

-- a method is a pool number in two bytes, and a count has one byte
abbrev pub InvokeFits : Invocation → ℕ → Type 0
InvokeFits invoke.Virtual n = n < 2 ^ 16
InvokeFits invoke.Special n = n < 2 ^ 16
InvokeFits invoke.Static n = n < 2 ^ 16
InvokeFits (invoke.Interface count) n = (n < 2 ^ 16) × (count < 2 ^ 8)

-- the instruction has a spelling at this pc
abbrev pub Fits : ℕ → Instr → Type 0
Fits pc instruction.Nop = Unit {0}
Fits pc (instruction.Constant c) = ConstantFits c
Fits pc (instruction.Local a) = AccessFits a
Fits pc (instruction.Stack op) = Unit {0}
Fits pc (instruction.Number op) = Unit {0}
Fits pc (instruction.Branch t target) = FitsSigned (branch_width t) (offset pc target)
Fits pc (instruction.TableSwitch s) = TableFits pc s
Fits pc (instruction.LookupSwitch s) = LookupFits pc s
Fits pc (instruction.Return k) = Unit {0}
Fits pc (instruction.Static a n) = n < 2 ^ 16
Fits pc (instruction.Field a n) = n < 2 ^ 16
Fits pc (instruction.Array op) = ArrayFits op
Fits pc (instruction.Class op n) = n < 2 ^ 16
Fits pc (instruction.Invoke how n) = InvokeFits how n
Fits pc instruction.Throw = Unit {0}
Fits pc (instruction.Monitor op) = Unit {0}
