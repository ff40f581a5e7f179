use Rattle.std.specs.Prelude.{◌≡◌}
use Rattle.assembler.specs.declared.error.AsmError.TheVariants.{Memory as AsmMemory}
use Rattle.disasm.specs.declared.rereading.AgainError.{AgainError}
use Rattle.disasm.specs.declared.rereading.AgainError.TheVariants.{Tree as OfTree, Assembly}
use Rattle.disasm.specs.declared.rereading.TreeError.{TreeError}
use Rattle.disasm.specs.declared.rereading.TreeError.TheVariants.{Text, Memory}
use Rattle.jasmin.specs.declared.errors.Fault.TheVariants.{Memory as TextMemory}

-- the error is want of memory
abbrev pub LacksMemory : TreeError → Type 0
LacksMemory (Text e) = e.fault ≡ TextMemory
LacksMemory Memory = Unit {0}

-- the error is want of memory
abbrev pub IsForMemory : AgainError → Type 0
IsForMemory (OfTree e) = LacksMemory e
IsForMemory (Assembly e) = e ≡ AsmMemory
