use Rattle.std.specs.Prelude.{ℕ, List, Option}
use Rattle.std.specs.Option.{option_map}
use Rattle.model.specs.declared.instructions.Instruction.TheVariants as instruction
use Rattle.model.specs.declared.instructions.Width.{Width}
use Rattle.model.specs.declared.mnemonics.LocalMnemonic.{LocalMnemonic}
use Rattle.model.specs.Texts.Instructions.{Written}
use Rattle.model.specs.Texts.Locals.{local_by}

-- the instruction on a local, by its mnemonic and its operands
abbrev pub local_instruction : Width → LocalMnemonic → List (List ℕ) → Option Written
local_instruction width m words = option_map instruction.Local (local_by width m words)
