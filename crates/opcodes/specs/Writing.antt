-- What has been written: instructions one after another, and where they begin.
use Rattle.std.specs.Prelude.{◌≡◌, ◌↔◌, ℕ, Bool, true, List}
use Rattle.model.specs.Bytecode.Opcodes.{Instr}
use Rattle.model.specs.Bytecode.{StandFrom, IsPc, instructions_of}
use Rattle.model.specs.declared.bytecode.Located.{Located}
use Rattle.opcodes.specs.Starts.{is_start}

-- the bytes are these instructions from pc 0 on, and the table tells where each begins
pub record IsSpelled (is : List Instr) (bytes : List ℕ) (starts : List Bool) : Type 0 where
  pub items : List Located
  pub instructions_are : instructions_of items ≡ is
  pub stands : StandFrom 0 items bytes
  pub starts_are : (k : ℕ) → (is_start starts k ≡ true) ↔ IsPc items k
