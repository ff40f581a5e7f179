-- Where instructions begin, as a test of each pc.
use Rattle.std.specs.Prelude.{ℕ, Bool, true, false, ◌&&◌, List, [], ◌∷◌, slice_index_or, ◌<◌}
use Rattle.std.specs.List.{list_all, AllByRecursion}
use Rattle.model.specs.Bytecode.Opcodes.{Instr}
use Rattle.model.specs.Bytecode.{targets}
use Rattle.model.specs.declared.bytecode.Located.{Located}

-- an instruction begins at this pc
abbrev pub is_start : List Bool → ℕ → Bool
is_start starts pc = slice_index_or starts pc false

-- each pc that an instruction may branch to is the start of one
abbrev pub lands : List Bool → Instr → Bool
lands starts i = list_all (is_start starts) (targets i)

-- the same for all instructions
abbrev pub all_land : List Bool → List Instr → Bool
all_land starts is = list_all (lands starts) is

-- no target is 65535, where no instruction begins
abbrev pub Real : Instr → Type 0
Real i = AllByRecursion (λ t. t < 65535) (targets i)

abbrev pub AreReal : List Located → Type 0
AreReal items = AllByRecursion (λ x. Real x.instruction) items
