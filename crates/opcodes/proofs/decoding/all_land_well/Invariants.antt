use Rattle.std.proofs.Common.{◌≡◌, drop}
use Rattle.model.specs.Bytecode.{instructions_of}
use Rattle.opcodes.specs.Starts.{all_land}
use Rattle.opcodes.proofs.decoding.all_land_well.Given as goal

abbrev pub invariant-loop-item : goal.invariant-loop-item
invariant-loop-item l = all_land l.starts (instructions_of (drop l.item-index l.items))
    ≡ all_land l.starts (instructions_of l.items)
