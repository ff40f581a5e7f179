use Rattle.std.proofs.Common.{◌≡◌, drop}
use Rattle.opcodes.specs.Starts.{all_land}
use Rattle.opcodes.proofs.encoding.each_lands_well.Given as goal

abbrev pub invariant-loop-instruction : goal.invariant-loop-instruction
invariant-loop-instruction l = all_land l.starts (drop l.instruction-index l.instructions)
    ≡ all_land l.starts l.instructions
