use Rattle.opcodes.proofs.EncodingLaws.{IsWritten}
use Rattle.opcodes.proofs.encoding.spelled.Given as goal

abbrev pub invariant-loop-instruction : goal.invariant-loop-instruction
invariant-loop-instruction l = IsWritten l.instructions l.instruction-index l.out.items l.starts.items
