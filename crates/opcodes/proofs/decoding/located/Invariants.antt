use Rattle.std.proofs.Common.{length}
use Rattle.opcodes.proofs.DecodingLaws.{IsRead}
use Rattle.opcodes.proofs.decoding.located.Given as goal

abbrev pub invariant-loop-rest : goal.invariant-loop-rest
invariant-loop-rest l = IsRead l.bytes l.rest l.items.items l.starts.items

abbrev pub decreases-loop-rest : goal.decreases-loop-rest
decreases-loop-rest l = length l.rest
