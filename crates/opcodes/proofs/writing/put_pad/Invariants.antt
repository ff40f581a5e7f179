use Rattle.std.proofs.Common.{◌≡◌, ◌++◌, replicate}
use Rattle.opcodes.proofs.writing.put_pad.Given as goal

abbrev pub invariant-loop : goal.invariant-loop
invariant-loop l = l.out.items ≡ l.fn.out.items ++ replicate l.counter 0
