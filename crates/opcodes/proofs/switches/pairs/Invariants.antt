use Rattle.std.proofs.Common.{◌≡◌, ◌-◌, None}
use Rattle.opcodes.specs.Reading.Switches.{pairs_at}
use Rattle.opcodes.proofs.Loops.{with_front}
use Rattle.opcodes.proofs.switches.pairs.Given as goal

abbrev pub invariant-loop : goal.invariant-loop
invariant-loop l = with_front l.pairs.items (pairs_at l.pc l.before (l.count - l.counter) l.rest)
    ≡ pairs_at l.pc None l.count l.bytes
