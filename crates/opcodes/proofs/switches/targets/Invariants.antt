use Rattle.std.proofs.Common.{◌≡◌, ◌-◌}
use Rattle.opcodes.specs.Reading.Switches.{targets_at}
use Rattle.opcodes.proofs.Loops.{with_front}
use Rattle.opcodes.proofs.switches.targets.Given as goal

abbrev pub invariant-loop : goal.invariant-loop
invariant-loop l = with_front l.targets.items (targets_at l.pc (l.count - l.counter) l.rest)
    ≡ targets_at l.pc l.count l.bytes
