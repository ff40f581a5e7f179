use Rattle.std.proofs.Common.{◌≡◌, ◌-◌}
use Rattle.opcodes.specs.Reading.Switches.{pad_at}
use Rattle.opcodes.proofs.switches.padded.Given as goal

abbrev pub invariant-loop : goal.invariant-loop
invariant-loop l = pad_at (l.count - l.counter) l.rest ≡ pad_at l.count l.bytes
