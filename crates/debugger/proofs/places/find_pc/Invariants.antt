use Rattle.std.proofs.Common.{◌≡◌, drop}
use Rattle.debugger.specs.Breakpoints.{find_pc}
use Rattle.debugger.proofs.places.find_pc.Given as goal

abbrev pub invariant-loop-placed : goal.invariant-loop-placed
invariant-loop-placed l = find_pc l.pc (drop l.placed-index l.placed-items) ≡ find_pc l.pc l.placed-items
