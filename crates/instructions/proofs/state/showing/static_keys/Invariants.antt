use Rattle.std.proofs.Common.{◌≡◌, ◌++◌, drop}
use Rattle.instructions.specs.StaticKeys.{static_keys}
use Rattle.instructions.proofs.state.showing.static_keys.Given as goal

-- the classes that are left complete those of all
abbrev pub invariant-loop-class : goal.invariant-loop-class
invariant-loop-class l = l.keys.items ++ static_keys (drop l.class-index l.program) ≡ static_keys l.program
