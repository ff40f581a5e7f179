use Rattle.std.proofs.Common.{◌≡◌, ◌++◌, take}
use Rattle.std.specs.Int.{w32}
use Rattle.std.specs.Int.RustNames.{FitsSigned}
use Rattle.std.specs.List.{flat_map, AllByRecursion}
use Rattle.model.specs.Bytecode.Fields.{signed, offset}
use Rattle.opcodes.proofs.put_switches.put_targets.Given as goal

abbrev pub invariant-loop-target : goal.invariant-loop-target
invariant-loop-target l =
    (l.out.items ≡ l.fn.out.items ++ flat_map (λ t. signed w32 (offset l.pc t)) (take l.target-index l.targets))
    × AllByRecursion (λ t. FitsSigned w32 (offset l.pc t)) (take l.target-index l.targets)
