use Rattle.std.proofs.Common.{◌≡◌, ◌++◌, take}
use Rattle.std.specs.Int.{w32}
use Rattle.std.specs.Int.RustNames.{FitsSigned}
use Rattle.std.specs.List.{flat_map, AllByRecursion}
use Rattle.model.specs.Bytecode.Fields.{signed, offset}
use Rattle.opcodes.proofs.put_switches.put_pairs.Given as goal

abbrev pub invariant-loop-pair : goal.invariant-loop-pair
invariant-loop-pair l =
    (l.out.items ≡ l.fn.out.items ++ flat_map (λ p. signed w32 p.0 ++ signed w32 (offset l.pc p.1))
    (take l.pair-index l.pairs)) × AllByRecursion (λ p. FitsSigned w32 p.0 × FitsSigned w32 (offset l.pc p.1))
    (take l.pair-index l.pairs)
