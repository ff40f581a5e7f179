use Rattle.std.specs.Prelude.{◌↔◌}
use Rattle.std.proofs.Common.{drop}
use Rattle.model.specs.Bytecode.Ranges.{AreRising}
use Rattle.opcodes.proofs.SwitchLaws.{RisesFrom}
use Rattle.opcodes.proofs.put_switches.keys_rise.Given as goal

abbrev pub invariant-loop-pair : goal.invariant-loop-pair
invariant-loop-pair l = RisesFrom l.before (drop l.pair-index l.pairs) ↔ AreRising l.pairs
