use Rattle.std.proofs.Common.{◌≡◌, ◌++◌, take}
use Rattle.std.specs.List.{flat_map}
use Rattle.model.specs.Texts.Disassembling.{placed_targets}
use Rattle.disasm.proofs.labels.add_all_targets.Given as goal

abbrev pub invariant-loop-placed : goal.invariant-loop-placed
invariant-loop-placed l = l.pcs.items ≡ l.initial.pcs.items
    ++ flat_map placed_targets (take l.placed-index l.instructions)
