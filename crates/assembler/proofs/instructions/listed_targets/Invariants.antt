use Rattle.std.proofs.Common.{◌≡◌, ◌++◌, drop, map}
use Rattle.assembler.specs.Checks.{pc_in}
use Rattle.assembler.proofs.instructions.listed_targets.Given as goal

-- the pcs so far, and those of the labels that follow
abbrev pub invariant-loop-label : goal.invariant-loop-label
invariant-loop-label l =
    l.targets.items ++ map (pc_in l.pcs) (drop l.label-index l.labels) ≡ map (pc_in l.pcs) l.labels
