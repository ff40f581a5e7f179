use Rattle.std.proofs.Common.{◌≡◌, drop}
use Rattle.std.specs.List.{find}
use Rattle.model.specs.Accepted.Cycles.{is_on_cycle}
use Rattle.resolve.proofs.parents.first_on_cycle.Given as goal

abbrev pub invariant-loop-class : goal.invariant-loop-class
invariant-loop-class l = find (is_on_cycle l.index) (drop l.class-index l.program)
    ≡ find (is_on_cycle l.index) l.program
