use Rattle.std.proofs.Common.{◌≡◌, ◌++◌, drop}
use Rattle.model.specs.Worlds.{opening_slots}
use Rattle.ideal_run.proofs.opening.opening_slots.Given as goal

-- the slots of the classes that are left complete those of all
abbrev pub invariant-loop-class : goal.invariant-loop-class
invariant-loop-class l = l.slots.items ++ opening_slots (drop l.class-index l.program) ≡ opening_slots l.program
