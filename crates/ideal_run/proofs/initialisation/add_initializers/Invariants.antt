use Rattle.std.proofs.Common.{◌≡◌, ◌++◌, drop}
use Rattle.model.specs.Initialisation.{initializer_frames}
use Rattle.ideal_run.proofs.initialisation.add_initializers.Given as goal

-- the frames of the classes that are left complete those of all
abbrev pub invariant-loop-class : goal.invariant-loop-class
invariant-loop-class l = l.frames.items ++ initializer_frames l.program (drop l.class-index l.classes)
    ≡ l.fn.frames.items ++ initializer_frames l.program l.classes
