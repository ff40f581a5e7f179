use Rattle.std.proofs.Common.{◌≡◌, ◌++◌, drop, map}
use Rattle.linking.specs.Initializers.{class_initializer}
use Rattle.linking.proofs.initializers.Initializers.new.Given as goal

abbrev pub invariant-loop-class : goal.invariant-loop-class
invariant-loop-class l =
    l.all.items ++ map (class_initializer l.classes) (drop l.class-index l.program)
    ≡ map (class_initializer l.classes) l.program
