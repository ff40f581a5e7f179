use Rattle.std.proofs.Common.{◌≡◌, ◌-◌}
use Rattle.classfile.specs.Reading.Lists.{repeated}
use Rattle.classfile.specs.Reading.Heads.{class_from}
use Rattle.classfile.proofs.ListLoops.{with_front}
use Rattle.classfile.proofs.heads.classes_at.Given as goal

abbrev pub invariant-loop : goal.invariant-loop
invariant-loop l = with_front l.classes.items (repeated (class_from l.pool) (l.count - l.counter) l.rest)
    ≡ repeated (class_from l.pool) l.count l.bytes
