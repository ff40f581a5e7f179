use Rattle.std.proofs.Common.{◌≡◌, ◌-◌}
use Rattle.classfile.specs.Reading.Lists.{repeated}
use Rattle.classfile.specs.Reading.Methods.{method_from}
use Rattle.classfile.proofs.ListLoops.{with_front}
use Rattle.classfile.proofs.files.some_methods_at.Given as goal

abbrev pub invariant-loop : goal.invariant-loop
invariant-loop l = with_front l.methods.items (repeated (method_from l.pool l.flags) (l.count - l.counter) l.rest)
    ≡ repeated (method_from l.pool l.flags) l.count l.bytes
