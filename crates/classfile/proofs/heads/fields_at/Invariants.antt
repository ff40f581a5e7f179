use Rattle.std.proofs.Common.{◌≡◌, ◌-◌}
use Rattle.classfile.specs.Reading.Lists.{repeated}
use Rattle.classfile.specs.Reading.Fields.{field_from}
use Rattle.classfile.proofs.ListLoops.{with_front}
use Rattle.classfile.proofs.heads.fields_at.Given as goal

abbrev pub invariant-loop : goal.invariant-loop
invariant-loop l = with_front l.fields.items (repeated (field_from l.pool l.flags) (l.count - l.counter) l.rest)
    ≡ repeated (field_from l.pool l.flags) l.count l.bytes
