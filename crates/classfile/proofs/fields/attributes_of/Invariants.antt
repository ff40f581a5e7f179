use Rattle.std.proofs.Common.{◌≡◌, ◌-◌, None}
use Rattle.model.specs.ClassFiles.Fields.{is_constant_value}
use Rattle.classfile.specs.Reading.Attributes.{attributes_from}
use Rattle.classfile.specs.Reading.Fields.{constant_from}
use Rattle.classfile.proofs.fields.attributes_of.Given as goal

abbrev pub invariant-loop : goal.invariant-loop
invariant-loop l = attributes_from l.pool (is_constant_value l.is_static) (constant_from l.pool l.text)
    (l.count - l.counter) l.found l.rest ≡ attributes_from l.pool (is_constant_value l.is_static)
    (constant_from l.pool l.text) l.count None l.bytes
