use Rattle.std.proofs.Common.{◌≡◌, ◌-◌, None}
use Rattle.classfile.specs.Reading.Attributes.{attributes_from}
use Rattle.classfile.specs.Reading.Methods.{is_code_name, found_code_from}
use Rattle.classfile.proofs.methods.attributes_of.Given as goal

abbrev pub invariant-loop : goal.invariant-loop
invariant-loop l = attributes_from l.pool is_code_name (found_code_from l.pool l.wanted) (l.count - l.counter) l.found
    l.rest ≡ attributes_from l.pool is_code_name (found_code_from l.pool l.wanted) l.count None l.bytes
