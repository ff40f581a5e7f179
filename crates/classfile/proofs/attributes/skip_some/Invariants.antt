use Rattle.std.proofs.Common.{◌≡◌, ◌-◌}
use Rattle.classfile.specs.Reading.Attributes.{none_wanted, no_step, attributes_from}
use Rattle.classfile.proofs.attributes.skip_some.Given as goal

abbrev pub invariant-loop : goal.invariant-loop
invariant-loop l = attributes_from l.pool none_wanted no_step (l.count - l.counter) 0 l.rest
    ≡ attributes_from l.pool none_wanted no_step l.count 0 l.bytes
