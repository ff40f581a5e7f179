use Rattle.std.proofs.Common.{◌≡◌, map, drop}
use Rattle.model.specs.Collector.Places.{field_ref}
use Rattle.collector.specs.Reaching.{all_noted}
use Rattle.exploring.proofs.walk.note_fields.Given as goal

-- those that are left complete the marking
abbrev pub invariant-loop-field : goal.invariant-loop-field
invariant-loop-field l = all_noted l.reaching (map field_ref (drop l.field-index l.fields)) ≡ all_noted l.fn.reaching (map field_ref l.fields)
