use Rattle.std.proofs.Common.{take}
use Rattle.resolve.specs.Members.{FieldsAre}
use Rattle.resolve.proofs.members.first_fields.Given as goal

abbrev pub invariant-loop-field : goal.invariant-loop-field
invariant-loop-field l = FieldsAre (take l.field-index l.fields) l.found.members.entries
