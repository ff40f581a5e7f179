use Rattle.std.proofs.Common.{drop}
use Rattle.model.specs.ClassFiles.Items.{field_items}
use Rattle.assembler.specs.Numbering.{numbered_field}
use Rattle.assembler.proofs.StayingLaws.{IsMade}
use Rattle.assembler.proofs.numbered_class.fields.Given as goal

-- what was made so far stays
abbrev pub invariant-loop-field : goal.invariant-loop-field
invariant-loop-field l = IsMade field_items numbered_field l.initial.numbers l.numbers l.all.items
    (drop l.field-index l.fields) l.fields
