use Rattle.std.proofs.Common.{take}
use Rattle.model.specs.declared.listings.Field.{Field}
use Rattle.acceptance.proofs.RepeatLemmas.{NotesSignatures}
use Rattle.acceptance.proofs.members.has_field_twice.Given as goal

abbrev pub invariant-loop-field : goal.invariant-loop-field
invariant-loop-field l = NotesSignatures (λ (m : Field). m.name) (λ (m : Field). m.descriptor) l.repeats
    (take l.field-index l.fields)
