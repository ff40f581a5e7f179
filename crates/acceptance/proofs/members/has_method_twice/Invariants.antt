use Rattle.std.proofs.Common.{take}
use Rattle.model.specs.declared.listings.Method.{Method}
use Rattle.acceptance.proofs.RepeatLemmas.{NotesSignatures}
use Rattle.acceptance.proofs.members.has_method_twice.Given as goal

abbrev pub invariant-loop-method : goal.invariant-loop-method
invariant-loop-method l = NotesSignatures (λ (m : Method). m.name) (λ (m : Method). m.descriptor) l.repeats
    (take l.method-index l.methods)
