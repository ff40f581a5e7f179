use Rattle.std.proofs.Common.{take}
use Rattle.model.specs.ClassListings.{ClassListing}
use Rattle.acceptance.proofs.RepeatLemmas.{NotesNames}
use Rattle.acceptance.proofs.superclasses.first_class_twice.Given as goal

abbrev pub invariant-loop-class : goal.invariant-loop-class
invariant-loop-class l = NotesNames (λ (c : ClassListing). c.name) l.repeats (take l.class-index l.program)
