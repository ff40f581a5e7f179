use Rattle.std.proofs.Common.{List, Bool}
use Rattle.std.specs.Vec.Iter.{into_iter_items}
use Rattle.model.specs.declared.journals.Limits.{Limits}
use Rattle.model.specs.ClassListings.{ClassListing}
use Rattle.exploring.specs.declared.explored.Move.{Move}
use Rattle.exploring.specs.Parts.{AreParts}
use Rattle.exploring_together.specs.Together.{AreOfParts}
use Rattle.exploring_together.proofs.TogetherLemmas.{IsGathered}
use Rattle.exploring_together.proofs.merging.put_together.Given as goal

-- the reports so far are put together, and the others are left
abbrev pub invariant-loop-each : goal.invariant-loop-each
invariant-loop-each l = (program : List ClassListing) (limits : Limits) (first : List Move) (no_room : Bool)
    (parts : List (List Move)) → AreParts program limits first no_room parts
    → AreOfParts program limits no_room parts l.fn.made.items
    → IsGathered program limits first no_room parts l.all (into_iter_items l.each-iterator)
