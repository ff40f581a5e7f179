use Rattle.std.proofs.Common.{◌≡◌, List}
use Rattle.std.specs.Vec.Iter.{into_iter_items}
use Rattle.model.specs.declared.journals.Limits.{Limits}
use Rattle.model.specs.ClassListings.{ClassListing}
use Rattle.exploring.specs.declared.explored.Move.{Move}
use Rattle.exploring.specs.Explorations.{AreSoundAfter}
use Rattle.exploring_together.specs.Merging.{with_all}
use Rattle.exploring_together.proofs.merging.note_all.Given as goal

-- those so far with those that are left are all; and both are sound
abbrev pub invariant-loop-one : goal.invariant-loop-one
invariant-loop-one l = record {
  all : with_all l.found.items (into_iter_items l.one-iterator) ≡ with_all l.initial.found.items l.fn.more.items;
  sound : (program : List ClassListing) (limits : Limits) (first : List Move)
      → AreSoundAfter program limits first l.initial.found.items → AreSoundAfter program limits first l.fn.more.items
      → AreSoundAfter program limits first l.found.items × AreSoundAfter program limits first (into_iter_items l.one-iterator);
}
