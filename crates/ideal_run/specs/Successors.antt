use Rattle.std.specs.Prelude.{◌≡◌, ℕ, List, is_some, Bool, Option, Some, None}
use Rattle.model.specs.declared.journals.Limits.{Limits}
use Rattle.model.specs.declared.turns.Actor.TheVariants.{Thread}
use Rattle.model.specs.declared.turns.Turn.{Turn}
use Rattle.model.specs.ClassListings.{ClassListing}
use Rattle.model.specs.Effects.{Choice}
use Rattle.model.specs.Table.Next.{asked, next}
use Rattle.model.specs.Turns.{refusal}
use Rattle.model.specs.Worlds.{World}
use Rattle.resolve.specs.Hierarchies.{IsHierarchy}

-- What follows from a world, whichever it is: the turns that a program's threads may make of it.

pub record Transitions : Type 0 where
  pub program : List ClassListing
  pub limits : Limits

-- what a turn leaves, its row not counted, and whether it asks for a cell, so that it depends on the choice
pub record Successor : Type 0 where
  pub world : World
  pub asks : Bool

abbrev pub unless_refused : Transitions → World → ℕ → Choice → Option Turn → Option Successor
unless_refused s w t choice (Some refused) = None
unless_refused s w t choice None = Some (record {
  world = (next s.program w t choice).after;
  asks = is_some (asked s.program w t);
})

-- none where the turn is refused
abbrev pub successor : Transitions → World → ℕ → Choice → Option Successor
successor s w t choice = unless_refused s w t choice (refusal s.program s.limits w (Thread t))

-- transitions are those of classes each of which has its parents, none of them above itself
abbrev pub AreTransitions : List ClassListing → Limits → Option Transitions → Type 0
AreTransitions program limits None = IsHierarchy program → ⊥
AreTransitions program limits (Some s) = (s ≡ record { program = program; limits = limits }) × IsHierarchy program
