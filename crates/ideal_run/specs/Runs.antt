use Rattle.std.specs.Prelude.{◌≡◌, List, Option, Some, None}
use Rattle.model.specs.declared.journals.Limits.{Limits}
use Rattle.model.specs.declared.turns.Actor.{Actor}
use Rattle.model.specs.ClassListings.{ClassListing}
use Rattle.resolve.specs.Hierarchies.{IsHierarchy}
use Rattle.model.specs.Effects.{Choice}
use Rattle.model.specs.Turns.{ideal_step}
use Rattle.model.specs.Worlds.{World, opening_world}

-- An ideal run: its program, its limits, and the ideal world to which it has come.
pub record Run : Type 0 where
  pub program : List ClassListing
  pub limits : Limits
  pub world : World

-- before any turn
abbrev pub opening_run : List ClassListing → Limits → Run
opening_run program limits = record { program = program; limits = limits; world = opening_world program }

-- after a pair of an actor and its choice
abbrev pub run_after : Run → Actor → Choice → Run
run_after run actor choice = record run { world = ideal_step run.program run.limits run.world actor choice }

-- a run is made exactly of classes each of which has its parents, none of them above itself
abbrev pub AreOpened : List ClassListing → Limits → Option Run → Type 0
AreOpened program limits None = IsHierarchy program → ⊥
AreOpened program limits (Some run) = (run ≡ opening_run program limits) × IsHierarchy program
