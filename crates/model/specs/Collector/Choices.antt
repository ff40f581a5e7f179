use Rattle.std.specs.Prelude.{◌≡◌, ◌↔◌, ℕ, List, Some, None}
use Rattle.model.specs.declared.journals.HeapShape.{HeapShape}
use Rattle.model.specs.declared.journals.Limits.{Limits}
use Rattle.model.specs.declared.turns.Actor.{Actor}
use Rattle.model.specs.declared.turns.Actor.TheVariants.{Thread}
use Rattle.model.specs.ClassListings.{ClassListing}
use Rattle.model.specs.Room.{Room}
use Rattle.model.specs.Limits.{ShapeFits}
use Rattle.model.specs.Worlds.{counted}
use Rattle.model.specs.Effects.{Choice}
use Rattle.model.specs.Effects.Choice.{NoRoom}
use Rattle.model.specs.Turns.{refusal}
use Rattle.model.specs.Table.Next.{next, asked}
use Rattle.model.specs.Machines.{Machine}
use Rattle.model.specs.Collector.Runs.{moved_by, machine_after}

-- Which of the choices that the instruction table leaves a thread's turn makes.

-- the turn asks for a cell, and no free cell has so many words
pub record LacksRoom (program : List ClassListing) (shape : HeapShape) (m : Machine) (t : ℕ) : Type 0 where
  pub words : ℕ
  pub asks : asked program m.world t ≡ Some words
  pub none : Room shape m.account words → ⊥

-- the turn is that of the instruction table by some choice: that there is no room exactly where it lacks room
pub record Chooses (program : List ClassListing) (shape : HeapShape) (limits : Limits) (m : Machine) (t : ℕ) : Type 0
  where
    pub choice : Choice
    pub goes : (moved_by program shape limits m (Thread t)).world ≡ counted (next program m.world t choice).after
    pub by_room : (choice ≡ NoRoom) ↔ LacksRoom program shape m t

-- each turn of a thread that nothing refuses
abbrev pub ChoosesByRoom : List ClassListing → HeapShape → Limits → Machine → Type 0
ChoosesByRoom program shape limits m = (t : ℕ) → refusal program limits m.world (Thread t) ≡ None
    → Chooses program shape limits m t

-- at every moment of every run
abbrev pub AlwaysChoosesByRoom : Type 0
AlwaysChoosesByRoom =
    (program : List ClassListing) (shape : HeapShape) (limits : Limits) (actors : List Actor)
    → ShapeFits shape.small shape.medium shape.large
    → ChoosesByRoom program shape limits (machine_after program shape limits actors)
