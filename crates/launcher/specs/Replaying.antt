use Rattle.std.specs.Prelude.{◌≡◌, ℕ, List, None}
use Rattle.model.specs.declared.journals.HeapShape.{HeapShape}
use Rattle.model.specs.declared.journals.Limits.{Limits}
use Rattle.model.specs.Accepted.Refusals.{refusal_of}
use Rattle.model.specs.ClassListings.{ClassListing}
use Rattle.model.specs.Journals.{JournalValue}
use Rattle.model.specs.Machines.{Recorded}
use Rattle.scheduler.specs.declared.replaying.ReplayError.{ReplayError}
use Rattle.scheduler.specs.Differing.{Excuses as ExcusesJournal}
use Rattle.scheduler.specs.Replaying.{IsMade}
use Rattle.launcher.specs.declared.replaying.ReplayedError.{ReplayedError}
use Rattle.launcher.specs.declared.replaying.ReplayedError.TheVariants.{Launch, Replay}
use Rattle.launcher.specs.Launching.{AreListings, Excuses}

-- what a replay gives: the sources have listings that are a program, a run of that program made the journal, and the
-- world is the one of the two
pub record IsReplayed (sources : List (List ℕ)) (journal : JournalValue) (world : Recorded) : Type 0 where
  pub program : List ClassListing
  pub listings_are : AreListings sources program
  pub accepted : refusal_of program ≡ None
  pub world_is : world ≡ record { program = program; journal = journal }
  pub made : IsMade world

-- the sources are a program of which no run made the journal, as the error says
pub record IsNotOfRun (sources : List (List ℕ)) (journal : JournalValue) (error : ReplayError) : Type 0 where
  pub program : List ClassListing
  pub listings_are : AreListings sources program
  pub accepted : refusal_of program ≡ None
  pub excused : ExcusesJournal (record { program = program; journal = journal }) error

-- a source or the program is refused as by a launch, of whatever shape and limits; the journal once these were accepted
abbrev pub ExcusesReplayed : List (List ℕ) → JournalValue → ReplayedError → Type 0
ExcusesReplayed sources journal (Launch e) = (shape : HeapShape) (limits : Limits) → Excuses sources shape limits e
ExcusesReplayed sources journal (Replay e) = IsNotOfRun sources journal e
