use Rattle.std.specs.Prelude.{◌≡◌, ◌<◌, ℕ, List, [], ◌∷◌, ◌++◌, length, slice_get, Bool, true, false, Option, Some, None}
use Rattle.model.specs.declared.journals.HeapShape.{HeapShape}
use Rattle.model.specs.declared.journals.Limits.{Limits}
use Rattle.model.specs.declared.journals.Row.{Row}
use Rattle.model.specs.declared.turns.Actor.{Actor}
use Rattle.model.specs.declared.turns.Actor.TheVariants.{Thread}
use Rattle.model.specs.ClassListings.{ClassListing}
use Rattle.model.specs.Worlds.{World, opening_world}
use Rattle.model.specs.Effects.{Choice}
use Rattle.model.specs.Effects.Choice.{NewObject, NoRoom}
use Rattle.model.specs.Table.Next.{next, asked}
use Rattle.model.specs.Turns.{refusal, ideal_step, choice_by}
use Rattle.model.specs.Machines.{Machine, Recorded, machine_of, opening_machine, advance, row_by}
use Rattle.model.specs.Collector.Runs.{machine_after, moved_by}
use Rattle.exploration.specs.Representation.{Represents, uncounted}

-- Lists of states that are closed under turns: they have all that a program's runs come to.

-- one of the list stands for the world
pub record IsAmong (states : List World) (w : World) : Type 0 where
  pub place : ℕ
  pub state : World
  pub there : slice_get states place ≡ Some state
  pub represents : Represents state w

-- ---- a list that is closed under turns

-- One stands for the opening, and where a thread's turn isn't refused, for what it leaves. With no_room also for what it
-- leaves where it asks for a cell and none is free.
pub record Closed (program : List ClassListing) (limits : Limits) (no_room : Bool) (states : List World) : Type 0 where
  pub opening : IsAmong states (opening_world program)
  pub turned : (k : ℕ) (x : World) (t : ℕ) → slice_get states k ≡ Some x → refusal program limits x (Thread t) ≡ None
      → IsAmong states (next program x t NewObject).after
  pub without_room : no_room ≡ true → (k : ℕ) (x : World) (t words : ℕ) → slice_get states k ≡ Some x
      → refusal program limits x (Thread t) ≡ None → asked program x t ≡ Some words
      → IsAmong states (next program x t NoRoom).after

-- ---- the ideal run

pub record Pair : Type 0 where
  pub actor : Actor
  pub choice : Choice

abbrev pub moved_through : List ClassListing → Limits → World → List Pair → World
moved_through program limits w [] = w
moved_through program limits w (p ∷ ps) = moved_through program limits (ideal_step program limits w p.actor p.choice) ps

abbrev pub ideal_after : List ClassListing → Limits → List Pair → World
ideal_after program limits pairs = moved_through program limits (opening_world program) pairs

-- ---- runs in which no cell is ever missing

abbrev pub PairsFindRoom : List Pair → Type 0
PairsFindRoom [] = Unit {0}
PairsFindRoom (p ∷ ps) = (p.choice ≡ NewObject) × PairsFindRoom ps

abbrev pub RowFindsRoom : List ClassListing → Machine → Row → Type 0
RowFindsRoom program m row = choice_by program m.world row.actor row.outcome ≡ NewObject

abbrev pub RowsFindRoom : List ClassListing → HeapShape → Limits → Machine → List Row → Type 0
RowsFindRoom program shape limits m [] = Unit {0}
RowsFindRoom program shape limits m (row ∷ rows) =
    RowFindsRoom program m row × RowsFindRoom program shape limits (advance program shape limits m row) rows

-- an actor whose turn is refused leaves no row
abbrev pub TurnFindsRoom : List ClassListing → Machine → Option Row → Type 0
TurnFindsRoom program m None = Unit {0}
TurnFindsRoom program m (Some row) = RowFindsRoom program m row

abbrev pub ActorsFindRoom : List ClassListing → HeapShape → Limits → Machine → List Actor → Type 0
ActorsFindRoom program shape limits m [] = Unit {0}
ActorsFindRoom program shape limits m (actor ∷ actors) = TurnFindsRoom program m (row_by program limits m actor 0)
    × ActorsFindRoom program shape limits (moved_by program shape limits m actor) actors

-- ---- what is claimed: with no_room of every run, else of those in which no cell is ever missing

-- every ideal run, whatever the schedule and wherever there is no room
abbrev pub HasEveryRun : List ClassListing → Limits → Bool → List World → Type 0
HasEveryRun program limits no_room states = (pairs : List Pair) → (no_room ≡ false → PairsFindRoom pairs)
    → IsAmong states (uncounted (ideal_after program limits pairs))

-- every run of the machine, whatever the heap's shape and whenever the collector works
abbrev pub HasEveryMachine : List ClassListing → Limits → Bool → List World → Type 0
HasEveryMachine program limits no_room states = (shape : HeapShape) (actors : List Actor)
    → (no_room ≡ false → ActorsFindRoom program shape limits (opening_machine program shape) actors)
    → IsAmong states (uncounted (machine_after program shape limits actors).world)

-- and every journal, made by a run or not
abbrev pub HasEveryJournal : List ClassListing → Limits → Bool → List World → Type 0
HasEveryJournal program limits no_room states = (v : Recorded) → v.program ≡ program → v.journal.limits ≡ limits
    → (no_room ≡ false → RowsFindRoom program v.journal.shape limits (opening_machine program v.journal.shape)
    v.journal.rows)
    → IsAmong states (uncounted (machine_of v).world)

abbrev pub ClosedHasAll : Type 0
ClosedHasAll = (program : List ClassListing) (limits : Limits) (no_room : Bool) (states : List World)
    → Closed program limits no_room states
    → HasEveryRun program limits no_room states × HasEveryMachine program limits no_room states
    × HasEveryJournal program limits no_room states

-- ---- nothing else is in the list

-- the state stands for what the ideal run of these pairs comes to, none of which is refused
pub record IsWitnessed (program : List ClassListing) (limits : Limits) (pairs : List Pair) (state : World) : Type 0 where
  pub represents : Represents state (uncounted (ideal_after program limits pairs))
  pub counted : (ideal_after program limits pairs).rows ≡ length pairs

abbrev pub pair_of : ℕ → Choice → Pair
pair_of t choice = record { actor = Thread t; choice = choice }

-- what a turn of such a state leads to has a witness too, below the limit of steps
abbrev pub TurnsAreWitnessed : Type 0
TurnsAreWitnessed = (program : List ClassListing) (limits : Limits) (pairs : List Pair) (x y : World) (t : ℕ)
    (choice : Choice)
    → IsWitnessed program limits pairs x → length pairs < limits.steps → refusal program limits x (Thread t) ≡ None
    → Represents y (next program x t choice).after → IsWitnessed program limits (pairs ++ pair_of t choice ∷ []) y

abbrev pub OpeningIsWitnessed : Type 0
OpeningIsWitnessed = (program : List ClassListing) (limits : Limits)
    → IsWitnessed program limits [] (opening_world program)

-- ---- what the turns of a world lead to: with no_room whatever they find, else where no cell is ever missing

pub data ComesTo (program : List ClassListing) (limits : Limits) (no_room : Bool) (start : World) : World → Type 0 where
  begins : ComesTo program limits no_room start start
  turns : (w : World) (t : ℕ) (choice : Choice) → ComesTo program limits no_room start w
      → (no_room ≡ false → choice ≡ NewObject) → refusal program limits w (Thread t) ≡ None
      → ComesTo program limits no_room start (next program w t choice).after

-- a run that passes through a world comes to that alone, but for the count of rows: the ideal run, whatever the turns
-- before and after, and the machine's, on every heap
abbrev pub RunsCome : Type 0
RunsCome = (program : List ClassListing) (limits : Limits) (no_room : Bool) (start : World)
    → ((before after : List Pair) → uncounted (ideal_after program limits before) ≡ start
    → (no_room ≡ false → PairsFindRoom after)
    → ComesTo program limits no_room start (uncounted (ideal_after program limits (before ++ after))))
    × ((shape : HeapShape) (before after : List Actor) → uncounted (machine_after program shape limits before).world ≡ start
    → (no_room ≡ false → ActorsFindRoom program shape limits (machine_after program shape limits before) after)
    → ComesTo program limits no_room start (uncounted (machine_after program shape limits (before ++ after)).world))
