-- What holds of every world, after whatever turns.
use Rattle.std.specs.Prelude.{◌≡◌, ◌≢◌, ◌≤◌, ◌+◌, ◌↔◌, ℕ, List, map, drop, slice_get, Some, None, IsTrue}
use Rattle.model.specs.declared.colours.Cell.TheVariants.{Taken}
use Rattle.model.specs.declared.colours.Colour.{Colour}
use Rattle.model.specs.declared.journals.HeapShape.{HeapShape}
use Rattle.model.specs.declared.journals.Outcome.{Outcome}
use Rattle.model.specs.declared.journals.Outcome.TheVariants.{Done, Object, NoRoom, Fault}
use Rattle.model.specs.declared.journals.Row.{Row}
use Rattle.model.specs.declared.turns.Actor.{Actor}
use Rattle.model.specs.declared.turns.Actor.TheVariants.{Thread, Collector}
use Rattle.model.specs.Accounts.{has_room}
use Rattle.model.specs.ClassListings.{ClassListing}
use Rattle.model.specs.Collector.Choices.{ChoosesByRoom, LacksRoom}
use Rattle.model.specs.Collector.Invariant.{Tidy}
use Rattle.model.specs.Collector.Paths.{KeepsReachable, ThreeColour}
use Rattle.model.specs.Collector.Reclaim.{IsAppend, Lost, ended}
use Rattle.model.specs.Collector.Table.{cell_at}
use Rattle.model.specs.Machines.{Machine, Recorded, advance_all, after_turn_by, after_turns, machine_of}
use Rattle.model.specs.Observers.{ideal, phase_of}
use Rattle.model.specs.Room.{Room}
use Rattle.model.specs.Shows.{Shows}
use Rattle.model.specs.Table.Next.{asked}
use Rattle.model.specs.Worlds.{next_birth}
use Rattle.scheduler.specs.OnCells.{AreTold, actors_of, cells_of, heap_on}
use Rattle.scheduler.specs.Replaying.{front}
use Rattle.scheduler.specs.Showing.{shown_in}

-- a birth that no path reaches outside Append, as when the collector leaves Idle, has no cell once two cycles have
-- ended, whatever turns follow
abbrev pub Reclaims : Recorded → Type 0
Reclaims v =
    (later : List Actor) (b c : ℕ) (x : Colour) → (IsAppend (phase_of v) → ⊥) → Lost (ideal v) b
    → 2 ≤ ended v.program v.journal.shape v.journal.limits 0 (machine_of v) later
    → cell_at (machine_of (after_turns v later)).account.cells c ≡ Taken b x → ⊥

pub record LosesNothing (v : Recorded) : Type 0 where
  -- a birth that a path leads to has one cell, and the collector's next turn doesn't give it back
  pub kept : KeepsReachable v.journal.shape (machine_of v).world (machine_of v).account
  pub coloured : ThreeColour (machine_of v).world (machine_of v).account
  -- the free lists hold the free cells of their size, and the grey list the grey births, each once
  pub tidy : Tidy v.journal.shape (next_birth (machine_of v).world) (machine_of v).account
  -- the free lists know of room exactly where a free cell of the heap has it
  pub room : (words : ℕ) → Room v.journal.shape (machine_of v).account words
      ↔ IsTrue (has_room (machine_of v).account words)
  -- and by that a thread's next turn finds room or not
  pub chosen : ChoosesByRoom v.program v.journal.shape v.journal.limits (machine_of v)
  pub reclaimed : Reclaims v
  -- the cells as they stand show threads, static fields, output and what paths lead to
  pub shown : Shows (heap_on (cells_of v)) (machine_of v).world
  -- and what is told of an object is read of its cell
  pub told : AreTold (heap_on (cells_of v)).cells (map (shown_in (machine_of v)) (machine_of v).account.cells)

-- ---- what a row tells of room

-- the turn asks for a cell, and some free cell has so many words
pub record FindsRoom (program : List ClassListing) (shape : HeapShape) (m : Machine) (t : ℕ) : Type 0 where
  pub words : ℕ
  pub asks : asked program m.world t ≡ Some words
  pub some : Room shape m.account words

-- a turn that isn't at fault found no room exactly where it asked for a cell and no free cell of the heap had so many
-- words, got an object exactly where one had, and else asked for none
pub record TellsRoom (v : Recorded) (t : ℕ) (outcome : Outcome) : Type 0 where
  pub none : (outcome ≡ NoRoom)
      ↔ ((outcome ≢ Fault) × LacksRoom v.program v.journal.shape (machine_of v) t)
  pub some : (outcome ≡ Object)
      ↔ ((outcome ≢ Fault) × FindsRoom v.program v.journal.shape (machine_of v) t)
  pub unasked : (outcome ≡ Done) ↔ ((outcome ≢ Fault) × (asked v.program (ideal v) t ≡ None))

-- the collector asks for none
abbrev pub ToldBy : Recorded → Actor → Outcome → Type 0
ToldBy v (Thread t) outcome = TellsRoom v t outcome
ToldBy v Collector outcome = outcome ≡ Done

-- ---- every moment of the run that made a world's journal

pub record HeldThroughout (v : Recorded) : Type 0 where
  -- after so many rows; past the last one, as the world stands
  pub moment : (n : ℕ) → LosesNothing (front v n)
  -- a row's turn leads from the world of the rows before it to that of the rows up to it
  pub turn : (n : ℕ) (row : Row) → slice_get v.journal.rows n ≡ Some row
      → after_turn_by (front v n) row.actor row.worker ≡ front v (n + 1)
  -- and those that are left, to the machine as it stands
  pub leads : (n : ℕ) → advance_all v.program v.journal.shape v.journal.limits (machine_of (front v n))
      (drop n v.journal.rows) ≡ machine_of v
  -- each row tells what its turn asked for and found
  pub told : (n : ℕ) (row : Row) → slice_get v.journal.rows n ≡ Some row → ToldBy (front v n) row.actor row.outcome
  -- what no path reached then, outside Append, has no cell now if two cycles have ended since
  pub reclaimed : (n b c : ℕ) (x : Colour) → (IsAppend (phase_of (front v n)) → ⊥) → Lost (ideal (front v n)) b
      → 2 ≤ ended v.program v.journal.shape v.journal.limits 0 (machine_of (front v n))
      (actors_of (drop n v.journal.rows))
      → cell_at (machine_of v).account.cells c ≡ Taken b x → ⊥
