use Rattle.std.specs.Prelude.{◌≡◌, ℕ, zero, suc, List, [], ◌∷◌, map, nat_eq, Bool, false, if◌then◌else◌, Option, Some}
use Rattle.std.specs.Prelude.{None}
use Rattle.std.specs.Option.{option_map}
use Rattle.model.specs.declared.colours.Colour.{Colour}
use Rattle.model.specs.declared.journals.Limits.{Limits}
use Rattle.model.specs.declared.turns.Actor.{Actor}
use Rattle.model.specs.ClassListings.{ClassListing}
use Rattle.model.specs.declared.colours.Cell.{Cell}
use Rattle.model.specs.declared.colours.Cell.TheVariants.{Free, Taken}
use Rattle.model.specs.Worlds.{Object, next_birth}
use Rattle.model.specs.Objects.{object_at}
use Rattle.model.specs.Observers.{reached_object, status_in}
use Rattle.model.specs.Ready.{is_ready, thread_numbers}
use Rattle.model.specs.Turns.{overflows, refusal}
use Rattle.model.specs.Machines.{Machine, row_by}
use Rattle.model.specs.Collector.Places.{Reach}
use Rattle.model.specs.Collector.Reached.{is_reached}
use Rattle.model.specs.Collector.Table.{cell_at}
use Rattle.join.specs.Naming.{Naming, named_field, named_thread, named_object}
use Rattle.join.specs.TurnsOnCells.{CellMachine, row_on}
use Rattle.join.specs.Joined.{named_account}

-- What can be read of a machine on cells: with the birth in its cell in place of each reference, it is the ideal
-- machine.

abbrev pub birth_of : Cell → ℕ
birth_of Free = zero
birth_of (Taken b colour) = b

-- the birth to which a reference leads: a naming of references by births
abbrev pub birth_read : List Cell → Naming
birth_read cells zero = zero
birth_read cells (suc c) = birth_of (cell_at cells c)

-- a birth's cell
pub record HasCell (x : CellMachine) (b : ℕ) : Type 0 where
  pub cell : ℕ
  pub colour : Colour
  pub held : cell_at x.account.cells cell ≡ Taken b colour

-- ---- the object of a birth

abbrev pub holds_birth : ℕ → Cell → Bool
holds_birth b Free = false
holds_birth b (Taken a colour) = nat_eq a b

-- the first cell that holds a birth, where the first of these cells has this number
abbrev pub cell_from : ℕ → ℕ → List Cell → Option ℕ
cell_from c b [] = None
cell_from c b (cell ∷ cells) = if holds_birth b cell then Some c else cell_from (suc c) b cells

-- the object in a cell, with births in place of references
abbrev pub object_in : CellMachine → ℕ → Option Object
object_in x c = option_map (named_object (birth_read x.account.cells)) (object_at x.world (suc c))

abbrev pub reached_object_in : CellMachine → Option ℕ → Option Object
reached_object_in x None = None
reached_object_in x (Some c) = if is_reached x.world (suc c) then object_in x c else None

-- the object of a birth, None where no path leads to the cell that holds it, and where no cell does
abbrev pub object_on : CellMachine → ℕ → Option Object
object_on x b = reached_object_in x (cell_from 0 b x.account.cells)

-- ---- the whole

pub record ReadsBack (program : List ClassListing) (limits : Limits) (x : CellMachine) (m : Machine) : Type 0 where
  pub threads : map (named_thread (birth_read x.account.cells)) x.world.threads ≡ m.world.threads
  pub slots : map (named_field (birth_read x.account.cells)) x.world.statics.fields ≡ m.world.statics.fields
  pub states : x.world.statics.states ≡ m.world.statics.states
  pub output : x.world.output ≡ m.world.output
  pub fault : x.world.fault ≡ m.world.fault
  pub rows : x.world.rows ≡ m.world.rows
  pub births : x.births ≡ next_birth m.world
  -- cells and colours, free lists and the phase as they stand, and the grey births
  pub account : named_account (birth_read x.account.cells) x.account ≡ m.account
  -- each birth that a path reaches has a cell, and there its object
  pub reached : (b : ℕ) → Reach m.world b → HasCell x b
  pub objects :
      (b : ℕ) → Reach m.world b → (s : HasCell x b) →
      option_map (named_object (birth_read x.account.cells)) (object_at x.world (suc s.cell)) ≡ object_at m.world b
  -- what is shown of the object of a birth, whether a path reaches it or none does
  pub shown : (b : ℕ) → object_on x b ≡ reached_object m.world b
  -- what is told of threads, and the row of each turn
  pub status : status_in program x.world ≡ status_in program m.world
  pub threads_numbered : thread_numbers x.world ≡ thread_numbers m.world
  pub ready : (t : ℕ) → is_ready program x.world t ≡ is_ready program m.world t
  pub overflowing : (t : ℕ) → overflows program limits x.world t ≡ overflows program limits m.world t
  pub refusals : (actor : Actor) → refusal program limits x.world actor ≡ refusal program limits m.world actor
  pub row : (actor : Actor) (worker : ℕ) → row_on program limits x actor worker ≡ row_by program limits m actor worker
