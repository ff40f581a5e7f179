use Rattle.std.specs.Prelude.{List, [], ◌∷◌, Option, Some, None}
use Rattle.model.specs.declared.journals.HeapShape.{HeapShape}
use Rattle.model.specs.declared.journals.Limits.{Limits}
use Rattle.model.specs.declared.journals.Row.{Row}
use Rattle.model.specs.declared.turns.Actor.{Actor}
use Rattle.model.specs.ClassListings.{ClassListing}
use Rattle.model.specs.Worlds.{next_birth}
use Rattle.model.specs.Machines.{Machine, machine_of, opened, advance, row_by, after_turns}
use Rattle.model.specs.Limits.{ShapeFits}
use Rattle.model.specs.Collector.Invariant.{Invariant}

-- The machine after a list of turns, the collector's among them.

-- a new world after one turn for each actor in order, whatever each comes to
unfoldable pub machine_after : List ClassListing → HeapShape → Limits → List Actor → Machine
machine_after program shape limits actors = machine_of (after_turns (opened program shape limits) actors)

-- ---- the same step by step, without the journal: each turn goes on from the machine before it

abbrev pub advance_if : List ClassListing → HeapShape → Limits → Machine → Option Row → Machine
advance_if program shape limits m None = m
advance_if program shape limits m (Some row) = advance program shape limits m row

-- the machine after an actor's turn
unfoldable pub moved_by : List ClassListing → HeapShape → Limits → Machine → Actor → Machine
moved_by program shape limits m actor = advance_if program shape limits m (row_by program limits m actor 0)

abbrev pub moved_by_all : List ClassListing → HeapShape → Limits → Machine → List Actor → Machine
moved_by_all program shape limits m [] = m
moved_by_all program shape limits m (actor ∷ actors) = moved_by_all program shape limits
    (moved_by program shape limits m actor) actors

-- the machine meets the invariant
unfoldable pub Holds : HeapShape → Machine → Type 0
Holds shape m = Invariant shape m.world (next_birth m.world) m.account

-- what holds of the machine after every list of turns, for every program, accepted or not, every heap shape that fits
-- and all limits
abbrev pub Always : (HeapShape → Machine → Type 0) → Type 0
Always P = (program : List ClassListing) (shape : HeapShape) (limits : Limits) (actors : List Actor)
    → ShapeFits shape.small shape.medium shape.large → P shape (machine_after program shape limits actors)
