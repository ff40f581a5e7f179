use Rattle.std.specs.Prelude.{◌≡◌, ◌<◌, ℕ, suc, List, [], ◌∷◌, length, slice_get, Bool, Option, Some, None}
use Rattle.std.specs.Prelude.{if◌then◌else◌}
use Rattle.std.specs.Option.{option_map}
use Rattle.model.specs.declared.colours.Cell.{Cell}
use Rattle.model.specs.declared.colours.Cell.TheVariants.{Free, Taken}
use Rattle.model.specs.ClassListings.{ClassListing}
use Rattle.model.specs.Collector.Reached.{is_reached}
use Rattle.model.specs.Shows.{Held, ObjectKind, kind_of_contents, values_in}
use Rattle.model.specs.Shows.ObjectKind.{OfClass, OfElements}
use Rattle.model.specs.Worlds.{Object, World}
use Rattle.join.specs.ReadBack.{object_in}
use Rattle.join.specs.TurnsOnCells.{CellMachine}
use Rattle.instructions.specs.declared.kinds.Kind.{Kind}
use Rattle.instructions.specs.declared.kinds.Kind.TheVariants.{Instance, Array}
use Rattle.instructions.specs.Shown.{class_name, type_name}

-- What cells hold, with births in place of references, as it is compared with another world.

-- an object as a cell holds it, with births in place of references
abbrev pub held_of : ℕ → Object → Held
held_of b o = record {
  birth = b;
  kind = kind_of_contents o.contents;
  words = values_in o.contents;
  monitor = o.monitor;
  thread = o.thread;
}

-- what an object of this kind is
abbrev pub held_kind : List ClassListing → Kind → ObjectKind
held_kind program (Instance class) = OfClass (class_name program class)
held_kind program (Array type) = OfElements (type_name program type)

abbrev pub birth_if : Cell → Option ℕ
birth_if Free = None
birth_if (Taken b colour) = Some b

-- for each reference whether a path leads to it
abbrev pub AreMarks : World → List Bool → Type 0
AreMarks w marks = (r : ℕ) → r < length w.objects → slice_get marks r ≡ Some (is_reached w r)

-- what the cell of a number holds; none where no path leads there
abbrev pub held_on : CellMachine → ℕ → Cell → Option Held
held_on x c Free = None
held_on x c (Taken b colour) = if is_reached x.world (suc c) then option_map (held_of b) (object_in x c) else None

-- the same of cells from a number on
abbrev pub helds_from : CellMachine → ℕ → List Cell → List (Option Held)
helds_from x c [] = []
helds_from x c (cell ∷ cells) = held_on x c cell ∷ helds_from x (suc c) cells
