use Rattle.std.specs.Prelude.{ℕ, suc, Option, Some, None}
use Rattle.model.specs.declared.colours.Cell.{Cell}
use Rattle.model.specs.declared.colours.Cell.TheVariants.{Free, Taken}
use Rattle.model.specs.declared.colours.Colour.TheVariants.{White, Grey, Black}
use Rattle.model.specs.declared.colours.Phase.{Phase}
use Rattle.model.specs.declared.colours.Phase.TheVariants.{Idle, Statics, Frames, Mark, Append}
use Rattle.model.specs.Accounts.{Account}
use Rattle.model.specs.Worlds.{World}
use Rattle.model.specs.Objects.{with_object}
use Rattle.model.specs.Collector.Table.{cell_at}
use Rattle.join.specs.OnCells.{nobody}

-- The cell that a collector's step gives back, if it gives one back: its object is to be cleared.

abbrev pub freed_in : ℕ → Cell → Option ℕ
freed_in p Free = None
freed_in p (Taken birth White) = Some p
freed_in p (Taken birth Grey) = None
freed_in p (Taken birth Black) = None

abbrev pub freed_cell : Account → Phase → Option ℕ
freed_cell a Idle = None
freed_cell a (Statics s) = None
freed_cell a (Frames t d j) = None
freed_cell a (Mark q) = None
freed_cell a (Append p) = freed_in p (cell_at a.cells p)

-- a world without the object of that cell
abbrev pub without : World → Option ℕ → World
without w None = w
without w (Some cell) = with_object w (suc cell) nobody
