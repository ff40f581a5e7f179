use Rattle.std.specs.Prelude.{◌≡◌, ℕ, suc, List, map, Result, Ok, Err}
use Rattle.model.specs.declared.turns.Abrupt.{Abrupt}
use Rattle.model.specs.declared.colours.Colour.{Colour}
use Rattle.model.specs.declared.colours.Cell.{Cell}
use Rattle.model.specs.declared.colours.Cell.TheVariants.{Taken}
use Rattle.model.specs.Frames.{Moved}
use Rattle.model.specs.Worlds.{Contents, Object}
use Rattle.model.specs.Worlds.Contents.{Instance, Array}
use Rattle.model.specs.Unwinding.{Landing, Way}
use Rattle.model.specs.Unwinding.Landing.{Handled, Stopped, Unhandled}
use Rattle.model.specs.Collector.Table.{cell_at}
pub use Rattle.model.specs.Naming.{Naming, named_ref, named_value, named_entry, named_field, named_frame, named_thread}

-- Births under other names. The machine will hold references, numbers of cells and one more; the ideal world holds
-- births. A naming tells of each birth the reference that it got when it was made. It never forgets: the collector
-- takes a birth out of its cell, and not out of the naming, so that what leads to a lost birth keeps its image too.

-- each birth in a cell is named by that cell
abbrev pub Named : Naming → List Cell → Type 0
Named h cells = (c b : ℕ) (x : Colour) → cell_at cells c ≡ Taken b x → h b ≡ suc c

-- ---- what holds births, with their names in place of them

abbrev pub named_contents : Naming → Contents → Contents
named_contents h (Instance class fields) = Instance class (map (named_field h) fields)
named_contents h (Array element values) = Array element (map (named_value h) values)

abbrev pub named_object : Naming → Object → Object
named_object h o = record o { contents = named_contents h o.contents }

-- ---- what comes of an instruction and of a throwable

abbrev pub named_moved : Naming → Moved → Moved
named_moved h m = record { frame = named_frame h m.frame; writes = map h m.writes }

abbrev pub named_result : Naming → Result Moved Abrupt → Result Moved Abrupt
named_result h (Ok m) = Ok (named_moved h m)
named_result h (Err e) = Err e

abbrev pub named_landing : Naming → Landing → Landing
named_landing h (Handled handler f callers) = Handled handler (named_frame h f) (map (named_frame h) callers)
named_landing h (Stopped f callers) = Stopped (named_frame h f) (map (named_frame h) callers)
named_landing h Unhandled = Unhandled

abbrev pub named_way : Naming → Way → Way
named_way h w = record { landing = named_landing h w.landing; left = map (named_frame h) w.left }
